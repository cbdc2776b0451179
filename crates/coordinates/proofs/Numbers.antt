-- The checks of a line from points refuse with 3 to 6, 8, 10 to 15 and 18 to 20 alone, at places up to 64: the deflections that were found are
-- in range, so that 9 never comes. Assumes nothing.
use mathlib.Core.Path.{◌≡◌, refl, ◌∙◌, ap}
use mathlib.Core.Bool.{Bool, true, ◌||◌}
use mathlib.Core.Logic.{inl, inr}
use mathlib.Core.List.{List}
use Prim.Native.Nat.{ℕ, zero, suc, ◌<◌, ◌≤◌}
use native.Mathlib.Omega.{arith}
use lib.Dec.{eqb}
use lib.IntN.{ℤ}
use borrow.Author.Tests.{le-leb}
use Rattle.refusals.specs.Outcomes.{passed, refused}
use Rattle.refusals.specs.Order.{in_turn, outcome}
use Rattle.refusals.proofs.Numbers.{Refuses, wider, Answers, refusal_answers}
use Rattle.refusals.proofs.InOrder.{held}
use Rattle.refusals.proofs.InTurn.{each_passes}
use Rattle.line.specs.declared.Curve.{Curve}
use Rattle.line.specs.declared.Line.{Line}
use Rattle.line.specs.Checks.{within, start_check, head_checks, distance_check, curve_checks, curve_at, body_checks, field_checks}
use Rattle.elements.specs.Answer.{arc_check}
use Rattle.stationing.specs.Answer.{design_checks, design_checks_at, straight_check, alignment_checks}
use Rattle.orders.proofs.Numbers.{alignment_numbers}
use Rattle.coordinates.specs.Legs.{curve_count}
use Rattle.coordinates.specs.FromPoints.{deflection_from, curve_from, line_from, count_checks, coordinate_check, length_check, turn_checks, from_points_checks}
use Rattle.coordinates.proofs.AnsweredLine.{passed_turn}
use Rattle.coordinates.proofs.Counts.{counts_pass}
use Rattle.coordinates.proofs.SameShape.{curve_is}

pub from_points_numbers : (v e start : ℕ) (points : List ℤ) (curves : List ℕ) → Refuses 3 20 64 (from_points_checks v e start points curves)
unfolding from_points_checks count_checks coordinate_check length_check distance_check turn_checks line_from
from_points_numbers v e start points curves =
    let whole = line_from v e start points curves in (
      ((omega arith, omega arith, omega arith), λ _. (omega arith, omega arith, omega arith)),
      λ counted.
          let few = (counts_pass points curves (held (count_checks points curves) counted)).few in (
            λ k h. (omega arith, omega arith, omega arith),
            λ _. (
              λ i h. (omega arith, omega arith, omega arith),
              λ _. (
                λ i h. ((omega arith, omega arith, omega arith), λ _. (omega arith, omega arith, omega arith)),
                λ _. wider (alignment_checks whole) (alignment_numbers whole) (omega arith) (omega arith) few,
              ),
            ),
          ),
    )

-- ---- which of them

abbrev pub answerable : ℕ → Bool
answerable n = within 3 6 n || eqb n 8 || within 10 15 n || within 18 20 n

module _ (v e start : ℕ) (points : List ℤ) (curves : List ℕ) where
  abbrev line : Line
  line = line_from v e start points curves

  module _ (few : curve_count points ≤ 64) (turns : outcome (in_turn (turn_checks points) (curve_count points)) ≡ passed) where
    deflection_held : (i : ℕ) → i < curve_count points → within 1 432000 (curve_at line i).deflection ≡ true
    unfolding curve_from
    deflection_held i h =
        let turn = passed_turn points i (each_passes (turn_checks points) (curve_count points) turns i h) in
        let A = deflection_from points i in
        let here : within 1 432000 A ≡ true = rw (le-leb 1 A turn.least, le-leb A 432000 (omega (arith, turn.most))) refl in
        ap (λ (c : Curve). within 1 432000 c.deflection) (curve_is v e start points curves few i h) ∙ here

    body_answers : (i : ℕ) → i ≤ curve_count points → Answers answerable (body_checks line i)
    unfolding body_checks distance_check curve_checks
    body_answers zero h = inl refl
    body_answers (suc i) h =
        (body_answers i (omega arith), λ _. ((inr (deflection_held i h), λ _. (inl refl, λ _. inl refl)), λ _. inl refl))

    line_answers : Answers answerable (alignment_checks line)
    unfolding alignment_checks field_checks head_checks start_check design_checks_at design_checks arc_check straight_check line_from
    line_answers =
        (((inl refl, λ _. (inl refl, λ _. (inl refl, λ _. inl refl))), λ _. body_answers (curve_count points) (omega arith)), λ _. ((λ i h. (inl refl, λ _. (inl refl, λ _. inl refl))), λ _. λ i h. inl refl))

  from_points_answers : Answers answerable (from_points_checks v e start points curves)
  unfolding from_points_checks count_checks coordinate_check length_check distance_check turn_checks
  from_points_answers = (
    (inl refl, λ _. inl refl),
    λ counted. (
      λ k h. inl refl,
      λ _. (
        λ i h. inl refl,
        λ _. (
          λ i h. (inl refl, λ _. inl refl),
          λ turns.
              line_answers (counts_pass points curves (held (count_checks points curves) counted)).few
              (held (in_turn (turn_checks points) (curve_count points)) turns),
        ),
      ),
    ),
  )

  -- The number of a refusal is one of those.
  pub from_points_answerable : {n p : ℕ} → outcome (from_points_checks v e start points curves) ≡ refused n p → answerable n ≡ true
  from_points_answerable = refusal_answers answerable (from_points_checks v e start points curves) from_points_answers
