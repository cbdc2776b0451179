-- A line made by checks one after the other: the first refusal ends it. Assumes nothing.
use mathlib.Core.Path.{◌≡◌, refl, sym, ◌∙◌, ap, subst}
use mathlib.Core.List.{List}
use Prim.Native.Nat.{ℕ, suc, ◌<◌}
use lib.IntN.{ℤ}
use Rattle.std.specs.Prelude.{Result, Err, IfOk}
use Rattle.refusals.specs.declared.Refusal.{Refusal}
use Rattle.refusals.specs.Table.{number_of, place_of}
use Rattle.refusals.specs.Outcomes.{passed, refused, outcome_of}
use Rattle.refusals.specs.Order.{Checks, ◌⨾◌, in_turn, outcome}
use Rattle.refusals.proofs.Joining.{join}
use Rattle.refusals.proofs.InTurn as turn
use Rattle.line.specs.declared.Line.{Line}
use Rattle.stationing.specs.Answer.{alignment_checks}
use Rattle.coordinates.specs.Legs.{curve_count}
use Rattle.coordinates.specs.FromPoints.{line_from, length_check, turn_checks}
use Rattle.points.specs.Steps.{Made, leg_checks}
use Rattle.points.proofs.Filling.{line_to, line_done}

module _ (whole : Line) where
  -- One of many in turn refuses.
  pub refused_in_turn : (r : Refusal) (each : ℕ → Checks) (i count : ℕ) (b : Checks) → i < count
      → outcome (in_turn each i) ≡ passed → outcome (each i) ≡ refused (number_of r) (place_of r) → Made (in_turn each count ⨾ b) whole (Err r)
  refused_in_turn r each i count b h before here =
      record { checked = sym (join (turn.first_refused each i count h before here) refl); line = tt }

  -- The first passes, and the others decide.
  pub first_passed : (a b : Checks) {made : Result Line Refusal} → outcome a ≡ passed → Made b whole made → Made (a ⨾ b) whole made
  first_passed a b e m = record { checked = m.checked ∙ sym (rw e refl); line = m.line }

-- Every distance and every turn passes, and the calculator decides.
module _ (v e start : ℕ) (points : List ℤ) (designs : List ℕ) where
  pub judged : (n k : ℕ) (made : Result Line Refusal) {line : Line} → n ≡ curve_count points → k ≡ n
      → outcome (in_turn (length_check points) (suc n)) ≡ passed → outcome (in_turn (turn_checks points) k) ≡ passed
      → line ≡ line_to v e start points designs (suc n) k
      → outcome_of made ≡ outcome (alignment_checks line) → IfOk made (λ l. l ≡ line)
      → Made (leg_checks v e start points designs) (line_from v e start points designs) made
  judged n k made all done distances turns filled answer line =
      let count : k ≡ curve_count points = done ∙ all in
      let whole = filled ∙ (λ j. line_to v e start points designs (suc (all j)) (count j)) ∙ line_done v e start points designs in
      let whole_line = line_from v e start points designs in
      first_passed whole_line _ _ (sym (ap (λ (m : ℕ). outcome (in_turn (length_check points) (suc m))) all) ∙ distances)
      (first_passed whole_line _ _ (sym (ap (λ (m : ℕ). outcome (in_turn (turn_checks points) m)) count) ∙ turns)
      (record { checked = answer ∙ ap (λ (l : Line). outcome (alignment_checks l)) whole; line = subst (λ (l : Line). IfOk made (λ m. m ≡ l)) whole line }))
