-- Points of the same shape, with the same lengths, dot products and sizes of the cross products: they have the same distances and
-- deflections, and the same refusals but for 18. Assumes nothing.
use mathlib.Core.Path.{◌≡◌, refl, sym, ◌∙◌, ap}
use mathlib.Core.Bool.{not, ◌&&◌}
use mathlib.Core.List.{List}
use Prim.Native.Nat.{ℕ, suc, ◌-◌, ◌*◌, ◌/◌, ◌%◌, ◌<◌, ◌≤◌}
use native.Mathlib.Omega.{arith}
use lib.Dec.{ltb, eqb}
use lib.IntN.{ℤ, pos, nat_abs}
use lib.ListN.{length}
use lib.Signed.{lt_z}
use Rattle.refusals.specs.Outcomes.{Outcome, passed, refused, need, ◌▹◌}
use Rattle.refusals.specs.Order.{in_turn, outcome}
use Rattle.refusals.proofs.Joining.{join}
use Rattle.refusals.proofs.InTurn.{alike_in_turn}
use Rattle.line.specs.declared.Curve.{Curve}
use Rattle.line.specs.Checks.{within, distance_check, blank_curve, curve_at, distance_at}
use Rattle.line.specs.Ranges.{AlikeWhereUsed}
use Rattle.line.proofs.Entries.{entries_get}
use Rattle.turns.specs.Turn.{reached, deflection_of}
use Rattle.orders.proofs.Unused.{same_checks}
use Rattle.coordinates.specs.Legs.{curve_count, cross_at, dot_at}
use Rattle.coordinates.specs.FromPoints.{distance_from, deflection_from, curve_from, line_from, count_checks, coordinate_check, length_check, turn_checks, from_points_checks}
use Rattle.coordinates.proofs.Counts.{counts_pass}

pub record SameShape (p q : List ℤ) : Type 0 where
  pub distance : (i : ℕ) → i ≤ curve_count p → distance_from p i ≡ distance_from q i
  pub cross : (i : ℕ) → i < curve_count p → nat_abs (cross_at p i) ≡ nat_abs (cross_at q i)
  pub dot : (i : ℕ) → i < curve_count p → dot_at p i ≡ dot_at q i

-- ---- the line

module _ (v e start : ℕ) (points : List ℤ) (curves : List ℕ) (few : curve_count points ≤ 64) where
  -- Its used entries.
  pub distance_is : (i : ℕ) → i ≤ curve_count points → distance_at (line_from v e start points curves) i ≡ distance_from points i
  unfolding line_from
  distance_is i h = entries_get 65 (suc (curve_count points)) i (distance_from points) 0 0 (omega arith) (omega arith)

  pub curve_is : (i : ℕ) → i < curve_count points → curve_at (line_from v e start points curves) i ≡ curve_from points curves i
  unfolding line_from
  curve_is i h = entries_get 64 (curve_count points) i (curve_from points curves) blank_curve blank_curve h few

-- ---- points of the same shape

module _ (p q : List ℤ) (counts : length p ≡ length q) where
  pub same_count : curve_count p ≡ curve_count q
  same_count = ap (λ (n : ℕ). n / 2 - 2) counts

  pub same_counts : (curves : List ℕ) → outcome (count_checks p curves) ≡ outcome (count_checks q curves)
  unfolding count_checks
  same_counts curves =
      ap (λ (n : ℕ). need (eqb (n % 2) 0 && eqb (length curves) (2 * (n / 2 - 2))) 3 0 ▹ need (within 2 66 (n / 2)) 3 0) counts

  module _ (same : SameShape p q) where
    pub same_deflection : (i : ℕ) → i < curve_count p → deflection_from p i ≡ deflection_from q i
    unfolding deflection_from
    same_deflection i h = λ j. deflection_of (same.cross i h j) (same.dot i h j)

    same_lengths : outcome (in_turn (length_check p) (suc (curve_count p))) ≡ outcome (in_turn (length_check q) (suc (curve_count q)))
    unfolding length_check
    same_lengths =
        alike_in_turn (length_check p) (length_check q) (suc (curve_count p)) (λ i h. ap (λ (d : ℕ). outcome (distance_check d i)) (same.distance i (omega arith)))
        ∙ ap (λ (n : ℕ). outcome (in_turn (length_check q) (suc n))) same_count

    same_turn : (i : ℕ) → i < curve_count p → outcome (turn_checks p i) ≡ outcome (turn_checks q i)
    unfolding turn_checks
    same_turn i h = λ j.
        need (lt_z (pos 0) (same.dot i h j) && not (reached (same.cross i h j) (same.dot i h j) 216001)) 20 (suc i)
        ▹ need (ltb 0 (same_deflection i h j)) 19 (suc i)

    same_turns : outcome (in_turn (turn_checks p) (curve_count p)) ≡ outcome (in_turn (turn_checks q) (curve_count q))
    same_turns =
        alike_in_turn (turn_checks p) (turn_checks q) (curve_count p) same_turn ∙ ap (λ (n : ℕ). outcome (in_turn (turn_checks q) n)) same_count

    module _ (v e start : ℕ) (curves : List ℕ) (few : curve_count p ≤ 64) where
      -- The curves, but for their sides.
      same_curve : {A : Type 0} (field : Curve → A) (i : ℕ) → i < curve_count p → field (curve_from p curves i) ≡ field (curve_from q curves i)
          → field (curve_at (line_from v e start p curves) i) ≡ field (curve_at (line_from v e start q curves) i)
      same_curve field i h s =
          ap field (curve_is v e start p curves few i h)
          ∙ s
          ∙ sym (ap field (curve_is v e start q curves (omega (arith, same_count)) i (omega (arith, same_count))))

      pub alike : AlikeWhereUsed (line_from v e start p curves) (line_from v e start q curves)
      unfolding line_from curve_from
      alike =
          record {
            speed = refl;
            crossfall = refl;
            start = refl;
            count = same_count;
            distance = λ i h.
                distance_is v e start p curves few i h
                ∙ same.distance i h
                ∙ sym (distance_is v e start q curves (omega (arith, same_count)) i (omega (arith, same_count)));
            deflection = λ i h. same_curve (λ c. c.deflection) i h (same_deflection i h);
            radius = λ i h. same_curve (λ c. c.radius) i h refl;
            spiral = λ i h. same_curve (λ c. c.spiral) i h refl;
          }

  -- The same refusals, where 18 has the same.
  pub same_refusals : (v e start : ℕ) (curves : List ℕ) → (outcome (count_checks p curves) ≡ passed → SameShape p q)
      → outcome (in_turn (coordinate_check p) (length p)) ≡ outcome (in_turn (coordinate_check q) (length q))
      → outcome (from_points_checks v e start p curves) ≡ outcome (from_points_checks v e start q curves)
  unfolding from_points_checks
  same_refusals v e start curves shape ranges = go (outcome (count_checks p curves)) refl
    where
      go : (o : Outcome) → outcome (count_checks p curves) ≡ o
          → outcome (from_points_checks v e start p curves) ≡ outcome (from_points_checks v e start q curves)
      go (refused n k) o = rw (o, sym (same_counts curves) ∙ o) refl
      go passed o =
          let same = shape o in
          join (same_counts curves)
          (join ranges (join (same_lengths same) (join (same_turns same)
          (same_checks (line_from v e start p curves) (line_from v e start q curves) (alike same v e start curves (counts_pass p curves o).few)))))
