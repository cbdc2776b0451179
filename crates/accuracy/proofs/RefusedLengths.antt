-- Demand 3, a refused line: what is refused with 15 or 14 is short by the exact values too. Assumes nothing.
use mathlib.Core.Path.{◌≡◌, sym, subst}
use mathlib.Core.Logic.{⊎_elim}
use mathlib.Core.Bool.{false}
use mathlib.Core.List.{List}
use Prim.Native.Nat.{ℕ, suc, ◌≤◌, ◌<◌}
use native.Mathlib.Omega.{arith}
use lib.Dec.{lit≤}
use lib.IntN.{pos}
use lib.Signed.{le_z}
use Rattle.refusals.specs.Order.{First}
use Rattle.refusals.specs.Filling.{with_room}
use Rattle.refusals.proofs.InOrder.{held}
use Rattle.refusals.proofs.Numbers.{first_numbers}
use Rattle.line.specs.declared.Line.{Line}
use Rattle.line.specs.Checks.{line_checks}
use Rattle.line.specs.Ranges.{LineInRange}
use Rattle.line.proofs.InRange.{line_in_range}
use Rattle.line.proofs.Numbers.{line_numbers_lem}
use Rattle.elements.specs.Answer.{arc_check}
use Rattle.stationing.specs.Stations.{arc_at}
use Rattle.stationing.specs.Answer.{design_checks, design_checks_at, straight_check, alignment_checks}
use Rattle.accuracy.specs.Accuracy.{refused_straight, refused_arc, ShortStraight, ShortArc}
use Rattle.accuracy.proofs.NearStations.{near_arc_at, near_straight}
use Rattle.accuracy.proofs.Lengths.{shorter}

-- What holds of a refusal with this number at this place.
pub record Refused (n : ℕ) (line : Line) (number place : ℕ) : Type 0 where
  pub straight_short : number ≡ 15 → ShortStraight n line place
  pub arc_short : number ≡ 14 → ShortArc line place

-- Any other number says nothing of lengths.
other : {n : ℕ} {line : Line} {number place : ℕ} → (number ≡ 15 → ⊥) → (number ≡ 14 → ⊥) → Refused n line number place
other h k = record { straight_short = λ e. absurd (h e); arc_short = λ e. absurd (k e) }

module _ (n : ℕ) (seven : 7 ≤ n) (line : Line) {number place : ℕ} where
  by_fields : First (line_checks line) number place → Refused n line number place
  by_fields f =
      let told = first_numbers 3 11 line.count (line_checks line) (line_numbers_lem _ line) f in
      other (λ e. omega (arith, told.1)) (λ e. omega (arith, told.1))

  module _ (ok : LineInRange line) (i : ℕ) where
    short_arc_lem : i < line.count → (le_z (pos 1000) (arc_at line i) ≡ false) × (14 ≡ number) × (suc i ≡ place) → Refused n line number place
    short_arc_lem h f =
        record {
          straight_short = λ e. absurd (omega (arith, f.1));
          arc_short =
              λ e. record {
                entry = i;
                named = sym f.2;
                inside = h;
                short = shorter 1000 refused_arc (near_arc_at n seven line ok i h) f.0 (lit≤ tt);
              };
        }

    by_curve : i < line.count → First (design_checks_at line i) number place → Refused n line number place
    unfolding design_checks_at design_checks arc_check arc_at
    by_curve h f =
        ⊎_elim (λ r. other (λ e. omega (arith, r.1)) (λ e. omega (arith, r.1)))
        (λ q. ⊎_elim (λ s. other (λ e. omega (arith, s.1)) (λ e. omega (arith, s.1))) (λ a. short_arc_lem h a.1) q.1)
        f

    by_straight : i < suc line.count → First (straight_check line i) number place → Refused n line number place
    unfolding straight_check
    by_straight h f =
        record {
          straight_short =
              λ e. subst (ShortStraight n line) f.2
              (record {
                inside = omega arith;
                short = shorter 1000 refused_straight (near_straight n seven line ok i (omega arith)) f.0 (lit≤ tt);
              });
          arc_short = λ e. absurd (omega (arith, f.1));
        }

  pub refused_lengths : (content row : List ℕ) → First (with_room (alignment_checks line) content row) number place → Refused n line number place
  unfolding with_room alignment_checks
  refused_lengths content row f =
      ⊎_elim
      (λ g. ⊎_elim by_fields
      (λ q. let ok = line_in_range line (held (line_checks line) q.0) in
      ⊎_elim (λ c. by_curve ok c.index c.below c.here) (λ r. by_straight ok r.1.index r.1.below r.1.here) q.1)
      g)
      (λ q. other (λ e. omega (arith, q.1.1)) (λ e. omega (arith, q.1.1)))
      f
