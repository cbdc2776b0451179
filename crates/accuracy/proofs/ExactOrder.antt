-- Demand 3, an accepted line: its exact straights are longer than 0.4 mm and its exact arcs than 0.9 mm, so that its exact stations never go
-- back and no two curves overlap. Assumes nothing.
use mathlib.Core.Path.{refl}
use Prim.Native.Nat.{ℕ, suc, ◌≤◌, ◌<◌}
use native.Mathlib.Omega.{arith}
use lib.Dec.{lit<}
use Rattle.line.specs.declared.Line.{Line}
use Rattle.stationing.proofs.Accepted.{Accepted}
use Rattle.numbers.specs.Fractions.{whole, ◌≺◌}
use Rattle.accuracy.specs.ExactStations.{exact_spiral_at, exact_arc_at, exact_straight_at, exact_former_st, exact_points_at, exact_end}
use Rattle.accuracy.specs.Accuracy.{tenths, least_straight, least_arc, InExactOrder}
use Rattle.accuracy.proofs.Nearness.{near_value}
use Rattle.accuracy.proofs.NearStations.{near_arc_at, near_straight}
use Rattle.accuracy.proofs.Lengths.{longer, above_tenths, not_below, not_back, onward}

module _ (n : ℕ) (seven : 7 ≤ n) (line : Line) (ok : Accepted line) where
  straight_longer : (i : ℕ) → i ≤ line.count → tenths least_straight ≺ exact_straight_at n line i
  straight_longer i h =
      longer 1000 least_straight (near_value (ok.straight i h) (near_straight n seven line ok.in_range i h)) (ok.straight i h).low (lit< tt)

  arc_longer : (i : ℕ) → i < line.count → tenths least_arc ≺ exact_arc_at line i
  arc_longer i h = longer 1000 least_arc (near_value (ok.arc i h) (near_arc_at n seven line ok.in_range i h)) (ok.arc i h).low (lit< tt)

  pub in_exact_order : InExactOrder n line
  unfolding exact_points_at exact_former_st exact_end exact_spiral_at whole
  in_exact_order =
      record {
        straight = straight_longer;
        arc = arc_longer;
        curve = λ i h. record {
          TS = not_back _ (exact_straight_at n line i) (not_below least_straight (straight_longer i (omega arith)));
          SC = not_back _ (exact_spiral_at line i) refl;
          CS = not_back _ (exact_arc_at line i) (not_below least_arc (arc_longer i h));
          ST = not_back _ (exact_spiral_at line i) refl;
        };
        end =
            not_back _ (exact_straight_at n line line.count) (not_below least_straight (straight_longer line.count (omega arith)));
        apart = λ i h. onward _ (exact_straight_at n line (suc i)) (above_tenths least_straight (straight_longer (suc i) (omega arith)));
      }
