-- X, Y, k, p and D of a curve, rule against exact, with an error either way in thousandths of a µm. Assumes nothing.
use Prim.Native.Nat.{ℕ, zero, ◌+◌, ◌*◌, ◌≤◌, ◌<◌}
use native.Mathlib.Omega.{arith}
use lib.Dec.{lit<}
use lib.IntN.{ℤ, pos, ◌*ℤ◌}
use Rattle.line.specs.Ranges.{CurveInRange}
use Rattle.elements.specs.WorkingRule.{scale, rounded, spiral_x, spiral_y, centre_of, shift_of, arc_of}
use Rattle.numbers.specs.Fractions.{Fraction, nat, ◌⊗◌}
use Rattle.accuracy.specs.ExactElements.{exact_spiral_angle, exact_x, exact_y, exact_centre, exact_shift, exact_arc}
use Rattle.accuracy.proofs.Nearness.{Near, near_nat, near_difference, near_multiple, quotient_side}
use Rattle.accuracy.proofs.NearestMicrometre.{rounded_by_parts}
use Rattle.accuracy.proofs.UnitSpiral.{near_unit_x, near_unit_y}
use Rattle.accuracy.proofs.Angles.{near_full_angle, spiral, near_spiral_sine, near_spiral_cosine}

-- The rounding of an element's last division: half a unit more at most, either way.
pub near_rounded : {s : ℕ} {q : ℤ} {v : Fraction} {x y : ℕ} (m x' y' : ℕ) → zero < m
    → x + 500 * m ≤ x' * m → y + 500 * m ≤ y' * m → Near (s * m) q v x y → Near s (rounded q m) v x' y'
near_rounded {q = q} m x' y' above e f h =
    record {
      least = quotient_side m m above (omega (arith, rounded_by_parts q above)) (omega arith) h.least;
      most = quotient_side m m above (omega (arith, rounded_by_parts q above)) (omega arith) h.most;
    }

-- A ratio at scale 10⁹ times a length in mm, over 10⁶, is in µm.
pub near_length : {q : ℤ} {v : Fraction} {x y : ℕ} (k x' y' : ℕ) → k * x + 500000000 ≤ x' * 1000000 → k * y + 500000000 ≤ y' * 1000000
    → Near scale q v x y → Near 1000 (rounded (pos k *ℤ q) 1000000) (nat k ⊗ v) x' y'
near_length k x' y' e f h = near_rounded 1000000 x' y' (lit< tt) e f (near_multiple k h)

module _ (A R L : ℕ) (ok : CurveInRange A R L) where
  -- ---- the elements

  pub near_x : Near 1000 (spiral_x R L) (exact_x R L) 1005 1601
  unfolding spiral_x exact_x
  near_x = near_length L 1005 1601 (omega (arith, ok.L-most)) (omega (arith, ok.L-most)) (near_unit_x (exact_spiral_angle R L) (spiral A R L ok))

  pub near_y : Near 1000 (spiral_y R L) (exact_y R L) 1668 1027
  unfolding spiral_y exact_y
  near_y = near_length L 1668 1027 (omega (arith, ok.L-most)) (omega (arith, ok.L-most)) (near_unit_y (exact_spiral_angle R L) (spiral A R L ok))

  pub near_d : Near 1000 (arc_of A R L) (exact_arc A R L) 5500 1870
  unfolding arc_of exact_arc
  near_d =
      near_difference
      (near_length R 5500 1870 (omega (arith, ok.R-most)) (omega (arith, ok.R-most)) (near_full_angle A R L ok))
      (near_nat 1000 L)

  module _ (n : ℕ) (seven : 7 ≤ n) where
    pub near_k : Near 1000 (centre_of R L) (exact_centre n R L) 17725 22346
    unfolding centre_of exact_centre
    near_k =
        near_difference near_x
        (near_length R 20745 16720 (omega (arith, ok.R-most)) (omega (arith, ok.R-most)) (near_spiral_sine A R L ok n seven))

    pub near_p : Near 1000 (shift_of R L) (exact_shift n R L) 17643 21722
    unfolding shift_of exact_shift
    near_p =
        near_difference near_y
        (near_length R 20695 15975 (omega (arith, ok.R-most)) (omega (arith, ok.R-most))
        (near_difference (near_nat scale 1) (near_spiral_cosine A R L ok n seven)))
