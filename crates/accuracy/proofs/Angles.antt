-- The angles of a curve, rule against exact. Assumes nothing.
use mathlib.Core.Path.{◌≡◌, refl, ap, transport}
use Prim.Native.Nat.{ℕ, zero, ◌*◌, ◌/◌, ◌≤◌, ◌<◌}
use native.Mathlib.Nat.{mul-zero, mul-pos}
use native.Mathlib.Omega.{arith}
use lib.Dec.{lit<, lit≤}
use lib.IntN.{pos}
use Rattle.line.specs.Ranges.{CurveInRange}
use Rattle.elements.specs.WorkingRule.{scale, full_angle, half_angle, spiral_angle, sine_of, cosine_of}
use Rattle.elements.proofs.Bounds.{half_angle_most, spiral_angle_most}
use Rattle.numbers.specs.Fractions.{Fraction, whole, nat, ◌⊗◌, ◌⊘◌}
use Rattle.accuracy.specs.ExactElements.{exact_pi, exact_angle, exact_half_angle, exact_spiral_angle, exact_sine, exact_cosine}
use Rattle.accuracy.proofs.Parts.{minus}
use Rattle.accuracy.proofs.Nearness.{Near, loosen, near_nat, near_multiple, near_part, near_down}
use Rattle.accuracy.proofs.Powers.{part_top}
use Rattle.accuracy.proofs.Terms.{Term}
use Rattle.accuracy.proofs.SineAndCosine.{near_sine, near_cosine}

-- The same nearness, with the number or the scale written otherwise.
at_scale : {s s' q q' : ℕ} {v : Fraction} {x y : ℕ} → s ≡ s' → q ≡ q' → Near s (pos q) v x y → Near s' (pos q') v x y
at_scale {v = v} {x = x} {y = y} p r h = transport (λ i. Near (p i) (pos (r i)) v x y) h

-- ---- the deflection: the rule's 3,141,592,654 is over the exact number by 411 thousandths at the most

near_pi : Near scale (pos 3141592654) exact_pi 0 411
unfolding exact_pi whole ◌⊘◌
near_pi = record { least = record { holds = lit≤ tt }; most = record { holds = lit≤ tt } }

near_angle : (A c y : ℕ) → zero < c → A * 411 ≤ y * c → Near scale (pos (A * 3141592654 / c)) (nat A ⊗ exact_pi ⊘ c) 1000 y
near_angle A c y above h =
    near_down c 1000 y above (omega (arith, mul-zero A)) h (near_part c above (near_multiple A near_pi))

module _ (A R L : ℕ) (ok : CurveInRange A R L) where
  pub near_full_angle : Near scale (pos (full_angle A)) (exact_angle A) 1000 274
  unfolding full_angle exact_angle
  near_full_angle = near_angle A 648000 274 (lit< tt) (omega (arith, ok.A-most))

  half : Term (half_angle A) (exact_half_angle A) (record { most = 1047197551; short = 1000; over = 137 })
  unfolding half_angle exact_half_angle exact_pi whole ◌⊘◌ ◌⊗◌
  half =
      record {
        sign = refl;
        fits = half_angle_most A ok.A-most;
        near = near_angle A 1296000 137 (lit< tt) (omega (arith, ok.A-most));
      }

  -- ---- the spiral

  pub R-above : zero < R
  R-above = omega (arith, ok.R-least)

  pub spiral : Term (spiral_angle R L) (exact_spiral_angle R L) (record { most = 500000000; short = 1000; over = 0 })
  unfolding spiral_angle exact_spiral_angle whole
  spiral =
      record {
        sign = ap minus (part_top (nat L) (mul-pos (lit< tt) R-above));
        fits = spiral_angle_most R L ok.L-to-R;
        near =
            near_down R 1000 0 R-above (omega arith) (omega arith)
            (at_scale (omega arith) (omega arith) (near_part (2 * R) (mul-pos (lit< tt) R-above) (near_nat 500000000 L)));
      }

  -- ---- their sines and cosines

  module _ (n : ℕ) (seven : 7 ≤ n) where
    pub near_half_sine : Near scale (sine_of (half_angle A)) (exact_sine n (exact_half_angle A)) 4252 3936
    near_half_sine = loosen (lit≤ tt) (lit≤ tt) (near_sine _ half n 25 seven (lit≤ tt) (lit≤ tt))

    pub near_half_cosine : Near scale (cosine_of (half_angle A)) (exact_cosine n (exact_half_angle A)) 3615 4709
    near_half_cosine = loosen (lit≤ tt) (lit≤ tt) (near_cosine _ half n 63 seven (lit≤ tt) (lit≤ tt))

    pub near_spiral_sine : Near scale (sine_of (spiral_angle R L)) (exact_sine n (exact_spiral_angle R L)) 4049 3244
    near_spiral_sine = loosen (lit≤ tt) (lit≤ tt) (near_sine _ spiral n 25 seven (lit≤ tt) (lit≤ tt))

    pub near_spiral_cosine : Near scale (cosine_of (spiral_angle R L)) (exact_cosine n (exact_spiral_angle R L)) 3095 4039
    near_spiral_cosine = loosen (lit≤ tt) (lit≤ tt) (near_cosine _ spiral n 25 seven (lit≤ tt) (lit≤ tt))
