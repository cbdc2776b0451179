-- The spiral of length one: the ranges of its end's x and y, which callers use in place of the polynomials. Assumes nothing.
use mathlib.Core.Path.{◌≡◌, refl, sym, ◌∙◌, ap}
use Prim.Native.Nat.{ℕ, ◌+◌, ◌-◌, ◌*◌, ◌/◌, ◌≤◌}
use native.Mathlib.Nat.{mul-le-mul, mul-le-mul_left, mul-le-mul_right}
use native.Mathlib.Omega.{arith}
use lib.IntN.{ℤ, pos, ◌+ℤ◌, ◌-ℤ◌}
use Rattle.numbers.specs.Whole.{Between}
use Rattle.numbers.proofs.Differences.{minus_le}
use Rattle.elements.specs.WorkingRule.{scale, t2, t3, t4, t5, t6, unit_x, unit_y}

-- The greatest spiral angle, half a radian: L is at most R.
abbrev pub greatest_spiral_angle : ℕ
greatest_spiral_angle = 500000000

module _ (t : ℕ) (h : t ≤ greatest_spiral_angle) where
  t2_most : t2 t ≤ 250000000
  unfolding t2
  t2_most = omega (arith, mul-le-mul h h)

  -- A quarter at the most, since t2 is.
  t3_most : 4 * t3 t ≤ t
  unfolding t3
  t3_most = omega (arith, mul-le-mul_right t t2_most)

  t4_most : 4 * t4 t ≤ t2 t
  unfolding t4
  t4_most = omega (arith, mul-le-mul_right (t2 t) t2_most)

  t6_most : 4 * t6 t ≤ t4 t
  unfolding t6
  t6_most = omega (arith, mul-le-mul_left (t4 t) t2_most)

  -- No more than t3, since t4 is no more than t2.
  t5_most : t5 t ≤ t3 t
  unfolding t5 t3
  t5_most =
      let less : t4 t ≤ t2 t = omega (arith, t4_most) in
      omega (arith, mul-le-mul_right t less)

  -- x on natural numbers: nothing falls below zero on the way.
  pub computed_x : {a b c : ℕ} → a ≡ t * t / scale → b ≡ a * a / scale → c ≡ b * a / scale
      → pos (scale - a / 10 + b / 216 - c / 9360) ≡ unit_x t
  unfolding unit_x t2 t4 t6
  computed_x p q r =
      rw (r, q, p)
      (sym
      (ap (λ (z : ℤ). z +ℤ pos (t4 t / 216) -ℤ pos (t6 t / 9360)) (minus_le {a = scale} {b = t2 t / 10} (omega (arith, t2_most)))
      ∙ minus_le {a = scale - t2 t / 10 + t4 t / 216} {b = t6 t / 9360} (omega (arith, t2_most, t6_most))))

  -- x is a little less than one.
  pub unit_x_between : Between (unit_x t) 975000000 scale
  unfolding t2 t4 t6
  unit_x_between =
      record {
        value = scale - t2 t / 10 + t4 t / 216 - t6 t / 9360;
        same = sym (computed_x refl refl refl);
        low = omega (arith, t2_most, t6_most);
        high = omega (arith, t2_most, t4_most);
      }

  -- y on natural numbers.
  pub computed_y : {a b c d : ℕ} → a ≡ t * t / scale → b ≡ a * t / scale → c ≡ a * a / scale → d ≡ c * t / scale
      → pos (t / 3 - b / 42 + d / 1320) ≡ unit_y t
  unfolding unit_y t2 t3 t4 t5
  computed_y p q r s =
      rw (s, r, q, p)
      (ap (λ (z : ℤ). z +ℤ pos (t5 t / 1320)) (sym (minus_le {a = t / 3} {b = t3 t / 42} (omega (arith, t3_most)))))

  -- y is about a third of the angle: at the most that,
  pub unit_y_between : Between (unit_y t) 0 166666666
  unfolding t2 t3 t4 t5
  unit_y_between =
      record {
        value = t / 3 - t3 t / 42 + t5 t / 1320;
        same = sym (computed_y refl refl refl refl);
        low = omega arith;
        high = omega (arith, t3_most, t5_most);
      }

  -- and a quarter at least, from the ninth unit on.
  pub unit_y_quarter : {y : ℕ} → pos y ≡ unit_y t → 9 ≤ t → t ≤ 4 * y
  unfolding t2 t3 t4 t5
  unit_y_quarter {y} e n =
      let q : y ≡ t / 3 - t3 t / 42 + t5 t / 1320 = cc (computed_y refl refl refl refl) in
      omega (arith, t3_most)
