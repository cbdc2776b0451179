-- The tangent TT, rule against exact, by tan of half the deflection. Assumes nothing.
use mathlib.Core.Path.{◌≡◌, sym}
use Prim.Native.Nat.{ℕ, zero, ◌+◌, ◌*◌, ◌/◌, ◌≤◌, ◌<◌}
use native.Mathlib.Nat.{mul-le-mul_left, mul-le-mul_right, le_trans}
use native.Mathlib.Omega.{arith}
use lib.Dec.{lit<, lit≤}
use lib.IntN.{pos}
use Rattle.numbers.specs.Whole.{Between}
use Rattle.numbers.proofs.Ranges.{at_least}
use Rattle.numbers.proofs.Products.{products}
use Rattle.line.specs.Ranges.{CurveInRange}
use Rattle.elements.specs.WorkingRule.{scale, half_angle, sine_of, cosine_of, shift_of, tan_of, tangent_of}
use Rattle.elements.proofs.SineAndCosine.{sine_between, square_most}
use Rattle.elements.proofs.Bounds.{bounds, half_angle_most}
use Rattle.numbers.specs.Fractions.{Fraction, nat, ◌⊕◌}
use Rattle.accuracy.specs.ExactElements.{exact_half_angle, exact_sine, exact_cosine, exact_shift, exact_tan, exact_tangent}
use Rattle.accuracy.proofs.Parts.{plus, no_minus}
use Rattle.accuracy.proofs.Nearness.{Near, near_value, near_nat, near_sum, near_product}
use Rattle.accuracy.proofs.Angles.{near_half_sine, near_half_cosine}
use Rattle.accuracy.proofs.Ratio.{above_zero, ratio_sign, ratio_most, near_ratio}
use Rattle.accuracy.proofs.NearElements.{near_rounded, near_k, near_p}

-- The errors of a tangent, short and over, in thousandths of a µm.
abbrev pub short_tangent : ℕ
short_tangent = 234931

abbrev pub over_tangent : ℕ
over_tangent = 211825

quotient_most : (u d n e a b : ℕ) → 1000 * (scale * u) ≤ 1000 * (a * d) + 4252 * d → 1000 * (b * e) ≤ 1000 * (scale * n) + 4709 * e
    → a ≤ 1047197551 → 451688645 ≤ b → scale * u * e ≤ 2318405787 * (d * n)
quotient_most u d n e a b h k m l =
    le_trans (mul-le-mul_right e sine_most) (simp products (omega (arith, simp products at (mul-le-mul_left d cosine_least))))
  where
    sine_most : scale * u ≤ 1047197556 * d
    sine_most = omega (arith, mul-le-mul_right d m)

    cosine_least : 1047197556 * e ≤ 2318405787 * n
    cosine_least = omega (arith, mul-le-mul_right e l)

half_least : (A : ℕ) → 1 ≤ A → 2424 ≤ half_angle A
unfolding half_angle
half_least A h = omega arith

module _ (A R L : ℕ) (ok : CurveInRange A R L) (n : ℕ) (seven : 7 ≤ n) where
  sine_half : Between (sine_of (half_angle A)) 0 1047197551
  sine_half = (bounds A R L ok).sine_half

  cosine_half : Between (cosine_of (half_angle A)) 451688645 1000000000
  cosine_half = (bounds A R L ok).cosine_half

  sine : Fraction
  sine = exact_sine n (exact_half_angle A)

  cosine : Fraction
  cosine = exact_cosine n (exact_half_angle A)

  near_sine : Near scale (pos sine_half.value) sine 4252 3936
  unfolding sine
  near_sine = near_value sine_half (near_half_sine A R L ok n seven)

  near_cosine : Near scale (pos cosine_half.value) cosine 3615 4709
  unfolding cosine
  near_cosine = near_value cosine_half (near_half_cosine A R L ok n seven)

  -- The half angle of one second is 2,424 units already, and its sine not much less.
  sine_least : 4 ≤ sine_half.value
  sine_least =
      let q = half_angle A in
      let m = half_angle_most A ok.A-most in
      omega (
        arith,
        at_least (sym sine_half.same) (sine_between q (omega (arith, m))),
        mul-le-mul_left q (square_most q (omega (arith, m))),
        half_least A ok.A-least,
      )

  sine_above : zero < plus sine.top
  sine_above = above_zero near_sine (omega (arith, sine_least))

  cosine_above : zero < plus cosine.top
  cosine_above = above_zero near_cosine (omega (arith, cosine_half.low))

  tan_bound : scale * plus sine.top * cosine.under ≤ 2318405787 * (sine.under * plus cosine.top)
  tan_bound =
      quotient_most (plus sine.top) sine.under (plus cosine.top) cosine.under sine_half.value cosine_half.value
      (omega (arith, rw (no_minus sine.top sine_above) at near_sine.least))
      (omega (arith, rw (no_minus cosine.top cosine_above) at near_cosine.most))
      sine_half.high
      cosine_half.low

  tan : ℕ
  tan = sine_half.value * scale / cosine_half.value

  tan_is : tan_of A ≡ pos tan
  unfolding tan_of tan
  tan_is = rw (sine_half.same, cosine_half.same)

  near_tan : Near scale (pos tan) (exact_tan n A) 34584 27269
  unfolding exact_tan sine cosine tan
  near_tan =
      near_ratio sine cosine sine_above cosine_above 2318405787 tan_bound 451688645 33584 27269 (lit< tt) cosine_half.low near_sine near_cosine (lit≤ tt) (lit≤ tt)

  -- R + p, from the centre of the arc to the tangent.
  shift : Between (shift_of R L) 0 83333333
  shift = (bounds A R L ok).p

  near_base : Near 1000 (pos (1000 * R + shift.value)) (nat R ⊕ exact_shift n R L) 17643 21722
  near_base =
      near_sum (near_nat 1000 R) (near_value shift (near_p A R L ok n seven))

  pub near_tt : Near 1000 (tangent_of A R L) (exact_tangent n A R L) short_tangent over_tangent
  unfolding tangent_of exact_tangent exact_tan sine cosine
  near_tt =
      rw (shift.same, tan_is)
      (near_sum (near_k A R L ok n seven)
      (near_rounded scale 217206 189479 (lit< tt) (lit≤ tt) (lit≤ tt)
      (near_product 5083333333 2318405787 near_base near_tan
      (ratio_sign sine cosine sine_above cosine_above)
      (omega (arith, ok.R-most, shift.high))
      (ratio_most sine cosine sine_above cosine_above 2318405787 tan_bound))))
