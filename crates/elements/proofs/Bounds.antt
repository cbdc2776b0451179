-- The ranges of everything that the working rule computes for a curve in range: each quotient is of a number not below zero, by one above
-- zero; and k and p are not below zero. Assumes nothing.
use mathlib.Core.Path.{◌≡◌, sym, ◌∙◌, ap}
use Prim.Native.Nat.{ℕ, ◌-◌, ◌*◌, ◌/◌, ◌≤◌}
use native.Mathlib.Nat.{mul-zero, mul-le-mul, mul-le-mul_left, mul-le-mul_right, mul-div-le, div-le_of_le-mul}
use native.Mathlib.Decide.{dec_le}
use native.Mathlib.Omega.{arith}
use lib.IntN.{ℤ, pos, ◌-ℤ◌}
use Rattle.numbers.specs.Whole.{Between}
use Rattle.numbers.proofs.Differences.{minus_le}
use Rattle.numbers.proofs.Ranges.{at_least, at_most, natural, widen, sum_between, difference_between, product_between, quotient_between}
use Rattle.numbers.proofs.Products.{products}
use Rattle.line.specs.Ranges.{CurveInRange}
use Rattle.elements.specs.WorkingRule.{scale, rounded, full_angle, half_angle, spiral_angle, sine_of, cosine_of, unit_x, unit_y, spiral_x, spiral_y, centre_of, shift_of, tan_of, tangent_of}
use Rattle.elements.proofs.Rounding.{rounded_between, rest_between}
use Rattle.elements.proofs.SineAndCosine.{greatest_angle, sine_between, cosine_between, cosine_above}
use Rattle.elements.proofs.UnitSpiral.{greatest_spiral_angle, unit_x_between, unit_y_between, unit_y_quarter}

-- ---- the angles

pub full_angle_most : (A : ℕ) → A ≤ 432000 → full_angle A ≤ 2094395102
unfolding full_angle
full_angle_most A h = omega arith

pub half_angle_most : (A : ℕ) → A ≤ 432000 → half_angle A ≤ greatest_angle
unfolding half_angle
half_angle_most A h = omega arith

pub spiral_angle_most : (R L : ℕ) → L ≤ R → spiral_angle R L ≤ greatest_spiral_angle
unfolding spiral_angle
spiral_angle_most R L h = div-le_of_le-mul R (mul-le-mul_right 500000000 h)

-- ---- k and p: the parts that are taken away are no greater

angle_by_radius : (R L : ℕ) → R * spiral_angle R L ≤ L * 500000000
unfolding spiral_angle
angle_by_radius R L = mul-div-le (L * 500000000) R

-- R × sine(t) is at most L × x: the sine is at most the angle, and x above a half.
pub sine_part : (R L : ℕ) {s x : ℕ} → L ≤ R → pos s ≡ sine_of (spiral_angle R L) → pos x ≡ unit_x (spiral_angle R L) → R * s ≤ L * x
sine_part R L {s} {x} h es ex =
    let m = spiral_angle_most R L h in
    let low : 500000000 ≤ x = omega (arith, at_least ex (unit_x_between (spiral_angle R L) m)) in
    omega (
      arith,
      mul-le-mul_left R (at_most es (sine_between (spiral_angle R L) (omega arith))),
      angle_by_radius R L,
      mul-le-mul_left L low,
    )

-- R × (10⁹ − cosine(t)) is at most L × y: 10⁹ less the cosine is at most half the square, and y a quarter of the angle at least.
half_square : (R L t z u y : ℕ) → 2 * u ≤ z → scale * z ≤ t * t → R * t ≤ L * 500000000 → t ≤ 4 * y → R * u ≤ L * y
half_square R L t z u y a b d e =
    omega (
      arith,
      simp products at (mul-le-mul_left R a),
      simp products at (mul-le-mul_left R b),
      simp products at (mul-le-mul_right t d),
      simp products at (mul-le-mul_left L e),
    )

pub cosine_part : (R L : ℕ) {u y : ℕ} → L ≤ R → pos u ≡ pos scale -ℤ cosine_of (spiral_angle R L) → pos y ≡ unit_y (spiral_angle R L) → R * u ≤ L * y
cosine_part R L {u} {y} h eu ey = go (dec_le 9 (spiral_angle R L))
  where
    m : spiral_angle R L ≤ greatest_spiral_angle
    m = spiral_angle_most R L h

    c : Between (cosine_of (spiral_angle R L)) (scale - scale * (spiral_angle R L * spiral_angle R L / scale) / (scale * 2)) scale
    c = cosine_between (spiral_angle R L) (omega (arith, m))

    less : u ≡ scale - c.value
    less =
        let e : pos u ≡ pos (scale - c.value) = eu ∙ ap (λ (z : ℤ). pos scale -ℤ z) c.same ∙ minus_le c.high in
        cc

    go : Dec (9 ≤ spiral_angle R L) → R * u ≤ L * y
    go (yes n) =
        half_square R L (spiral_angle R L) (spiral_angle R L * spiral_angle R L / scale) u y
        (omega (arith, less, c.low))
        (mul-div-le (spiral_angle R L * spiral_angle R L) scale)
        (angle_by_radius R L)
        (unit_y_quarter (spiral_angle R L) m ey n)
    go (no n) =
        let small : spiral_angle R L ≤ 8 = omega arith in
        let none : u ≡ 0 = omega (arith, less, c.low, mul-le-mul small small) in
        rw (none, mul-zero) (omega arith)

-- ---- the elements of the spirals

module _ (R L : ℕ) (R-most : R ≤ 5000000) (L-most : L ≤ 500000) (L-to-R : L ≤ R) where
  t_most : spiral_angle R L ≤ greatest_spiral_angle
  t_most = spiral_angle_most R L L-to-R

  spiral : Between (pos L) 0 500000
  spiral = natural L (omega arith) L-most

  sine_t : Between (sine_of (spiral_angle R L)) 0 (spiral_angle R L)
  sine_t = widen (sine_between (spiral_angle R L) (omega (arith, t_most))) (omega arith) (omega arith)

  one_less_cosine : Between (pos scale -ℤ cosine_of (spiral_angle R L)) 0 scale
  one_less_cosine =
      let c = cosine_above greatest_angle (spiral_angle R L) (omega arith) (omega (arith, t_most)) in
      difference_between (natural scale {least = 0} {most = scale} (omega arith) (omega arith)) c c.high

  x_t : Between (unit_x (spiral_angle R L)) 975000000 scale
  x_t = unit_x_between (spiral_angle R L) t_most

  y_t : Between (unit_y (spiral_angle R L)) 0 166666666
  y_t = unit_y_between (spiral_angle R L) t_most

  pub X-between : Between (spiral_x R L) 0 500000000
  unfolding spiral_x
  X-between = rounded_between 1000000 500000000 (omega arith) (product_between spiral x_t) (omega arith)

  pub Y-between : Between (spiral_y R L) 0 83333333
  unfolding spiral_y
  Y-between = rounded_between 1000000 83333333 (omega arith) (product_between spiral y_t) (omega arith)

  -- k is not below zero.
  pub k_between : Between (centre_of R L) 0 500000000
  unfolding centre_of spiral_x
  k_between =
      rw (x_t.same, sine_t.same)
      (rest_between (L * x_t.value) (R * sine_t.value) 1000000 500000000 (omega arith)
      (sine_part R L L-to-R (sym sine_t.same) (sym x_t.same))
      (omega (arith, mul-le-mul L-most x_t.high)))

  -- p is not below zero.
  pub p_between : Between (shift_of R L) 0 83333333
  unfolding shift_of spiral_y
  p_between =
      rw (y_t.same, one_less_cosine.same)
      (rest_between (L * y_t.value) (R * one_less_cosine.value) 1000000 83333333 (omega arith)
      (cosine_part R L L-to-R (sym one_less_cosine.same) (sym y_t.same))
      (omega (arith, mul-le-mul L-most y_t.high)))

-- ---- the tangent of half the deflection, and the arc with its spirals

module _ (A : ℕ) (A-most : A ≤ 432000) where
  sine_half : Between (sine_of (half_angle A)) 0 greatest_angle
  sine_half =
      widen (sine_between (half_angle A) (omega (arith, half_angle_most A A-most))) (omega arith) (half_angle_most A A-most)

  cosine_half : Between (cosine_of (half_angle A)) 451688645 scale
  cosine_half = cosine_above greatest_angle (half_angle A) (omega arith) (half_angle_most A A-most)

  pub tan_between : Between (tan_of A) 0 2318405749
  unfolding tan_of
  tan_between =
      quotient_between
      (product_between sine_half (natural scale {least = 0} {most = scale} (omega arith) (omega arith)))
      cosine_half
      2318405749
      (omega arith)

  pub turn_between : (R : ℕ) → R ≤ 5000000 → Between (rounded (pos (R * full_angle A)) 1000000) 0 10471975510
  turn_between R h =
      rounded_between 1000000 10471975510 (omega arith)
      (product_between
      (natural R {least = 0} {most = 5000000} (omega arith) h)
      (natural (full_angle A) {least = 0} {most = 2094395102} (omega arith) (full_angle_most A A-most)))
      (omega arith)

-- ---- every value of the rule

-- For a curve in range: the angles, the ratios that quotients are taken of, and the elements.
pub record RuleBounds (A R L : ℕ) : Type 0 where
  pub full : full_angle A ≤ 2094395102
  pub half : half_angle A ≤ 1047197551
  pub t : spiral_angle R L ≤ 500000000
  pub x : Between (unit_x (spiral_angle R L)) 975000000 1000000000
  pub y : Between (unit_y (spiral_angle R L)) 0 166666666
  pub sine : Between (sine_of (spiral_angle R L)) 0 500000000
  pub cosine : Between (pos scale -ℤ cosine_of (spiral_angle R L)) 0 1000000000
  pub sine_half : Between (sine_of (half_angle A)) 0 1047197551
  pub cosine_half : Between (cosine_of (half_angle A)) 451688645 1000000000
  pub tan : Between (tan_of A) 0 2318405749
  pub X : Between (spiral_x R L) 0 500000000
  pub Y : Between (spiral_y R L) 0 83333333
  pub k : Between (centre_of R L) 0 500000000
  pub p : Between (shift_of R L) 0 83333333
  pub turn : Between (rounded (pos (R * full_angle A)) 1000000) 0 10471975510
  pub TT : Between (tangent_of A R L) 0 12300000000

pub bounds : (A R L : ℕ) → CurveInRange A R L → RuleBounds A R L
unfolding tangent_of
bounds A R L ok =
    let Am = ok.A-most in
    let Rm = ok.R-most in
    let Lm = ok.L-most in
    let LR = ok.L-to-R in
    let t = t_most R L Rm Lm LR in
    record {
      full = full_angle_most A Am;
      half = half_angle_most A Am;
      t = t;
      x = x_t R L Rm Lm LR;
      y = y_t R L Rm Lm LR;
      sine = widen (sine_t R L Rm Lm LR) (omega arith) t;
      cosine = one_less_cosine R L Rm Lm LR;
      sine_half = sine_half A Am;
      cosine_half = cosine_half A Am;
      tan = tan_between A Am;
      X = X-between R L Rm Lm LR;
      Y = Y-between R L Rm Lm LR;
      k = k_between R L Rm Lm LR;
      p = p_between R L Rm Lm LR;
      turn = turn_between A Am R Rm;
      TT =
          sum_between (k_between R L Rm Lm LR)
          (rounded_between scale 11800000000 (omega arith)
          (product_between
          (sum_between (natural (1000 * R) {least = 0} {most = 5000000000} (omega arith) (omega arith)) (p_between R L Rm Lm LR))
          (tan_between A Am))
          (omega arith));
    }
