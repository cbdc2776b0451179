-- A quotient of two numbers above zero, and the exact quotient of the fractions they are near. Assumes nothing.
use mathlib.Core.Path.{◌≡◌, refl, ◌∙◌, ap}
use Prim.Native.Nat.{ℕ, zero, suc, ◌+◌, ◌*◌, ◌/◌, ◌≤◌, ◌<◌}
use native.Mathlib.Nat.{mul_assoc, mul-one, zero-mul, mul-le-mul_left, mul-le-mul_right, le_of_mul-le-mul_right, div-mul-le_self, lt-div-mul-add, not-suc-le-zero}
use native.Mathlib.Omega.{arith}
use lib.IntN.{ℤ, pos, negsuc, ◌*ℤ◌}
use Rattle.numbers.proofs.Products.{products}
use Rattle.elements.specs.WorkingRule.{scale}
use Rattle.numbers.specs.Fractions.{Fraction, whole, nat, ◌⊗◌, over, ratio}
use Rattle.accuracy.proofs.Parts.{plus, minus, plus_times, minus_times, no_minus}
use Rattle.accuracy.proofs.Nearness.{Side, Near, near_of}
use Rattle.accuracy.proofs.Powers.{part_top, part_under}

-- ---- a fraction near a number that is above its error is above zero

pub above_zero : {s q : ℕ} {v : Fraction} {x y : ℕ} → Near s (pos q) v x y → y < 1000 * q → zero < plus v.top
above_zero {s} {q} {v} {x} {y} h l = positive (plus v.top) refl
  where
    positive : (n : ℕ) → plus v.top ≡ n → zero < n
    positive zero e =
        absurd
        (omega (arith, rw e at h.most.holds, simp products at (mul-le-mul_right v.under l), v.above))
    positive (suc n) e = omega arith

-- ---- the two sides of a quotient

-- The error of a quotient r of a by b: b times it is made up of those of the rounding, of a and of b.
quotient_error : (S r a b u d n e : ℕ)
    → b * (1000 * (r * (d * n))) + 1000 * (d * n) * (a * S) + S * n * (1000 * (S * u)) + S * u * (1000 * (b * e))
    ≡ b * (1000 * (S * (u * e))) + 1000 * (d * n) * (r * b) + S * n * (1000 * (a * d)) + S * u * (1000 * (S * n))
quotient_error S r a b u d n e = simp products (omega arith)

divided : (S u d n e b C L R G H P Q J K x y Z T g : ℕ) → zero < b
    → b * L + 1000 * (d * n) * G + S * n * Q + S * u * K ≡ b * R + 1000 * (d * n) * H + S * n * P + S * u * J
    → H ≤ G + g * b → P ≤ Q + y * d → J ≤ K + x * e
    → S * u * e ≤ T * (d * n) → S * y + T * x ≤ Z * C → C ≤ b
    → L ≤ R + (Z + 1000 * g) * (d * n)
divided S u d n e b C L R G H P Q J K x y Z T g above i h p j t z c =
    le_of_mul-le-mul_right
    (simp products
    (omega (
      arith,
      simp products at i,
      simp products at (mul-le-mul_left (1000 * (d * n)) h),
      simp products at (mul-le-mul_left (S * n) p),
      simp products at (mul-le-mul_left (S * u) j),
      simp products at (mul-le-mul_left x t),
      simp products at (mul-le-mul_left (d * n) z),
      simp products at (mul-le-mul_left (Z * (d * n)) c),
    )))
    above

-- Both sides of the quotient r of a by b: a near u over d, b near n over e. C is a lower bound of b, and T one above the exact quotient, scaled.
quotient_sides : (a b u d n e x y x' y' C T X Y : ℕ) → zero < C → C ≤ b
    → Side scale 0 a 0 u d x → Side scale a 0 u 0 d y → Side scale 0 b 0 n e x' → Side scale b 0 n 0 e y'
    → scale * u * e ≤ T * (d * n) → scale * x + T * y' ≤ X * C → scale * y + T * x' ≤ Y * C
    → Side scale 0 (a * scale / b) 0 (u * e) (d * n) (X + 1000) × Side scale (a * scale / b) 0 (u * e) 0 (d * n) Y
quotient_sides a b u d n e x y x' y' C T X Y C-above c l h m k t p q =
    let r = a * scale / b in
    let b_above : zero < b = omega arith in
    let quotient = 1000 * (r * (d * n)) in
    let exact = 1000 * (scale * (u * e)) in
    let A = 1000 * (a * d) in
    let U = 1000 * (scale * u) in
    let B = 1000 * (b * e) in
    let N = 1000 * (scale * n) in
    let error = quotient_error scale r a b u d n e in
    let low =
    divided scale u d n e b C exact quotient (r * b) (a * scale) U A B N y' x X T 1 b_above
    (omega (arith, error))
    (omega (arith, lt-div-mul-add {a = a * scale} b_above))
    (omega (arith, l))
    (omega (arith, k))
    t
    p
    c in
    let high =
    divided scale u d n e b C quotient exact (a * scale) (r * b) A U N B x' y Y T 0 b_above error
    (omega (arith, div-mul-le_self (a * scale) b))
    (omega (arith, h))
    (omega (arith, m))
    t
    q
    c in
    (record { holds = omega (arith, low) }, record { holds = omega (arith, high) })

-- ---- the exact quotient, of two fractions above zero

module _ (u : Fraction) where
  over_top : (z : ℤ) (d : ℕ) → zero < plus z → (over u z d).top ≡ u.top *ℤ pos d
  unfolding over ◌⊗◌ whole
  over_top (pos n) d p = part_top (u ⊗ nat d) p
  over_top (negsuc n) d p = absurd (not-suc-le-zero p)

  over_under : (z : ℤ) (d : ℕ) → zero < plus z → (over u z d).under ≡ u.under * plus z
  unfolding over ◌⊗◌ whole
  over_under (pos n) d p = part_under (u ⊗ nat d) p ∙ ap (λ (m : ℕ). m * n) (mul-one u.under)
  over_under (negsuc n) d p = absurd (not-suc-le-zero p)

module _ (u v : Fraction) (u-above : zero < plus u.top) (v_above : zero < plus v.top) where
  ratio_plus : plus (ratio u v).top ≡ plus u.top * v.under
  unfolding ratio
  ratio_plus = rw (over_top u v.top v.under v_above) (plus_times u.top v.under)

  pub ratio_sign : minus (ratio u v).top ≡ zero
  unfolding ratio
  ratio_sign =
      rw (over_top u v.top v.under v_above, minus_times u.top v.under, no_minus u.top u-above) (zero-mul v.under)

  ratio_under : (ratio u v).under ≡ u.under * plus v.top
  unfolding ratio
  ratio_under = over_under u v.top v.under v_above

  -- T is at least the exact quotient, scaled; C is a lower bound of the divisor.
  module _ (T : ℕ) (bound : scale * plus u.top * v.under ≤ T * (u.under * plus v.top)) where
    pub ratio_most : scale * plus (ratio u v).top ≤ T * (ratio u v).under
    ratio_most = rw (ratio_plus, ratio_under) (rw mul_assoc at bound)

    pub near_ratio : {a b x y x' y' : ℕ} (C X Y : ℕ) → zero < C → C ≤ b → Near scale (pos a) u x y → Near scale (pos b) v x' y'
        → scale * x + T * y' ≤ X * C → scale * y + T * x' ≤ Y * C → Near scale (pos (a * scale / b)) (ratio u v) (X + 1000) Y
    near_ratio C X Y C-above c h k e f =
        let z = no_minus u.top u-above in
        let z' = no_minus v.top v_above in
        let sides =
        quotient_sides _ _ _ _ _ _ _ _ _ _ C T X Y C-above c (rw z at h.least) (rw z at h.most) (rw z' at k.least) (rw z' at k.most) bound e f in
        near_of ratio_plus ratio_sign ratio_under sides.0 sides.1
