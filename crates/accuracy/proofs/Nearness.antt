-- How near a whole number of the rule, at a scale, is to an exact fraction: one relation with an error either way, and one law for each
-- operation. Assumes nothing.
use mathlib.Core.Path.{◌≡◌, refl, ap, subst}
use Prim.Native.Nat.{ℕ, zero, suc, ◌+◌, ◌*◌, ◌≤◌, ◌<◌}
use native.Mathlib.Nat.{mul-one, one-mul, mul-le-mul_left, mul-le-mul_right, le_of_mul-le-mul_right, not-suc-le-zero}
use native.Mathlib.Omega.{arith}
use lib.IntN.{ℤ, pos, ◌+ℤ◌, ◌-ℤ◌, ◌*ℤ◌}
use Rattle.numbers.specs.Whole.{down, Between}
use Rattle.numbers.proofs.Products.{products}
use Rattle.numbers.specs.Fractions.{Fraction, whole, nat, ◌⊕◌, ◌⊖◌, ◌⊗◌, ◌⊘◌}
use Rattle.accuracy.proofs.Parts.{plus, minus, plus_times, minus_times, times_plus, times_minus, sum_parts, difference_parts, down_most, down_least, as_pos}

-- One side of nearness: a number with the parts a1 and a2 is at most s times the fraction with u1 and u2 over d, and x thousandths of a unit.
pub record Side (s a1 a2 u1 u2 d x : ℕ) : Type 0 where
  pub holds : 1000 * (a1 * d + s * u2) ≤ 1000 * (a2 * d + s * u1) + x * d

-- q is `scale` times v, but for at most `short` thousandths of a unit below and `over` above.
pub record Near (scale : ℕ) (q : ℤ) (v : Fraction) (short over : ℕ) : Type 0 where
  pub least : Side scale (minus q) (plus q) (minus v.top) (plus v.top) v.under short
  pub most : Side scale (plus q) (minus q) (plus v.top) (minus v.top) v.under over

-- From its two sides, with the fraction's numbers written otherwise.
pub near_of : {s : ℕ} {q : ℤ} {v : Fraction} {u1 u2 d x y : ℕ} → plus v.top ≡ u1 → minus v.top ≡ u2 → v.under ≡ d
    → Side s (minus q) (plus q) u2 u1 d x → Side s (plus q) (minus q) u1 u2 d y → Near s q v x y
near_of p m u l h = record { least = rw (p, m, u) l; most = rw (p, m, u) h }

-- Larger errors.
pub loosen : {s : ℕ} {q : ℤ} {v : Fraction} {x y x' y' : ℕ} → x ≤ x' → y ≤ y' → Near s q v x y → Near s q v x' y'
loosen {v = v} e f h = record { least = looser h.least e; most = looser h.most f }
  where
    looser : {s a1 a2 u1 u2 d x x' : ℕ} → Side s a1 a2 u1 u2 d x → x ≤ x' → Side s a1 a2 u1 u2 d x'
    looser {d = d} h e = record { holds = omega (arith, h, mul-le-mul_right d e) }

-- A nearness of a number in a range is one of a natural number.
pub near_value : {s least most x y : ℕ} {z : ℤ} {v : Fraction} (b : Between z least most) → Near s z v x y → Near s (pos b.value) v x y
near_value {s} {x = x} {y = y} {v = v} b h = subst (λ (z : ℤ). Near s z v x y) b.same h

-- ---- a natural number

pub near_nat : (s k : ℕ) → Near s (pos (s * k)) (nat k) 0 0
unfolding whole
near_nat s k =
    record { least = record { holds = omega (arith, mul-one (s * k)) }; most = record { holds = omega (arith, mul-one (s * k)) } }

-- ---- another fraction of the same value

-- Fractions of the same value have equal cross products.
pub record Same (u v : Fraction) : Type 0 where
  pub cross : plus u.top * v.under + minus v.top * u.under ≡ plus v.top * u.under + minus u.top * v.under

same_side : {s a1 a2 u1 u2 d v1 v2 e x : ℕ} → zero < d → u1 * e + v2 * d ≡ v1 * d + u2 * e
    → Side s a1 a2 u1 u2 d x → Side s a1 a2 v1 v2 e x
same_side {s} {e = e} above c h =
    record {
      holds =
          le_of_mul-le-mul_right
          (simp products
          (omega (arith, simp products at (mul-le-mul_left e h.holds), simp products at (ap (λ (n : ℕ). s * n) c))))
          above;
    }

pub near_same : {s : ℕ} {q : ℤ} {u v : Fraction} {x y : ℕ} → Same u v → Near s q u x y → Near s q v x y
near_same {u = u} c h =
    record {
      least = same_side u.above (omega (arith, c)) h.least;
      most = same_side u.above c.cross h.most;
    }

-- ---- sum and difference

-- r = a − b by their parts; u over d and v over e; and w on top of their difference.
difference_side : {s a1 a2 b1 b2 r1 r2 u1 u2 v1 v2 w1 w2 d e x y : ℕ} → r1 + (a2 + b1) ≡ a1 + b2 + r2 → w1 + (u2 * e + v1 * d) ≡ u1 * e + v2 * d + w2
    → Side s a1 a2 u1 u2 d x → Side s b2 b1 v2 v1 e y → Side s r1 r2 w1 w2 (d * e) (x + y)
difference_side {s} {d = d} {e = e} p q h k =
    record {
      holds =
          simp products
          (omega (
            arith,
            simp products at (ap (λ (n : ℕ). d * e * n) p),
            simp products at (ap (λ (n : ℕ). s * n) q),
            simp products at (mul-le-mul_right e h.holds),
            simp products at (mul-le-mul_right d k.holds),
          ));
    }

-- The tops of a difference and of a sum, by their parts.
pub difference_top : (u v : Fraction) → plus (u ⊖ v).top + (minus u.top * v.under + plus v.top * u.under)
    ≡ plus u.top * v.under + minus v.top * u.under + minus (u ⊖ v).top
unfolding ◌⊖◌
difference_top u v = simp (plus_times, minus_times) at (difference_parts (u.top *ℤ pos v.under) (v.top *ℤ pos u.under))

pub sum_top : (u v : Fraction) → plus (u ⊕ v).top + (minus u.top * v.under + minus v.top * u.under)
    ≡ plus u.top * v.under + plus v.top * u.under + minus (u ⊕ v).top
unfolding ◌⊕◌
sum_top u v = simp (plus_times, minus_times) at (sum_parts (u.top *ℤ pos v.under) (v.top *ℤ pos u.under))

module _ {s : ℕ} {a b : ℤ} {u v : Fraction} {x y x' y' : ℕ} (h : Near s a u x y) (k : Near s b v x' y') where
  pub near_difference : Near s (a -ℤ b) (u ⊖ v) (x + y') (y + x')
  unfolding ◌⊖◌
  near_difference =
      record {
        least = difference_side (omega (arith, difference_parts a b)) (omega (arith, difference_top u v)) h.least k.most;
        most = difference_side (difference_parts a b) (difference_top u v) h.most k.least;
      }

  pub near_sum : Near s (a +ℤ b) (u ⊕ v) (x + x') (y + y')
  unfolding ◌⊕◌
  near_sum =
      record {
        least = difference_side (omega (arith, sum_parts a b)) (omega (arith, sum_top u v)) h.least k.least;
        most = difference_side (omega (arith, sum_parts a b)) (omega (arith, sum_top u v)) h.most k.most;
      }

-- ---- a multiple

multiple_side : {s a1 a2 u1 u2 d x : ℕ} (k : ℕ) → Side s a1 a2 u1 u2 d x → Side s (k * a1) (k * a2) (k * u1) (k * u2) (1 * d) (k * x)
multiple_side {d = d} k h = record { holds = rw (one-mul d) (simp products (simp products at (mul-le-mul_left k h.holds))) }

pub near_multiple : {s : ℕ} {q : ℤ} {v : Fraction} {x y : ℕ} (k : ℕ) → Near s q v x y → Near s (pos k *ℤ q) (nat k ⊗ v) (k * x) (k * y)
unfolding ◌⊗◌ whole
near_multiple {q = q} {v = v} k h =
    record {
      least = rw (times_plus k q, times_minus k q, times_plus k v.top, times_minus k v.top) (multiple_side k h.least);
      most = rw (times_plus k q, times_minus k q, times_plus k v.top, times_minus k v.top) (multiple_side k h.most);
    }

-- ---- a quotient by a natural number: of the fraction, and of the number, rounded

part_side : {s a1 a2 u1 u2 d x : ℕ} (n : ℕ) → Side s a1 a2 u1 u2 d x → Side (s * n) a1 a2 u1 u2 (d * n) x
part_side n h = record { holds = simp products (simp products at (mul-le-mul_left n h.holds)) }

pub near_part : {s : ℕ} {q : ℤ} {v : Fraction} {x y : ℕ} (n : ℕ) → zero < n → Near s q v x y → Near (s * n) q (v ⊘ n) x y
unfolding ◌⊘◌
near_part zero p h = absurd (not-suc-le-zero p)
near_part (suc n) p h = record { least = part_side (suc n) h.least; most = part_side (suc n) h.most }

-- The quotient r of a by m is off by c over 2m at the most.
pub quotient_side : {s a1 a2 r1 r2 u1 u2 d x x' : ℕ} (m c : ℕ) → zero < m → 2 * (r1 * m + a2) ≤ 2 * (a1 + r2 * m) + c → 2 * x + 1000 * c ≤ 2 * (x' * m)
    → Side (s * m) a1 a2 u1 u2 d x → Side s r1 r2 u1 u2 d x'
quotient_side {d = d} m c above r e h =
    record {
      holds =
          le_of_mul-le-mul_right
          (simp products
          (omega (
            arith,
            simp products at (mul-le-mul_left d r),
            simp products at h.holds,
            simp products at (mul-le-mul_left d e),
          )))
          above;
    }

-- Rounded down it is short by one unit more at most.
pub near_down : {s : ℕ} {q : ℤ} {v : Fraction} {x y : ℕ} (m x' y' : ℕ) → zero < m
    → x + 1000 * m ≤ x' * m → y ≤ y' * m → Near (s * m) q v x y → Near s (down q m) v x' y'
near_down {q = q} m x' y' above e f h =
    record {
      least = quotient_side m (2 * m) above (omega (arith, down_least q above)) (omega arith) h.least;
      most = quotient_side m 0 above (omega (arith, down_most q above)) (omega arith) h.most;
    }

-- ---- a product of natural numbers, whose second fraction is not below zero

-- The error of a product is a times that of b, and r × n, the second fraction, times that of a.
product_error : (s r a b u1 u2 n d e : ℕ)
    → 1000 * (a * b * (d * e) + s * r * (u2 * n)) + a * d * (1000 * (r * n)) + r * n * (1000 * (s * u1))
    ≡ 1000 * (s * r * (u1 * n)) + a * d * (1000 * (b * e)) + r * n * (1000 * (a * d + s * u2))
product_error s r a b u1 u2 n d e = simp products (omega arith)

weighed : (L R a f d e J K P Q x y M N : ℕ) → L + a * d * J + f * Q ≡ R + a * d * K + f * P
    → K ≤ J + y * e → P ≤ Q + x * d → a ≤ M → f ≤ N * e → L ≤ R + (M * y + N * x) * (d * e)
weighed L R a f d e J K P Q x y M N i k h m n =
    simp products
    (omega (
      arith,
      simp products at i,
      simp products at (mul-le-mul_left (a * d) k),
      simp products at (mul-le-mul_left f h),
      simp products at (mul-le-mul_left (y * d * e) m),
      simp products at (mul-le-mul_left (x * d) n),
    ))

-- Both sides of a product: a near u1 − u2 over d, b near n over e; M is a bound of a, and N one of r times the second fraction.
product_sides : (s r a b u1 u2 n d e x y x' y' M N : ℕ) → Side s 0 a u2 u1 d x → Side s a 0 u1 u2 d y → Side r 0 b 0 n e x' → Side r b 0 n 0 e y'
    → a ≤ M → r * n ≤ N * e
    → Side (s * r) 0 (a * b) (u2 * n) (u1 * n) (d * e) (M * x' + N * x) × Side (s * r) (a * b) 0 (u1 * n) (u2 * n) (d * e) (M * y' + N * y)
product_sides s r a b u1 u2 n d e x y x' y' M N l h m k f g =
    let product = 1000 * (a * b * (d * e) + s * r * (u2 * n)) in
    let exact = 1000 * (s * r * (u1 * n)) in
    let A = 1000 * (a * d + s * u2) in
    let U = 1000 * (s * u1) in
    let B = 1000 * (b * e) in
    let V' = 1000 * (r * n) in
    let error = product_error s r a b u1 u2 n d e in
    let low = weighed exact product a (r * n) d e B V' U A x x' M N (omega (arith, error)) (omega (arith, m)) (omega (arith, l)) f g in
    let high = weighed product exact a (r * n) d e V' B A U y y' M N error (omega (arith, k)) (omega (arith, h)) f g in
    (record { holds = omega (arith, low) }, record { holds = omega (arith, high) })

pub near_product : {s r a b : ℕ} {u v : Fraction} {x y x' y' : ℕ} (M N : ℕ)
    → Near s (pos a) u x y → Near r (pos b) v x' y' → minus v.top ≡ zero → a ≤ M → r * plus v.top ≤ N * v.under
    → Near (s * r) (pos (a * b)) (u ⊗ v) (M * x' + N * x) (M * y' + N * y)
unfolding ◌⊗◌
near_product {u = u} {v = v} M N h k z f g =
    let n = plus v.top in
    let sides =
    product_sides _ _ _ _ (plus u.top) (minus u.top) n _ _ _ _ _ _ M N h.least h.most (rw z at k.least) (rw z at k.most) f g in
    near_of (rw (as_pos v.top z) (plus_times u.top n)) (rw (as_pos v.top z) (minus_times u.top n)) refl sides.0 sides.1
