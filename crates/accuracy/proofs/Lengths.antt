-- Lengths of the rule of 1,000 µm and more, or less, and what they say of the exact ones. Assumes nothing.
use mathlib.Core.Path.{◌≡◌, ap}
use mathlib.Core.Bool.{false}
use Prim.Native.Nat.{ℕ, zero, ◌+◌, ◌*◌, ◌≤◌, ◌<◌}
use native.Mathlib.Nat.{add-mul, mul_assoc, suc-mul, mul-le-mul_right, mul-pos}
use native.Mathlib.Omega.{arith}
use lib.IntN.{ℤ, pos, negsuc, ◌*ℤ◌}
use lib.Signed.{le_z}
use borrow.Author.Tests.{leb-false}
use Rattle.numbers.proofs.Products.{products}
use Rattle.numbers.specs.Fractions.{Fraction, whole, ◌⊕◌, ◌⊘◌, ◌≼◌, ◌≺◌}
use Rattle.accuracy.specs.Accuracy.{tenths}
use Rattle.accuracy.proofs.Parts.{plus, minus, plus_times, minus_times, no_minus, le_parts, lt_parts, parts_lt}
use Rattle.accuracy.proofs.Nearness.{Near, sum_top}

-- A number of m µm and more is near a length above k tenths of a mm.
pub longer : {q : ℕ} {v : Fraction} {x y : ℕ} (m k : ℕ) → Near 1000 (pos q) v x y → m ≤ q → 100000 * k + y < 1000 * m → tenths k ≺ v
unfolding ◌⊘◌ whole
longer {q} {v} {x} {y} m k h l e =
    record {
      cross =
          lt_parts (pos (k * v.under)) (v.top *ℤ pos (1 * 10))
          (simp (plus_times, minus_times)
          (omega (
            arith,
            h.most,
            v.above,
            mul-le-mul_right v.under l,
            simp (add-mul, mul_assoc, suc-mul) at (mul-le-mul_right v.under e),
          )));
    }

-- A number that does not reach m µm is near a length below k tenths of a mm.
pub shorter : {q : ℤ} {v : Fraction} {x y : ℕ} (m k : ℕ) → Near 1000 q v x y → le_z (pos m) q ≡ false → 1000 * m + x ≤ 100000 * k → v ≺ tenths k
unfolding ◌⊘◌ whole
shorter {q} {v} {x} {y} m k h l e =
    record {
      cross =
          lt_parts (v.top *ℤ pos (1 * 10)) (pos (k * v.under))
          (simp (plus_times, minus_times)
          (omega (
            arith,
            h.least,
            v.above,
            simp (add-mul, suc-mul) at (mul-le-mul_right v.under (below q l)),
            simp (add-mul, mul_assoc) at (mul-le-mul_right v.under e),
          )));
    }
  where
    below : (q : ℤ) → le_z (pos m) q ≡ false → plus q < m + minus q
    below (pos a) l = let h = leb-false m a l in omega arith
    below (negsuc a) l = omega arith

-- ---- to go on by a length that is above zero

pub above_tenths : {v : Fraction} (k : ℕ) → tenths k ≺ v → zero < plus v.top
unfolding ◌⊘◌ whole
above_tenths {v} k h =
    let l = parts_lt (pos (k * v.under)) (v.top *ℤ pos (1 * 10)) h.cross in
    omega (arith, plus_times v.top 10)

pub not_below : {v : Fraction} (k : ℕ) → tenths k ≺ v → minus v.top ≡ zero
not_below {v} k h = no_minus v.top (above_tenths k h)

forward_side : (u1 u2 v d e w1 w2 : ℕ) → w1 + u2 * e ≡ u1 * e + v * d + w2 → u1 * (d * e) + w2 * d + v * d * d ≡ w1 * d + u2 * (d * e)
forward_side u1 u2 v d e w1 w2 h = simp products (omega (arith, simp products at (ap (λ (n : ℕ). n * d) h)))

module _ (u v : Fraction) where
  -- The cross products of u and of u ⊕ v differ by v's part.
  beyond : minus v.top ≡ zero
      → plus (u.top *ℤ pos (u ⊕ v).under) + minus ((u ⊕ v).top *ℤ pos u.under) + plus v.top * u.under * u.under
      ≡ plus ((u ⊕ v).top *ℤ pos u.under) + minus (u.top *ℤ pos (u ⊕ v).under)
  unfolding ◌⊕◌
  beyond z =
      rw (plus_times u.top (u.under * v.under), minus_times u.top (u.under * v.under), plus_times (u ⊕ v).top u.under, minus_times (u ⊕ v).top u.under)
      (forward_side _ _ _ u.under v.under _ _ (omega (arith, rw z at (sum_top u v))))

  pub not_back : minus v.top ≡ zero → u ≼ u ⊕ v
  not_back z = record { cross = le_parts _ _ (omega (arith, beyond z)) }

  pub onward : zero < plus v.top → u ≺ u ⊕ v
  onward p =
      record {
        cross = lt_parts _ _ (omega (arith, beyond (no_minus v.top p), mul-pos (mul-pos p u.above) u.above));
      }
