-- Products of a whole number with natural ones: over sums and products. Assumes nothing.
use mathlib.Core.Path.{◌≡◌, sym, ◌∙◌, ap}
use Prim.Native.Nat.{ℕ, zero, suc, ◌+◌, ◌*◌, ◌<◌}
use native.Mathlib.Nat.{mul_assoc, mul-add, zero-div}
use lib.IntN.{ℤ, pos, negsuc, suc_ℤ, pred_ℤ, neg_ℤ, ◌+ℤ◌, ◌-ℤ◌, ◌*ℤ◌, +ℤ_idl, +ℤ_idr, +ℤ_assoc, +ℤ_comm, suc_ℤ-+ℤ, pred_ℤ-+ℤ, suc_ℤ-*ℤ, pred_ℤ-*ℤ, zero-*ℤ, neg_ℤ-+ℤ, *ℤ_comm, *ℤ-negsuc}
use Rattle.numbers.specs.Whole.{down}
use Rattle.numbers.proofs.Floors.{down_down, down_plus}
use Rattle.numbers.proofs.Signs.{negative_times, times_negative}

-- The last two of a sum change places.
pub swap : (x y z : ℤ) → x +ℤ y +ℤ z ≡ x +ℤ z +ℤ y
swap x y z = +ℤ_assoc x y z ∙ ap (λ (w : ℤ). x +ℤ w) (+ℤ_comm y z) ∙ sym (+ℤ_assoc x z y)

module _ (b : ℤ) (n : ℕ) where
  Sums : ℤ → Type 0
  Sums a = (a +ℤ b) *ℤ pos n ≡ a *ℤ pos n +ℤ b *ℤ pos n

  none : Sums (pos zero)
  unfolding Sums
  none = ap (λ (z : ℤ). z *ℤ pos n) (+ℤ_idl b) ∙ sym (+ℤ_idl (b *ℤ pos n)) ∙ ap (λ (z : ℤ). z +ℤ b *ℤ pos n) (sym (zero-*ℤ (pos n)))

  up : (a : ℤ) → Sums a → Sums (suc_ℤ a)
  unfolding Sums
  up a e =
      ap (λ (z : ℤ). z *ℤ pos n) (suc_ℤ-+ℤ a b) ∙ suc_ℤ-*ℤ (a +ℤ b) (pos n) ∙ ap (λ (z : ℤ). z +ℤ pos n) e
      ∙ swap (a *ℤ pos n) (b *ℤ pos n) (pos n) ∙ ap (λ (z : ℤ). z +ℤ b *ℤ pos n) (sym (suc_ℤ-*ℤ a (pos n)))

  below : (a : ℤ) → Sums a → Sums (pred_ℤ a)
  unfolding Sums
  below a e =
      ap (λ (z : ℤ). z *ℤ pos n) (pred_ℤ-+ℤ a b) ∙ pred_ℤ-*ℤ (a +ℤ b) (pos n) ∙ ap (λ (z : ℤ). z -ℤ pos n) e
      ∙ swap (a *ℤ pos n) (b *ℤ pos n) (neg_ℤ (pos n)) ∙ ap (λ (z : ℤ). z +ℤ b *ℤ pos n) (sym (pred_ℤ-*ℤ a (pos n)))

  sums : (a : ℤ) → Sums a
  sums (pos zero) = none
  sums (pos (suc a)) = up (pos a) (sums (pos a))
  sums (negsuc zero) = below (pos zero) none
  sums (negsuc (suc a)) = below (negsuc a) (sums (negsuc a))

pub sum_times : (a b : ℤ) (n : ℕ) → (a +ℤ b) *ℤ pos n ≡ a *ℤ pos n +ℤ b *ℤ pos n
unfolding Sums
sum_times a b n = sums b n a

pub difference_times : (a b : ℤ) (n : ℕ) → (a -ℤ b) *ℤ pos n ≡ a *ℤ pos n -ℤ b *ℤ pos n
difference_times a b n = sum_times a (neg_ℤ b) n ∙ ap (λ (z : ℤ). a *ℤ pos n +ℤ z) (negative_times b (pos n))

pub times_times : (a : ℤ) (m n : ℕ) → a *ℤ pos m *ℤ pos n ≡ a *ℤ pos (m * n)
times_times (pos a) m n = ap pos (mul_assoc a m n)
times_times (negsuc a) m n =
    negative_times (pos (suc a * m)) (pos n) ∙ ap (λ (k : ℕ). neg_ℤ (pos k)) (mul_assoc (suc a) m n)

pub times_sum : (a : ℤ) (m n : ℕ) → a *ℤ pos (m + n) ≡ a *ℤ pos m +ℤ a *ℤ pos n
times_sum (pos a) m n = ap pos (mul-add a m n)
times_sum (negsuc a) m n = ap (λ (k : ℕ). neg_ℤ (pos k)) (mul-add (suc a) m n) ∙ neg_ℤ-+ℤ (pos (suc a * m)) (pos (suc a * n))

-- ---- the same with a whole number

pub sum_product : (a b c : ℤ) → (a +ℤ b) *ℤ c ≡ a *ℤ c +ℤ b *ℤ c
sum_product a b (pos n) = sum_times a b n
sum_product a b (negsuc n) =
    *ℤ-negsuc (a +ℤ b) n ∙ ap neg_ℤ (sum_times a b (suc n)) ∙ neg_ℤ-+ℤ (a *ℤ pos (suc n)) (b *ℤ pos (suc n))
    ∙ sym (λ j. *ℤ-negsuc a n j +ℤ *ℤ-negsuc b n j)

pub product_sum : (a b c : ℤ) → a *ℤ (b +ℤ c) ≡ a *ℤ b +ℤ a *ℤ c
product_sum a b c = *ℤ_comm a (b +ℤ c) ∙ sum_product b c a ∙ (λ j. *ℤ_comm b a j +ℤ *ℤ_comm c a j)

pub product_times : (a b : ℤ) (n : ℕ) → a *ℤ b *ℤ pos n ≡ a *ℤ (b *ℤ pos n)
product_times a (pos m) n = times_times a m n
product_times a (negsuc m) n =
    ap (λ (z : ℤ). z *ℤ pos n) (*ℤ-negsuc a m) ∙ negative_times (a *ℤ pos (suc m)) (pos n)
    ∙ ap neg_ℤ (times_times a (suc m) n) ∙ sym (times_negative a (pos (suc m * n)))

-- A quotient without a rest.
pub down_times : (z : ℤ) (m : ℕ) → 0 < m → down (z *ℤ pos m) m ≡ z
down_times z m h =
    ap (λ (y : ℤ). down y m) (sym (+ℤ_idr (z *ℤ pos m))) ∙ down_plus (pos 0) m h z
    ∙ ap (λ (k : ℕ). z +ℤ pos k) (zero-div m) ∙ +ℤ_idr z

-- A fraction may be cancelled.
pub down_cancel : (z : ℤ) (m n : ℕ) → 0 < m → down (z *ℤ pos m) (m * n) ≡ down z n
down_cancel z m n h = sym (down_down (z *ℤ pos m) m n) ∙ ap (λ (y : ℤ). down y n) (down_times z m h)
