-- Quotients rounded down: two in a row are one, and a whole part goes through. Assumes nothing.
use mathlib.Core.Path.{◌≡◌, refl, sym, ◌∙◌, ap}
use mathlib.Core.Bool.{Bool, true, false, cond}
use Prim.Native.Nat.{ℕ, zero, suc, ◌+◌, ◌-◌, ◌*◌, ◌/◌, ◌<◌}
use native.Mathlib.Nat.{add-div_left, div-eq_of_lt, div-div-eq-div-mul, zero-mul, add-div_right}
use native.Mathlib.Numerals.{add-one}
use native.Mathlib.Omega.{arith}
use lib.Dec.{ltb}
use lib.IntN.{ℤ, pos, negsuc, suc_ℤ, pred_ℤ, ◌+ℤ◌, ◌*ℤ◌, +ℤ_idl, +ℤ_assoc, +ℤ_comm, suc_ℤ-+ℤ, pred_ℤ-+ℤ, suc_ℤ-*ℤ, pred-suc}
use borrow.Author.Tests.{ltb-true, ltb-false}
use Rattle.numbers.specs.Whole.{down}

-- Two floors in a row are one, by the product of the divisors.
pub down_down : (z : ℤ) (m n : ℕ) → down (down z m) n ≡ down z (m * n)
down_down (pos a) m n = ap pos (div-div-eq-div-mul a m n)
down_down (negsuc a) m n = ap negsuc (div-div-eq-div-mul a m n)

-- One divisor more is one more.
down_more : (z : ℤ) (m : ℕ) → 0 < m → down (z +ℤ pos m) m ≡ suc_ℤ (down z m)
down_more (pos a) m h = ap pos (add-div_right a h ∙ add-one (a / m))
down_more (negsuc a) m h = go (ltb m (suc a)) refl
  where
    go : (t : Bool) → ltb m (suc a) ≡ t → down (cond t (negsuc (suc a - suc m)) (pos (m - suc a))) m ≡ suc_ℤ (negsuc (a / m))
    go true e =
        let l = ltb-true m (suc a) e in
        let s : a ≡ m + (suc a - suc m) = omega arith in
        let q : a / m ≡ suc ((suc a - suc m) / m) = ap (λ (n : ℕ). n / m) s ∙ add-div_left (suc a - suc m) h ∙ add-one _ in
        rw q
    go false e =
        let l = ltb-false m (suc a) e in
        let p : a / m ≡ 0 = div-eq_of_lt (omega arith) in
        let q : (m - suc a) / m ≡ 0 = div-eq_of_lt (omega arith) in
        rw (p, q)

module _ (b : ℤ) (m : ℕ) (h : 0 < m) where
  step : (z : ℤ) → down (suc_ℤ z *ℤ pos m +ℤ b) m ≡ suc_ℤ (down (z *ℤ pos m +ℤ b) m)
  step z =
      ap (λ (y : ℤ). down (y +ℤ b) m) (suc_ℤ-*ℤ z (pos m))
      ∙ ap (λ (y : ℤ). down y m) (+ℤ_assoc (z *ℤ pos m) (pos m) b ∙ ap (λ (y : ℤ). z *ℤ pos m +ℤ y) (+ℤ_comm (pos m) b) ∙ sym (+ℤ_assoc (z *ℤ pos m) b (pos m)))
      ∙ down_more (z *ℤ pos m +ℤ b) m h

  back : (z : ℤ) → down (suc_ℤ z *ℤ pos m +ℤ b) m ≡ suc_ℤ z +ℤ down b m → down (z *ℤ pos m +ℤ b) m ≡ z +ℤ down b m
  back z e =
      sym (pred-suc _) ∙ ap pred_ℤ (sym (step z) ∙ e) ∙ sym (pred_ℤ-+ℤ (suc_ℤ z) (down b m))
      ∙ ap (λ (y : ℤ). y +ℤ down b m) (pred-suc z)

  none : down (pos zero *ℤ pos m +ℤ b) m ≡ pos zero +ℤ down b m
  none = ap (λ (n : ℕ). down (pos n +ℤ b) m) (zero-mul m) ∙ ap (λ (y : ℤ). down y m) (+ℤ_idl b) ∙ sym (+ℤ_idl (down b m))

  -- A whole number goes through the floor.
  pub down_plus : (z : ℤ) → down (z *ℤ pos m +ℤ b) m ≡ z +ℤ down b m
  down_plus (pos zero) = none
  down_plus (pos (suc n)) = step (pos n) ∙ ap suc_ℤ (down_plus (pos n)) ∙ sym (suc_ℤ-+ℤ (pos n) (down b m))
  down_plus (negsuc zero) = back (negsuc zero) none
  down_plus (negsuc (suc n)) = back (negsuc (suc n)) (down_plus (negsuc n))

-- A whole number and a fraction, rounded down over the product of the denominators: round the fraction, then the sum.
pub two_floors : (a b : ℤ) (m n : ℕ) → 0 < m → down (a *ℤ pos m +ℤ b) (m * n) ≡ down (a +ℤ down b m) n
two_floors a b m n h = sym (down_down (a *ℤ pos m +ℤ b) m n) ∙ ap (λ (z : ℤ). down z n) (down_plus b m h a)
