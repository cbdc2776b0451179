-- Whole numbers with their sign turned: sizes, products, and which side of zero they lie on. Assumes nothing.
use mathlib.Core.Path.{◌≡◌, refl, sym, ◌∙◌, ap}
use mathlib.Core.Bool.{true, not}
use Prim.Native.Nat.{zero, suc, ◌≤◌}
use native.Mathlib.Omega.{arith}
use lib.IntN.{ℤ, pos, negsuc, neg_ℤ, nat_abs, ◌+ℤ◌, ◌-ℤ◌, ◌*ℤ◌, neg_ℤ-neg_ℤ, neg_ℤ-+ℤ, +ℤ_assoc, +ℤ_comm, +ℤ_idl, +ℤ_invr, *ℤ_comm, *ℤ-negsuc, *ℤ-zero}
use lib.Signed.{lt_z}
use borrow.Author.Tests.{lt-ltb, ltb-true}
use Rattle.numbers.proofs.Tests.{clash}

pub size_negative : (z : ℤ) → nat_abs (neg_ℤ z) ≡ nat_abs z
size_negative (pos zero) = refl
size_negative (pos (suc n)) = refl
size_negative (negsuc n) = refl

pub times_negative : (x y : ℤ) → x *ℤ neg_ℤ y ≡ neg_ℤ (x *ℤ y)
times_negative x (pos zero) = *ℤ-zero x ∙ sym (ap neg_ℤ (*ℤ-zero x))
times_negative x (pos (suc n)) = *ℤ-negsuc x n
times_negative x (negsuc n) = sym (ap neg_ℤ (*ℤ-negsuc x n) ∙ neg_ℤ-neg_ℤ (x *ℤ pos (suc n)))

pub negative_times : (x y : ℤ) → neg_ℤ x *ℤ y ≡ neg_ℤ (x *ℤ y)
negative_times x y = *ℤ_comm (neg_ℤ x) y ∙ times_negative y x ∙ ap neg_ℤ (*ℤ_comm y x)

pub negative_difference : (x y : ℤ) → neg_ℤ x -ℤ neg_ℤ y ≡ neg_ℤ (x -ℤ y)
negative_difference x y = sym (neg_ℤ-+ℤ x (neg_ℤ y))

-- A difference the other way round.
pub turned_difference : (a b : ℤ) → neg_ℤ (a -ℤ b) ≡ b -ℤ a
turned_difference a b = neg_ℤ-+ℤ a (neg_ℤ b) ∙ ap (λ (z : ℤ). neg_ℤ a +ℤ z) (neg_ℤ-neg_ℤ b) ∙ +ℤ_comm (neg_ℤ a) b

-- What is added to both goes out of a difference.
pub moved_difference : (x y e : ℤ) → (x +ℤ e) -ℤ (y +ℤ e) ≡ x -ℤ y
moved_difference x y e =
    ap (λ (z : ℤ). (x +ℤ e) +ℤ z) (neg_ℤ-+ℤ y e ∙ +ℤ_comm (neg_ℤ y) (neg_ℤ e))
    ∙ +ℤ_assoc x e (neg_ℤ e +ℤ neg_ℤ y)
    ∙ ap (λ (z : ℤ). x +ℤ z) (sym (+ℤ_assoc e (neg_ℤ e) (neg_ℤ y)) ∙ ap (λ (z : ℤ). z +ℤ neg_ℤ y) (+ℤ_invr e) ∙ +ℤ_idl (neg_ℤ y))

-- A number above zero is its size.
pub above_zero : (z : ℤ) → lt_z (pos 0) z ≡ true → (pos (nat_abs z) ≡ z) × (1 ≤ nat_abs z)
above_zero (pos n) e = (refl, ltb-true 0 n e)
above_zero (negsuc n) e = clash e refl

-- Either a number or its negative is above zero, where it is not zero.
pub other_side_lem : (z : ℤ) → (nat_abs z ≡ 0 → ⊥) → lt_z (pos 0) (neg_ℤ z) ≡ not (lt_z (pos 0) z)
other_side_lem (pos zero) h = absurd (h refl)
other_side_lem (pos (suc n)) h = sym (ap not (lt-ltb 0 (suc n) (omega arith)))
other_side_lem (negsuc n) h = lt-ltb 0 (suc n) (omega arith)
