-- The sizes of sums, differences, products and quotients of whole numbers, which keep them in 64 bits. Assumes nothing.
use mathlib.Core.Path.{◌≡◌, refl}
use mathlib.Core.Bool.{Bool, true, false, cond}
use Prim.Native.Nat.{ℕ, suc, ◌+◌, ◌-◌, ◌*◌, ◌≤◌, ◌<◌}
use native.Mathlib.Nat.{div-le_self}
use native.Mathlib.Omega.{arith}
use lib.Dec.{ltb}
use lib.IntN.{ℤ, pos, negsuc, neg_ℤ, nat_abs, sub_ℕ, ◌+ℤ◌, ◌-ℤ◌, ◌*ℤ◌}
use lib.Signed.{mag}
use mir.Syntax.{w64}
use mir.Val.{SFits, to_z, of_z}
use mir.Facts.{to_z-of_z}
use borrow.Author.Tests.{ltb-true}
use Rattle.numbers.specs.Whole.{down}
use Rattle.numbers.proofs.Signs.{size_negative}

size_rest : (a b : ℕ) → nat_abs (sub_ℕ a b) ≤ a + b
size_rest a b = go (ltb a b) refl
  where
    go : (t : Bool) → ltb a b ≡ t → nat_abs (cond t (negsuc (b - suc a)) (pos (a - b))) ≤ a + b
    go true e = omega (arith, ltb-true a b e)
    go false e = omega arith

pub size_sum : (x y : ℤ) → nat_abs (x +ℤ y) ≤ nat_abs x + nat_abs y
size_sum (pos a) (pos b) = omega arith
size_sum (pos a) (negsuc b) = size_rest a (suc b)
size_sum (negsuc a) (pos b) = omega (arith, size_rest b (suc a))
size_sum (negsuc a) (negsuc b) = omega arith

pub size_difference : (x y : ℤ) → nat_abs (x -ℤ y) ≤ nat_abs x + nat_abs y
size_difference x y = omega (arith, size_sum x (neg_ℤ y), size_negative y)

pub size_product : (x y : ℤ) → nat_abs (x *ℤ y) ≡ nat_abs x * nat_abs y
size_product (pos a) (pos b) = refl
size_product (pos a) (negsuc b) = size_negative (pos (a * suc b))
size_product (negsuc a) (pos b) = size_negative (pos (suc a * b))
size_product (negsuc a) (negsuc b) = refl

pub size_down : (x : ℤ) (m : ℕ) → nat_abs (down x m) ≤ nat_abs x
size_down (pos a) m = div-le_self a m
size_down (negsuc a) m = omega (arith, div-le_self a m)

-- A number of 62 bits fits.
pub small_fits : (z : ℤ) → nat_abs z ≤ 4611686018427387904 → SFits w64 z
small_fits (pos a) h = record { sfits = omega arith }
small_fits (negsuc a) h = record { sfits = omega arith }

-- So it is what the machine holds.
pub held : (z : ℤ) → nat_abs z ≤ 4611686018427387904 → to_z w64 (of_z w64 z) ≡ z
held z h = to_z-of_z (small_fits z h)

-- The code's operation on two numbers, where the result fits.
module _ (op : ℤ → ℤ → ℤ) (x y : ℤ) (f : SFits w64 x) (g : SFits w64 y) (h : SFits w64 (op x y)) where
  pub op_fits : SFits w64 (op (to_z w64 (of_z w64 x)) (to_z w64 (of_z w64 y)))
  op_fits = rw (to_z-of_z f, to_z-of_z g) h

  pub op_held : to_z w64 (of_z w64 (op (to_z w64 (of_z w64 x)) (to_z w64 (of_z w64 y)))) ≡ op x y
  op_held = rw (to_z-of_z f, to_z-of_z g) (to_z-of_z h)

-- What a call hands back is what the machine holds: `kept c.f.type_inv`.
pub kept : {z : ℤ} → mag z < 9223372036854775808 → to_z w64 (of_z w64 z) ≡ z
kept h = to_z-of_z {w = w64} (record { sfits = h })
