-- The code's quotient by a natural number is rounded down. Assumes nothing.
use mathlib.Core.Path.{◌≡◌, refl}
use Prim.Native.Nat.{ℕ}
use lib.IntN.{ℤ, pos, negsuc}
use Rattle.std.specs.Int.{int_div_euclid}
use Rattle.numbers.specs.Whole.{down}

pub euclid_is : (z : ℤ) (m : ℕ) → int_div_euclid z (pos m) ≡ down z m
euclid_is (pos a) m = refl
euclid_is (negsuc a) m = refl
