-- A side and its number tell each other. Assumes nothing.
use mathlib.Core.Path.{◌≡◌, refl}
use mathlib.Core.Bool.{Bool, true, false}
use Prim.Native.Nat.{ℕ, zero, suc, ◌≤◌}
use native.Mathlib.Omega.{arith}
use lib.Dec.{eqb}
use Rattle.line.specs.Entries.{side_bit}

pub side_of_bit : (left : Bool) → eqb (side_bit left) 1 ≡ left
side_of_bit false = refl
side_of_bit true = refl

pub bit_of_side : (b : ℕ) → b ≤ 1 → side_bit (eqb b 1) ≡ b
bit_of_side zero h = refl
bit_of_side (suc zero) h = refl
bit_of_side (suc (suc b)) h = absurd (omega arith)

pub side_fits : (left : Bool) → side_bit left ≤ 1
side_fits false = omega arith
side_fits true = omega arith
