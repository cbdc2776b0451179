-- Where a curve meets its grades, at its beginning and its end, both formulas give one height. Assumes nothing.
use mathlib.Core.Path.{◌≡◌, ◌∙◌, ap}
use Prim.Native.Nat.{ℕ, ◌*◌, ◌<◌}
use native.Mathlib.Nat.{zero-div}
use native.Mathlib.Omega.{arith}
use lib.IntN.{ℤ, pos, ◌+ℤ◌, ◌-ℤ◌, ◌*ℤ◌, *ℤ-zero, +ℤ_idr}
use Rattle.numbers.specs.Whole.{down}
use Rattle.grades.specs.Heights.{height_in, height_on}
use Rattle.grades.proofs.TwoFloors.{curve_floors}
use Rattle.grades.proofs.FromEnd.{from_end}

-- No distance to where they meet, and no square.
no_square : (line d : ℤ) (m : ℕ) → down (line +ℤ down (d *ℤ pos 0) m) 1000000 ≡ down line 1000000
no_square line d m =
    ap (λ (z : ℤ). down (line +ℤ down z m) 1000000) (*ℤ-zero d)
    ∙ ap (λ (n : ℕ). down (line +ℤ pos n) 1000000) (zero-div m)
    ∙ ap (λ (z : ℤ). down z 1000000) (+ℤ_idr line)

pub begins : (h i o : ℤ) (length : ℕ) → 0 < length → height_in h i o length 0 ≡ height_on h i (pos 0)
unfolding height_on
begins h i o length above = curve_floors h i o length 0 above ∙ no_square (h +ℤ i *ℤ pos 0) (o -ℤ i) (2 * length)

-- The end of a curve of twice k: the vertex's height h + i × k, and the outgoing grade.
pub ends : (h i o : ℤ) (k : ℕ) → 0 < k → height_in h i o (2 * k) (2 * k) ≡ height_on (h +ℤ i *ℤ pos k) o (pos (2 * k) -ℤ pos k)
unfolding height_on
ends h i o k above =
    from_end h i o k (2 * k) 0 above (omega arith) ∙ no_square (h +ℤ i *ℤ pos k +ℤ o *ℤ (pos (2 * k) -ℤ pos k)) (o -ℤ i) (2 * (2 * k))
