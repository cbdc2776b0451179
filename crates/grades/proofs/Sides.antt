-- On a crest the height is at most that of each grade prolonged, in a sag at least. Assumes nothing.
use mathlib.Core.Path.{◌≡◌, refl, sym, ◌∙◌, ap}
use Prim.Native.Nat.{ℕ, zero, suc, ◌+◌, ◌*◌, ◌/◌, ◌<◌}
use native.Mathlib.Nat.{zero-div}
use native.Mathlib.Omega.{arith}
use lib.IntN.{ℤ, pos, neg_ℤ, ◌+ℤ◌, ◌-ℤ◌, ◌*ℤ◌}
use lib.Signed.{◌≤ℤ◌}
use Rattle.numbers.specs.Whole.{down}
use Rattle.numbers.proofs.Signs.{negative_times, turned_difference}
use Rattle.numbers.proofs.FloorOrder.{down_rises, sum_above, difference_below}
use Rattle.grades.specs.Heights.{along_grade, height_in, height_on}
use Rattle.grades.proofs.TwoFloors.{curve_floors}
use Rattle.grades.proofs.FromEnd.{from_end}

-- Minus a natural number, over a divisor and rounded down, is minus a natural number.
fallen : (n m : ℕ) → (k : ℕ) × (down (neg_ℤ (pos n)) m ≡ neg_ℤ (pos k))
fallen zero m = (0, ap pos (zero-div m))
fallen (suc n) m = (suc (n / m), refl)

-- A grade, and the same with what the curve rises above it, or falls below it, by a square.
module _ (line : ℤ) (n m g : ℕ) {d : ℤ} where
  risen : d ≡ pos g → down line 1000000 ≤ℤ down (line +ℤ down (d *ℤ pos n) m) 1000000
  risen e = rw e (down_rises 1000000 (omega arith) (sum_above line (g * n / m)))

  sunk : d ≡ neg_ℤ (pos g) → down (line +ℤ down (d *ℤ pos n) m) 1000000 ≤ℤ down line 1000000
  sunk e =
      let f = fallen (g * n) m in
      rw (e, negative_times (pos g) (pos n), f.1) (down_rises 1000000 (omega arith) (difference_below line f.0))

-- ---- against the incoming grade

module _ (h i o : ℤ) (length x : ℕ) (above : 0 < length) (g : ℕ) where
  pub sag_above : o -ℤ i ≡ pos g → height_on h i (pos x) ≤ℤ height_in h i o length x
  unfolding height_on
  sag_above e = rw (curve_floors h i o length x above) (risen (along_grade h i (pos x)) (x * x) (2 * length) g e)

  pub crest_below : i -ℤ o ≡ pos g → height_in h i o length x ≤ℤ height_on h i (pos x)
  unfolding height_on
  crest_below e =
      rw (curve_floors h i o length x above)
      (sunk (along_grade h i (pos x)) (x * x) (2 * length) g (sym (turned_difference i o) ∙ ap neg_ℤ e))

-- ---- against the outgoing grade through the vertex

module _ (h i o : ℤ) (k x y : ℕ) (above : 0 < k) (all : x + y ≡ 2 * k) (g : ℕ) where
  pub sag_above_outgoing : o -ℤ i ≡ pos g → height_on (h +ℤ i *ℤ pos k) o (pos x -ℤ pos k) ≤ℤ height_in h i o (2 * k) x
  unfolding height_on
  sag_above_outgoing e =
      rw (from_end h i o k x y above all) (risen (along_grade (h +ℤ i *ℤ pos k) o (pos x -ℤ pos k)) (y * y) (2 * (2 * k)) g e)

  pub crest_below_outgoing : i -ℤ o ≡ pos g → height_in h i o (2 * k) x ≤ℤ height_on (h +ℤ i *ℤ pos k) o (pos x -ℤ pos k)
  unfolding height_on
  crest_below_outgoing e =
      rw (from_end h i o k x y above all)
      (sunk (along_grade (h +ℤ i *ℤ pos k) o (pos x -ℤ pos k)) (y * y) (2 * (2 * k)) g (sym (turned_difference i o) ∙ ap neg_ℤ e))
