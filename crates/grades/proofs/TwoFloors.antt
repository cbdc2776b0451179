-- The height in a curve by two quotients, each rounded down, is the one fraction rounded down once. Assumes nothing.
use mathlib.Core.Path.{◌≡◌, sym, ◌∙◌, ap}
use Prim.Native.Nat.{ℕ, ◌*◌, ◌<◌}
use native.Mathlib.Omega.{arith}
use lib.IntN.{ℤ, pos, ◌+ℤ◌, ◌-ℤ◌, ◌*ℤ◌}
use Rattle.numbers.specs.Whole.{down}
use Rattle.numbers.proofs.Floors.{two_floors}
use Rattle.numbers.proofs.Signs.{negative_times, turned_difference}
use Rattle.grades.specs.Heights.{along_grade, height_in}

pub curve_floors : (h i o : ℤ) (length x : ℕ) → 0 < length
    → height_in h i o length x ≡ down (along_grade h i (pos x) +ℤ down ((o -ℤ i) *ℤ pos (x * x)) (2 * length)) 1000000
unfolding height_in
curve_floors h i o length x above =
    ap (λ (z : ℤ). down ((h +ℤ i *ℤ pos x) *ℤ pos (2 * length) +ℤ z) (2 * length * 1000000))
    (sym (negative_times (i -ℤ o) (pos (x * x))) ∙ ap (λ (z : ℤ). z *ℤ pos (x * x)) (turned_difference i o))
    ∙ two_floors (h +ℤ i *ℤ pos x) ((o -ℤ i) *ℤ pos (x * x)) (2 * length) 1000000 (omega arith)
