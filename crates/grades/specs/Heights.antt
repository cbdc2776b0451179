-- Document 02, N5: heights in mm on a grade and in a vertical curve. A height h is in millionths of a mm, a grade in millionths, a distance in mm.
use Rattle.std.specs.Prelude.{ℕ, ◌*◌, ℤ, pos, ◌+ℤ◌, ◌-ℤ◌, ◌*ℤ◌}
use Rattle.numbers.specs.Whole.{◌÷◌}

-- "Grades are signed millionths": x mm beyond the height h, or before it where x is below zero.
abbrev pub along_grade : (h grade x : ℤ) → ℤ
along_grade h grade x = h +ℤ grade *ℤ x

-- "the mm shown, on straight grades too, is the height rounded once, toward minus infinity"
unfoldable pub height_on : (h grade x : ℤ) → ℤ
height_on h grade x = along_grade h grade x ÷ pos 1000000

-- "Inside a curve the height is the height at its beginning + i1 × x − g × x² / (2 × length), g being the incoming grade i1 less the outgoing one",
-- rounded once: the whole sum over 2 × length, in millionths.
unfoldable pub height_in : (h i1 i2 : ℤ) (length x : ℕ) → ℤ
height_in h i1 i2 length x =
    ((h +ℤ i1 *ℤ pos x) *ℤ pos (2 * length) -ℤ (i1 -ℤ i2) *ℤ pos (x * x)) ÷ pos (2 * length * 1000000)
