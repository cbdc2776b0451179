-- Document 02, N4: "now go to the nearest µm, halves up", quotient by quotient.
use Rattle.std.specs.Prelude.{ℕ, ◌*◌, ℤ, pos, ◌+ℤ◌, ◌-ℤ◌, ◌*ℤ◌}
use Rattle.elements.specs.WorkingRule.{scale, full_angle, spiral_angle, sine_of, cosine_of, unit_x, unit_y, spiral_x, spiral_y, centre_of, shift_of, arc_of, tan_of, tangent_of}
use Rattle.elements.specs.SpiralPoint.{angle_to, offset_x, offset_y}
use Rattle.numbers.specs.Fractions.{whole, nat, ◌⊖◌, ◌⊘◌, ◌≼◌, ◌≺◌}

-- r is the whole number nearest to z / m: above it by a half at the most, and below it by less than a half.
pub record Nearest (r z : ℤ) (m : ℕ) : Type 0 where
  pub over : whole r ⊖ whole z ⊘ m ≼ nat 1 ⊘ 2
  pub short : whole z ⊘ m ⊖ whole r ≺ nat 1 ⊘ 2

-- "The last division by 10⁶ in X, Y, the sine and cosine parts of k and p and the arc, the division by 10⁹ in TT"
pub record ElementsNearest (A R L : ℕ) : Type 0 where
  pub X : Nearest (spiral_x R L) (pos L *ℤ unit_x (spiral_angle R L)) 1000000
  pub Y : Nearest (spiral_y R L) (pos L *ℤ unit_y (spiral_angle R L)) 1000000
  pub sine_part : Nearest (spiral_x R L -ℤ centre_of R L) (pos R *ℤ sine_of (spiral_angle R L)) 1000000
  pub cosine_part : Nearest (spiral_y R L -ℤ shift_of R L) (pos R *ℤ (pos scale -ℤ cosine_of (spiral_angle R L))) 1000000
  pub arc : Nearest (arc_of A R L +ℤ pos (1000 * L)) (pos (R * full_angle A)) 1000000
  pub tangent : Nearest (tangent_of A R L -ℤ centre_of R L) ((pos (1000 * R) +ℤ shift_of R L) *ℤ tan_of A) scale

-- "and the last in peg offsets"
pub record OffsetsNearest (R L l : ℕ) : Type 0 where
  pub x : Nearest (offset_x R L l) (pos l *ℤ unit_x (angle_to R L l)) scale
  pub y : Nearest (offset_y R L l) (pos l *ℤ unit_y (angle_to R L l)) scale
