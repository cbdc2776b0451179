-- Document 02, N1: the offsets of a point of a spiral, at the length l from its outer end (TS or ST). The radius R and the spiral length L
-- are in mm, l and the offsets in µm.
use Rattle.std.specs.Prelude.{ℕ, ◌*◌, ◌/◌, leb, ℤ, pos, ◌*ℤ◌, Result}
use Rattle.refusals.specs.declared.Refusal.{Refusal}
use Rattle.refusals.specs.Order.{Checks, check, ◌⨾◌}
use Rattle.refusals.specs.Replying.{Reply, reply_by, reply}
use Rattle.line.specs.Checks.{curve_checks}
use Rattle.elements.specs.declared.SpiralPoint.{SpiralPoint}
use Rattle.elements.specs.WorkingRule.{scale, rounded, spiral_angle, unit_x, unit_y}

-- "u = l × 10⁶ / L": the part of the spiral up to the point, at scale 10⁹
unfoldable pub part_to : ℕ → ℕ → ℕ
part_to L l = l * 1000000 / L

-- "angle = (u × u / 10⁹) × t / 10⁹"
unfoldable pub angle_to : ℕ → ℕ → ℕ → ℕ
angle_to R L l = part_to L l * part_to L l / scale * spiral_angle R L / scale

-- "then x and y by document 01 from that angle, each times l over 10⁹", N4: "to the nearest µm, halves up": along the tangent,
unfoldable pub offset_x : ℕ → ℕ → ℕ → ℤ
offset_x R L l = rounded (pos l *ℤ unit_x (angle_to R L l)) scale

-- and square to it
unfoldable pub offset_y : ℕ → ℕ → ℕ → ℤ
offset_y R L l = rounded (pos l *ℤ unit_y (angle_to R L l)) scale

-- ---- the call for one point

-- x and y, in µm
pub record Offsets : Type 0 where
  pub x : ℤ
  pub y : ℤ

-- The offsets that a point has.
abbrev pub offsets_of : SpiralPoint → Offsets
offsets_of p = record { x = pos p.x; y = pos p.y }

-- What each case of the call's answer says.
abbrev pub point_reply_of : Result SpiralPoint Refusal → Reply Offsets
point_reply_of r = reply_by offsets_of r

-- The offsets by the working rule.
unfoldable pub offsets_by : ℕ → ℕ → ℕ → Offsets
offsets_by R L l = record { x = offset_x R L l; y = offset_y R L l }

-- 17: a length beyond the spiral (docs/DECISIONS.md)
unfoldable pub inside_check : ℕ → ℕ → Checks
inside_check L l = check (leb l (1000 * L)) 17 0

-- 10 and 11 with place 0, as of a curve whose deflection is in range, then 17
unfoldable pub point_checks : ℕ → ℕ → ℕ → Checks
point_checks R L l = curve_checks 1 R L 0 ⨾ inside_check L l

-- What the call answers.
unfoldable pub point_reply : ℕ → ℕ → ℕ → Reply Offsets
point_reply R L l = reply (point_checks R L l) (offsets_by R L l)
