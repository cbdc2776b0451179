-- Document 02, N1: "The accuracy rule now gives 4 µm for these offsets, against the clerk's l² / (2RL) angle at the same l." The radius R and the
-- spiral length L are in mm, the length l in µm, the exact offsets in mm.
use Rattle.std.specs.Prelude.{Bool, true, false, ℕ, ◌-◌, ◌*◌, nat_abs}
use Rattle.elements.specs.SpiralPoint.{offset_x, offset_y}
use Rattle.numbers.specs.Fractions.{Fraction, nat, ◌⊖◌, ◌⊗◌, ◌↑◌, ◌⊘◌}
use Rattle.accuracy.specs.ExactElements.{exact_unit_x, exact_unit_y}
use Rattle.accuracy.specs.Accuracy.{Within}
use Rattle.line.specs.declared.Curve.{Curve}
use Rattle.line.specs.declared.Line.{Line}
use Rattle.line.specs.Checks.{curve_at}
use Rattle.stationing.specs.declared.ElementKind.{ElementKind}
use Rattle.stationing.specs.declared.ElementKind.TheVariants.{Straight, SpiralIn, Arc, SpiralOut}
use Rattle.pegs.specs.Pegs.{PegValues}

-- "l² / (2RL)", l in mm; an empty spiral has only l = 0, and its quotient by zero is multiplied by that
unfoldable pub exact_angle_to : ℕ → ℕ → ℕ → Fraction
exact_angle_to R L l = (nat l ⊘ 1000) ↑ 2 ⊘ (2 * R * L)

-- l times the end of the spiral of length one, in mm
unfoldable pub exact_offset_x : ℕ → ℕ → ℕ → Fraction
exact_offset_x R L l = nat l ⊗ exact_unit_x (exact_angle_to R L l) ⊘ 1000

unfoldable pub exact_offset_y : ℕ → ℕ → ℕ → Fraction
exact_offset_y R L l = nat l ⊗ exact_unit_y (exact_angle_to R L l) ⊘ 1000

-- "4 µm for these offsets"
abbrev pub offset_tolerance : ℕ
offset_tolerance = 4

pub record OffsetsWithin (R L l : ℕ) : Type 0 where
  pub x : Within offset_tolerance (offset_x R L l) (exact_offset_x R L l)
  pub y : Within offset_tolerance (offset_y R L l) (exact_offset_y R L l)

-- ---- a peg

-- "A left curve's y is negated."
abbrev pub exact_sided : Bool → Fraction → Fraction
exact_sided false y = y
exact_sided true y = nat 0 ⊖ y

-- The exact offsets of a peg at the length l of an element: on a spiral those of its curve, "elsewhere 0"
abbrev pub exact_peg_x : ElementKind → Curve → ℕ → Fraction
exact_peg_x Straight curve l = nat 0
exact_peg_x SpiralIn curve l = exact_offset_x curve.radius curve.spiral l
exact_peg_x Arc curve l = nat 0
exact_peg_x SpiralOut curve l = exact_offset_x curve.radius curve.spiral l

abbrev pub exact_peg_y : ElementKind → Curve → ℕ → Fraction
exact_peg_y Straight curve l = nat 0
exact_peg_y SpiralIn curve l = exact_sided curve.left (exact_offset_y curve.radius curve.spiral l)
exact_peg_y Arc curve l = nat 0
exact_peg_y SpiralOut curve l = exact_sided curve.left (exact_offset_y curve.radius curve.spiral l)

-- A peg of a line is that near, on the element and at the length that it names.
pub record PegWithin (line : Line) (peg : PegValues) : Type 0 where
  pub x : Within offset_tolerance peg.offsets.x (exact_peg_x peg.kind (curve_at line (peg.number - 1)) (nat_abs peg.length))
  pub y : Within offset_tolerance peg.offsets.y (exact_peg_y peg.kind (curve_at line (peg.number - 1)) (nat_abs peg.length))
