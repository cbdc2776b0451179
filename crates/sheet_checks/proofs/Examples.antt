-- A sheet that does not read, and document 01's case 4 as a sheet, from the definitions. Assumes nothing.
use mathlib.Core.Path.{◌≡◌, refl}
use mathlib.Core.List.{List, [], ◌∷◌}
use Prim.Native.Nat.{ℕ}
use Rattle.refusals.specs.Outcomes.{first_of, refused}
use Rattle.refusals.specs.Order.{outcome}
use Rattle.line.specs.Checks.{start_check, head_checks, distance_check, curve_checks, body_checks, field_checks}
use Rattle.line.specs.Entries.{entries}
use Rattle.bits.specs.Bits.{value_of, bits_at, values_at}
use Rattle.packed_sheet.specs.Layout.{numbered}
use Rattle.packed_sheet.specs.Reading.{head_of, distance_of, curve_of, line_of, size_checks, frame_checks, read_checks_as, read_line_as, edition_of}
use Rattle.line.specs.Speeds.{under_speed}
use Rattle.stationing.specs.RoadTables.{friction_at, least_spiral_at, radius_serves, spiral_serves}
use Rattle.stationing.specs.Answer.{design_checks, design_checks_at, alignment_checks}
use Rattle.sheet_checks.specs.SheetChecks.{sheet_checks}

-- Case 4 as a sheet.
abbrev pub sheet4 : List ℕ
sheet4 =
    0x10 ∷ 0x31 ∷ 0xA0 ∷ 0x00 ∷ 0x00 ∷ 0x00 ∷ 0x00 ∷ 0xF4 ∷ 0x24 ∷ 0x05 ∷ 0x6C ∷ 0xC8 ∷ 0x15 ∷ 0x5C ∷ 0xC0 ∷ 0x4E ∷ 0x1F ∷ 0x81 ∷ 0x86 ∷ 0xA0 ∷ 0x00 ∷ []

pub record Examples : Type 0 where
  pub reader_first : outcome (sheet_checks []) ≡ refused 1 0
  pub case_4 : outcome (sheet_checks sheet4) ≡ refused 13 1

pub examples : Examples
unfolding first_of start_check head_checks distance_check curve_checks body_checks field_checks entries value_of bits_at values_at head_of distance_of curve_of line_of size_checks frame_checks read_checks_as read_line_as edition_of numbered under_speed friction_at least_spiral_at radius_serves spiral_serves design_checks design_checks_at alignment_checks sheet_checks
examples = record { reader_first = refl; case_4 = refl }
