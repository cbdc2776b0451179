-- What is printed for refused sheets, by computation: the reader's refusal, and the calculator's; and for one of edition 2, from its greatest
-- start. Assumes nothing.
use mathlib.Core.Path.{◌≡◌, refl, sym, ◌∙◌, ap}
use mathlib.Core.List.{List, [], ◌∷◌}
use Prim.Native.Nat.{ℕ}
use Rattle.refusals.specs.Outcomes.{first_of, refused}
use Rattle.refusals.specs.Order.{outcome}
use Rattle.line.specs.Checks.{start_check, head_checks, distance_check, curve_checks, body_checks, field_checks}
use Rattle.line.specs.Entries.{entries}
use Rattle.bits.specs.Bits.{value_of, bits_at, values_at}
use Rattle.packed_sheet.specs.Layout.{numbered}
use Rattle.packed_sheet.specs.Reading.{head_of, distance_of, curve_of, line_of, size_checks, frame_checks, read_checks_as, read_line_as, edition_of}
use Rattle.line.specs.Speeds.{under_speed}
use Rattle.stationing.specs.RoadTables.{friction_at, least_spiral_at, radius_serves, spiral_serves}
use Rattle.stationing.specs.Answer.{design_checks, design_checks_at, alignment_checks}
use Rattle.report.specs.Numbers.{ascii, digits_within, decimal}
use Rattle.report.specs.Text.{words, refusal_line}
use Rattle.packed_sheet.proofs.Examples.{far_sheet}
use Rattle.packed_sheet.proofs.Examples as sheets
use Rattle.stationing.proofs.Examples.{no_curve_from}
use Rattle.stationing.proofs.Examples as lines
use Rattle.report.proofs.Examples as texts
use Rattle.station_report.specs.Report.{line_text, sheet_checks, sheet_text}
use Rattle.station_report.proofs.Texts.{counted_text, read_text}

-- Case 4 as a sheet.
abbrev pub sheet4 : List ℕ
sheet4 =
    0x10 ∷ 0x31 ∷ 0xA0 ∷ 0x00 ∷ 0x00 ∷ 0x00 ∷ 0x00 ∷ 0xF4 ∷ 0x24 ∷ 0x05 ∷ 0x6C ∷ 0xC8 ∷ 0x15 ∷ 0x5C ∷ 0xC0 ∷ 0x4E ∷ 0x1F ∷ 0x81 ∷ 0x86 ∷ 0xA0 ∷ 0x00 ∷ []

pub record Examples : Type 0 where
  pub reader_first : sheet_text [] ≡ ascii "REFUSED 1 0\n"
  pub case_4 : outcome (sheet_checks sheet4) ≡ refused 13 1
  pub case_4_printed : sheet_text sheet4 ≡ ascii "REFUSED 13 1\n"
  pub far_printed : sheet_text far_sheet ≡ ascii "POINT CURVE STATION\nEND 0 4000500.000000\n"

far : sheet_text far_sheet ≡ ascii "POINT CURVE STATION\nEND 0 4000500.000000\n"
far =
    read_text far_sheet (sheets.examples).second_greatest_read
    ∙ ap line_text (sheets.examples).second_greatest
    ∙ counted_text (no_curve_from 4000000000) (7 ∷ []) (sym (lines.examples).greatest_start_row) (lines.examples).greatest_start_lem
    ∙ (texts.examples).far

pub examples : Examples
unfolding first_of start_check head_checks distance_check curve_checks body_checks field_checks entries value_of bits_at values_at head_of distance_of curve_of line_of size_checks frame_checks read_checks_as read_line_as edition_of numbered under_speed friction_at least_spiral_at radius_serves spiral_serves design_checks design_checks_at alignment_checks ascii digits_within decimal words refusal_line sheet_checks sheet_text
examples = record { reader_first = refl; case_4 = refl; case_4_printed = refl; far_printed = far }
