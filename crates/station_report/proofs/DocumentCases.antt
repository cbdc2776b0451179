-- Document 01's starred cases, 1 to 9, by a single claim from the definitions that the contracts cite: reader, elements, calculator and
-- text. Assumes nothing.
use mathlib.Core.Path.{◌≡◌, refl, sym, ◌∙◌, ap}
use mathlib.Core.Bool.{true}
use mathlib.Core.List.{List, [], ◌∷◌}
use Prim.Native.Nat.{ℕ}
use lib.IntN.{pos, negsuc}
use lib.ListN.{replicate}
use Rattle.refusals.specs.Outcomes.{passed}
use Rattle.refusals.specs.Filling.{filled, unfilled}
use Rattle.refusals.specs.Order.{outcome}
use Rattle.line.specs.Checks.{start_check, head_checks, distance_check, curve_checks, body_checks}
use Rattle.line.specs.Entries.{entries}
use Rattle.bits.specs.Bits.{value_of, bits_at, values_at}
use Rattle.packed_sheet.specs.Layout.{numbered}
use Rattle.packed_sheet.specs.Reading.{head_of, distance_of, curve_of, line_of, size_checks, frame_checks, read_checks_as, read_line_as, edition_of, read_checks, read_line}
use Rattle.packed_sheet.proofs.Examples.{sheet9}
use Rattle.packed_sheet.proofs.Examples as sheets
use Rattle.elements.specs.WorkingRule.{arc_of}
use Rattle.refusals.specs.Replying.{answered, declined}
use Rattle.elements.specs.Answer.{element_reply}
use Rattle.elements.proofs.Examples as curves
use Rattle.stationing.specs.RoadTables.{radius_serves}
use Rattle.stationing.specs.Stations.{straight_at}
use Rattle.stationing.specs.Answer.{stations_in}
use Rattle.stationing.proofs.Examples.{case_line, no_curve, row}
use Rattle.stationing.proofs.Examples as lines
use Rattle.report.specs.Numbers.{ascii}
use Rattle.report.proofs.Examples as texts
use Rattle.station_report.specs.Report.{line_text, sheet_text}
use Rattle.station_report.proofs.Texts.{counted_text, read_text}

-- Case 1 as a sheet.
abbrev sheet1 : List ℕ
sheet1 =
    0x10 ∷ 0x31 ∷ 0xA0 ∷ 0x00 ∷ 0x00 ∷ 0x00 ∷ 0x00 ∷ 0xF4 ∷ 0x24 ∷ 0x05 ∷ 0x6C ∷ 0xC8 ∷ 0x15 ∷ 0x5C ∷ 0xC0 ∷ 0x4E ∷ 0x20 ∷ 0x01 ∷ 0x86 ∷ 0xA0 ∷ 0x00 ∷ []

-- `case_line d R L` is case 1's line with the first distance d, the radius R and the spiral length L; `row` holds 1 to 7; `no_curve` is "V 70,
-- e 8, start 0, no curve, distance 500,000" (`stationing/proofs/Examples.antt`). `sheet9` holds case 9's bytes (`packed_sheet/proofs/Examples.antt`).
-- A deflection of 177,764 seconds is case 1's.
pub record DocumentCases : Type 0 where
  pub case_1_elements : element_reply 177764 350000 40000
      ≡ answered (record { X = pos 39986941; Y = pos 761727; k = pos 19997824; p = pos 190454; D = pos 261638467; TT = pos 180989280 })
  pub case_1_read : outcome (read_checks sheet1) ≡ passed
  pub case_1_line : read_line sheet1 ≡ case_line 500000 350000 40000
  pub case_1_accepted : (stations_in (case_line 500000 350000 40000) row).reply ≡ filled 5
  pub case_1_stations : (stations_in (case_line 500000 350000 40000) row).buffer
      ≡ 319010720 ∷ 359010720 ∷ 620649187 ∷ 660649187 ∷ 879659907 ∷ 6 ∷ 7 ∷ []
  pub case_1_printed : sheet_text sheet1
      ≡ ascii "POINT CURVE STATION\nTS 1 319.010720\nSC 1 359.010720\nCS 1 620.649187\nST 1 660.649187\nEND 0 879.659907\n"
  pub case_2_accepted : (stations_in (case_line 180991 350000 40000) (replicate 5 0)).reply ≡ filled 5
  pub case_2_straight : straight_at (case_line 180991 350000 40000) 0 ≡ pos 1720
  pub case_3 : (stations_in (case_line 180990 350000 40000) []).reply ≡ unfilled 15 0
  pub case_4 : (stations_in (case_line 500000 350000 39999) (replicate 5 0)).reply ≡ unfilled 13 1
  pub case_5_passes : radius_serves 70 8 167751 ≡ true
  pub case_5_accepted : (stations_in (case_line 500000 167751 0) (replicate 5 0)).reply ≡ filled 5
  pub case_5_refused : (stations_in (case_line 500000 167750 0) (replicate 5 0)).reply ≡ unfilled 12 1
  pub case_6 : element_reply 23574 350000 40000
      ≡ answered (record { X = pos 39986941; Y = pos 761727; k = pos 19997824; p = pos 190454; D = pos 1492; TT = pos 40031265 })
  pub case_7 : arc_of 23573 350000 40000 ≡ negsuc 204
  pub case_7_refused : element_reply 23573 350000 40000 ≡ declined 14 0
  pub case_8 : element_reply 1 350000 0
      ≡ answered (record { X = pos 0; Y = pos 0; k = pos 0; p = pos 0; D = pos 1697; TT = pos 848 })
  pub case_8_short : arc_of 1 200000 0 ≡ pos 970
  pub case_8_refused : element_reply 1 200000 0 ≡ declined 14 0
  pub case_9_read : outcome (read_checks sheet9) ≡ passed
  pub case_9_line : read_line sheet9 ≡ no_curve
  pub case_9_accepted : (stations_in no_curve (7 ∷ [])).reply ≡ filled 1
  pub case_9_end : (stations_in no_curve (7 ∷ [])).buffer ≡ 500000000 ∷ []
  pub case_9_printed : sheet_text sheet9 ≡ ascii "POINT CURVE STATION\nEND 0 500.000000\n"

-- The reader's part of case 1.
read1 : (outcome (read_checks sheet1) ≡ passed) × (read_line sheet1 ≡ case_line 500000 350000 40000)
unfolding start_check head_checks distance_check curve_checks body_checks entries value_of bits_at values_at head_of distance_of curve_of line_of size_checks frame_checks read_checks_as read_line_as edition_of numbered
read1 = (refl, refl)

pub document_cases : DocumentCases
document_cases =
    record {
      case_1_elements = (curves.examples).case_1;
      case_1_read = read1.0;
      case_1_line = read1.1;
      case_1_accepted = (lines.examples).case_1;
      case_1_stations = (lines.examples).case_1_row;
      case_1_printed =
          read_text sheet1 read1.0
          ∙ ap line_text read1.1
          ∙ counted_text (case_line 500000 350000 40000) row (sym (lines.examples).case_1_row) (lines.examples).case_1
          ∙ (texts.examples).case_1;
      case_2_accepted = (lines.examples).case_2;
      case_2_straight = (lines.examples).case_2_straight;
      case_3 = (lines.examples).case_3;
      case_4 = (lines.examples).case_4;
      case_5_passes = (lines.examples).case_5;
      case_5_accepted = (lines.examples).case_5_accepted;
      case_5_refused = (lines.examples).case_5_refused;
      case_6 = (curves.examples).case_6;
      case_7 = (curves.examples).case_7;
      case_7_refused = (curves.examples).case_7_refused;
      case_8 = (curves.examples).case_8;
      case_8_short = (curves.examples).case_8_short;
      case_8_refused = (curves.examples).case_8_refused;
      case_9_read = (sheets.examples).case_9_read;
      case_9_line = (sheets.examples).case_9_line;
      case_9_accepted = (lines.examples).case_9;
      case_9_end = (lines.examples).case_9_row;
      case_9_printed =
          read_text sheet9 (sheets.examples).case_9_read
          ∙ ap line_text (sheets.examples).case_9_line
          ∙ counted_text no_curve (7 ∷ []) (sym (lines.examples).case_9_row) (lines.examples).case_9
          ∙ (texts.examples).no_curve_lem;
    }
