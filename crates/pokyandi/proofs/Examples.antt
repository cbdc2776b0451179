-- Answers by computation, and document 01's cases 1 and 9 as the calls for C and Rust give them. Assumes nothing.
use mathlib.Core.Path.{◌≡◌, refl, sym, ◌∙◌, ap}
use mathlib.Core.List.{List, [], ◌∷◌}
use Prim.Native.Nat.{ℕ}
use lib.IntN.{ℤ, pos}
use lib.ListN.{length, replicate}
use Rattle.refusals.specs.Outcomes.{Outcome, passed}
use Rattle.refusals.specs.Order.{outcome}
use Rattle.refusals.specs.Filling.{filled, unfilled, count_after, with_room, fill}
use Rattle.refusals.proofs.Filled.{found}
use Rattle.line.specs.Entries.{entries}
use Rattle.line_numbers.specs.Numbers.{numbers_to, line_numbers, line_of, count_check, numbers_checks}
use Rattle.packed_sheet.specs.Layout.{numbered, edition_check}
use Rattle.packed_sheet.specs.Reading.{read_checks, read_line}
use Rattle.packed_sheet.proofs.Examples.{sheet9, far_sheet}
use Rattle.packed_sheet.proofs.Examples as sheets
use Rattle.elements.specs.declared.Elements.{Elements}
use Rattle.elements.proofs.Replies.{found_elements}
use Rattle.elements.proofs.Examples as curves
use Rattle.spiral_table.proofs.Examples as spirals
use Rattle.stationing.specs.Answer.{stations_in}
use Rattle.stationing.proofs.Examples.{no_curve_from}
use Rattle.stationing.proofs.Examples as lines
use Rattle.pegs.specs.Pegs.{peg_checks}
use Rattle.pegs.specs.Numbers.{station_numbers}
use Rattle.pegs.proofs.Examples as pegs
use Rattle.station_report.specs.Report.{sheet_checks}
use Rattle.station_report.proofs.Examples.{sheet4}
use Rattle.station_report.proofs.Examples as refusedSheets
use Rattle.pokyandi.specs.Answers.{answer_number}
use Rattle.pokyandi.specs.Calls.{sheet_stations, sheet_peg_checks, sheet_peg, check_reply, sheet_numbers, told_checks, numbers_sheet, edition_reply, element_numbers, unit_spiral_in, version}
use Rattle.pokyandi.proofs.Replies.{stations_reply, refused_peg, peg_reply_lem, edition_reply_lem, refused_edition, found_numbers, found_end, refused_end}

-- Case 10's sheet without its last byte.
abbrev cut : List ℕ
cut = 0x10 ∷ 0x11 ∷ 0xA0 ∷ 0x00 ∷ 0x00 ∷ 0x00 ∷ 0x00 ∷ 0xF4 ∷ 0x24 ∷ []

pub record Examples : Type 0 where
  pub count : answer_number (filled 257) ≡ 257
  pub refusal : answer_number (unfilled 15 64) ≡ 64424509504
  pub version_0_9_0 : version ≡ 9000
  -- ---- document 01's cases
  pub case_1 : element_numbers 177764 350000 40000 ≡ 39986941 ∷ 761727 ∷ 19997824 ∷ 190454 ∷ 261638467 ∷ 180989280 ∷ []
  pub case_4_checked : check_reply sheet4 ≡ unfilled 13 1
  pub case_9_numbers : sheet_numbers sheet9 ≡ 0 ∷ 70 ∷ 8 ∷ 0 ∷ 500000 ∷ []
  pub case_9_sheet : numbers_sheet 1 (0 ∷ 70 ∷ 8 ∷ 0 ∷ 500000 ∷ []) ≡ sheet9
  pub case_9_edition : edition_reply sheet9 ≡ filled 1
  pub case_10_cut_edition : edition_reply cut ≡ unfilled 1 0
  pub edition_first : (fill (told_checks 3 []) (numbers_sheet 3 []) []).reply ≡ unfilled 2 0
  pub count_second : (fill (told_checks 2 []) (numbers_sheet 2 []) []).reply ≡ unfilled 3 0
  pub case_9 : (fill (sheet_checks sheet9) (sheet_stations sheet9) (7 ∷ [])).reply ≡ filled 1
  pub case_9_checked : check_reply sheet9 ≡ filled 1
  pub case_9_peg : (fill (sheet_peg_checks sheet9 250000000) (sheet_peg sheet9 250000000) (replicate 6 (pos 7))).reply ≡ filled 5
  pub case_9_peg_numbers : (fill (sheet_peg_checks sheet9 250000000) (sheet_peg sheet9 250000000) (replicate 6 (pos 7))).buffer
      ≡ pos 0 ∷ pos 0 ∷ pos 250000000 ∷ pos 0 ∷ pos 0 ∷ pos 7 ∷ []
  pub case_10_cut_peg : (fill (sheet_peg_checks cut 0) (sheet_peg cut 0) []).reply ≡ unfilled 1 0
  -- ---- the unit spiral
  pub spiral : (unit_spiral_in 500 48000 (7 ∷ 7 ∷ 7 ∷ [])).reply ≡ filled 2
  pub spiral_numbers : (unit_spiral_in 500 48000 (7 ∷ 7 ∷ 7 ∷ [])).buffer ≡ 46813809 ∷ 7858279 ∷ 7 ∷ []
  pub no_such_row : (unit_spiral_in 501 500001 []).reply ≡ unfilled 25 0
  pub too_long : (unit_spiral_in 500 500001 []).reply ≡ unfilled 11 0
  pub no_room : (unit_spiral_in 500 48000 (7 ∷ [])).reply ≡ unfilled 16 0
  -- ---- the same line from the greatest start, in edition 2
  pub far_edition : edition_reply far_sheet ≡ filled 2
  pub far_numbers : sheet_numbers far_sheet ≡ 0 ∷ 70 ∷ 8 ∷ 4000000000 ∷ 500000 ∷ []
  pub far_stations_lem : (fill (sheet_checks far_sheet) (sheet_stations far_sheet) (7 ∷ [])).buffer ≡ 4000500000000 ∷ []
  pub far_checked : check_reply far_sheet ≡ filled 1
  pub far_peg : (fill (sheet_peg_checks far_sheet 4000250000000) (sheet_peg far_sheet 4000250000000) (replicate 6 (pos 7))).buffer
      ≡ pos 0 ∷ pos 0 ∷ pos 250000000 ∷ pos 0 ∷ pos 0 ∷ pos 7 ∷ []
  pub case_9_end : (fill (sheet_checks sheet9) (sheet_stations sheet9) (7 ∷ [])).buffer ≡ 500000000 ∷ []

-- Case 1's curve as the element call answers it.
abbrev elements1 : Elements
elements1 =
    record { x = 39986941; y = 761727; centre = 19997824; shift = 190454; arc = 261638467; tangent = 180989280 }

-- A sheet of one number, whose row held 7, and the peg in its middle.
module _ (sheet : List ℕ) (start end : ℕ) (reads : outcome (read_checks sheet) ≡ passed) (line : read_line sheet ≡ no_curve_from start) where
  stations1 : (stations_in (no_curve_from start) (7 ∷ [])).reply ≡ filled 1 → (stations_in (no_curve_from start) (7 ∷ [])).buffer ≡ end ∷ []
      → (filled 1 ≡ (fill (sheet_checks sheet) (sheet_stations sheet) (7 ∷ [])).reply)
      × (end ∷ [] ≡ (fill (sheet_checks sheet) (sheet_stations sheet) (7 ∷ [])).buffer)
  stations1 counted row = stations_reply sheet reads (sym line) (7 ∷ []) (sym counted, sym row)

  checked1 : filled 1 ≡ (fill (sheet_checks sheet) (sheet_stations sheet) (7 ∷ [])).reply → check_reply sheet ≡ filled 1
  unfolding check_reply
  checked1 counted =
      let told = found (sheet_checks sheet) (sheet_stations sheet) (7 ∷ []) (sym counted) in
      ap (λ (o : Outcome). count_after o (length (sheet_stations sheet))) told.checked ∙ ap filled (sym told.all)

  peg1 : (station : ℕ) {numbers : List ℤ}
      → (fill (peg_checks (no_curve_from start) station) (station_numbers (no_curve_from start) station) (replicate 6 (pos 7))).reply ≡ filled 5
      → (fill (peg_checks (no_curve_from start) station) (station_numbers (no_curve_from start) station) (replicate 6 (pos 7))).buffer ≡ numbers
      → (filled 5 ≡ (fill (sheet_peg_checks sheet station) (sheet_peg sheet station) (replicate 6 (pos 7))).reply)
      × (numbers ≡ (fill (sheet_peg_checks sheet station) (sheet_peg sheet station) (replicate 6 (pos 7))).buffer)
  peg1 station counted numbers = peg_reply_lem sheet reads (sym line) station (replicate 6 (pos 7)) (sym counted, sym numbers)

stations9 : (filled 1 ≡ (fill (sheet_checks sheet9) (sheet_stations sheet9) (7 ∷ [])).reply)
    × (500000000 ∷ [] ≡ (fill (sheet_checks sheet9) (sheet_stations sheet9) (7 ∷ [])).buffer)
stations9 =
    stations1 sheet9 0 500000000 (sheets.examples).case_9_read (sheets.examples).case_9_line (lines.examples).case_9 (lines.examples).case_9_row

peg9 : (filled 5 ≡ (fill (sheet_peg_checks sheet9 250000000) (sheet_peg sheet9 250000000) (replicate 6 (pos 7))).reply)
    × (pos 0 ∷ pos 0 ∷ pos 250000000 ∷ pos 0 ∷ pos 0 ∷ pos 7 ∷ [] ≡ (fill (sheet_peg_checks sheet9 250000000) (sheet_peg sheet9 250000000) (replicate 6 (pos 7))).buffer)
peg9 =
    peg1 sheet9 0 500000000 (sheets.examples).case_9_read (sheets.examples).case_9_line 250000000 (pegs.examples).no_curve_lem (pegs.examples).no_curve_numbers

far_stations : (filled 1 ≡ (fill (sheet_checks far_sheet) (sheet_stations far_sheet) (7 ∷ [])).reply)
    × (4000500000000 ∷ [] ≡ (fill (sheet_checks far_sheet) (sheet_stations far_sheet) (7 ∷ [])).buffer)
far_stations =
    stations1 far_sheet 4000000000 4000500000000 (sheets.examples).second_greatest_read (sheets.examples).second_greatest (lines.examples).greatest_start_lem (lines.examples).greatest_start_row

-- The look-up of a ramp's spiral, into three numbers of which one is left.
spiral500 : (filled 2 ≡ (unit_spiral_in 500 48000 (7 ∷ 7 ∷ 7 ∷ [])).reply)
    × (46813809 ∷ 7858279 ∷ 7 ∷ [] ≡ (unit_spiral_in 500 48000 (7 ∷ 7 ∷ 7 ∷ [])).buffer)
unfolding fill with_room
spiral500 = found_end 500 48000 (record { x = 46813809; y = 7858279 }) (7 ∷ 7 ∷ 7 ∷ []) (sym (spirals.examples).ramp) (refl, refl)

-- One number is no room for it.
small_end : (unfilled 16 0 ≡ (unit_spiral_in 500 48000 (7 ∷ [])).reply) × (7 ∷ [] ≡ (unit_spiral_in 500 48000 (7 ∷ [])).buffer)
unfolding fill with_room
small_end = found_end 500 48000 (record { x = 46813809; y = 7858279 }) (7 ∷ []) (sym (spirals.examples).ramp) (refl, refl)

pub examples : Examples
unfolding numbered edition_check count_check numbers_checks told_checks with_room fill answer_number check_reply sheet_numbers numbers_sheet numbers_to line_numbers line_of entries
examples =
    record {
      count = refl;
      refusal = refl;
      version_0_9_0 = refl;
      case_1 = sym (found_numbers 177764 350000 40000 elements1 (found_elements 177764 350000 40000 elements1 (sym (curves.examples).case_1)));
      case_4_checked = ap (λ (o : Outcome). count_after o (length (sheet_stations sheet4))) (refusedSheets.examples).case_4;
      case_9_numbers = ap line_numbers (sheets.examples).case_9_line;
      case_9_sheet = (sheets.examples).case_9_written;
      case_9_edition = sym (edition_reply_lem sheet9 (sheets.examples).case_9_read (sym (sheets.examples).case_9_edition));
      case_10_cut_edition = sym (refused_edition cut (sheets.examples).case_10_cut);
      edition_first = refl;
      count_second = refl;
      case_9 = sym stations9.0;
      case_9_checked = checked1 sheet9 0 500000000 (sheets.examples).case_9_read (sheets.examples).case_9_line stations9.0;
      case_9_peg = sym peg9.0;
      case_9_peg_numbers = sym peg9.1;
      case_10_cut_peg = sym (refused_peg cut 0 [] (sheets.examples).case_10_cut).0;
      spiral = sym spiral500.0;
      spiral_numbers = sym spiral500.1;
      no_such_row = sym (refused_end 501 500001 [] (sym (spirals.examples).row_first)).0;
      too_long = sym (refused_end 500 500001 [] (sym (spirals.examples).too_long)).0;
      no_room = sym small_end.0;
      far_edition = sym (edition_reply_lem far_sheet (sheets.examples).second_greatest_read (sym (sheets.examples).second_greatest_edition));
      far_numbers = ap line_numbers (sheets.examples).second_greatest;
      far_stations_lem = sym far_stations.1;
      far_checked = checked1 far_sheet 4000000000 4000500000000 (sheets.examples).second_greatest_read (sheets.examples).second_greatest far_stations.0;
      far_peg =
          sym
          (peg1 far_sheet 4000000000 4000500000000 (sheets.examples).second_greatest_read (sheets.examples).second_greatest 4000250000000 (pegs.examples).far (pegs.examples).far_numbers).1;
      case_9_end = sym stations9.1;
    }
