-- Document 01's cases 9 and 10 from the definitions, and single sheets and lines by computation. Assumes nothing.
use mathlib.Core.Path.{◌≡◌, refl}
use mathlib.Core.Bool.{true}
use mathlib.Core.List.{List, [], ◌∷◌, ◌++◌}
use Prim.Native.Nat.{ℕ, ◌+◌, ◌*◌, ◌≤◌, ◌<◌}
use native.Mathlib.Omega.{arith}
use lib.ListN.{length, replicate}
use Rattle.refusals.specs.Outcomes.{passed, refused}
use Rattle.refusals.specs.Filling.{filled, unfilled, with_room, fill}
use Rattle.refusals.specs.Order.{outcome}
use Rattle.line.specs.declared.Curve.{Curve}
use Rattle.line.specs.declared.Line.{Line}
use Rattle.line.specs.Checks.{start_check, head_checks, distance_check, blank_curve, curve_checks, body_checks, field_checks}
use Rattle.line.specs.Entries.{entries, blank_line}
use Rattle.bits.specs.Bits.{value_of, bytes_of, bits_at, values_at, packed}
use Rattle.packed_sheet.specs.declared.Edition.{Edition}
use Rattle.packed_sheet.specs.Layout.{first_edition, second_edition, numbered, edition_check, bit_count, byte_count}
use Rattle.packed_sheet.specs.Reading.{head_of, distance_of, curve_of, line_of, size_checks, frame_checks, read_checks_as, read_line_as, edition_of, read_checks, read_line, read_edition}
use Rattle.packed_sheet.specs.Writing.{entries_after, number_to, sheet_number, sheet_of, write_checks, sheet_in}
use Rattle.packed_sheet.specs.EachStore.{so_far}

-- Case 9: "V 70, e 8, start 0, no curve, distance 500,000". The fill is the rest of the last byte.
abbrev nine_bytes : List ℕ
nine_bytes = 0x10 ∷ 0x11 ∷ 0xA0 ∷ 0x00 ∷ 0x00 ∷ 0x00 ∷ 0x00 ∷ 0xF4 ∷ 0x24 ∷ []

abbrev pub sheet9 : List ℕ
sheet9 = nine_bytes ++ (0x00 ∷ [])

abbrev line9 : List ℕ → List Curve → Line
line9 distances curves =
    record { speed = 70; crossfall = 8; start = 0; count = 0; distances = distances; curves = curves }

-- Case 1's curve to the left, from station 123,456.789 on.
abbrev curved : List ℕ
curved =
    0x10 ∷ 0x31 ∷ 0xA1 ∷ 0xD6 ∷ 0xF3 ∷ 0x45 ∷ 0x40 ∷ 0xF4 ∷ 0x24 ∷ 0x15 ∷ 0x6C ∷ 0xC8 ∷ 0x15 ∷ 0x5C ∷ 0xC0 ∷ 0x4E ∷ 0x20 ∷ 0x01 ∷ 0x86 ∷ 0xA0 ∷ 0x00 ∷ []

abbrev left : Curve
left = record { left = true; deflection = 177764; radius = 350000; spiral = 40000 }

abbrev curved_line : List ℕ → List Curve → Line
curved_line distances curves =
    record { speed = 70; crossfall = 8; start = 123456789; count = 1; distances = distances; curves = curves }

-- The same line in edition 2.
abbrev curved_second : List ℕ
curved_second =
    0x20 ∷ 0x31 ∷ 0xA0 ∷ 0x1D ∷ 0x6F ∷ 0x34 ∷ 0x54 ∷ 0x0F ∷ 0x42 ∷ 0x41 ∷ 0x56 ∷ 0xCC ∷ 0x81 ∷ 0x55 ∷ 0xCC ∷ 0x04 ∷ 0xE2 ∷ 0x00 ∷ 0x18 ∷ 0x6A ∷ 0x00 ∷ []

-- Case 9's line from another start, in edition 1 and in edition 2: the bytes of the start, and those before and behind it.
abbrev from1 : ℕ → ℕ → ℕ → ℕ → ℕ → List ℕ
from1 a b c d e = 0x10 ∷ 0x11 ∷ a ∷ b ∷ c ∷ d ∷ e ∷ 0xF4 ∷ 0x24 ∷ 0x00 ∷ []

abbrev from2 : ℕ → ℕ → ℕ → ℕ → ℕ → List ℕ
from2 a b c d e = 0x20 ∷ 0x11 ∷ a ∷ b ∷ c ∷ d ∷ e ∷ 0x0F ∷ 0x42 ∷ 0x40 ∷ []

-- From the greatest start of edition 2.
abbrev pub far_sheet : List ℕ
far_sheet = from2 0xA3 0xB9 0xAC 0xA0 0x00

abbrev far_line : ℕ → Line
far_line start =
    record { speed = 70; crossfall = 8; start = start; count = 0; distances = 500000 ∷ replicate 64 0; curves = replicate 64 blank_curve }

-- A line of too many curves, from beyond every limit.
abbrev crowded : Line
crowded = record { speed = 0; crossfall = 0; start = 4294967295; count = 65; distances = []; curves = [] }

-- Two curves, all zero but for the last spiral and distance.
abbrev two_curves : List ℕ
two_curves = 0x10 ∷ 0x51 ∷ 0xA0 ∷ replicate 24 0 ++ (0x09 ∷ 0x00 ∷ 0x00 ∷ 0x01 ∷ 0x00 ∷ [])

-- A full line, whose 65th distance differs from the others.
abbrev full_line : Line
full_line =
    record { speed = 70; crossfall = 8; start = 0; count = 64; distances = replicate 64 500000 ++ (12345 ∷ []); curves = replicate 64 left }

-- Sheets of a head alone, each with a fault that comes later beside the one that counts.
abbrev edition0 : List ℕ
edition0 = 0x0F ∷ 0xF1 ∷ 0xA0 ∷ 0x00 ∷ 0x00 ∷ 0x00 ∷ 0x00 ∷ []

abbrev curves127 : List ℕ
curves127 = 0x1F ∷ 0xEB ∷ 0x60 ∷ 0x00 ∷ 0x00 ∷ 0x00 ∷ 0x00 ∷ []

abbrev speed45 : List ℕ
speed45 = 0x18 ∷ 0x0B ∷ 0x74 ∷ 0x00 ∷ 0x00 ∷ 0x00 ∷ 0x00 ∷ []

abbrev crossfall13 : List ℕ
crossfall13 = 0x18 ∷ 0x0A ∷ 0x37 ∷ 0xFF ∷ 0xFF ∷ 0xFF ∷ 0xC0 ∷ []

abbrev late_start : List ℕ
late_start = 0x10 ∷ 0x31 ∷ 0xA3 ∷ 0xFF ∷ 0xFF ∷ 0xFF ∷ 0xC0 ∷ []

-- "The sheet has 75 + 87 × n bits."
pub bits_of_sheet : (n : ℕ) → bit_count first_edition n ≡ 75 + 87 * n
bits_of_sheet n = omega arith

-- "sheets of edition 2": four bits more
pub bits_of_second : (n : ℕ) → bit_count second_edition n ≡ 79 + 87 * n
bits_of_second n = omega arith

-- "filled with zero bits to a whole byte": all bits have room, and fewer than eight fill.
pub whole_bytes : (E : Edition) (n : ℕ) → (bit_count E n ≤ 8 * byte_count E n) × (8 * byte_count E n < bit_count E n + 8)
whole_bytes E n = (omega arith, omega arith)

pub record Examples : Type 0 where
  pub case_9_read : outcome (read_checks sheet9) ≡ passed
  pub case_9_edition : read_edition sheet9 ≡ 1
  pub case_9_line : read_line sheet9 ≡ line9 (500000 ∷ replicate 64 0) (replicate 64 blank_curve)
  pub case_9_written : sheet_of first_edition (line9 (500000 ∷ replicate 64 0) (replicate 64 blank_curve)) ≡ sheet9
  pub case_10_fill : outcome (read_checks (nine_bytes ++ (0x01 ∷ []))) ≡ refused 7 0
  pub case_10_cut : outcome (read_checks nine_bytes) ≡ refused 1 0
  -- sizes
  pub bytes_0 : byte_count first_edition 0 ≡ 10
  pub bytes_1 : byte_count first_edition 1 ≡ 21
  pub bytes_64 : byte_count first_edition 64 ≡ 706
  -- edition 2
  pub second_bytes_0 : byte_count second_edition 0 ≡ 10
  pub second_bytes_1 : byte_count second_edition 1 ≡ 21
  pub second_bytes_64 : byte_count second_edition 64 ≡ 706
  pub second_read : outcome (read_checks curved_second) ≡ passed
  pub second_edition_lem : read_edition curved_second ≡ 2
  pub second_line : read_line curved_second ≡ read_line curved
  pub second_written : sheet_of (numbered 2) (read_line curved) ≡ curved_second
  pub second_full : length (sheet_of second_edition full_line) ≡ 706
  pub first_edition_lem : read_edition curved ≡ 1
  pub unread_edition : read_edition nine_bytes ≡ 0
  pub refused_edition : read_edition (0x20 ∷ 0x11 ∷ 0xA0 ∷ replicate 7 0) ≡ 0
  -- three curves, where a sheet of edition 2 has a byte more
  pub bytes_3 : byte_count first_edition 3 ≡ 42
  pub second_bytes_3 : byte_count second_edition 3 ≡ 43
  -- the greatest starts, and one more
  pub first_greatest : read_line (from1 0xA2 0xFA 0xF0 0x80 0x00) ≡ far_line 200000000
  pub first_beyond : outcome (read_checks (from1 0xA2 0xFA 0xF0 0x80 0x40)) ≡ refused 6 0
  pub second_greatest_read : outcome (read_checks far_sheet) ≡ passed
  pub second_greatest_edition : read_edition far_sheet ≡ 2
  pub second_greatest : read_line far_sheet ≡ far_line 4000000000
  pub second_beyond : outcome (read_checks (from2 0xA3 0xB9 0xAC 0xA0 0x04)) ≡ refused 6 0
  pub told_first : (sheet_in 1 (far_line 200000001) (replicate 10 7)).reply ≡ unfilled 6 0
  pub told_second : (sheet_in 2 (far_line 200000001) (replicate 10 7)).reply ≡ filled 10
  pub told_second_greatest : (sheet_in 2 (far_line 4000000000) (replicate 11 7)).buffer ≡ far_sheet ++ (7 ∷ [])
  pub told_second_beyond : (sheet_in 2 (far_line 4000000001) (replicate 10 7)).reply ≡ unfilled 6 0
  -- other editions
  pub third_read : outcome (read_checks (0x30 ∷ 0x11 ∷ 0xA0 ∷ 0x00 ∷ 0x00 ∷ 0x00 ∷ 0x00 ∷ 0x0F ∷ 0x42 ∷ 0x40 ∷ [])) ≡ refused 2 0
  pub third_told : (sheet_in 3 crowded []).reply ≡ unfilled 2 0
  pub none_told : (sheet_in 0 crowded []).reply ≡ unfilled 2 0
  pub count_after_edition : (sheet_in 2 crowded []).reply ≡ unfilled 3 0
  -- a sheet of edition 1 with the other's number: its distance begins four bits later
  pub other_number_lem : read_line (0x20 ∷ 0x11 ∷ 0xA0 ∷ 0x00 ∷ 0x00 ∷ 0x00 ∷ 0x00 ∷ 0xF4 ∷ 0x24 ∷ 0x00 ∷ []) ≡ line9 (8000000 ∷ replicate 64 0) (replicate 64 blank_curve)
  -- a curve
  pub curved_read : outcome (read_checks curved) ≡ passed
  pub curved_line_lem : read_line curved ≡ curved_line (500000 ∷ 400000 ∷ replicate 63 0) (left ∷ replicate 63 blank_curve)
  pub curved_written : sheet_of first_edition (curved_line (500000 ∷ 400000 ∷ replicate 63 9) (replicate 64 left)) ≡ curved
  -- n 2, the second spiral 9 and the last distance 2
  pub second_after_first : (curve_of first_edition two_curves 1).spiral ∷ distance_of first_edition two_curves 2 ∷ [] ≡ 9 ∷ 2 ∷ []
  -- the 65th distance
  pub full_length : length (sheet_of first_edition full_line) ≡ 706
  pub full_distance : distance_of first_edition (sheet_of first_edition full_line) 64 ≡ 12345
  -- the reader's order
  pub no_bytes : outcome (read_checks []) ≡ refused 1 0
  pub six_bytes_first : outcome (read_checks (0 ∷ 0 ∷ 0 ∷ 0 ∷ 0 ∷ 0 ∷ [])) ≡ refused 1 0
  pub edition_before_count : outcome (read_checks edition0) ≡ refused 2 0
  pub count_before_speed : outcome (read_checks curves127) ≡ refused 3 0
  pub speed_before_crossfall : outcome (read_checks speed45) ≡ refused 4 0
  pub crossfall_before_start : outcome (read_checks crossfall13) ≡ refused 5 0
  pub start_before_length : outcome (read_checks late_start) ≡ refused 6 0
  pub length_last : outcome (read_checks (0x10 ∷ 0x31 ∷ 0xA0 ∷ 0x00 ∷ 0x00 ∷ 0x00 ∷ 0x00 ∷ [])) ≡ refused 1 0
  pub trailing_byte : outcome (read_checks (sheet9 ++ (0 ∷ []))) ≡ refused 7 0
  pub trailing_before_distance : outcome (read_checks (0x10 ∷ 0x11 ∷ 0xA0 ∷ 0x00 ∷ 0x00 ∷ 0x00 ∷ 0x00 ∷ 0x00 ∷ 0x00 ∷ 0x01 ∷ [])) ≡ refused 7 0
  pub no_distance : outcome (read_checks (0x10 ∷ 0x11 ∷ 0xA0 ∷ 0x00 ∷ 0x00 ∷ 0x00 ∷ 0x00 ∷ 0x00 ∷ 0x00 ∷ 0x00 ∷ [])) ≡ refused 8 0
  pub refused_line : read_line nine_bytes ≡ blank_line
  -- the writer
  pub too_small : (sheet_in 1 (line9 (500000 ∷ []) []) (replicate 9 7)).reply ≡ unfilled 16 0
  pub as_lent : (sheet_in 1 (line9 (500000 ∷ []) []) (replicate 9 7)).buffer ≡ replicate 9 7
  pub exact : (sheet_in 1 (line9 (500000 ∷ []) []) (replicate 10 7)).reply ≡ filled 10
  pub remainder : (sheet_in 1 (line9 (500000 ∷ replicate 64 9) (replicate 64 left)) (replicate 12 7)).buffer ≡ sheet9 ++ (7 ∷ 7 ∷ [])
  -- store by store
  pub before_first : so_far first_edition (line9 (500000 ∷ []) []) (replicate 12 7) 0 ≡ replicate 12 7
  pub after_three : so_far first_edition (line9 (500000 ∷ []) []) (replicate 12 7) 3 ≡ 0x10 ∷ 0x11 ∷ 0xA0 ∷ replicate 9 7
  pub after_all : so_far first_edition (line9 (500000 ∷ []) []) (replicate 12 7) 10 ≡ sheet9 ++ (7 ∷ 7 ∷ [])
  pub distance_before_room : (sheet_in 1 (line9 (0 ∷ []) []) []).reply ≡ unfilled 8 0

pub examples : Examples
unfolding start_check head_checks distance_check curve_checks body_checks field_checks entries value_of bytes_of bits_at values_at packed head_of distance_of curve_of line_of size_checks frame_checks read_checks_as read_line_as edition_of read_edition entries_after number_to sheet_number sheet_of with_room fill numbered edition_check write_checks sheet_in so_far
examples =
    record {
      case_9_read = refl;
      case_9_edition = refl;
      case_9_line = refl;
      case_9_written = refl;
      case_10_fill = refl;
      case_10_cut = refl;
      bytes_0 = refl;
      bytes_1 = refl;
      bytes_64 = refl;
      second_bytes_0 = refl;
      second_bytes_1 = refl;
      second_bytes_64 = refl;
      second_read = refl;
      second_edition_lem = refl;
      second_line = refl;
      second_written = refl;
      second_full = refl;
      first_edition_lem = refl;
      unread_edition = refl;
      refused_edition = refl;
      bytes_3 = refl;
      second_bytes_3 = refl;
      first_greatest = refl;
      first_beyond = refl;
      second_greatest_read = refl;
      second_greatest_edition = refl;
      second_greatest = refl;
      second_beyond = refl;
      told_first = refl;
      told_second = refl;
      told_second_greatest = refl;
      told_second_beyond = refl;
      third_read = refl;
      third_told = refl;
      none_told = refl;
      count_after_edition = refl;
      other_number_lem = refl;
      curved_read = refl;
      curved_line_lem = refl;
      curved_written = refl;
      second_after_first = refl;
      full_length = refl;
      full_distance = refl;
      no_bytes = refl;
      six_bytes_first = refl;
      edition_before_count = refl;
      count_before_speed = refl;
      speed_before_crossfall = refl;
      crossfall_before_start = refl;
      start_before_length = refl;
      length_last = refl;
      trailing_byte = refl;
      trailing_before_distance = refl;
      no_distance = refl;
      refused_line = refl;
      too_small = refl;
      as_lent = refl;
      exact = refl;
      remainder = refl;
      before_first = refl;
      after_three = refl;
      after_all = refl;
      distance_before_room = refl;
    }
