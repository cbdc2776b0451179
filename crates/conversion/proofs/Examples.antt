-- Document 01's case 9 there and back, both sides of each limit, and the order of the refusals, by computation. Assumes nothing.
use mathlib.Core.Path.{◌≡◌, refl}
use mathlib.Core.List.{List, [], ◌∷◌, ◌++◌}
use Prim.Native.Nat.{ℕ}
use lib.ListN.{replicate}
use Rattle.refusals.specs.Outcomes.{passed, refused}
use Rattle.refusals.specs.Filling.{filled, unfilled, with_room, fill}
use Rattle.refusals.specs.Order.{outcome}
use Rattle.line.specs.Checks.{start_check, head_checks, distance_check, curve_checks, body_checks, field_checks}
use Rattle.line.specs.Entries.{entries}
use Rattle.bits.specs.Bits.{value_of, bytes_of, bits_at, values_at, packed}
use Rattle.packed_sheet.specs.Layout.{numbered, edition_check}
use Rattle.packed_sheet.specs.Reading.{head_of, distance_of, curve_of, line_of, size_checks, frame_checks, read_checks_as, read_line_as, edition_of, read_edition}
use Rattle.packed_sheet.specs.Writing.{entries_after, number_to, sheet_number, sheet_of}
use Rattle.packed_sheet.proofs.Examples.{sheet9}
use Rattle.conversion.specs.Conversion.{other_number, asked_checks, convert_checks, converted, conversion}

-- Case 9's line from a start whose bits are these, in edition 2; from 0 it is case 9's line.
abbrev from : ℕ → ℕ → ℕ → ℕ → ℕ → List ℕ
from a b c d e = 0x20 ∷ 0x11 ∷ a ∷ b ∷ c ∷ d ∷ e ∷ 0x0F ∷ 0x42 ∷ 0x40 ∷ []

abbrev second9 : List ℕ
second9 = from 0xA0 0x00 0x00 0x00 0x00

pub record Examples : Type 0 where
  -- there and back
  pub there : converted sheet9 2 ≡ second9
  pub back : converted second9 1 ≡ sheet9
  pub there_accepted : outcome (convert_checks sheet9 2) ≡ passed
  pub back_accepted : outcome (convert_checks second9 1) ≡ passed
  -- a start of 200,000,000, and one more
  pub greatest : outcome (convert_checks (from 0xA0 0x2F 0xAF 0x08 0x00) 1) ≡ passed
  pub beyond : outcome (convert_checks (from 0xA0 0x2F 0xAF 0x08 0x04) 1) ≡ refused 24 0
  -- another edition than the other
  pub first_again : outcome (convert_checks sheet9 1) ≡ refused 2 0
  pub second_again : outcome (convert_checks second9 2) ≡ refused 2 0
  pub third : outcome (convert_checks sheet9 3) ≡ refused 2 0
  pub none : outcome (convert_checks second9 0) ≡ refused 2 0
  -- the order
  pub reading_first : outcome (convert_checks (sheet9 ++ (0 ∷ [])) 3) ≡ refused 7 0
  pub distance_first : outcome (convert_checks (0x10 ∷ 0x11 ∷ 0xA0 ∷ replicate 7 0) 1) ≡ refused 8 0
  pub edition_before_start : outcome (convert_checks (from 0xA0 0x2F 0xAF 0x08 0x04) 2) ≡ refused 2 0
  pub start_before_room : (conversion (from 0xA0 0x2F 0xAF 0x08 0x04) 1 []).reply ≡ unfilled 24 0
  pub too_small : (conversion sheet9 2 (replicate 9 7)).reply ≡ unfilled 16 0
  pub as_lent : (conversion sheet9 2 (replicate 9 7)).buffer ≡ replicate 9 7
  pub exact : (conversion sheet9 2 (replicate 10 7)).reply ≡ filled 10
  pub remainder : (conversion sheet9 2 (replicate 12 7)).buffer ≡ second9 ++ (7 ∷ 7 ∷ [])

pub examples : Examples
unfolding start_check head_checks distance_check curve_checks body_checks field_checks entries value_of bytes_of bits_at values_at packed head_of distance_of curve_of line_of size_checks frame_checks read_checks_as read_line_as edition_of read_edition entries_after number_to sheet_number sheet_of with_room fill numbered edition_check other_number asked_checks convert_checks converted conversion
examples =
    record {
      there = refl;
      back = refl;
      there_accepted = refl;
      back_accepted = refl;
      greatest = refl;
      beyond = refl;
      first_again = refl;
      second_again = refl;
      third = refl;
      none = refl;
      reading_first = refl;
      distance_first = refl;
      edition_before_start = refl;
      start_before_room = refl;
      too_small = refl;
      as_lent = refl;
      exact = refl;
      remainder = refl;
    }
