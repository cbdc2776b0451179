-- The writer ignores unused entries, in either edition: a line and the same with its unused entries zero have one sheet, one answer and one content of the bytes.
-- Assumes nothing.
use mathlib.Core.Path.{◌≡◌, refl, ap}
use mathlib.Core.List.{List, [], ◌∷◌}
use Prim.Native.Nat.{ℕ, zero, suc, ◌≤◌}
use native.Mathlib.Omega.{arith}
use Rattle.refusals.specs.Outcomes.{Outcome, ◌▹◌}
use Rattle.refusals.specs.Order.{outcome}
use Rattle.refusals.proofs.FillWays.{same_fill}
use Rattle.line.specs.declared.Line.{Line}
use Rattle.line.specs.Entries.{cleared}
use Rattle.line.proofs.Unused.{unused_ignored, cleared_distance, cleared_curve, cleared_alike}
use Rattle.bits.specs.Bits.{packed, bytes_of}
use Rattle.packed_sheet.specs.declared.Edition.{Edition}
use Rattle.packed_sheet.specs.Layout.{numbered, edition_check, head_widths, distance_width, entry_widths, byte_count, fill_width}
use Rattle.packed_sheet.specs.Writing.{head_values, curve_values, entries_after, number_to, sheet_number, sheet_of, write_checks, sheet_in}

module _ (E : Edition) (line : Line) (few : line.count ≤ 64) where
  same_entries : (i x : ℕ) → i ≤ line.count → entries_after (cleared line) i x ≡ entries_after line i x
  unfolding entries_after
  same_entries zero x h = refl
  same_entries (suc i) x h =
      λ j. packed (same_entries i x (omega arith) j) entry_widths (cleared_distance line few i (omega arith) j ∷ curve_values (cleared_curve line few i h j))

  pub same_sheet : sheet_of E (cleared line) ≡ sheet_of E line
  unfolding sheet_of sheet_number number_to cleared
  same_sheet =
      let n = line.count in
      let head = packed 0 (head_widths E) (head_values E line) in
      λ j.
      bytes_of (byte_count E n)
      (packed (same_entries n head (omega arith) j) (distance_width ∷ fill_width E n ∷ []) (cleared_distance line few n (omega arith) j ∷ 0 ∷ []))

-- The same answer and the same bytes, whatever edition is told and whatever bytes are lent.
pub same_call : (number : ℕ) (line : Line) → line.count ≤ 64 → (bytes : List ℕ) → sheet_in number (cleared line) bytes ≡ sheet_in number line bytes
unfolding sheet_in write_checks
same_call number line few bytes =
    same_fill (write_checks number (cleared line)) (write_checks number line) (sheet_of (numbered number) (cleared line)) (sheet_of (numbered number) line) bytes
    (ap (λ (o : Outcome). outcome (edition_check number) ▹ o) (unused_ignored (cleared line) line (cleared_alike line few) _)) (same_sheet (numbered number) line few)
