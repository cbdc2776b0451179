-- The fields of a line's sheet in the groups that the writer puts, each as one field of the sheet. Assumes nothing.
use mathlib.Core.Path.{◌≡◌, sym, ◌∙◌, ap}
use mathlib.Core.List.{List}
use Prim.Native.Nat.{ℕ, ◌+◌, ◌*◌, ◌^◌, ◌≤◌, ◌<◌}
use native.Mathlib.Nat.{zero-mul, zero-add}
use native.Mathlib.Omega.{arith}
use lib.ListN.{length, take, drop, get_or}
use Rattle.line.specs.declared.Line.{Line}
use Rattle.line.specs.Checks.{distance_at}
use Rattle.line.specs.Ranges.{FieldsInRange}
use Rattle.bits.specs.Bits.{bits_at, values_at, packed, total}
use Rattle.bits.proofs.Words.{two_parts, as_one}
use Rattle.packed_sheet.specs.declared.Edition.{Edition}
use Rattle.packed_sheet.specs.Layout.{Holds, head_widths, distance_width, entry_widths, entry_at, fill_width}
use Rattle.packed_sheet.specs.Writing.{head_values, entry_values, sheet_of}
use Rattle.packed_sheet.proofs.WaysOut.{sheet_length}
use Rattle.packed_sheet.proofs.ReadAgain.{head_fields_again, entry_again, last_again}

-- Fields that stand in a sheet, as one field.
group : (s : List ℕ) (from : ℕ) (ws vs : List ℕ) → from + total ws ≤ 8 * length s → values_at s from ws ≡ vs → packed 0 ws vs ≡ bits_at s from (total ws)
group s from ws vs h e = ap (packed 0 ws) (sym e) ∙ as_one s 0 from ws h ∙ rw (zero-mul, zero-add)

module _ (E : Edition) (holds : Holds E) (line : Line) (ok : FieldsInRange E.greatest line) where
  -- The head.
  pub head_group : packed 0 (head_widths E) (head_values E line) ≡ bits_at (sheet_of E line) 0 (total (head_widths E))
  head_group = group (sheet_of E line) 0 (head_widths E) (head_values E line) (omega (arith, sheet_length E line)) (head_fields_again E holds line ok)

  module _ (i : ℕ) (h : i < line.count) where
    -- A distance, and side and deflection of the curve after it.
    pub turn_group : packed 0 (take 3 entry_widths) (take 3 (entry_values line i)) ≡ bits_at (sheet_of E line) (entry_at E i) (total (take 3 entry_widths))
    unfolding values_at
    turn_group =
        group (sheet_of E line) (entry_at E i) (take 3 entry_widths) _ (omega (arith, sheet_length E line))
        (ap (take 3) (entry_again E holds line ok i h))

    -- Its radius and spiral.
    pub size_group : packed 0 (drop 3 entry_widths) (drop 3 (entry_values line i))
        ≡ bits_at (sheet_of E line) (entry_at E i + total (take 3 entry_widths)) (total (drop 3 entry_widths))
    unfolding values_at
    size_group =
        let from : entry_at E i + 25 + 1 + 19 ≡ entry_at E i + total (take 3 entry_widths) = omega arith in
        group (sheet_of E line) (entry_at E i + 25 + 1 + 19) (drop 3 entry_widths) _ (omega (arith, sheet_length E line))
        (ap (drop 3) (entry_again E holds line ok i h))
        ∙ ap (λ (b : ℕ). bits_at (sheet_of E line) b 42) from

  -- The last distance, and the zero bits of the fill.
  pub last_group : distance_at line line.count * 2 ^ fill_width E line.count + 0
      ≡ bits_at (sheet_of E line) (entry_at E line.count) (distance_width + fill_width E line.count)
  unfolding values_at
  last_group =
      let again = (last_again E holds line ok).1 in
      (λ j. get_or (sym again j) 0 0 * 2 ^ fill_width E line.count + get_or (sym again j) 1 0)
      ∙ two_parts (sheet_of E line) (entry_at E line.count) distance_width (fill_width E line.count) (omega (arith, sheet_length E line))
