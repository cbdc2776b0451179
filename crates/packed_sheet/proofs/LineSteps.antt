-- The reader's line, filled in entry by entry. Assumes nothing.
use mathlib.Core.Path.{◌≡◌, ◌∙◌, ap}
use mathlib.Core.List.{List}
use Prim.Native.Nat.{ℕ, suc, ◌+◌, ◌<◌}
use native.Mathlib.Numerals.{add-one}
use native.Mathlib.Omega.{arith}
use lib.ListN.{set}
use Rattle.line.specs.declared.Curve.{Curve}
use Rattle.line.specs.declared.Line.{Line}
use Rattle.line.specs.Checks.{blank_curve}
use Rattle.line.specs.Entries.{entries, blank_line, entered}
use Rattle.line.proofs.Entries.{entries_set}
use Rattle.packed_sheet.specs.declared.Head.{Head}
use Rattle.bits.specs.Bits.{bits_at, values_at}
use Rattle.packed_sheet.specs.declared.Edition.{Edition}
use Rattle.packed_sheet.specs.Layout.{distance_width, curve_widths, entry_at}
use Rattle.packed_sheet.specs.Reading.{head_of, count_of, distance_of, curve_from, curve_of, line_of}

-- A line of a head, distances and curves.
abbrev pub line_with : Head → List ℕ → List Curve → Line
line_with head distances curves =
    record {
      speed = head.speed;
      crossfall = head.crossfall;
      start = head.start;
      count = head.count;
      distances = distances;
      curves = curves;
    }

module _ (E : Edition) (s : List ℕ) where
  -- The line of a sheet with its first distances and its first curves alone.
  unfoldable pub line_to : ℕ → ℕ → Line
  line_to distances curves = line_with (head_of E s) (entries 65 distances (distance_of E s) 0) (entries 64 curves (curve_of E s) blank_curve)

  -- The head is read.
  pub line_begun : {head : Head} {line : Line} → head ≡ head_of E s → line ≡ blank_line
      → line_with head line.distances line.curves ≡ line_to 0 0
  unfolding line_to entries
  line_begun h b = λ j. line_with (h j) (b j).distances (b j).curves

  -- One distance more, at the code's `i + 1`.
  distance_read : (i : ℕ) {at d : ℕ} → i < 65 → at ≡ entry_at E i → d ≡ bits_at s at distance_width
      → set (entries 65 i (distance_of E s) 0) i d ≡ entries 65 (i + 1) (distance_of E s) 0
  unfolding distance_of
  distance_read i h a e =
      ap (set (entries 65 i (distance_of E s) 0) i) (e ∙ ap (λ (at : ℕ). bits_at s at distance_width) a)
      ∙ entries_set 65 i (distance_of E s) 0 h

  curve_read : (i : ℕ) {at : ℕ} {curve : Curve} → i < 64 → at ≡ entry_at E i → curve ≡ curve_from (values_at s (at + distance_width) curve_widths)
      → set (entries 64 i (curve_of E s) blank_curve) i curve ≡ entries 64 (i + 1) (curve_of E s) blank_curve
  unfolding curve_of
  curve_read i h a e =
      ap (set (entries 64 i (curve_of E s) blank_curve) i) (e ∙ ap (λ (at : ℕ). curve_from (values_at s (at + distance_width) curve_widths)) a)
      ∙ entries_set 64 i (curve_of E s) blank_curve h

  -- One distance and the curve after it more.
  pub entry_read : (i : ℕ) {line : Line} {at d : ℕ} {curve : Curve} → i < 64 → line ≡ line_to i i → at ≡ entry_at E i
      → d ≡ bits_at s at distance_width → curve ≡ curve_from (values_at s (at + distance_width) curve_widths)
      → entered line (set line.distances i d) (set line.curves i curve) ≡ line_to (i + 1) (i + 1)
  unfolding line_to
  entry_read i h l a d c = rw l (λ j. line_with (head_of E s) (distance_read i (omega arith) a d j) (curve_read i h a c j))

  -- The last distance.
  pub last_read : (n : ℕ) {line : Line} {at d : ℕ} → n < 65 → n ≡ count_of E s → line ≡ line_to n n
      → at ≡ entry_at E n → d ≡ bits_at s at distance_width
      → entered line (set line.distances n d) line.curves ≡ line_of E s
  unfolding line_to line_of
  last_read n h e l a d =
      rw l
      (λ j. line_with (head_of E s)
      ((distance_read n h a d ∙ ap (λ (m : ℕ). entries 65 m (distance_of E s) 0) (add-one n ∙ ap suc e)) j)
      (entries 64 (e j) (curve_of E s) blank_curve))
