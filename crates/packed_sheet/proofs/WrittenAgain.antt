-- A sheet read and written again: the fields read are the fields packed, and no other is there. Assumes nothing.
use mathlib.Core.Path.{◌≡◌, sym, ◌∙◌, ap}
use mathlib.Core.List.{List, [], ◌∷◌}
use Prim.Native.Nat.{ℕ, zero, suc, ◌+◌, ◌≤◌, ◌<◌}
use native.Mathlib.Omega.{arith}
use Rattle.line.specs.Checks.{distance_at, blank_curve, curve_at}
use Rattle.line.specs.Entries.{entered, cleared}
use Rattle.line.proofs.Entries.{entries_get, entries_same}
use Rattle.line.proofs.Sides.{bit_of_side}
use Rattle.bits.specs.Bits.{Bytes, value_of, bytes_of, bits_at, values_at, packed}
use Rattle.packed_sheet.specs.declared.Edition.{Edition}
use Rattle.packed_sheet.specs.Layout.{head_widths, distance_width, entry_widths, entry_at, fill_width}
use Rattle.packed_sheet.specs.Reading.{head_of, count_of, distance_of, curve_of, line_of}
use Rattle.packed_sheet.specs.Writing.{head_values, curve_values, entry_values, entries_after, number_to, sheet_number, sheet_of}
use Rattle.bits.proofs.Bytes.{bytes_value}
use Rattle.bits.proofs.Fields.{up_to, all_bits, no_bits, bits_lt, read_packed}
use Rattle.packed_sheet.proofs.Frames.{Framed}

module _ (E : Edition) (s : List ℕ) (frame : Framed E s) where
  head_values_lem : head_values E (line_of E s) ≡ values_at s 0 (head_widths E)
  unfolding line_of head_of values_at
  head_values_lem =
      let head = head_of E s in
      λ j. sym frame.edition j ∷ head.count ∷ head.speed ∷ head.crossfall ∷ head.start ∷ []

  same_distance : (i : ℕ) → i ≤ count_of E s → distance_at (line_of E s) i ≡ distance_of E s i
  unfolding line_of
  same_distance i h = entries_get 65 (suc (count_of E s)) i (distance_of E s) 0 0 (omega arith) (omega (arith, frame.few))

  same_curve : (i : ℕ) → i < count_of E s → curve_at (line_of E s) i ≡ curve_of E s i
  unfolding line_of
  same_curve i h = entries_get 64 (count_of E s) i (curve_of E s) blank_curve blank_curve h frame.few

  entry_values_lem : (i : ℕ) → i < count_of E s → entry_values (line_of E s) i ≡ values_at s (entry_at E i) entry_widths
  unfolding distance_of curve_of values_at
  entry_values_lem i h =
      let at = entry_at E i + distance_width in
      let side = bit_of_side (bits_at s at 1) (omega (arith, bits_lt s at 1)) in
      (λ j. same_distance i (omega arith) j ∷ curve_values (same_curve i h j))
      ∙ (λ j. distance_of E s i ∷ side j ∷ (curve_of E s i).deflection ∷ (curve_of E s i).radius ∷ (curve_of E s i).spiral ∷ [])

  -- The unused entries of a line that was read are zero.
  pub line_cleared : cleared (line_of E s) ≡ line_of E s
  unfolding cleared line_of
  line_cleared =
      let n = count_of E s in
      let distances = entries_same 65 (suc n) (distance_at (line_of E s)) (distance_of E s) 0 (λ i h. same_distance i (omega arith)) in
      let curves = entries_same 64 n (curve_at (line_of E s)) (curve_of E s) blank_curve same_curve in
      λ j. entered (line_of E s) (distances j) (curves j)

module _ (E : Edition) (s : List ℕ) (bytes : Bytes s) (frame : Framed E s) where
  -- Head and first i entries.
  number_read : (i : ℕ) → i ≤ count_of E s → number_to E (line_of E s) i ≡ up_to s (entry_at E i)
  unfolding number_to entries_after
  number_read zero h =
      let none = sym (no_bits s bytes) in
      (λ j. packed (none j) (head_widths E) (head_values_lem E s frame j))
      ∙ sym (read_packed s 0 (head_widths E) (omega (arith, frame.size)))
      ∙ ap (up_to s) (omega arith)
  number_read (suc i) h =
      (λ j. packed (number_read i (omega arith) j) entry_widths (entry_values_lem E s frame i h j))
      ∙ sym (read_packed s (entry_at E i) entry_widths (omega (arith, frame.size)))
      ∙ ap (up_to s) (omega arith)

  pub sheet_again : sheet_of E (line_of E s) ≡ s
  unfolding sheet_of sheet_number line_of distance_of values_at
  sheet_again =
      let n = count_of E s in
      let widths = distance_width ∷ fill_width E n ∷ [] in
      let last = same_distance E s frame n (omega arith) in
      let fill = sym frame.fill in
      let number : sheet_number E (line_of E s) ≡ value_of s =
      (λ j. packed (number_read n (omega arith) j) widths (last j ∷ fill j ∷ []))
      ∙ sym (read_packed s (entry_at E n) widths (omega (arith, frame.size)))
      ∙ all_bits s (omega (arith, frame.size)) in
      let size = sym frame.size in
      (λ j. bytes_of (size j) (number j)) ∙ bytes_value s bytes
