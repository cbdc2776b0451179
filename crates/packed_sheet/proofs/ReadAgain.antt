-- A line written and read again: from the end of the sheet back, each field packed is the field read. Assumes nothing.
use mathlib.Core.Path.{◌≡◌, refl, sym, ◌∙◌, ap, subst}
use mathlib.Core.List.{List, [], ◌∷◌}
use Prim.Native.Nat.{ℕ, zero, suc, ◌+◌, ◌-◌, ◌*◌, ◌^◌, ◌≤◌, ◌<◌}
use native.Mathlib.Nat.{add-zero, mod-eq_of_lt}
use native.Mathlib.Decide.{dec_le}
use native.Mathlib.Omega.{arith}
use lib.Dec.{eqb}
use lib.ListN.{length, drop, get_or}
use lib.Pow.{pow_pos}
use borrow.Author.Tests.{le-leb, eq-eqb}
use Rattle.refusals.specs.Outcomes.{passed, need, ◌▹◌}
use Rattle.refusals.specs.Order.{outcome}
use Rattle.refusals.proofs.Joining.{passed_left}
use Rattle.line.specs.declared.Curve.{Curve}
use Rattle.line.specs.declared.Line.{Line}
use Rattle.line.specs.Checks.{distance_at, blank_curve, curve_at, head_checks, field_checks}
use Rattle.line.specs.Entries.{entries, cleared}
use Rattle.line.specs.Ranges.{FieldsInRange}
use Rattle.line.proofs.Entries.{entries_same}
use Rattle.line.proofs.InRange.{line_passes}
use Rattle.line.proofs.Sides.{side_of_bit}
use Rattle.line.proofs.Unused.{unused_ignored, cleared_alike}
use Rattle.bits.specs.Bits.{value_of, bits_at, values_at, total, Fit}
use Rattle.packed_sheet.specs.declared.Edition.{Edition}
use Rattle.packed_sheet.specs.Layout.{Holds, head_widths, distance_width, entry_widths, entry_at, bit_count, byte_count, fill_width}
use Rattle.packed_sheet.specs.Reading.{head_from, curve_from, head_of, distance_of, curve_of, line_of, size_checks, frame_checks, read_checks_as}
use Rattle.packed_sheet.specs.Writing.{head_values, curve_values, entry_values, entries_after, number_to, sheet_number, sheet_of}
use Rattle.bits.proofs.Bytes.{value_bytes}
use Rattle.bits.proofs.Fields.{up_to, all_bits, packed_read, packed_lt}
use Rattle.packed_sheet.proofs.Fitting.{head_fits, distance_fits, entry_fits, seven_bytes}
use Rattle.packed_sheet.proofs.LineSteps.{line_with}
use Rattle.packed_sheet.proofs.WaysOut.{sheet_length, line_decides}

curve_of_values : (c : Curve) → curve_from (curve_values c) ≡ c
curve_of_values c = λ j. record { left = side_of_bit c.left j; deflection = c.deflection; radius = c.radius; spiral = c.spiral }

module _ (E : Edition) (holds : Holds E) (line : Line) (ok : FieldsInRange E.greatest line) where
  -- Head and first i entries have as many bits as the layout says.
  number_lt : (i : ℕ) → i ≤ line.count → number_to E line i < 2 ^ entry_at E i
  unfolding number_to entries_after
  number_lt zero h =
      let bits : 0 + total (head_widths E) ≡ entry_at E 0 = omega arith in
      rw (← bits) (packed_lt 0 0 (head_widths E) (head_values E line) (head_fits E line ok holds) (omega arith))
  number_lt (suc i) h =
      let bits : entry_at E i + total entry_widths ≡ entry_at E (suc i) = omega arith in
      rw (← bits) (packed_lt (entry_at E i) _ entry_widths (entry_values line i) (entry_fits line ok i h) (number_lt i (omega arith)))

  -- The sheet, and what follows its entries: the last distance and the fill.
  abbrev sheet : List ℕ
  sheet = sheet_of E line

  abbrev last_widths : List ℕ
  last_widths = distance_width ∷ fill_width E line.count ∷ []

  abbrev last_values : List ℕ
  last_values = distance_at line line.count ∷ 0 ∷ []

  last_fits : Fit last_widths last_values
  last_fits = (distance_fits line ok line.count (omega arith), (pow_pos (fill_width E line.count), tt))

  sheet_value : value_of sheet ≡ sheet_number E line
  unfolding sheet_of sheet_number
  sheet_value =
      let k = byte_count E line.count in
      let bits : entry_at E line.count + total last_widths ≡ 8 * k = omega arith in
      let fits = packed_lt (entry_at E line.count) _ last_widths last_values last_fits (number_lt line.count (omega arith)) in
      value_bytes k (sheet_number E line) ∙ mod-eq_of_lt (subst (λ (b : ℕ). sheet_number E line < 2 ^ b) bits fits)

  pub last_again : (up_to sheet (entry_at E line.count) ≡ number_to E line line.count)
      × (values_at sheet (entry_at E line.count) last_widths ≡ last_values)
  unfolding sheet_number
  last_again =
      packed_read sheet (entry_at E line.count) _ last_widths last_values last_fits (omega (arith, sheet_length E line))
      (all_bits sheet (omega (arith, sheet_length E line)) ∙ sheet_value)

  entry_step : (i : ℕ) → i < line.count → up_to sheet (entry_at E (suc i)) ≡ number_to E line (suc i)
      → (up_to sheet (entry_at E i) ≡ number_to E line i) × (values_at sheet (entry_at E i) entry_widths ≡ entry_values line i)
  unfolding number_to entries_after
  entry_step i h e =
      let bits : entry_at E i + total entry_widths ≡ entry_at E (suc i) = omega arith in
      packed_read sheet (entry_at E i) _ entry_widths (entry_values line i) (entry_fits line ok i h) (omega (arith, sheet_length E line))
      (ap (up_to sheet) bits ∙ e)

  -- From the end of the sheet back to entry i.
  from_end : (j i : ℕ) → i + j ≡ line.count → up_to sheet (entry_at E i) ≡ number_to E line i
  from_end zero i e =
      let same : i ≡ line.count = omega (arith, add-zero i) in
      rw same last_again.0
  from_end (suc j) i e = (entry_step i (omega arith) (from_end j (suc i) (omega arith))).0

  number_again : (i : ℕ) → i ≤ line.count → up_to sheet (entry_at E i) ≡ number_to E line i
  number_again i h = from_end (line.count - i) i (omega arith)

  pub entry_again : (i : ℕ) → i < line.count → values_at sheet (entry_at E i) entry_widths ≡ entry_values line i
  entry_again i h = (entry_step i h (number_again (suc i) h)).1

  pub head_fields_again : values_at sheet 0 (head_widths E) ≡ head_values E line
  unfolding number_to entries_after
  head_fields_again =
      let bits : 0 + total (head_widths E) ≡ entry_at E 0 = omega arith in
      (packed_read sheet 0 0 (head_widths E) (head_values E line) (head_fits E line ok holds) (omega (arith, sheet_length E line))
      (ap (up_to sheet) bits ∙ number_again 0 (omega arith))).1

  pub head_again : head_of E sheet ≡ head_from (head_values E line)
  unfolding head_of
  head_again = ap head_from head_fields_again

  distance_again : (i : ℕ) → i ≤ line.count → distance_of E sheet i ≡ distance_at line i
  unfolding distance_of values_at
  distance_again i h = go (dec_le (suc i) line.count)
    where
      go : Dec (suc i ≤ line.count) → distance_of E sheet i ≡ distance_at line i
      go (yes below) = ap (λ (l : List ℕ). get_or l 0 0) (entry_again i below)
      go (no above) =
          let same : i ≡ line.count = omega arith in
          rw same (ap (λ (l : List ℕ). get_or l 0 0) last_again.1)

  curve_again : (i : ℕ) → i < line.count → curve_of E sheet i ≡ curve_at line i
  unfolding curve_of values_at
  curve_again i h = ap (λ (l : List ℕ). curve_from (drop 1 l)) (entry_again i h) ∙ curve_of_values (curve_at line i)

  pub line_again : line_of E sheet ≡ cleared line
  unfolding line_of cleared
  line_again =
      let distances = entries_same 65 (suc line.count) (distance_of E sheet) (distance_at line) 0 (λ i h. distance_again i (omega arith)) in
      let curves = entries_same 64 line.count (curve_of E sheet) (curve_at line) blank_curve curve_again in
      (λ j. line_with (head_again j) (entries 65 (suc (head_again j).count) (distance_of E sheet) 0) (entries 64 (head_again j).count (curve_of E sheet) blank_curve))
      ∙ (λ j. line_with (head_from (head_values E line)) (distances j) (curves j))

  whole_again : outcome (size_checks E sheet line.count) ≡ passed
  unfolding size_checks values_at
  whole_again =
      let size = sheet_length E line in
      let bytes = byte_count E line.count in
      let fill : bits_at sheet (bit_count E line.count) (fill_width E line.count) ≡ 0 = ap (λ (l : List ℕ). get_or l 1 0) last_again.1 in
      rw (le-leb bytes (length sheet) (omega (arith, size)), le-leb (length sheet) bytes (omega (arith, size)), fill)

  frame_again : outcome (frame_checks E sheet) ≡ passed
  unfolding frame_checks field_checks
  frame_again =
      let long = le-leb 7 (length sheet) (omega (arith, sheet_length E line, seven_bytes E holds line.count)) in
      let fields = passed_left (outcome (head_checks E.greatest line.count line.speed line.crossfall line.start)) _ (line_passes line ok) in
      (λ j.
      need (long j) 1 0
      ▹ need (eqb (head_again j).edition E.number) 2 0
      ▹ outcome (head_checks E.greatest (head_again j).count (head_again j).speed (head_again j).crossfall (head_again j).start)
      ▹ outcome (size_checks E sheet (head_again j).count))
      ∙ rw (eq-eqb E.number E.number refl, fields) whole_again

  pub read_again : outcome (read_checks_as E sheet) ≡ passed
  read_again =
      sym (line_decides E sheet frame_again)
      ∙ ap (λ (l : Line). outcome (field_checks E.greatest l)) line_again
      ∙ unused_ignored (cleared line) line (cleared_alike line ok.few) _
      ∙ line_passes line ok
