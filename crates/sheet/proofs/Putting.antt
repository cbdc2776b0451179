-- What the writer puts is the sheet's next: the head, each entry in two groups, and the end. Assumes nothing.
use mathlib.Core.Path.{◌≡◌, sym, ◌∙◌, ap}
use mathlib.Core.List.{List, ◌∷◌}
use Prim.Native.Nat.{ℕ, ◌+◌, ◌*◌, ◌^◌, ◌≤◌, ◌<◌}
use native.Mathlib.Omega.{arith}
use lib.ListN.{length, take, drop}
use Rattle.line.specs.declared.Line.{Line}
use Rattle.line.specs.Checks.{distance_at, curve_at}
use Rattle.line.specs.Ranges.{FieldsInRange}
use Rattle.bits.specs.Bits.{bits_at, packed, total}
use Rattle.packed_sheet.specs.declared.Edition.{Edition}
use Rattle.packed_sheet.specs.Layout.{head_widths, curve_widths, entry_widths, entry_at, byte_count, fill_width}
use Rattle.packed_sheet.specs.Writing.{head_values, curve_values, sheet_of}
use Rattle.packed_sheet.proofs.FieldGroups.{head_group, turn_group, size_group, last_group}
use Rattle.packed_sheet.proofs.SoFar.{at_first}
use Rattle.packed_sheet.proofs.WaysOut.{sheet_length}
use Rattle.sheet.specs.declared.pen.Pen.{Pen}
use Rattle.sheet.specs.Handled.{Handled}
use Rattle.sheet.specs.Pens.{Told, sheet, position, Come, Next}
use Rattle.sheet.proofs.Pens.{waits_alone}

module _ (told : Told) (E : Edition) (line : Line) (same : told ≡ record { edition = E; line = line }) (handled : Handled E)
    (ok : FieldsInRange E.greatest line) where
  told_length : length (sheet told) ≡ byte_count E line.count
  told_length = ap (λ (t : Told). length (sheet t)) same ∙ sheet_length E line

  told_entry : (i : ℕ) → entry_at told.edition i ≡ entry_at E i
  told_entry i = ap (λ (t : Told). entry_at t.edition i) same

  -- Bits of the sheet at another name of their place.
  told_bits : (width : ℕ) {at at' value : ℕ} → at ≡ at' → value ≡ bits_at (sheet_of E line) at' width → value ≡ bits_at (sheet told) at width
  told_bits width e v = v ∙ λ j. bits_at (sheet (sym same j)) (sym e j) width

  -- The head, before which nothing is stored.
  pub head_waits : (bytes : List ℕ) {bits : ℕ} → byte_count told.edition told.line.count ≤ length bytes → bits ≡ packed 0 (head_widths E) (head_values E line)
      → Come told bytes (record { at = 0; pending = bits; held = 22 + E.width })
  head_waits bytes {bits} room e =
      let size : 22 + E.width ≤ 8 * length (sheet told) = omega (arith, told_length, handled.narrow) in
      let width : total (head_widths E) ≡ 22 + E.width = omega arith in
      let head = told_bits (22 + E.width) (λ j. 0) (e ∙ head_group E handled.holds line ok ∙ ap (bits_at (sheet_of E line) 0) width) in
      record {
        begun = record { room = omega (arith, sheet_length told.edition told.line); stored = sym (at_first told.edition told.line bytes) };
        waits = record { few = omega (arith, handled.narrow); next = waits_alone (sheet told) 0 (22 + E.width) bits (omega arith) head };
        within = omega arith;
      }

  -- A distance, and side and deflection of the curve after it.
  pub turn_next : (i : ℕ) (p : Pen) {bits : ℕ} → i < line.count → position p ≡ entry_at told.edition i
      → bits ≡ packed 0 (take 3 entry_widths) (take 3 (distance_at line i ∷ curve_values (curve_at line i))) → Next told p 45 bits
  turn_next i p h at e =
      record {
        narrow = omega arith;
        within = omega (arith, told_length, told_entry i);
        bits = told_bits 45 (at ∙ told_entry i) (e ∙ turn_group E handled.holds line ok i h);
      }

  -- Its radius and spiral.
  pub size_next : (i : ℕ) (p : Pen) {bits : ℕ} → i < line.count → position p ≡ entry_at told.edition i + 45
      → bits ≡ packed 0 (drop 2 curve_widths) (drop 2 (curve_values (curve_at line i))) → Next told p 42 bits
  size_next i p h at e =
      record {
        narrow = omega arith;
        within = omega (arith, told_length, told_entry i);
        bits = told_bits 42 (at ∙ ap (λ (n : ℕ). n + 45) (told_entry i)) (e ∙ size_group E handled.holds line ok i h);
      }

  -- The last distance, with the zero bits that fill the last byte.
  pub end_next : (p : Pen) {fill bits : ℕ} → position p ≡ entry_at told.edition told.line.count → fill ≡ fill_width told.edition told.line.count
      → bits ≡ distance_at line line.count * 2 ^ fill + 0 → Next told p (25 + fill) bits
  end_next p {fill} at f e =
      let place : position p ≡ entry_at E line.count = at ∙ λ j. entry_at (same j).edition (same j).line.count in
      let width : fill ≡ fill_width E line.count = f ∙ λ j. fill_width (same j).edition (same j).line.count in
      record {
        narrow = omega arith;
        within = omega (arith, told_length);
        bits = told_bits (25 + fill) place (e ∙ (λ j. distance_at line line.count * 2 ^ width j + 0) ∙ last_group E handled.holds line ok ∙ λ j. bits_at (sheet_of E line) (entry_at E line.count) (25 + sym width j));
      }
