-- The sheet of a line (document 01, "Packed sheet"), and what the writer answers and leaves in the caller's bytes
-- ("Order", and document 02, N6).
use Rattle.std.specs.Prelude.{List, [], ◌∷◌, ℕ, zero, suc}
use Rattle.refusals.specs.Order.{Checks, ◌⨾◌}
use Rattle.refusals.specs.Filling.{Fill, fill}
use Rattle.line.specs.declared.Curve.{Curve}
use Rattle.line.specs.declared.Line.{Line}
use Rattle.line.specs.Checks.{distance_at, curve_at, field_checks}
use Rattle.line.specs.Entries.{side_bit}
use Rattle.bits.specs.Bits.{packed, bytes_of}
use Rattle.packed_sheet.specs.declared.Edition.{Edition}
use Rattle.packed_sheet.specs.Layout.{numbered, edition_check, head_widths, distance_width, entry_widths, byte_count, fill_width}

-- The head's fields: edition, n, V, e, start.
abbrev pub head_values : Edition → Line → List ℕ
head_values E line = E.number ∷ line.count ∷ line.speed ∷ line.crossfall ∷ line.start ∷ []

-- A curve's fields: side, A, R, L.
abbrev pub curve_values : Curve → List ℕ
curve_values curve = side_bit curve.left ∷ curve.deflection ∷ curve.radius ∷ curve.spiral ∷ []

-- The fields of entry i: distance i, then the curve after it.
abbrev pub entry_values : Line → ℕ → List ℕ
entry_values line i = distance_at line i ∷ curve_values (curve_at line i)

-- The first i entries behind the bits of `before`, as one number: "distance 0, curve 1, distance 1, .."
unfoldable pub entries_after : Line → ℕ → ℕ → ℕ
entries_after line zero before = before
entries_after line (suc i) before = packed (entries_after line i before) entry_widths (entry_values line i)

-- The head and the first i entries.
unfoldable pub number_to : Edition → Line → ℕ → ℕ
number_to E line i = entries_after line i (packed 0 (head_widths E) (head_values E line))

-- All bits of a sheet: head, n entries, the last distance, and the zero bits that fill the last byte.
unfoldable pub sheet_number : Edition → Line → ℕ
sheet_number E line =
    packed (number_to E line line.count) (distance_width ∷ fill_width E line.count ∷ []) (distance_at line line.count ∷ 0 ∷ [])

-- The sheet of a line: its bytes.
unfoldable pub sheet_of : Edition → Line → List ℕ
sheet_of E line = bytes_of (byte_count E line.count) (sheet_number E line)

-- The writer "is told" the edition: 2, "the writer's first", then "3 to 6, 8 to 11 likewise", where 6 "follows the edition"
unfoldable pub write_checks : ℕ → Line → Checks
write_checks number line = edition_check number ⨾ field_checks (numbered number).greatest line

-- The writer, told an edition's number, with bytes lent: its checks, then 16; "the sheet at the front of the lent bytes", and its length returned
unfoldable pub sheet_in : ℕ → Line → List ℕ → Fill ℕ
sheet_in number line = fill (write_checks number line) (sheet_of (numbered number) line)
