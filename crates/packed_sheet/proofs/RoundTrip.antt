-- Reader and writer undo each other, for every edition. Assumes nothing.
use mathlib.Core.Path.{◌≡◌, sym, ◌∙◌, ap}
use mathlib.Core.List.{List}
use Prim.Native.Nat.{ℕ, ◌≤◌}
use native.Mathlib.Omega.{arith}
use Rattle.refusals.specs.Outcomes.{Outcome, passed}
use Rattle.refusals.specs.Order.{outcome}
use Rattle.line.specs.declared.Line.{Line}
use Rattle.line.specs.Checks.{greatest_start, field_checks, line_checks}
use Rattle.line.specs.Entries.{line_after, cleared}
use Rattle.line.proofs.InRange.{line_in_range, line_passes, other_greatest}
use Rattle.bits.specs.Bits.{Bytes}
use Rattle.packed_sheet.specs.declared.Edition.{Edition}
use Rattle.packed_sheet.specs.Layout.{numbered, edition_check, Holds}
use Rattle.packed_sheet.specs.Reading.{line_of, read_checks_as, read_line_as, edition_of, read_checks, read_line, read_edition}
use Rattle.packed_sheet.specs.Writing.{sheet_of, write_checks}
use Rattle.packed_sheet.proofs.Frames.{framed}
use Rattle.packed_sheet.proofs.WaysOut.{frame_passes, accepted_line}
use Rattle.packed_sheet.proofs.WrittenAgain.{line_cleared, sheet_again}
use Rattle.packed_sheet.proofs.ReadAgain.{line_again, read_again}
use Rattle.packed_sheet.proofs.Editions.{numbered_holds, start_of_line, own_passes, known_number, edition_again, reported, reported_edition, told_edition, told_fields, both_pass}

-- A line written and read again comes back with its unused entries zero.
pub write_then_read : (E : Edition) → Holds E → (line : Line) → outcome (field_checks E.greatest line) ≡ passed
    → (outcome (read_checks_as E (sheet_of E line)) ≡ passed) × (read_line_as E (sheet_of E line) ≡ cleared line)
unfolding read_line_as
write_then_read E holds line e =
    let ok = line_in_range line e in
    let read = read_again E holds line ok in
    (read, ap (λ (o : Outcome). line_after o (line_of E (sheet_of E line))) read ∙ line_again E holds line ok)

-- A sheet read and written again has the same bytes.
pub read_then_write : (E : Edition) (s : List ℕ) → Bytes s → outcome (read_checks_as E s) ≡ passed → sheet_of E (read_line_as E s) ≡ s
unfolding read_line_as
read_then_write E s bytes e =
    ap (λ (o : Outcome). sheet_of E (line_after o (line_of E s))) e ∙ sheet_again E s bytes (framed E s (frame_passes E s e))

-- ---- both editions at once

-- What the writer writes, the reader reads: the edition that was told, and the line with its unused entries zero.
pub written_read : (number : ℕ) (line : Line) → outcome (write_checks number line) ≡ passed
    → (outcome (read_checks (sheet_of (numbered number) line)) ≡ passed)
    × (read_edition (sheet_of (numbered number) line) ≡ number)
    × (read_line (sheet_of (numbered number) line) ≡ cleared line)
written_read number line e =
    let E : Edition = numbered number in
    let s : List ℕ = sheet_of E line in
    let fields = told_fields number line e in
    let same : edition_of s ≡ E = edition_again number line (line_in_range line fields) in
    let again = write_then_read E (numbered_holds number) line fields in
    let passes = ap (λ (E : Edition). outcome (read_checks_as E s)) same ∙ again.0 in
    (passes, reported s passes ∙ ap (λ (E : Edition). E.number) same ∙ sym (known_number number (told_edition number line e)), ap (λ (E : Edition). read_line_as E s) same ∙ again.1)

-- What the reader reads, the writer takes, told the edition that was reported, and writes the same bytes.
pub read_passes : (s : List ℕ) → outcome (read_checks s) ≡ passed → outcome (write_checks (read_edition s) (read_line s)) ≡ passed
unfolding edition_of
read_passes s e =
    let known = ap (λ (n : ℕ). outcome (edition_check n)) (reported s e) ∙ own_passes _ in
    let fields = ap (λ (E : Edition). outcome (field_checks E.greatest (read_line s))) (reported_edition s e) ∙ accepted_line (edition_of s) s e in
    both_pass (read_edition s) (read_line s) known fields

-- Its start is one that its edition holds.
pub start_held : (s : List ℕ) → outcome (read_checks s) ≡ passed → (read_line s).start ≤ (numbered (read_edition s)).greatest
start_held s e = (line_in_range (read_line s) (told_fields (read_edition s) (read_line s) (read_passes s e))).start_most

-- And so it is one that lines may have: a line that is read passes where lines are worked on.
pub read_line_passes : (s : List ℕ) → outcome (read_checks s) ≡ passed → outcome (line_checks (read_line s)) ≡ passed
read_line_passes s e =
    let ok = line_in_range (read_line s) (told_fields (read_edition s) (read_line s) (read_passes s e)) in
    line_passes (read_line s) (other_greatest greatest_start (read_line s) ok (omega (arith, start_held s e, start_of_line (read_edition s))))

pub read_written : (s : List ℕ) → Bytes s → outcome (read_checks s) ≡ passed → sheet_of (numbered (read_edition s)) (read_line s) ≡ s
read_written s bytes e = ap (λ (E : Edition). sheet_of E (read_line s)) (reported_edition s e) ∙ read_then_write (edition_of s) s bytes e

-- The unused entries of the line that is read are zero.
pub read_cleared : (s : List ℕ) → outcome (read_checks s) ≡ passed → cleared (read_line s) ≡ read_line s
unfolding read_line_as
read_cleared s e =
    let E : Edition = edition_of s in
    let line = ap (λ (o : Outcome). line_after o (line_of E s)) e in
    ap cleared line ∙ line_cleared E s (framed E s (frame_passes E s e)) ∙ sym line
