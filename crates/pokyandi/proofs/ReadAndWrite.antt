-- `pokyandi_read` and `pokyandi_write` undo each other. Assumes nothing.
use mathlib.Core.Path.{◌≡◌, refl, sym, ◌∙◌, ap, subst}
use mathlib.Core.List.{List, ◌++◌}
use Prim.Native.Nat.{ℕ, ◌+◌, ◌*◌, ◌^◌, ◌≤◌, ◌<◌}
use native.Mathlib.Omega.{arith}
use lib.ListN.{length, take, drop}
use Rattle.refusals.specs.Outcomes.{passed}
use Rattle.refusals.specs.Filling.{FillReply, filled, unfilled, fill}
use Rattle.refusals.specs.Order.{outcome}
use Rattle.refusals.proofs.Joining.{passed_left, passed_right, join}
use Rattle.refusals.proofs.FillWays.{known_fill}
use Rattle.refusals.proofs.Filled.{found}
use Rattle.line.specs.Entries.{cleared}
use Rattle.line.proofs.InRange.{line_in_range}
use Rattle.line_numbers.specs.Numbers.{line_numbers, line_of, count_check, numbers_checks}
use Rattle.line_numbers.proofs.LineAndNumbers.{line_again, outcome_again, numbers_again}
use Rattle.packed_sheet.specs.Layout.{numbered, edition_check}
use Rattle.packed_sheet.specs.Reading.{read_checks, read_line, read_edition}
use Rattle.packed_sheet.specs.Writing.{sheet_of}
use Rattle.packed_sheet.proofs.Editions.{told_edition, told_fields, both_pass}
use Rattle.packed_sheet.proofs.RoundTrip as sheets
use Rattle.round_trips.proofs.Unused.{same_sheet}
use Rattle.pokyandi.specs.Answers.{answer_number}
use Rattle.pokyandi.specs.Calls.{sheet_numbers, told_checks, numbers_sheet}
use Rattle.pokyandi.proofs.AnswersTold.{Told, read_told}

-- A line given as numbers, written and read again, comes back as those numbers, with the edition that was told.
pub write_then_read : (number : ℕ) (numbers : List ℕ) → outcome (told_checks number numbers) ≡ passed
    → (outcome (read_checks (numbers_sheet number numbers)) ≡ passed)
    × (read_edition (numbers_sheet number numbers) ≡ number)
    × (sheet_numbers (numbers_sheet number numbers) ≡ numbers)
unfolding told_checks numbers_checks numbers_sheet sheet_numbers
write_then_read number numbers accepted =
    let line = line_of numbers in
    let known = passed_left (outcome (edition_check number)) _ accepted in
    let then = passed_right (outcome (edition_check number)) _ accepted in
    let back = numbers_again (numbered number).greatest numbers then in
    let read = sheets.written_read number line (both_pass number line known (passed_right (outcome (count_check numbers)) _ then)) in
    let same : cleared line ≡ line = sym (line_again line) ∙ ap line_of back in
    (read.0, read.1, ap line_numbers (read.2 ∙ same) ∙ back)

-- A sheet read as numbers is accepted by the writer, told its edition, and written again it is the sheet of its line, which `read` says is the
-- sheet itself.
pub numbers_accepted : (sheet : List ℕ) → outcome (read_checks sheet) ≡ passed
    → (outcome (told_checks (read_edition sheet) (sheet_numbers sheet)) ≡ passed)
    × (numbers_sheet (read_edition sheet) (sheet_numbers sheet) ≡ sheet_of (numbered (read_edition sheet)) (read_line sheet))
unfolding told_checks numbers_sheet sheet_numbers
numbers_accepted sheet accepted =
    let number : ℕ = read_edition sheet in
    let line = read_line sheet in
    let checked = sheets.read_passes sheet accepted in
    let fields = told_fields number line checked in
    let few = (line_in_range line fields).few in
    (join (told_edition number line checked) (outcome_again line (numbered number).greatest few ∙ fields), ap (sheet_of (numbered number)) (line_again line) ∙ same_sheet (numbered number) line few)

-- ---- the calls

-- What `pokyandi_write` put into the caller's bytes, `pokyandi_read` gives back as the numbers that were written.
pub written_and_read : (number : ℕ) (numbers bytes row sheet : List ℕ) {count : ℕ}
    → (fill (told_checks number numbers) (numbers_sheet number numbers) bytes).reply ≡ filled count
    → sheet ≡ take count (fill (told_checks number numbers) (numbers_sheet number numbers) bytes).buffer
    → length numbers ≤ length row
    → ((fill (read_checks sheet) (sheet_numbers sheet) row).reply ≡ filled (length numbers))
    × ((fill (read_checks sheet) (sheet_numbers sheet) row).buffer ≡ numbers ++ drop (length numbers) row)
written_and_read number numbers bytes row sheet answer s room =
    let told = found (told_checks number numbers) (numbers_sheet number numbers) bytes answer in
    let same = s ∙ told.front in
    let again = write_then_read number numbers told.checked in
    known_fill (read_checks sheet) (sheet_numbers sheet) numbers row (ap (λ (s : List ℕ). outcome (read_checks s)) same ∙ again.0) (ap sheet_numbers same ∙ again.2) room

-- The sheet of the numbers that `pokyandi_read` counted, in the sheet's edition, is the sheet, as its contract says: from its other two equations, and what `read` says.
pub counted_again : (sheet row numbers : List ℕ) (r : ℕ)
    → r ≡ answer_number (fill (read_checks sheet) (sheet_numbers sheet) row).reply
    → numbers ≡ (fill (read_checks sheet) (sheet_numbers sheet) row).buffer
    → (outcome (read_checks sheet) ≡ passed → numbers_sheet (read_edition sheet) (sheet_numbers sheet) ≡ sheet)
    → r < 2 ^ 32 → numbers_sheet (read_edition sheet) (take r numbers) ≡ sheet
unfolding answer_number
counted_again sheet row numbers r answer memory again small = go (fill (read_checks sheet) (sheet_numbers sheet) row).reply refl
  where
    go : (reply : FillReply) → (fill (read_checks sheet) (sheet_numbers sheet) row).reply ≡ reply → numbers_sheet (read_edition sheet) (take r numbers) ≡ sheet
    go (filled count) e =
        let told = found (read_checks sheet) (sheet_numbers sheet) row e in
        let counted : r ≡ count = answer ∙ ap answer_number e in
        (λ j. numbers_sheet (read_edition sheet) (take (counted j) (memory j))) ∙ ap (numbers_sheet (read_edition sheet)) told.front ∙ again told.checked
    go (unfilled n p) e =
        let least = subst (Told 16) e (read_told sheet row) in
        let number : r ≡ n * 2 ^ 32 + p = answer ∙ ap answer_number e in
        absurd (omega (arith, number, least.2))

-- What `pokyandi_read` put into the caller's numbers, `pokyandi_write`, told the edition of the sheet, gives back as the sheet that was read.
pub read_and_written : (sheet row bytes numbers : List ℕ) {count : ℕ}
    → (fill (read_checks sheet) (sheet_numbers sheet) row).reply ≡ filled count
    → numbers ≡ take count (fill (read_checks sheet) (sheet_numbers sheet) row).buffer
    → numbers_sheet (read_edition sheet) numbers ≡ sheet
    → length sheet ≤ length bytes
    → ((fill (told_checks (read_edition sheet) numbers) (numbers_sheet (read_edition sheet) numbers) bytes).reply ≡ filled (length sheet))
    × ((fill (told_checks (read_edition sheet) numbers) (numbers_sheet (read_edition sheet) numbers) bytes).buffer ≡ sheet ++ drop (length sheet) bytes)
read_and_written sheet row bytes numbers answer s again room =
    let told = found (read_checks sheet) (sheet_numbers sheet) row answer in
    let accepted = (numbers_accepted sheet told.checked).0 in
    known_fill (told_checks (read_edition sheet) numbers) (numbers_sheet (read_edition sheet) numbers) sheet bytes
    (ap (λ (s : List ℕ). outcome (told_checks (read_edition sheet) s)) (s ∙ told.front) ∙ accepted) again room
