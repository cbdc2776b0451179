-- The calls `write` and `read` undo each other, in either edition. Assumes nothing.
use mathlib.Core.Path.{◌≡◌, sym, ◌∙◌, ap, subst}
use mathlib.Core.List.{List, ◌++◌}
use Prim.Native.Nat.{ℕ, ◌≤◌}
use lib.ListN.{length, take, drop}
use Rattle.std.specs.Prelude.{Result, Ok, Err, IfOk}
use Rattle.refusals.specs.declared.Refusal.{Refusal}
use Rattle.refusals.specs.Table.{number_of, place_of}
use Rattle.refusals.specs.Outcomes.{passed, outcome_of}
use Rattle.refusals.specs.Order.{outcome}
use Rattle.refusals.specs.Filling.{filled, fill_reply_of}
use Rattle.refusals.proofs.Joining.{never}
use Rattle.refusals.proofs.Filled.{found}
use Rattle.refusals.proofs.FillWays.{known_fill}
use Rattle.line.specs.declared.Line.{Line}
use Rattle.line.specs.Entries.{cleared}
use Rattle.packed_sheet.specs.Layout.{numbered}
use Rattle.packed_sheet.specs.Reading.{read_checks, read_line, read_edition}
use Rattle.packed_sheet.specs.Writing.{sheet_of, write_checks, sheet_in}
use Rattle.packed_sheet.proofs.RoundTrip.{written_read, read_passes}
use Rattle.sheet.specs.declared.reader.SheetLine.{SheetLine}

-- What holds of the answer that is not refused.
of_ok : {r : Result SheetLine Refusal} {x : SheetLine} (P : SheetLine → Type 0) → r ≡ Ok x → IfOk r P → P x
of_ok P e h = subst (λ (r : Result SheetLine Refusal). IfOk r P) e h

-- What `read` answers for a sheet that it accepts: the premises are its contract.
pub read_answer : (sheet : List ℕ) (r : Result SheetLine Refusal)
    → outcome_of r ≡ outcome (read_checks sheet)
    → IfOk r (λ x. x.edition ≡ read_edition sheet)
    → IfOk r (λ x. x.line ≡ read_line sheet)
    → outcome (read_checks sheet) ≡ passed
    → r ≡ Ok (record { edition = read_edition sheet; line = read_line sheet })
read_answer sheet (Ok x) says edition content accepted = λ j. Ok (record { edition = edition j; line = content j })
read_answer sheet (Err e) says edition content accepted = never (number_of e) (place_of e) (sym accepted ∙ sym says)

-- What `write` put into the caller's bytes, `read` gives back, with the edition that was told: the premises are the two contracts, and that
-- `write` returned its count.
pub written_and_read : (number : ℕ) (line : Line) (lent bytes : List ℕ) (a : Result ℕ Refusal) {count : ℕ} (r : Result SheetLine Refusal)
    → fill_reply_of a ≡ (sheet_in number line lent).reply
    → bytes ≡ (sheet_in number line lent).buffer
    → fill_reply_of a ≡ filled count
    → outcome_of r ≡ outcome (read_checks (take count bytes))
    → IfOk r (λ x. x.edition ≡ read_edition (take count bytes))
    → IfOk r (λ x. x.line ≡ read_line (take count bytes))
    → r ≡ Ok (record { edition = number; line = cleared line })
unfolding sheet_in
written_and_read number line lent bytes a {count} r answer memory counted says edition content =
    let told = found (write_checks number line) (sheet_of (numbered number) line) lent (sym answer ∙ counted) in
    let again = written_read number line told.checked in
    let sheet : take count bytes ≡ sheet_of (numbered number) line = ap (take count) memory ∙ told.front in
    read_answer (take count bytes) r says edition content (ap (λ (s : List ℕ). outcome (read_checks s)) sheet ∙ again.0)
    ∙ λ j. Ok (record { edition = (ap read_edition sheet ∙ again.1) j; line = (ap (λ (s : List ℕ). read_line s) sheet ∙ again.2) j })

-- What `read` took from a sheet, `write` puts back into any bytes that are enough, told the edition that was reported: the premises are the
-- two contracts, and that `read` refused nothing.
pub read_and_written : (sheet lent bytes : List ℕ) (r : Result SheetLine Refusal) (x : SheetLine) (a : Result ℕ Refusal)
    → outcome_of r ≡ outcome (read_checks sheet)
    → IfOk r (λ x. x.edition ≡ read_edition sheet)
    → IfOk r (λ x. x.line ≡ read_line sheet)
    → IfOk r (λ x. sheet_of (numbered x.edition) x.line ≡ sheet)
    → r ≡ Ok x
    → length sheet ≤ length lent
    → fill_reply_of a ≡ (sheet_in x.edition x.line lent).reply
    → bytes ≡ (sheet_in x.edition x.line lent).buffer
    → (fill_reply_of a ≡ filled (length sheet)) × (bytes ≡ sheet ++ drop (length sheet) lent)
unfolding sheet_in
read_and_written sheet lent bytes r x a says edition content again accepted room answer memory =
    let reads : outcome (read_checks sheet) ≡ passed = sym says ∙ ap outcome_of accepted in
    let own = of_ok (λ x. x.edition ≡ read_edition sheet) accepted edition in
    let line = of_ok (λ x. x.line ≡ read_line sheet) accepted content in
    let same = of_ok (λ x. sheet_of (numbered x.edition) x.line ≡ sheet) accepted again in
    let checked = (λ j. outcome (write_checks (own j) (line j))) ∙ read_passes sheet reads in
    let given = known_fill (write_checks x.edition x.line) (sheet_of (numbered x.edition) x.line) sheet lent checked same room in
    (answer ∙ given.0, memory ∙ given.1)
