-- The call `convert` there and back, and `read` of what it wrote. Assumes nothing.
use mathlib.Core.Path.{◌≡◌, sym, ◌∙◌, ap}
use mathlib.Core.List.{List, ◌++◌}
use Prim.Native.Nat.{ℕ, ◌≤◌}
use lib.ListN.{length, take, drop}
use Rattle.std.specs.Prelude.{Result, Ok, IfOk}
use Rattle.refusals.specs.declared.Refusal.{Refusal}
use Rattle.refusals.specs.Outcomes.{passed, outcome_of}
use Rattle.refusals.specs.Order.{outcome}
use Rattle.refusals.specs.Filling.{filled, fill_reply_of}
use Rattle.refusals.proofs.FillWays.{known_fill}
use Rattle.packed_sheet.specs.Reading.{read_checks, read_line, read_edition}
use Rattle.round_trips.proofs.Calls.{read_answer}
use Rattle.sheet.specs.declared.reader.SheetLine.{SheetLine}
use Rattle.conversion.specs.Conversion.{convert_checks, converted, conversion}
use Rattle.conversion.proofs.SameLine.{same_line}
use Rattle.conversion.proofs.ThereAndBack.{converted_back}
use Rattle.conversion.proofs.Written.{taken, written}

-- The premises are the contracts, and that `convert` returned its count.
module _ (sheet lent bytes : List ℕ) (asked count : ℕ) (a : Result ℕ Refusal)
    (answer : fill_reply_of a ≡ (conversion sheet asked lent).reply) (memory : bytes ≡ (conversion sheet asked lent).buffer)
    (counted : fill_reply_of a ≡ filled count) where
  checked : outcome (convert_checks sheet asked) ≡ passed
  checked = taken sheet lent asked (sym answer ∙ counted)

  front : take count bytes ≡ converted sheet asked
  front = ap (take count) memory ∙ written sheet lent asked (sym answer ∙ counted)

  -- What `convert` wrote, `read` takes: the edition that was asked for, and the line of the sheet.
  pub converted_and_read : (r : Result SheetLine Refusal)
      → outcome_of r ≡ outcome (read_checks (take count bytes))
      → IfOk r (λ x. x.edition ≡ read_edition (take count bytes))
      → IfOk r (λ x. x.line ≡ read_line (take count bytes))
      → r ≡ Ok (record { edition = asked; line = read_line sheet })
  converted_and_read r says edition content =
      let same = same_line sheet asked checked in
      read_answer (take count bytes) r says edition content (ap (λ (s : List ℕ). outcome (read_checks s)) front ∙ same.reads)
      ∙ λ j. Ok (record { edition = (ap read_edition front ∙ same.edition) j; line = (ap (λ (s : List ℕ). read_line s) front ∙ same.line) j })

  -- Converted back, asked for the edition that the sheet had, into bytes that are enough: the sheet's bytes. One premise more is the first call's
  -- contract `back`.
  pub there_and_back : converted (take count bytes) (read_edition sheet) ≡ sheet → (lent' bytes' : List ℕ) (a' : Result ℕ Refusal)
      → fill_reply_of a' ≡ (conversion (take count bytes) (read_edition sheet) lent').reply
      → bytes' ≡ (conversion (take count bytes) (read_edition sheet) lent').buffer
      → length sheet ≤ length lent'
      → (fill_reply_of a' ≡ filled (length sheet)) × (bytes' ≡ sheet ++ drop (length sheet) lent')
  unfolding conversion
  there_and_back back lent' bytes' a' answer' memory' room =
      let own : ℕ = read_edition sheet in
      let passes = ap (λ (s : List ℕ). outcome (convert_checks s own)) front ∙ converted_back sheet asked checked in
      let given = known_fill (convert_checks (take count bytes) own) (converted (take count bytes) own) sheet lent' passes back room in
      (answer' ∙ given.0, memory' ∙ given.1)
