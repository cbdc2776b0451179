-- What the converter answers on each way out: the reader's refusal, one of the edition asked for, or what the writer answers for the line that
-- was read. Assumes nothing.
use mathlib.Core.Path.{◌≡◌, sym, ◌∙◌, ap}
use mathlib.Core.List.{List}
use Prim.Native.Nat.{ℕ}
use Rattle.refusals.specs.Outcomes.{passed, refused, ◌▹◌}
use Rattle.refusals.specs.Order.{outcome}
use Rattle.refusals.specs.Filling.{FillReply, unfilled}
use Rattle.refusals.proofs.FillWays.{refused_fill, refill}
use Rattle.line.specs.declared.Line.{Line}
use Rattle.packed_sheet.specs.Layout.{numbered}
use Rattle.packed_sheet.specs.Reading.{read_checks, read_line, read_edition}
use Rattle.packed_sheet.specs.Writing.{sheet_of, write_checks, sheet_in}
use Rattle.conversion.specs.Conversion.{asked_checks, convert_checks, converted, conversion}
use Rattle.conversion.proofs.Accepted.{writes}

module _ (sheet : List ℕ) (asked : ℕ) (lent : List ℕ) where
  refused_reply : {n p : ℕ} → refused n p ≡ outcome (convert_checks sheet asked)
      → (unfilled n p ≡ (conversion sheet asked lent).reply) × (lent ≡ (conversion sheet asked lent).buffer)
  unfolding conversion
  refused_reply e = refused_fill (convert_checks sheet asked) (converted sheet asked) lent (sym e)

  -- The sheet does not read.
  pub unread : {n p : ℕ} → refused n p ≡ outcome (read_checks sheet)
      → (unfilled n p ≡ (conversion sheet asked lent).reply) × (lent ≡ (conversion sheet asked lent).buffer)
  unfolding convert_checks
  unread e = refused_reply (λ j. e j ▹ outcome (asked_checks (read_edition sheet) (read_line sheet).start asked))

  module _ (reads : passed ≡ outcome (read_checks sheet)) (edition : ℕ) (line : Line) (e : edition ≡ read_edition sheet) (l : line ≡ read_line sheet) where
    checked : outcome (asked_checks edition line.start asked) ≡ outcome (convert_checks sheet asked)
    unfolding convert_checks
    checked = λ j. reads j ▹ outcome (asked_checks (e j) (l j).start asked)

    -- Its edition or its start refuses.
    pub unasked : {n p : ℕ} → refused n p ≡ outcome (asked_checks edition line.start asked)
        → (unfilled n p ≡ (conversion sheet asked lent).reply) × (lent ≡ (conversion sheet asked lent).buffer)
    unasked r = refused_reply (r ∙ checked)

    -- The writer answers.
    pub rewritten : {reply : FillReply} {after : List ℕ} → passed ≡ outcome (asked_checks edition line.start asked)
        → reply ≡ (sheet_in asked line lent).reply → after ≡ (sheet_in asked line lent).buffer
        → (reply ≡ (conversion sheet asked lent).reply) × (after ≡ (conversion sheet asked lent).buffer)
    unfolding sheet_in conversion converted
    rewritten passes answer memory =
        let accepted = passes ∙ checked in
        let checks = ap (λ (l : Line). outcome (write_checks asked l)) l ∙ writes sheet asked (sym accepted) ∙ accepted in
        refill (write_checks asked line) (convert_checks sheet asked) (sheet_of (numbered asked) line) (converted sheet asked) lent checks (ap (sheet_of (numbered asked)) l) (answer, memory)

-- What the proof of `convert` cites.
pub ruleset converting = (unread, unasked, rewritten)
