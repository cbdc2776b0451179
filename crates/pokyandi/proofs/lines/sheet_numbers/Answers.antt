-- `sheet_numbers`: the reader's refusal, or the numbers of the line that it reads. Assumes nothing.
use mathlib.Core.Path.{sym, ◌∙◌}
use borrow.Author.Rules.{rules}
use Rattle.refusals.proofs.Joining.{never}
use Rattle.refusals.proofs.FillWays.{refused_fill}
use Rattle.packed_sheet.specs.Layout.{numbered}
use Rattle.packed_sheet.specs.Writing.{sheet_of}
use Rattle.pokyandi.specs.Calls.{sheet_numbers}
use Rattle.pokyandi.proofs.ReadAndWrite.{numbers_accepted}
use Rattle.pokyandi.proofs.Replies.{numbers_reply}
use Rattle.pokyandi.proofs.lines.sheet_numbers.Goals as goal

pub returns-in_err-read : goal.returns-in_err-read
returns-in_err-read c =
    let told = c.in_err-read.ensures.answer in
    let met = refused_fill _ (sheet_numbers c.args.sheet.now) c.args.numbers.now (sym told) in
    record { result_value = search rules; numbers_after = met.1; sheet_value = λ e. never _ _ (sym (told ∙ e)) }

pub returns : goal.returns
returns c =
    let read = c.in_ok-read.ensures in
    let met = numbers_reply c.args.sheet.now (sym read.answer) read.line c.args.numbers.now (c.write.ensures.answer, c.write.ensures.memory) in
    record {
      result_value = met.0;
      numbers_after = met.1;
      sheet_value = λ e. (numbers_accepted c.args.sheet.now e).1 ∙ (λ j. sheet_of (numbered (sym read.edition j)) (sym read.line j)) ∙ read.again;
    }
