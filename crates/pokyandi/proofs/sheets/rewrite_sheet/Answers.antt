-- `rewrite_sheet`: the reader's refusal, or the writer's answer. Assumes nothing.
use mathlib.Core.Path.{sym}
use borrow.Author.Rules.{rules}
use Rattle.refusals.proofs.FillWays.{refused_fill}
use Rattle.pokyandi.proofs.Replies.{rewrite_reply}
use Rattle.pokyandi.proofs.sheets.rewrite_sheet.Goals as goal

pub returns-in_err-read : goal.returns-in_err-read
returns-in_err-read c =
    let met = refused_fill _ c.args.sheet.now c.args.bytes.now (sym c.in_err-read.ensures.answer) in
    record { result_value = search rules; bytes_after = met.1 }

pub returns : goal.returns
returns c =
    let met = rewrite_reply c.args.sheet.now (sym c.in_ok-read.ensures.answer) c.in_ok-read.ensures.line c.in_ok-read.ensures.edition c.in_ok-read.ensures.again c.args.bytes.now (c.write.ensures.answer, c.write.ensures.memory) in
    record { result_value = met.0; bytes_after = met.1 }
