-- `sheet_peg`: the reader's refusal, or the peg's answer. Assumes nothing.
use mathlib.Core.Path.{sym}
use borrow.Author.Rules.{rules}
use Rattle.pokyandi.proofs.Replies.{refused_peg, peg_reply_lem}
use Rattle.pokyandi.proofs.sheets.sheet_peg.Goals as goal

pub returns-in_err-read : goal.returns-in_err-read
returns-in_err-read c =
    let met = refused_peg c.args.sheet.now c.args.station c.args.peg.now (sym c.in_err-read.ensures.answer) in
    record { result_value = search rules; peg_after = met.1 }

pub returns : goal.returns
returns c =
    let met = peg_reply_lem c.args.sheet.now (sym c.in_ok-read.ensures.answer) c.in_ok-read.ensures.line c.args.station c.args.peg.now (c.peg_numbers.ensures.answer, c.peg_numbers.ensures.memory) in
    record { result_value = met.0; peg_after = met.1 }
