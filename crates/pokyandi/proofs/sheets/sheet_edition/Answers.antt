-- `sheet_edition`: the reader's refusal, or the edition that it reads. Assumes nothing.
use mathlib.Core.Path.{sym}
use borrow.Author.Rules.{rules}
use Rattle.pokyandi.proofs.Replies.{edition_reply_lem, refused_edition}
use Rattle.pokyandi.proofs.sheets.sheet_edition.Goals as goal

pub returns-in_err-read : goal.returns-in_err-read
returns-in_err-read c =
    let met = refused_edition c.args.sheet.now (sym c.in_err-read.ensures.answer) in
    search rules

pub returns : goal.returns
returns c = edition_reply_lem c.args.sheet.now (sym c.in_ok-read.ensures.answer) c.in_ok-read.ensures.edition
