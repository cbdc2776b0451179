-- `sheet_stations`: the reader's refusal, or the calculator's answer. Assumes nothing.
use mathlib.Core.Path.{sym}
use borrow.Author.Rules.{rules}
use Rattle.pokyandi.proofs.Replies.{refused_sheet, stations_reply}
use Rattle.pokyandi.proofs.sheets.sheet_stations.Goals as goal

pub returns-in_err-read : goal.returns-in_err-read
returns-in_err-read c =
    let met = refused_sheet c.args.sheet.now c.args.row.now (sym c.in_err-read.ensures.answer) in
    record { result_value = search rules; row_after = met.1 }

pub returns : goal.returns
returns c =
    let met = stations_reply c.args.sheet.now (sym c.in_ok-read.ensures.answer) c.in_ok-read.ensures.line c.args.row.now (c.stations.ensures.answer, c.stations.ensures.memory) in
    record { result_value = met.0; row_after = met.1 }
