-- `convert`: what it counts is converted back to the sheet. Assumes nothing.
use mathlib.Core.Path.{sym, ◌∙◌}
use Rattle.conversion.proofs.WaysOut.{rewritten}
use Rattle.conversion.proofs.Written.{comes_back}
use Rattle.conversion.proofs.convert.Goals as goal

pub returns-clause-back : goal.returns-clause-back
returns-clause-back c =
    let a = c.args in
    let read = c.in_ok-read.ensures in
    let met = rewritten a.sheet.now a.edition a.bytes.now read.answer _ c.in_ok-read.read.line read.edition read.line c.in_ok-check_asked.ensures c.write.ensures.answer c.write.ensures.memory in
    λ count counted. comes_back a.sheet.now a.bytes.now a.edition (sym met.0 ∙ counted) (λ i. (c.type_inv.sheet i).fits) met.1
