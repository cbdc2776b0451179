-- `read`: the sheet of the line that was read is the sheet. Assumes nothing.
use Rattle.sheet.proofs.WaysOut.{line_checked, sheet_told}
use Rattle.sheet.proofs.reader.read.Goals as goal

pub returns-clause-again : goal.returns-clause-again
returns-clause-again c =
    let s = c.args.sheet.now in
    let opened = c.in_ok-opened.opened in
    let same = c.in_ok-opened.ensures.same in
    let line = c.line-line.ensures in
    let accepted = line_checked s opened.sheet.now opened.edition opened.is_named same c.line-line.result c.in_ok-check_frame.ensures line c.in_ok-check_fields.ensures in
    sheet_told s opened.sheet.now opened.edition opened.is_named same accepted c.line-line.result (λ i. (c.type_inv.sheet i).fits) line
