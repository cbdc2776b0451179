-- `lines_fit`: where one line more has no room, all of them have none. Assumes nothing.
use mathlib.Core.Path.{sym}
use native.Mathlib.Omega.{arith}
use borrow.Author.Tests.{lt-leb}
use Rattle.report.proofs.Lengths.{lines_before}
use Rattle.report.proofs.lines.lines_fit.Goals as goal

pub returns-then-left-length : goal.returns-then-left-length
returns-then-left-length g c =
    let lines = c.args.lines.now in
    let before = lines_before (g.L.Lines.line lines) c.loop-i.i (g.L.Lines.count lines) (omega arith) in
    sym (lt-leb _ _ (omega arith))
