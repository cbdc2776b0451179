-- `put_lines`: the lines so far stand from index `start` on. Assumes nothing.
use Rattle.report.specs.Text.{lines_of}
use Rattle.report.specs.Pieces.{Wrote}
use Rattle.report.proofs.lines.put_lines.Given as goal

abbrev pub invariant-loop-i : goal.invariant-loop-i
invariant-loop-i g l = Wrote l.initial.text l.text l.start l.at (lines_of (g.L.Lines.line l.lines) l.i)
