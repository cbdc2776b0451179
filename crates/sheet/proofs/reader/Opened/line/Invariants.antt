-- `line`: the line has the first i distances and the first i curves. Assumes nothing.
use mathlib.Core.Path.{◌≡◌}
use Rattle.packed_sheet.proofs.LineSteps.{line_to}
use Rattle.sheet.proofs.reader.Opened.line.Given as goal

abbrev pub invariant-loop-i : goal.invariant-loop-i
invariant-loop-i l = l.line ≡ line_to l.self.edition l.self.sheet.now l.i l.i
