-- `fill_line`: the line is filled up to curve i and the distance after it. Assumes nothing.
use mathlib.Core.Path.{◌≡◌}
use Rattle.line_numbers.proofs.Filling.{line_to}
use Rattle.line_numbers.proofs.reader.fill_line.Given as goal

abbrev pub invariant-loop-i : goal.invariant-loop-i
invariant-loop-i l = l.line ≡ line_to l.numbers l.i
