-- `lines_fit`: the lines so far leave `left` of the room. Assumes nothing.
use mathlib.Core.Path.{◌≡◌}
use Prim.Native.Nat.{◌+◌}
use lib.ListN.{length}
use Rattle.report.specs.Text.{lines_of}
use Rattle.report.proofs.lines.lines_fit.Given as goal

abbrev pub invariant-loop-i : goal.invariant-loop-i
invariant-loop-i g l = l.start + length (lines_of (g.L.Lines.line l.lines) l.i) + l.left ≡ l.room
