-- `peg_along`: the element is among those from distance i on, which begin where the rest does. Assumes nothing.
use Prim.Native.Nat.{◌-◌, ◌≤◌}
use Rattle.pegs.proofs.Walking.{Reached}
use Rattle.pegs.proofs.walk.peg_along.Given as goal

abbrev pub invariant-loop-i : goal.invariant-loop-i
invariant-loop-i l =
    (l.rest ≤ l.along) × Reached l.measured.line.now l.along l.i (l.measured.line.now.count - l.i) (l.along - l.rest)
