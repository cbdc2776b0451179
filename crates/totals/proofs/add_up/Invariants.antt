-- `add_up`: each total lacks what the elements from distance i on add to it. Assumes nothing.
use Rattle.totals.specs.Totals.{is_straight, is_spiral, is_arc}
use Rattle.totals.proofs.AddingUp.{UpTo}
use Rattle.totals.proofs.add_up.Given as goal

abbrev pub invariant-loop-i : goal.invariant-loop-i
invariant-loop-i l =
    record {
      straights : UpTo is_straight l.measured.line.now l.i l.straights;
      spirals : UpTo is_spiral l.measured.line.now l.i l.spirals;
      arcs : UpTo is_arc l.measured.line.now l.i l.arcs;
    }
