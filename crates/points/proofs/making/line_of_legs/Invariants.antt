-- `line_of_legs`: the first loop keeps that the first i distances are in range, the second that the first k turns pass, each with the line
-- filled so far. Assumes nothing.
use mathlib.Core.Path.{◌≡◌}
use Prim.Native.Nat.{suc}
use Rattle.refusals.specs.Outcomes.{passed}
use Rattle.refusals.specs.Order.{in_turn, outcome}
use Rattle.coordinates.specs.FromPoints.{length_check, turn_checks}
use Rattle.points.proofs.Filling.{line_to}
use Rattle.points.proofs.making.line_of_legs.Given as goal

abbrev pub invariant-loop-i : goal.invariant-loop-i
invariant-loop-i l =
    record {
      passed : outcome (in_turn (length_check l.points.points.now) l.i) ≡ passed;
      filled : l.line ≡ line_to l.speed l.crossfall l.start l.points.points.now l.points.designs.now l.i 0;
    }

abbrev pub invariant-loop-k : goal.invariant-loop-k
invariant-loop-k l =
    record {
      distances : outcome (in_turn (length_check l.points.points.now) (suc l.n)) ≡ passed;
      passed : outcome (in_turn (turn_checks l.points.points.now) l.k) ≡ passed;
      filled : l.line ≡ line_to l.speed l.crossfall l.start l.points.points.now l.points.designs.now (suc l.n) l.k;
    }
