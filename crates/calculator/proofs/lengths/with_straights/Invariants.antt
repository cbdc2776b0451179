-- `with_straights`: the first i straights are long enough, with their lengths, and the tangent before the next is known. Assumes nothing.
use mathlib.Core.Path.{◌≡◌}
use Prim.Native.Nat.{◌≤◌}
use lib.IntN.{pos}
use Rattle.refusals.specs.Outcomes.{passed}
use Rattle.refusals.specs.Order.{in_turn, outcome}
use Rattle.stationing.specs.Stations.{tangent_before}
use Rattle.stationing.specs.Answer.{straight_check}
use Rattle.stationing.specs.Arrays.{StraightsTo}
use Rattle.calculator.proofs.lengths.with_straights.Given as goal

abbrev pub invariant-loop-i : goal.invariant-loop-i
invariant-loop-i l =
    record {
      passes : outcome (in_turn (straight_check l.line) l.i) ≡ passed;
      arcs : l.lengths.arcs ≡ l.curves.arcs;
      straights : StraightsTo l.line l.i l.lengths.straights;
      before : l.i ≤ l.line.count → pos l.before ≡ tangent_before l.line l.i;
    }
