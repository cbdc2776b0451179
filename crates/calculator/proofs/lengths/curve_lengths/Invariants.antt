-- `curve_lengths`: the first i curves pass, with their tangents and arcs. Assumes nothing.
use mathlib.Core.Path.{◌≡◌}
use Rattle.refusals.specs.Outcomes.{passed}
use Rattle.refusals.specs.Order.{in_turn, outcome}
use Rattle.stationing.specs.Answer.{design_checks_at}
use Rattle.stationing.specs.Arrays.{TangentsTo, ArcsTo}
use Rattle.calculator.proofs.lengths.curve_lengths.Given as goal

abbrev pub invariant-loop-i : goal.invariant-loop-i
invariant-loop-i l =
    record {
      passes : outcome (in_turn (design_checks_at l.line) l.i) ≡ passed;
      tangents : TangentsTo l.line l.i l.lengths.tangents;
      arcs : ArcsTo l.line l.i l.lengths.arcs;
    }
