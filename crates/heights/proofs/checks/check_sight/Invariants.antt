-- `check_sight`: each turn adds a curve that is long enough. Assumes nothing.
use mathlib.Core.Path.{◌≡◌}
use Rattle.refusals.specs.Outcomes.{passed}
use Rattle.refusals.specs.Order.{in_turn, outcome}
use Rattle.profile.specs.Vertices.{grade_of}
use Rattle.profile.specs.Checks.{sight_check}
use Rattle.heights.proofs.checks.check_sight.Given as goal

abbrev pub invariant-loop-i : goal.invariant-loop-i
invariant-loop-i l =
    record {
      at_vertex : l.incoming ≡ grade_of l.ranged.profile.now l.i;
      passed_before : outcome (in_turn (sight_check l.ranged.profile.now) l.i) ≡ passed;
    }
