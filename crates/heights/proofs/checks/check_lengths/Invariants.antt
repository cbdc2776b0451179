-- `check_lengths`: each turn adds a curve that fits behind the end of the one before it. Assumes nothing.
use mathlib.Core.Path.{◌≡◌}
use Prim.Native.Nat.{◌≤◌}
use Rattle.refusals.specs.Outcomes.{passed}
use Rattle.refusals.specs.Order.{in_turn, outcome}
use Rattle.profile.specs.Vertices.{end_of}
use Rattle.profile.specs.Checks.{length_check}
use Rattle.heights.proofs.checks.check_lengths.Given as goal

abbrev pub invariant-loop-i : goal.invariant-loop-i
invariant-loop-i l =
    record {
      at_end : l.end ≡ end_of l.profile l.i;
      near : l.end ≤ 201000000;
      passed_before : outcome (in_turn (length_check l.profile) l.i) ≡ passed;
    }
