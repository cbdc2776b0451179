-- `check_grades`: each turn adds a grade to those in range. Assumes nothing.
use mathlib.Core.Path.{◌≡◌}
use Prim.Native.Nat.{suc}
use Rattle.refusals.specs.Outcomes.{passed}
use Rattle.refusals.specs.Order.{in_turn, outcome}
use Rattle.profile.specs.Checks.{grade_check}
use Rattle.heights.proofs.checks.check_grades.Given as goal

abbrev pub invariant-loop-i : goal.invariant-loop-i
invariant-loop-i l = outcome (in_turn (grade_check l.profile) (suc l.i)) ≡ passed
