-- `check_body`: each turn adds a curve and the distance after it to those that pass. Assumes nothing.
use mathlib.Core.Path.{◌≡◌}
use Rattle.refusals.specs.Outcomes.{passed}
use Rattle.refusals.specs.Order.{outcome}
use Rattle.line.specs.Checks.{body_checks}
use Rattle.line.proofs.checks.check_body.Given as goal

abbrev pub invariant-loop-i : goal.invariant-loop-i
invariant-loop-i l = outcome (body_checks l.line l.i) ≡ passed
