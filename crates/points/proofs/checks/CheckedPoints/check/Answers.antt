-- `check`: points and designs that pass both checks are usable. Assumes nothing.
use mathlib.Core.Path.{sym}
use Rattle.points.proofs.InReach.{usable}
use Rattle.points.proofs.checks.CheckedPoints.check.Goals as goal

pub invariant_of-result : goal.invariant_of-result
invariant_of-result c =
    record { usable = usable c.args.points.now (sym c.in_ok-check_coordinates.ensures) c.args.designs.now (sym c.in_ok-check_counts.ensures) }
