-- `check_coordinates`: each turn adds a coordinate to those in range. Assumes nothing.
use mathlib.Core.Path.{◌≡◌}
use Rattle.refusals.specs.Outcomes.{passed}
use Rattle.refusals.specs.Order.{in_turn, outcome}
use Rattle.coordinates.specs.FromPoints.{coordinate_check}
use Rattle.points.proofs.checks.check_coordinates.Given as goal

abbrev pub invariant-loop-coordinate : goal.invariant-loop-coordinate
invariant-loop-coordinate l = outcome (in_turn (coordinate_check l.points) l.coordinate-index) ≡ passed
