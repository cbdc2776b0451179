-- `check_stations`: each turn adds a station to those in range. Assumes nothing.
use mathlib.Core.Path.{◌≡◌}
use Prim.Native.Nat.{suc}
use Rattle.refusals.specs.Outcomes.{passed}
use Rattle.refusals.specs.Order.{in_turn, outcome}
use Rattle.profile.specs.Checks.{station_check}
use Rattle.heights.proofs.checks.check_stations.Given as goal

abbrev pub invariant-loop-vertex : goal.invariant-loop-vertex
invariant-loop-vertex l = outcome (in_turn (station_check l.profile) (suc l.vertex-index)) ≡ passed
