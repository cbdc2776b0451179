-- `store`: the row has the numbers of the first i curves, with the rest as it was, and the ST before the next is known. Assumes nothing.
use mathlib.Core.Path.{◌≡◌}
use mathlib.Core.List.{◌++◌}
use Prim.Native.Nat.{◌*◌}
use lib.IntN.{pos}
use lib.ListN.{drop}
use Rattle.stationing.specs.Stations.{former_st}
use Rattle.stationing.proofs.RowSteps.{numbers_to}
use Rattle.calculator.proofs.measured.MeasuredLine.store.Given as goal

abbrev pub invariant-loop-i : goal.invariant-loop-i
invariant-loop-i l = (pos l.station ≡ former_st l.self.line.now l.i) × (l.row ≡ numbers_to l.self.line.now l.i ++ drop (4 * l.i) l.initial.row)
