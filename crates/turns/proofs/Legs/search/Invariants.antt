-- `search`: the bounds close in on the turn. Assumes nothing.
use Rattle.std.proofs.Common.{◌-◌}
use Rattle.turns.specs.Search.{Bracket}
use Rattle.turns.proofs.Legs.search.Given as goal

abbrev pub invariant-loop-low : goal.invariant-loop-low
invariant-loop-low l = Bracket l.self.cross l.self.dot l.low l.high

abbrev pub decreases-loop-low : goal.decreases-loop-low
decreases-loop-low l = l.high - l.low
