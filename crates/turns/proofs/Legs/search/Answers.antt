-- `search`: the lower of two bounds that are one apart is the turn. Assumes nothing.
use Rattle.std.proofs.Common.{arith}
use Rattle.turns.proofs.Bounds.{bracketed}
use Rattle.turns.proofs.Legs.search.Goals as goal

pub returns : goal.returns
returns c = (bracketed _ _ c.loop-low.low c.loop-low.high c.loop-low.invariant (omega arith), omega arith)
