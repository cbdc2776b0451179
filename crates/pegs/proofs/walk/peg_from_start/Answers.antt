-- `peg_from_start`: the start in µm fits. Assumes nothing.
use native.Mathlib.Omega.{arith}
use Rattle.calculator.proofs.LengthsKnown.{ranges}
use Rattle.pegs.proofs.walk.peg_from_start.Goals as goal

pub overflow_mul-start : goal.overflow_mul-start
overflow_mul-start c = omega (arith, (ranges c.args.measured).in_range.start_most, c.from-start.ensures)
