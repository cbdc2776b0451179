-- `step`: a difference of two coordinates in range. Assumes nothing.
use Prim.Native.Nat.{◌+◌}
use native.Mathlib.Omega.{arith}
use Rattle.coordinates.specs.Legs.{coordinate_at}
use Rattle.signed.proofs.Sizes.{size_difference}
use Rattle.points.proofs.Sizes.{step_held}
use Rattle.points.proofs.checks.CheckedPoints.step.Goals as goal

pub returns : goal.returns
returns c =
    let k = c.args.k in
    let points = c.args.self.now.points.now in
    let reach = c.args.self.now.usable.in_reach.reach in
    let from = coordinate_at points k in
    let to = coordinate_at points (k + 2) in
    let value = step_held to from (reach (k + 2)) (reach k) in
    record { value = value; bound = rw value (omega (arith, size_difference to from, reach k, reach (k + 2))) }
