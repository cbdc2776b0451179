-- `distance`: the root of the summed squares has 32 bits. Assumes nothing.
use Prim.Native.Nat.{◌≤◌}
use native.Mathlib.Nat.{mul-le-mul}
use native.Mathlib.Omega.{arith}
use Rattle.signed.proofs.Sizes.{held}
use Rattle.points.proofs.Sizes.{root_fits}
use Rattle.points.proofs.legs.ShortLeg.distance.Goals as goal

pub overflow_cast-result : goal.overflow_cast-result
overflow_cast-result c =
    let leg = c.args.self.leg in
    let short = c.args.self.short in
    let east = rw (held leg.east (omega (arith, short.east))) at c.unsigned_abs-east.ensures.value in
    let north = rw (held leg.north (omega (arith, short.north))) at c.unsigned_abs-north.ensures.value in
    let e : c.unsigned_abs-east.result ≤ 20000000 = omega (arith, east, short.east) in
    let n : c.unsigned_abs-north.result ≤ 20000000 = omega (arith, north, short.north) in
    omega (arith, root_fits c.root.result (omega (arith, c.root.ensures.1, mul-le-mul e e, mul-le-mul n n)))
