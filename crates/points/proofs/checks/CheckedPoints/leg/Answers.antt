-- `leg`: a step to the east and one to the north. Assumes nothing.
use native.Mathlib.Omega.{arith}
use Rattle.signed.proofs.Sizes.{held}
use Rattle.points.proofs.checks.CheckedPoints.leg.Goals as goal

pub returns : goal.returns
returns c =
    let east = c.step in
    let north = c.step-2 in
    rw (held east.result (omega (arith, east.ensures.bound)), held north.result (omega (arith, north.ensures.bound)))
    (λ j. record { east = east.ensures.value j; north = north.ensures.value j })
