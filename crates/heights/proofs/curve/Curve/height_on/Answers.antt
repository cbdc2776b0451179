-- `height_on`: the definition by two quotients. Assumes nothing.
use native.Mathlib.Omega.{arith}
use mir.Facts.{to_z-of_z}
use Rattle.signed.proofs.Quotients.{euclid_is}
use Rattle.grades.proofs.TwoFloors.{curve_floors}
use Rattle.heights.proofs.curve.Curve.height_on.Goals as goal

pub returns : goal.returns
returns c = grind (arith, to_z-of_z, euclid_is, curve_floors)
