-- `spiral_peg`: a length on the spiral is never refused, and the offsets are the rule's, y to the curve's side. Assumes nothing.
use mir.Facts.{to_z-of_z}
use Rattle.elements.proofs.SpiralPoints.{never_refused, found_offsets}
use Rattle.pegs.proofs.walk.spiral_peg.Goals as goal

pub returns-in_err-point : goal.returns-in_err-point
returns-in_err-point c =
    let curve = c.args.curve in
    never_refused curve.deflection curve.radius curve.spiral c.args.length c.requires.0 c.requires.1 c.in_err-point.field-0.0 c.in_err-point.ensures

pub to_side-requires : goal.to_side-requires
to_side-requires c =
    let curve = c.args.curve in
    (found_offsets curve.deflection curve.radius curve.spiral c.args.length c.requires.0 c.requires.1 _ c.in_ok-point.ensures).2

pub returns : goal.returns
returns c =
    let curve = c.args.curve in
    let found = found_offsets curve.deflection curve.radius curve.spiral c.args.length c.requires.0 c.requires.1 _ c.in_ok-point.ensures in
    rw (to_z-of_z (record { sfits = c.to_side.type_inv }), c.to_side.ensures, found.0, found.1)
