-- `check_coordinates`: the first coordinate out of range refuses. Assumes nothing.
use mathlib.Core.Path.{◌≡◌}
use native.Mathlib.Omega.{arith}
use lib.ListN.{length}
use borrow.Author.Rules.{rules}
use Rattle.refusals.specs.Table.{number_of, place_of}
use Rattle.refusals.specs.Outcomes.{refused}
use Rattle.refusals.specs.Order.{outcome}
use Rattle.refusals.proofs.InTurn.{first_refused}
use Rattle.coordinates.specs.FromPoints.{coordinate_check}
use Rattle.points.proofs.checks.check_coordinates.Goals as goal

pub returns-in_err-must : goal.returns-in_err-must
unfolding coordinate_check
returns-in_err-must c =
    let points = c.args.points.now in
    let k = c.loop-coordinate.coordinate-index in
    let r = c.in_err-must.field-0.0 in
    let here : outcome (coordinate_check points k) ≡ refused (number_of r) (place_of r) = search rules in
    let whole = first_refused (coordinate_check points) k (length points) (omega arith) c.loop-coordinate.invariant here in
    search rules
