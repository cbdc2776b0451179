-- `bend_at`: the products are those of the two legs at the PI. Assumes nothing.
use mathlib.Core.Path.{◌∙◌, ap}
use native.Mathlib.Numerals.{add-one}
use native.Mathlib.Omega.{arith}
use lib.IntN.{pos}
use lib.Signed.{lt_z}
use Rattle.coordinates.specs.Legs.{leg_at, cross_of, dot_of}
use Rattle.points.specs.Steps.{seconds_of}
use Rattle.signed.proofs.Sizes.{held}
use Rattle.points.proofs.making.bend_at.Goals as goal

pub returns : goal.returns
returns c =
    let into = c.leg-into.ensures in
    let out = c.leg-out.ensures ∙ ap (leg_at c.args.points.now.points.now) (add-one c.args.i) in
    let cross = c.cross-across in
    let dot = c.dot in
    let across = held cross.result (omega (arith, cross.ensures.bound)) ∙ cross.ensures.value ∙ (λ j. cross_of (into j) (out j)) in
    let along = held dot.result (omega (arith, dot.ensures.bound)) ∙ dot.ensures.value ∙ (λ j. dot_of (into j) (out j)) in
    record { left = ap (lt_z (pos 0)) across; seconds = c.seconds.ensures ∙ (λ j. seconds_of (across j) (along j)) }
