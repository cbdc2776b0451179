-- `tan_half`: the cosine is above zero, and the quotient is the definition's. Assumes nothing.
use Rattle.numbers.proofs.Ranges.{at_most}
use Rattle.elements.proofs.Bounds.{tan_between}
use Rattle.elements.proofs.Computed.{computed_tan}
use Rattle.elements.proofs.rule.CheckedCurve.tan_half.Goals as goal

pub returns : goal.returns
returns c =
    let A = c.args.self.deflection in
    let is = computed_tan A c.half_angle-half.ensures c.sine.ensures.0 c.cosine.ensures.0 in
    (is, at_most is (tan_between A c.args.self.in_range.A-most))
