-- `cosine`: its divisors are those of the definition, (2j − 1) × 2j. Assumes nothing.
use mathlib.Core.Path.{◌≡◌, ◌∙◌, ap}
use Prim.Native.Nat.{ℕ}
use native.Mathlib.Omega.{arith}
use lib.IntN.{pos}
use Rattle.numbers.proofs.Ranges.{at_least, at_most}
use Rattle.elements.specs.WorkingRule.{scale, term, alternating, cosine_of, cosine_divisor}
use Rattle.elements.proofs.SineAndCosine.{greatest_turn_angle, cosine_listed, cosine_above}
use Rattle.elements.proofs.series.Angle.cosine.Goals as goal

pub returns : goal.returns
unfolding cosine_of
returns c =
    let q = c.args.self.value in
    let is : pos c.series.result ≡ cosine_of q =
    c.series.ensures
    ∙ cosine_listed scale c.square.result
    ∙ ap (λ (z : ℕ). alternating (term cosine_divisor scale z) 6) c.square.ensures.0 in
    let b = cosine_above greatest_turn_angle q (omega arith) c.args.self.most in
    (is, at_least is b, at_most is b)
