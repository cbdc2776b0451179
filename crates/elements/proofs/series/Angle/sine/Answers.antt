-- `sine`: its divisors are those of the definition, 2j × (2j + 1). Assumes nothing.
use mathlib.Core.Path.{◌≡◌, ◌∙◌, ap}
use Prim.Native.Nat.{ℕ}
use lib.IntN.{pos}
use Rattle.numbers.proofs.Ranges.{at_most}
use Rattle.elements.specs.WorkingRule.{term, alternating, sine_of, sine_divisor}
use Rattle.elements.proofs.SineAndCosine.{sine_listed, sine_between}
use Rattle.elements.proofs.series.Angle.sine.Goals as goal

pub returns : goal.returns
unfolding sine_of
returns c =
    let q = c.args.self.value in
    let is : pos c.series.result ≡ sine_of q =
    c.series.ensures
    ∙ sine_listed q c.square.result
    ∙ ap (λ (z : ℕ). alternating (term sine_divisor q z) 6) c.square.ensures.0 in
    (is, at_most is (sine_between q c.args.self.most))
