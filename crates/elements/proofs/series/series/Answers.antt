-- `series`: the term that was added before is the next one's former, so what is taken is no greater. Assumes nothing.
use mathlib.Core.Path.{◌≡◌, ◌∙◌, ap}
use Prim.Native.Nat.{ℕ, ◌-◌}
use native.Mathlib.Omega.{arith}
use lib.ListN.{get_or}
use Rattle.elements.specs.WorkingRule.{term, alternating}
use Rattle.elements.proofs.SineAndCosine.{next_is, next_taken, next_added}
use Rattle.elements.proofs.series.series.Goals as goal
use Rattle.elements.proofs.series.series.Goals.{then-j-eq0, else-j-eq0}

pub loop-j-preserved : goal.loop-j-preserved
loop-j-preserved c =
    let loop = c.loop-j in
    let divisor = λ (i : ℕ). get_or c.args.divisors.now (i - 1) 0 in
    let t = term divisor c.args.first c.args.z in
    let next = next_is divisor c.args.first c.args.z loop.j _ loop.invariant.term_is c.next_term-term.ensures.0 (ap (λ (i : ℕ). get_or c.args.divisors.now i 0) (omega arith)) in
    elim c.if-j-eq0.branch [
      | then-j-eq0 w ↦ record {
        term_is = next;
        sum_is = rw (w.added-is, w.taken-is) (next_taken t loop.j loop.added loop.taken _ loop.invariant.sum_is next (omega arith) (omega arith));
        falls = omega arith;
        few_added = omega arith;
        above = omega arith;
        last_added = λ e. omega arith;
      }
      | else-j-eq0 w ↦ record {
        term_is = next;
        sum_is = rw (w.added-is, w.taken-is) (next_added t loop.j loop.added loop.taken _ loop.invariant.sum_is next (omega arith) (omega arith));
        falls = omega arith;
        few_added = omega arith;
        above = omega arith;
        last_added = λ e. omega arith;
      }
    ]

pub returns : goal.returns
returns c =
    let all : c.loop-j.j ≡ 6 = omega arith in
    c.loop-j.invariant.sum_is ∙ ap (alternating (term (λ i. get_or c.args.divisors.now (i - 1) 0) c.args.first c.args.z)) all
