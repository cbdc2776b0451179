-- `with_straights`: a refusal is the first of the straights', and each turn adds one that is long enough, with its length. Assumes nothing.
use mathlib.Core.Path.{◌≡◌, refl, sym, ◌∙◌, ap, subst}
use Prim.Native.Nat.{ℕ, suc, ◌+◌, ◌-◌, ◌*◌, ◌≤◌}
use native.Mathlib.Omega.{arith}
use borrow.Author.Rules.{rules}
use lib.Dec.{leb}
use lib.IntN.{pos}
use lib.ListN.{get_or}
use borrow.Author.Tests.{leb-true}
use Rattle.numbers.proofs.Ranges.{at_most}
use Rattle.refusals.specs.Outcomes.{need, first_of}
use Rattle.refusals.specs.Order.{outcome}
use Rattle.refusals.proofs.Joining.{need_holds}
use Rattle.refusals.proofs.InTurn.{one_more, first_refused}
use Rattle.stationing.specs.Stations.{tangent_before}
use Rattle.stationing.specs.Answer.{straight_check}
use Rattle.stationing.specs.Arrays.{ArcsTo, StraightsTo}
use Rattle.stationing.proofs.Accepted.{before_between, after_between}
use Rattle.stationing.proofs.Fronts.{front_empty, front_more}
use Rattle.stationing.proofs.StraightSteps.{after_distance, before_next, straight_checked, straight_length}
use Rattle.calculator.proofs.LengthsKnown.{whole_lengths}
use Rattle.calculator.proofs.lengths.with_straights.Goals as goal
use Rattle.calculator.proofs.lengths.with_straights.Goals.{After-from-distance}

pub loop-i-init : goal.loop-i-init
unfolding first_of tangent_before
loop-i-init c = record { passes = refl; arcs = refl; straights = front_empty _ 65; before = λ h. refl }

-- The tangents at the ends of a distance.
ends_most : (c : After-from-distance) → c.loop-i.before + get_or c.args.curves.tangents c.loop-i.i 0 ≤ 24600000000
ends_most c =
    let loop = c.loop-i in
    let line = c.args.line in
    let here : loop.i ≤ line.count = omega arith in
    let before = at_most (loop.invariant.before here) (before_between line c.requires.line_in_range loop.i here) in
    let after = at_most (after_distance line _ c.requires.curves_of.tangents loop.i here) (after_between line c.requires.line_in_range loop.i) in
    omega (arith, before, after)

pub overflow_add-ends : goal.overflow_add-ends
overflow_add-ends c = omega (arith, ends_most c)

pub overflow_add-ends-in-loop-i : goal.overflow_add-ends-in-loop-i
overflow_add-ends-in-loop-i c = omega (arith, ends_most c)

-- What the code tests is refusal 15 of the distance.
checked : (c : After-from-distance)
    → outcome (straight_check c.args.line c.loop-i.i)
    ≡ need (leb (c.loop-i.before + get_or c.args.curves.tangents c.loop-i.i 0 + 1000) (1000 * c.from-distance.result)) 15 c.loop-i.i
checked c =
    let loop = c.loop-i in
    let line = c.args.line in
    let here : loop.i ≤ line.count = omega arith in
    straight_checked line loop.i (loop.invariant.before here) (after_distance line _ c.requires.curves_of.tangents loop.i here)
    ∙ ap (λ (d : ℕ). need (leb (loop.before + get_or c.args.curves.tangents loop.i 0 + 1000) (1000 * d)) 15 loop.i) (sym c.from-distance.ensures)

pub returns-in_err-must-clause-answer : goal.returns-in_err-must-clause-answer
returns-in_err-must-clause-answer c =
    let loop = c.loop-i in
    let first = first_refused (straight_check c.args.line) loop.i (suc c.args.line.count) (omega arith) loop.invariant.passes
    (checked (goal.at.returns-in_err-must-clause-answer c).After-from-distance ∙ sym c.in_err-must.ensures) in
    search rules

pub loop-i-preserved : goal.loop-i-preserved
loop-i-preserved c =
    let loop = c.loop-i in
    let line = c.args.line in
    let here : loop.i ≤ line.count = omega arith in
    let after = get_or c.args.curves.tangents loop.i 0 in
    let long = leb-true (loop.before + after + 1000) (1000 * c.from-distance.result) (need_holds _ 15 loop.i (sym c.in_ok-must.ensures)) in
    let length = straight_length line loop.i (loop.invariant.before here) (after_distance line _ c.requires.curves_of.tangents loop.i here)
    (omega (arith, long, c.from-distance.ensures)) in
    record {
      passes = one_more (straight_check line) loop.i loop.invariant.passes (checked (goal.at.loop-i-preserved c).After-from-distance ∙ sym c.in_ok-must.ensures);
      arcs = loop.invariant.arcs;
      straights = front_more loop.i _ loop.invariant.straights (omega (arith, c.requires.line_in_range.few)) (ap (λ (d : ℕ). pos (1000 * d - (loop.before + after))) c.from-distance.ensures ∙ length);
      before = before_next line _ c.requires.curves_of.tangents loop.i;
    }

pub returns-clause-lengths : goal.returns-clause-lengths
returns-clause-lengths c =
    let line = c.args.line in
    let loop = c.loop-i in
    let all : loop.i ≡ suc line.count = omega arith in
    whole_lengths line loop.lengths c.requires.line_in_range.few
    (subst (λ (i : ℕ). StraightsTo line i loop.lengths.straights) all loop.invariant.straights)
    (subst (ArcsTo line line.count) (sym loop.invariant.arcs) c.requires.curves_of.arcs)
