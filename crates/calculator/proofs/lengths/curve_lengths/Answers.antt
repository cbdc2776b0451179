-- `curve_lengths`: a refusal is the first of the curves', and each turn adds a curve that passes, with its tangent and arc. Assumes nothing.
use borrow.Author.Rules.{rules}
use Rattle.refusals.specs.Outcomes.{first_of}
use Rattle.elements.proofs.Replies.{found_elements}
use Rattle.stationing.specs.Stations.{tangent_at, arc_at}
use Rattle.stationing.proofs.Fronts.{front_empty, front_more}
use Rattle.stationing.proofs.CurveSteps.{least_refused, arc_refused, curve_passed}
use Rattle.calculator.proofs.lengths.curve_lengths.Goals as goal

pub loop-i-init : goal.loop-i-init
unfolding first_of
loop-i-init c = record { passes = search rules; tangents = front_empty _ 65; arcs = front_empty _ 64 }

pub returns-in_err-check_least-clause-answer : goal.returns-in_err-check_least-clause-answer
returns-in_err-check_least-clause-answer c =
    let least = least_refused c.args.line c.loop-i.i c.loop-i.invariant.passes c.args.line.count c.loop-i-test.true c.in_err-check_least.ensures in
    search rules

pub returns-in_default-clause-answer : goal.returns-in_default-clause-answer
returns-in_default-clause-answer c =
    let loop = c.loop-i in
    let here = c.loop-i-test.true in
    arc_refused c.args.line loop.i loop.invariant.passes c.in_ok-check_least.ensures c.in_default.field-0 c.args.line.count here (c.requires.curve loop.i here) c.in_default.ensures

pub loop-i-preserved : goal.loop-i-preserved
unfolding tangent_at arc_at
loop-i-preserved c =
    let loop = c.loop-i in
    let found = found_elements _ _ _ _ c.in-Ok.ensures in
    record {
      passes = curve_passed c.args.line loop.i loop.invariant.passes c.in_ok-check_least.ensures found;
      tangents = front_more loop.i _ loop.invariant.tangents (search rules) found.TT;
      arcs = front_more loop.i _ loop.invariant.arcs (search rules) found.D;
    }
