-- `line_of_legs`: a distance or a turn that is refused ends it; then the calculator decides. Assumes nothing.
use mathlib.Core.Path.{◌≡◌, refl, sym, ◌∙◌, ap}
use Prim.Native.Nat.{ℕ, suc}
use native.Mathlib.Omega.{arith}
use borrow.Author.Rules.{rules}
use Rattle.std.specs.Prelude.{Ok, Err}
use Rattle.refusals.specs.Outcomes.{first_of}
use Rattle.refusals.specs.Order.{in_turn, outcome}
use Rattle.refusals.proofs.InTurn.{one_more}
use Rattle.coordinates.specs.Legs.{curve_count, length_of}
use Rattle.coordinates.specs.FromPoints.{length_check, turn_checks}
use Rattle.points.proofs.Checked.{length_checked, turn_refused, curve_found}
use Rattle.points.proofs.Filling.{line_to, line_begun, distance_set, curve_set}
use Rattle.points.proofs.MadeInTurn.{refused_in_turn, first_passed, judged}
use Rattle.points.proofs.making.line_of_legs.Goals as goal

pub loop-i-init : goal.loop-i-init
unfolding first_of
loop-i-init c = rw c.curves-n.ensures (record { passed = refl; filled = line_begun _ _ _ _ _ c.blank_line-line.ensures })

pub returns-in_err-check_distance : goal.returns-in_err-check_distance
returns-in_err-check_distance c =
    let points = c.args.points.now.points.now in
    let i = c.loop-i.i in
    let r = c.in_err-check_distance.field-0.0 in
    let is : c.from_residual.result ≡ Err r = search rules in
    let here = length_checked points i c.leg.ensures c.distance-mm.ensures c.in_err-check_distance.ensures in
    let made = refused_in_turn _ r (length_check points) i (suc (curve_count points)) _ (omega (arith, c.curves-n.ensures)) c.loop-i.invariant.passed (sym here) in
    rw is made

pub loop-i-preserved : goal.loop-i-preserved
loop-i-preserved c =
    let points = c.args.points.now.points.now in
    let i = c.loop-i.i in
    let inv = c.loop-i.invariant in
    let here = length_checked points i c.leg.ensures c.distance-mm.ensures c.in_ok-check_distance.ensures in
    record {
      passed = one_more (length_check points) i inv.passed (sym here);
      filled = distance_set _ _ _ _ _ i _ (omega (arith, c.args.points.now.usable.few, c.curves-n.ensures)) inv.filled (c.distance-mm.ensures ∙ ap length_of c.leg.ensures);
    }

pub loop-k-init : goal.loop-k-init
unfolding first_of
loop-k-init c =
    let inv = c.loop-i.invariant in
    let args = c.args in
    let points = args.points.now.points.now in
    let all : c.loop-i.i ≡ suc c.curves-n.result = omega arith in
    record {
      distances = sym (ap (λ (i : ℕ). outcome (in_turn (length_check points) i)) all) ∙ inv.passed;
      passed = refl;
      filled = inv.filled ∙ ap (λ (i : ℕ). line_to args.speed args.crossfall args.start points args.points.now.designs.now i 0) all;
    }

pub returns-in_err-check_turn : goal.returns-in_err-check_turn
returns-in_err-check_turn c =
    let points = c.args.points.now.points.now in
    let inv = c.loop-k.invariant in
    let k = c.loop-k.k in
    let r = c.in_err-check_turn.field-0.0 in
    let is : c.from_residual-in_err-check_turn.result ≡ Err r = search rules in
    let here = turn_refused points k c.bend_at-bend.ensures.seconds c.in_err-check_turn.ensures in
    let made = first_passed _ _ _ (rw c.curves-n.ensures at inv.distances)
    (refused_in_turn _ r (turn_checks points) k (curve_count points) _ (omega (arith, c.curves-n.ensures)) inv.passed (sym here)) in
    rw is made

pub loop-k-preserved : goal.loop-k-preserved
loop-k-preserved c =
    let points = c.args.points.now.points.now in
    let k = c.loop-k.k in
    let inv = c.loop-k.invariant in
    let bend = c.bend_at-bend.ensures in
    let here = turn_refused points k bend.seconds c.in_ok-check_turn.ensures in
    record {
      distances = inv.distances;
      passed = one_more (turn_checks points) k inv.passed (sym here);
      filled = curve_set _ _ _ _ _ _ k _ (omega (arith, c.args.points.now.usable.few, c.curves-n.ensures)) inv.filled
          (curve_found points k c.args.points.now.designs.now (bend.left, bend.seconds) (sym c.in_ok-check_turn.ensures));
    }

pub returns-in_err-line_lengths : goal.returns-in_err-line_lengths
returns-in_err-line_lengths c =
    let args = c.args in
    let inv = c.loop-k.invariant in
    let r = c.in_err-line_lengths.field-0.0 in
    let is : c.from_residual-in_err-line_lengths.result ≡ Err r = search rules in
    rw is
    (judged args.speed args.crossfall args.start args.points.now.points.now args.points.now.designs.now c.curves-n.result c.loop-k.k (Err r) c.curves-n.ensures (omega arith)
    inv.distances inv.passed inv.filled c.in_err-line_lengths.ensures.verdict tt)

pub returns : goal.returns
returns c =
    let args = c.args in
    let inv = c.loop-k.invariant in
    judged args.speed args.crossfall args.start args.points.now.points.now args.points.now.designs.now c.curves-n.result c.loop-k.k (Ok c.loop-k.line) c.curves-n.ensures (omega arith)
    inv.distances inv.passed inv.filled c.in_ok-line_lengths.ensures.verdict refl
