-- `add_up`: each turn adds what a straight and the curve behind it add to the totals, so none is above the whole. Assumes nothing.
use mathlib.Core.Path.{◌≡◌, sym, subst}
use Prim.Native.Nat.{ℕ, ◌+◌, ◌*◌, ◌≤◌}
use native.Mathlib.Omega.{arith}
use lib.IntN.{pos, ◌+ℤ◌}
use lib.ListN.{get_or}
use Rattle.numbers.proofs.Ranges.{at_most}
use Rattle.stationing.specs.LineElements.{elements_of}
use Rattle.calculator.proofs.LengthsKnown.{ranges, measured_straight, measured_arc}
use Rattle.totals.specs.Totals.{is_straight, is_spiral, is_arc, total_of, totals_of, totals_by}
use Rattle.totals.proofs.AddingUp.{UpTo, none_yet, straight_added, spirals_added, arc_added, straights_whole, spirals_whole, arcs_whole}
use Rattle.totals.proofs.InRange.{total_between, so_far_most}
use Rattle.totals.proofs.add_up.Goals as goal
use Rattle.totals.proofs.add_up.Goals.{In-loop-i, After-from, After-loop-i}

pub loop-i-init : goal.loop-i-init
loop-i-init c = record { straights = none_yet _ is_straight; spirals = none_yet _ is_spiral; arcs = none_yet _ is_arc }

-- ---- a turn

straight_next : (c : In-loop-i) → UpTo is_straight c.args.measured.line.now (c.loop-i.i + 1) (c.loop-i.straights + get_or c.args.measured.lengths.now.straights c.loop-i.i 0)
straight_next c =
    let m = c.args.measured in
    straight_added m.line.now c.loop-i-test.true (measured_straight m c.loop-i.i (omega arith)) c.loop-i.invariant.straights

spirals_next : (c : After-from) → UpTo is_spiral c.args.measured.line.now (c.loop-i.i + 1) (c.loop-i.spirals + 2000 * c.from.result)
spirals_next c =
    let line = c.args.measured.line.now in
    subst (λ (L : ℕ). UpTo is_spiral line (c.loop-i.i + 1) (c.loop-i.spirals + 2000 * L)) (sym c.from.ensures) (spirals_added line c.loop-i-test.true c.loop-i.invariant.spirals)

arc_next : (c : In-loop-i) → UpTo is_arc c.args.measured.line.now (c.loop-i.i + 1) (c.loop-i.arcs + get_or c.args.measured.lengths.now.arcs c.loop-i.i 0)
arc_next c =
    let m = c.args.measured in
    arc_added m.line.now c.loop-i-test.true (measured_arc m c.loop-i.i c.loop-i-test.true) c.loop-i.invariant.arcs

pub overflow_add-straights : goal.overflow_add-straights
overflow_add-straights c =
    let m = c.args.measured in
    omega (arith, so_far_most m.line.now (ranges m) is_straight (omega arith) (straight_next (goal.at.overflow_add-straights c).In-loop-i))

pub overflow_add-spirals : goal.overflow_add-spirals
overflow_add-spirals c =
    let m = c.args.measured in
    omega (arith, so_far_most m.line.now (ranges m) is_spiral (omega arith) (spirals_next (goal.at.overflow_add-spirals c).After-from))

pub overflow_add-arcs : goal.overflow_add-arcs
overflow_add-arcs c =
    let m = c.args.measured in
    omega (arith, so_far_most m.line.now (ranges m) is_arc (omega arith) (arc_next (goal.at.overflow_add-arcs c).In-loop-i))

pub loop-i-preserved : goal.loop-i-preserved
loop-i-preserved c =
    record {
      straights = straight_next (goal.at.loop-i-preserved c).In-loop-i;
      spirals = spirals_next (goal.at.loop-i-preserved c).After-from;
      arcs = arc_next (goal.at.loop-i-preserved c).In-loop-i;
    }

-- ---- behind the last curve

straights_all : (c : After-loop-i) → pos (c.loop-i.straights + get_or c.args.measured.lengths.now.straights c.args.measured.line.now.count 0) ≡ total_of is_straight (elements_of c.args.measured.line.now)
straights_all c =
    let m = c.args.measured in
    straights_whole m.line.now (omega arith) (measured_straight m m.line.now.count (omega arith)) c.loop-i.invariant.straights

straights_most : (c : After-loop-i) → c.loop-i.straights + get_or c.args.measured.lengths.now.straights c.args.measured.line.now.count 0 ≤ 2034206432640
straights_most c =
    let m = c.args.measured in
    at_most (straights_all c) (total_between m.line.now (ranges m) is_straight)

pub overflow_add-straights-2 : goal.overflow_add-straights-2
overflow_add-straights-2 c = omega (arith, straights_most (goal.at.overflow_add-straights-2 c).After-loop-i)

pub overflow_add-result : goal.overflow_add-result
overflow_add-result c =
    let m = c.args.measured in
    omega (arith, straights_most (goal.at.overflow_add-result c).After-loop-i, so_far_most m.line.now (ranges m) is_spiral (omega arith) c.loop-i.invariant.spirals)

pub overflow_add-result-2 : goal.overflow_add-result-2
overflow_add-result-2 c =
    let m = c.args.measured in
    let ok = ranges m in
    omega (
      arith,
      straights_most (goal.at.overflow_add-result-2 c).After-loop-i,
      so_far_most m.line.now ok is_spiral (omega arith) c.loop-i.invariant.spirals,
      so_far_most m.line.now ok is_arc (omega arith) c.loop-i.invariant.arcs,
    )

pub returns : goal.returns
unfolding totals_of totals_by
returns c =
    let line = c.args.measured.line.now in
    let all : c.loop-i.i ≡ line.count = omega arith in
    let straights = straights_all (goal.at.returns c).After-loop-i in
    let spirals = spirals_whole line all c.loop-i.invariant.spirals in
    let arcs = arcs_whole line all c.loop-i.invariant.arcs in
    λ j. record { straights = straights j; spirals = spirals j; arcs = arcs j; sum = straights j +ℤ spirals j +ℤ arcs j }
