-- `store`: each turn adds the numbers of a curve to the row, and the end comes last. Assumes nothing.
use mathlib.Core.Path.{◌≡◌, refl, ◌∙◌, ap}
use mathlib.Core.List.{◌++◌}
use Prim.Native.Nat.{ℕ, ◌*◌}
use native.Mathlib.Omega.{arith}
use lib.IntN.{pos}
use lib.ListN.{drop}
use Rattle.numbers.proofs.Ranges.{at_most}
use Rattle.refusals.specs.Order.{unchecked}
use Rattle.refusals.proofs.FillWays.{whole_fill}
use Rattle.stationing.specs.Stations.{spiral_at, former_st, curve_stations, station_row}
use Rattle.stationing.proofs.RowCount.{row_count}
use Rattle.stationing.proofs.FormerST.{former_between}
use Rattle.stationing.proofs.RowSteps.{numbers_to, next_st, curve_stored, end_stored}
use Rattle.calculator.proofs.LengthsKnown.{ranges, measured_straight, straight_most, measured_arc, arc_most}
use Rattle.calculator.proofs.measured.MeasuredLine.store.Goals as goal

pub overflow_mul-station : goal.overflow_mul-station
overflow_mul-station c = omega (arith, (ranges c.args.self).in_range.start_most, c.from-station.ensures)

pub loop-i-init : goal.loop-i-init
unfolding former_st curve_stations
loop-i-init c = (ap (λ (start : ℕ). pos (1000 * start)) c.from-station.ensures, refl)

pub store_curve-station-requires-clause-former_bound : goal.store_curve-station-requires-clause-former_bound
store_curve-station-requires-clause-former_bound c =
    let m = c.args.self in
    let i = c.loop-i.i in
    let here = c.loop-i-test.true in
    let ok = ranges m in
    let former = at_most c.loop-i.invariant.0 (former_between m.line.now ok i (omega arith)) in
    let spiral = (ok.in_range.curve i here).L-most in
    (omega (arith, former, ok.in_range.few), straight_most m i (omega arith), omega (arith, spiral, c.from-spiral.ensures), arc_most m i here)

pub loop-i-preserved : goal.loop-i-preserved
unfolding spiral_at
loop-i-preserved c =
    let m = c.args.self in
    let loop = c.loop-i in
    let stored = c.store_curve-station.ensures in
    let straight = measured_straight m loop.i (omega arith) in
    let spiral = ap (λ (L : ℕ). pos (1000 * L)) c.from-spiral.ensures in
    let arc = measured_arc m loop.i c.loop-i-test.true in (
      next_st m.line.now loop.i loop.invariant.0 straight spiral arc stored.value,
      curve_stored m.line.now loop.i loop.invariant.0 straight spiral arc c.args.row.now loop.row _ (omega arith) loop.invariant.1 stored.row_after,
    )

pub overflow_add-row : goal.overflow_add-row
overflow_add-row c =
    let m = c.args.self in
    let ok = ranges m in
    let former = at_most c.loop-i.invariant.0 (former_between m.line.now ok c.loop-i.i (omega arith)) in
    omega (arith, former, straight_most m m.line.now.count (omega arith), ok.in_range.few)

pub returns : goal.returns
returns c =
    let m = c.args.self in
    let loop = c.loop-i in
    let line = m.line.now in
    let lent = c.args.row.now in
    let all : loop.i ≡ line.count = omega arith in
    let front = loop.invariant.1 ∙ ap (λ (i : ℕ). numbers_to line i ++ drop (4 * i) lent) all in
    let whole = whole_fill unchecked (station_row line) lent refl (row_count line) c.if-row-count.false
    (end_stored line (loop.invariant.0 ∙ ap (former_st line) all) (measured_straight m line.count (omega arith)) lent loop.row c.if-row-count.false front) in
    record { answer = whole.0; memory = whole.1 }
