-- `peg_along`: the element under the length is that of this turn, or among those behind it. Assumes nothing.
use mathlib.Core.Path.{◌≡◌, sym, ◌∙◌, ap, subst, transport}
use Prim.Native.Nat.{ℕ, suc, ◌+◌, ◌-◌, ◌*◌}
use native.Mathlib.Omega.{arith}
use lib.ListN.{get_or}
use Rattle.refusals.specs.Replying.{answered}
use Rattle.calculator.proofs.LengthsKnown.{ranges, measured_straight, measured_arc, arc_most}
use Rattle.pegs.proofs.Walking.{Reached, from_start, at_straight, at_curve, at_next, at_last, at_beyond}
use Rattle.pegs.proofs.walk.peg_along.Goals as goal
use Rattle.pegs.proofs.walk.peg_along.Goals.{After-from, After-loop-i}

pub loop-i-init : goal.loop-i-init
loop-i-init c =
    let line = c.args.measured.line.now in
    let along = c.args.along in
    let none : 0 ≡ along - along = omega arith in
    let all : line.count ≡ line.count - 0 = omega arith in
    (omega arith, transport (λ j. Reached line along 0 (all j) (none j)) (from_start line (ranges c.args.measured) along))

pub returns-then-rest-straight : goal.returns-then-rest-straight
returns-then-rest-straight c =
    let m = c.args.measured in
    let loop = c.loop-i in
    ap answered c.plain_peg.ensures
    ∙ at_straight m.line.now (ranges m) c.args.along loop.rest loop.invariant.0 loop.i _ (measured_straight m loop.i (omega arith)) _ loop.invariant.1 c.if-rest-straight.true

pub overflow_mul-whole : goal.overflow_mul-whole
overflow_mul-whole c = omega (arith, ((ranges c.args.measured).in_range.curve c.loop-i.i c.loop-i-test.true).L-most)

pub overflow_add-whole : goal.overflow_add-whole
overflow_add-whole c =
    let m = c.args.measured in
    omega (arith, arc_most m c.loop-i.i c.loop-i-test.true, ((ranges m).in_range.curve c.loop-i.i c.loop-i-test.true).L-most)

pub peg_in_curve-requires-clause-curve_in_range : goal.peg_in_curve-requires-clause-curve_in_range
peg_in_curve-requires-clause-curve_in_range c =
    let m = c.args.measured in
    ((ranges m).in_range.curve c.loop-i.i c.loop-i-test.true, arc_most m c.loop-i.i c.loop-i-test.true)

-- The curve of this turn is among the elements that are left.
here : (c : After-from) → Reached c.args.measured.line.now c.args.along c.loop-i.i (suc (c.args.measured.line.now.count - (c.loop-i.i + 1))) (c.args.along - c.loop-i.rest)
here c =
    let more : c.args.measured.line.now.count - c.loop-i.i ≡ suc (c.args.measured.line.now.count - (c.loop-i.i + 1)) = omega arith in
    subst (λ (k : ℕ). Reached c.args.measured.line.now c.args.along c.loop-i.i k (c.args.along - c.loop-i.rest)) more c.loop-i.invariant.1

pub returns-then-inside-whole : goal.returns-then-inside-whole
returns-then-inside-whole c =
    let m = c.args.measured in
    let i = c.loop-i.i in
    let left = here (goal.at.returns-then-inside-whole c).After-from in
    c.peg_in_curve.ensures
    ∙ at_curve m.line.now (ranges m) c.args.along c.loop-i.rest c.loop-i.invariant.0 i _ (measured_straight m i (omega arith)) _ _ (measured_arc m i c.loop-i-test.true) left (omega arith) (omega (arith, c.from.ensures))

pub loop-i-preserved : goal.loop-i-preserved
loop-i-preserved c =
    let m = c.args.measured in
    let i = c.loop-i.i in
    let along = c.args.along in
    let rest = c.loop-i.rest in
    let left = here (goal.at.loop-i-preserved c).After-from in
    let next = at_next m.line.now (ranges m) along rest c.loop-i.invariant.0 i _ (measured_straight m i (omega arith)) _ _ (measured_arc m i c.loop-i-test.true) left (omega arith) (omega (arith, c.from.ensures)) in
    (omega arith, subst (λ (L : ℕ). Reached m.line.now along (i + 1) (m.line.now.count - (i + 1)) (along - (rest - get_or m.lengths.now.straights i 0 - (2000 * L + get_or m.lengths.now.arcs i 0)))) (sym c.from.ensures) next)

-- The last straight alone is left.
last : (c : After-loop-i) → Reached c.args.measured.line.now c.args.along c.args.measured.line.now.count 0 (c.args.along - c.loop-i.rest)
last c =
    let all : c.loop-i.i ≡ c.args.measured.line.now.count = omega arith in
    let none : c.args.measured.line.now.count - c.loop-i.i ≡ 0 = omega arith in
    transport (λ j. Reached c.args.measured.line.now c.args.along (all j) (none j) (c.args.along - c.loop-i.rest)) c.loop-i.invariant.1

pub returns-then-measured-n : goal.returns-then-measured-n
returns-then-measured-n c =
    let m = c.args.measured in
    let straight = measured_straight m m.line.now.count (omega arith) in
    at_beyond m.line.now (ranges m) c.args.along c.loop-i.rest c.loop-i.invariant.0 _ straight (last (goal.at.returns-then-measured-n c).After-loop-i) c.if-measured-n.true

pub returns : goal.returns
returns c =
    let m = c.args.measured in
    let straight = measured_straight m m.line.now.count (omega arith) in
    ap answered c.plain_peg-2.ensures
    ∙ at_last m.line.now (ranges m) c.args.along c.loop-i.rest c.loop-i.invariant.0 _ straight (last (goal.at.returns c).After-loop-i) c.if-measured-n.false
