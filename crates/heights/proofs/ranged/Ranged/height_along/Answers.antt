-- `height_along`: a station on the grade before the next curve, in the curve, or behind the last. Assumes nothing.
use mathlib.Core.Path.{◌∙◌}
use native.Mathlib.Numerals.{add-one}
use native.Mathlib.Omega.{arith}
use Rattle.signed.proofs.Sizes.{held, kept}
use Rattle.profile.specs.Vertices.{station_of, length_of, end_of}
use Rattle.heights.proofs.Ahead.{ahead, next_height, past_last, before_curve, in_next}
use Rattle.heights.proofs.ranged.Ranged.height_along.Goals as goal

pub loop-vertex-init : goal.loop-vertex-init
unfolding end_of station_of length_of
loop-vertex-init c =
    let e = c.first_grade-from.ensures in
    record { out = record { station = e.station; height = e.height; grade = e.grade }; behind = omega (arith, c.requires.from) }

pub overflow_sub-begin : goal.overflow_sub-begin
overflow_sub-begin c =
    (ahead c.args.self.profile.now c.args.self.in_range c.loop-vertex.vertex-index (omega arith)).half

pub height_on-requires-clause-from : goal.height_on-requires-clause-from
height_on-requires-clause-from c =
    let v = ahead c.args.self.profile.now c.args.self.in_range c.loop-vertex.vertex-index (omega arith) in
    omega arith

pub returns-then-station-begin : goal.returns-then-station-begin
returns-then-station-begin c =
    let at = c.loop-vertex in
    let v = ahead c.args.self.profile.now c.args.self.in_range at.vertex-index (omega arith) in
    let grade = before_curve c.args.self.profile.now c.args.self.in_range at.vertex-index c.args.station at.invariant.out at.invariant.behind (omega arith) (omega arith) in
    rw (kept c.height_on.type_inv, c.height_on.ensures) grade

pub overflow_add-vertex : goal.overflow_add-vertex
overflow_add-vertex c =
    let v = ahead c.args.self.profile.now c.args.self.in_range c.loop-vertex.vertex-index (omega arith) in
    record { fits = omega arith }

pub onward-requires-clause-from : goal.onward-requires-clause-from
onward-requires-clause-from c =
    let v = ahead c.args.self.profile.now c.args.self.in_range c.loop-vertex.vertex-index (omega arith) in
    omega arith

pub invariant_of-curve : goal.invariant_of-curve
invariant_of-curve c =
    let v = ahead c.args.self.profile.now c.args.self.in_range c.loop-vertex.vertex-index (omega arith) in
    record { flat = v.flat; least = v.least; most = v.most }

pub returns-then-station-vertex : goal.returns-then-station-vertex
returns-then-station-vertex c =
    let at = c.loop-vertex in
    let v = ahead c.args.self.profile.now c.args.self.in_range at.vertex-index (omega arith) in
    let into = c.onward.ensures in
    let curve = in_next c.args.self.profile.now c.args.self.in_range at.vertex-index c.args.station at.invariant.out (omega arith) (omega arith) (omega arith) in
    let told = rw (into.station, into.height, into.grade, held at.from.grade (omega arith), v.begin, v.grade, v.length) at c.height_on-then-station-vertex.ensures in
    rw (kept c.height_on-then-station-vertex.type_inv, told) curve

pub onward-from-requires-clause-from : goal.onward-from-requires-clause-from
onward-from-requires-clause-from c =
    let v = ahead c.args.self.profile.now c.args.self.in_range c.loop-vertex.vertex-index (omega arith) in
    omega arith

pub onward-from-requires-clause-flat : goal.onward-from-requires-clause-flat
onward-from-requires-clause-flat c =
    (ahead c.args.self.profile.now c.args.self.in_range c.loop-vertex.vertex-index (omega arith)).flat

pub loop-vertex-preserved : goal.loop-vertex-preserved
loop-vertex-preserved c =
    let at = c.loop-vertex in
    let v = ahead c.args.self.profile.now c.args.self.in_range at.vertex-index (omega arith) in
    let onto = c.onward-from.ensures in
    rw add-one (record {
      out = record { station = onto.station ∙ v.station; height = onto.height ∙ next_height c.args.self.profile.now c.args.self.in_range at.vertex-index _ at.invariant.out (omega arith) v.station; grade = onto.grade ∙ v.grade };
      behind = omega arith;
    })

pub height_on-requires-2-clause-from : goal.height_on-requires-2-clause-from
unfolding end_of
height_on-requires-2-clause-from c = omega (arith, c.loop-vertex.invariant.out.station)

pub returns : goal.returns
returns c =
    let at = c.loop-vertex in
    let grade = past_last c.args.self.profile.now c.args.self.in_range at.vertex-index c.args.station at.invariant.out at.invariant.behind (omega arith) in
    rw (kept c.height_on-2.type_inv, c.height_on-2.ensures) grade
