-- `check_sight`: the first curve that is too short is refused. Assumes nothing.
use mathlib.Core.Path.{refl}
use Prim.Native.Nat.{suc, ◌<◌}
use native.Mathlib.Numerals.{add-one}
use native.Mathlib.Omega.{arith}
use borrow.Author.Rules.{rules}
use lib.ListN.{get_or, take}
use lib.Seq.{get_or-take}
use mir.Syntax.{w64}
use mir.Val.{SFits}
use mir.Facts.{to_z-of_z}
use Rattle.profile.specs.Vertices.{blank_vertex, grade_of, length_of}
use Rattle.profile.specs.Checks.{sight_check}
use Rattle.heights.proofs.Passes.{none, passes, fails}
use Rattle.heights.proofs.checks.check_sight.Goals as goal

pub loop-i-init : goal.loop-i-init
unfolding grade_of
loop-i-init c =
    let p = c.args.ranged.profile.now in
    let held : SFits w64 p.grade = search rules in
    simp to_z-of_z (record { at_vertex = refl; passed_before = none (sight_check p) })

pub sight_serves-requires-clause-outgoing_flat : goal.sight_serves-requires-clause-outgoing_flat
unfolding grade_of
sight_serves-requires-clause-outgoing_flat c =
    let p = c.args.ranged.profile.now in
    let at = c.loop-i in
    let more : at.i < p.count = omega arith in
    let held : SFits w64 (get_or (take p.count p.vertices) at.i blank_vertex).grade = search rules in
    let flat = c.args.ranged.in_range.flat (suc at.i) more in
    simp to_z-of_z (simp (get_or-take p.count p.vertices at.i blank_vertex more) flat)

pub sight_serves-requires-clause-short : goal.sight_serves-requires-clause-short
unfolding length_of
sight_serves-requires-clause-short c =
    let p = c.args.ranged.profile.now in
    let at = c.loop-i in
    let more : at.i < p.count = omega arith in
    simp (get_or-take p.count p.vertices at.i blank_vertex more) (c.args.ranged.in_range.most at.i more)

pub returns-in_err-must : goal.returns-in_err-must
unfolding sight_check length_of grade_of
returns-in_err-must c =
    let p = c.args.ranged.profile.now in
    let at = c.loop-i in
    let more : at.i < p.count = omega arith in
    let held : SFits w64 (get_or (take p.count p.vertices) at.i blank_vertex).grade = search rules in
    let used = get_or-take p.count p.vertices at.i blank_vertex more in
    let serves = simp to_z-of_z at c.sight_serves.ensures in
    let here = simp (serves, c.stopping_distance-distance.ensures.value, used, at.invariant.at_vertex, add-one) at c.in_err-must.ensures in
    let e = fails (sight_check p) at.i p.count more at.invariant.passed_before here in
    search rules

pub loop-i-preserved : goal.loop-i-preserved
unfolding sight_check length_of grade_of
loop-i-preserved c =
    let p = c.args.ranged.profile.now in
    let at = c.loop-i in
    let more : at.i < p.count = omega arith in
    let held : SFits w64 (get_or (take p.count p.vertices) at.i blank_vertex).grade = search rules in
    let used = get_or-take p.count p.vertices at.i blank_vertex more in
    let serves = simp to_z-of_z at c.sight_serves.ensures in
    let here = simp (serves, c.stopping_distance-distance.ensures.value, used, at.invariant.at_vertex, add-one) at c.in_ok-must.ensures in
    simp (to_z-of_z, add-one) (simp used (record {
      at_vertex = refl;
      passed_before = passes (sight_check p) at.i at.invariant.passed_before here;
    }))
