-- `check_grades`: the first grade beyond its range is refused. Assumes nothing.
use Prim.Native.Nat.{suc, ◌<◌}
use native.Mathlib.Numerals.{add-one}
use native.Mathlib.Omega.{arith}
use borrow.Author.Rules.{rules}
use lib.ListN.{get_or, take}
use lib.Seq.{get_or-take}
use mir.Syntax.{w64}
use mir.Val.{SFits}
use mir.Facts.{to_z-of_z}
use Rattle.profile.specs.Vertices.{blank_vertex, grade_of}
use Rattle.profile.specs.Checks.{grade_check}
use Rattle.heights.proofs.Passes.{none, passes, fails}
use Rattle.heights.proofs.checks.check_grades.Goals as goal

pub returns-in_err-check_grade : goal.returns-in_err-check_grade
unfolding grade_check grade_of
returns-in_err-check_grade c =
    let p = c.args.profile.now in
    let held : SFits w64 p.grade = search rules in
    let e = fails (grade_check p) 0 (suc p.count) (omega arith) (none (grade_check p)) (simp to_z-of_z at c.in_err-check_grade.ensures) in
    search rules

pub loop-i-init : goal.loop-i-init
unfolding grade_check grade_of
loop-i-init c =
    let p = c.args.profile.now in
    let held : SFits w64 p.grade = search rules in
    passes (grade_check p) 0 (none (grade_check p)) (simp to_z-of_z at c.in_ok-check_grade.ensures)

pub returns-in_err-check_grade-2 : goal.returns-in_err-check_grade-2
unfolding grade_check grade_of
returns-in_err-check_grade-2 c =
    let p = c.args.profile.now in
    let i = c.loop-i.i in
    let more : i < p.count = omega arith in
    let held : SFits w64 (get_or (take p.count p.vertices) i blank_vertex).grade = search rules in
    let here = simp to_z-of_z at c.in_err-check_grade-2.ensures in
    let here = simp (get_or-take p.count p.vertices i blank_vertex more, add-one) at here in
    let e = fails (grade_check p) (suc i) (suc p.count) (omega arith) c.loop-i.invariant here in
    search rules

pub loop-i-preserved : goal.loop-i-preserved
unfolding grade_check grade_of
loop-i-preserved c =
    let p = c.args.profile.now in
    let i = c.loop-i.i in
    let more : i < p.count = omega arith in
    let held : SFits w64 (get_or (take p.count p.vertices) i blank_vertex).grade = search rules in
    let here = simp to_z-of_z at c.in_ok-check_grade-2.ensures in
    let here = simp (get_or-take p.count p.vertices i blank_vertex more, add-one) at here in
    rw add-one (passes (grade_check p) (suc i) c.loop-i.invariant here)
