-- `read`: each turn fills one vertex more. Assumes nothing.
use mathlib.Core.Path.{◌≡◌, ◌∙◌, ap}
use mathlib.Core.List.{List}
use Prim.Native.Nat.{◌+◌, ◌*◌, ◌≤◌, ◌<◌}
use native.Mathlib.Omega.{arith}
use borrow.Author.Rules.{rules}
use lib.ListN.{set}
use mir.Syntax.{w64}
use mir.Val.{SFits}
use mir.Facts.{to_z-of_z}
use Rattle.line.specs.Entries.{entries}
use Rattle.line.proofs.Entries.{entries_set}
use Rattle.profile.specs.declared.Vertex.{Vertex}
use Rattle.profile.specs.Vertices.{blank_vertex}
use Rattle.profile_numbers.specs.Numbers.{vertex_count, number_at, vertex_of, profile_of}
use Rattle.profile_numbers.proofs.reader.read.Goals as goal

pub loop-i-init : goal.loop-i-init
unfolding entries
loop-i-init c = search rules

pub loop-i-preserved : goal.loop-i-preserved
loop-i-preserved c =
    let numbers = c.args.numbers.now in
    let at = c.loop-i in
    let station : SFits w64 (number_at numbers (4 + 3 * at.i)) = search rules in
    let grade : SFits w64 (number_at numbers (4 + 3 * at.i + 1)) = search rules in
    let length : SFits w64 (number_at numbers (4 + 3 * at.i + 2)) = search rules in
    let few : vertex_count numbers ≤ 32 = c.in_ok-check_size.ensures.few in
    let more : at.i < 32 = omega arith in
    let all = ap (λ (vs : List Vertex). set vs at.i (vertex_of numbers at.i)) at.invariant ∙ entries_set 32 at.i (vertex_of numbers) blank_vertex more in
    rw (c.field_of.ensures, c.field_of-in-loop-i.ensures) (simp to_z-of_z all)

pub returns-clause-profile : goal.returns-clause-profile
unfolding profile_of
returns-clause-profile c =
    let numbers = c.args.numbers.now in
    let speed : SFits w64 (number_at numbers 0) = search rules in
    let start : SFits w64 (number_at numbers 1) = search rules in
    let height : SFits w64 (number_at numbers 2) = search rules in
    let grade : SFits w64 (number_at numbers 3) = search rules in
    let all : c.loop-i.i ≡ vertex_count numbers = omega arith in
    rw (c.field_of-2.ensures, c.field_of-3.ensures, c.loop-i.invariant, all) (simp to_z-of_z)
