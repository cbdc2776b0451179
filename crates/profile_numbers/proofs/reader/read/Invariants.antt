-- `read`: the first i vertices are filled. Assumes nothing.
use mathlib.Core.Path.{◌≡◌}
use Rattle.line.specs.Entries.{entries}
use Rattle.profile.specs.Vertices.{blank_vertex}
use Rattle.profile_numbers.specs.Numbers.{vertex_of}
use Rattle.profile_numbers.proofs.reader.read.Given as goal

abbrev pub invariant-loop-i : goal.invariant-loop-i
invariant-loop-i l = l.vertices ≡ entries 32 l.i (vertex_of l.numbers) blank_vertex
