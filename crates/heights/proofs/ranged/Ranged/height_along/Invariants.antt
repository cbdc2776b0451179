-- `height_along`: after i vertices the straight grade is that of vertex i, behind its curve. Assumes nothing.
use Prim.Native.Nat.{◌≤◌}
use Rattle.profile.specs.Vertices.{end_of}
use Rattle.heights.proofs.Ahead.{Out}
use Rattle.heights.proofs.ranged.Ranged.height_along.Given as goal

abbrev pub invariant-loop-vertex : goal.invariant-loop-vertex
invariant-loop-vertex l =
    record {
      out : Out l.self.profile.now l.vertex-index l.from.station l.from.height l.from.grade;
      behind : end_of l.self.profile.now l.vertex-index ≤ l.station;
    }
