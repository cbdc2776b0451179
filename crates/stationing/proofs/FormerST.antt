-- The ST before each distance of a line that passes 3 to 15: it is not below zero, and at most 32 km further with each curve. Assumes nothing.
use Prim.Native.Nat.{ℕ, zero, suc, ◌+◌, ◌*◌, ◌<◌, ◌≤◌}
use native.Mathlib.Omega.{arith}
use Rattle.numbers.specs.Whole.{Between}
use Rattle.numbers.proofs.Ranges.{natural, widen, sum_between}
use Rattle.line.specs.declared.Line.{Line}
use Rattle.line.specs.Checks.{curve_at}
use Rattle.stationing.specs.Stations.{spiral_at, former_st}
use Rattle.stationing.proofs.Accepted.{Accepted}

module _ (line : Line) (ok : Accepted line) where
  -- L, and the ST before distance i.
  pub spiral_between : (i : ℕ) → i < line.count → Between (spiral_at line i) 0 500000000
  unfolding spiral_at
  spiral_between i h = natural (1000 * (curve_at line i).spiral) (omega arith) (omega (arith, (ok.in_range.curve i h).L-most))

  pub former_between : (i : ℕ) → i ≤ line.count → Between (former_st line i) 0 (4000000000000 + 32000000000 * i)
  unfolding former_st
  former_between zero h = natural (1000 * line.start) (omega arith) (omega (arith, ok.in_range.start_most))
  former_between (suc i) h =
      let l = spiral_between i h in
      widen
      (sum_between (sum_between (sum_between (sum_between (former_between i (omega arith)) (ok.straight i (omega arith))) l) (ok.arc i h)) l)
      (omega arith)
      (omega arith)
