-- Points that pass 3 and 18 are within reach. Assumes nothing.
use mathlib.Core.Path.{◌≡◌, sym, subst}
use mathlib.Core.List.{List}
use Prim.Native.Nat.{ℕ, ◌<◌, ◌≤◌}
use native.Mathlib.Decide.{dec_lt}
use native.Mathlib.Omega.{arith}
use lib.Dec.{leb}
use lib.IntN.{ℤ, pos, nat_abs}
use lib.ListN.{length, get_or-eq_default}
use borrow.Author.Tests.{leb-true}
use Rattle.refusals.specs.Outcomes.{passed}
use Rattle.refusals.specs.Order.{in_turn, outcome}
use Rattle.refusals.proofs.Joining.{need_holds}
use Rattle.refusals.proofs.InTurn.{each_passes}
use Rattle.coordinates.specs.Legs.{coordinate_at}
use Rattle.coordinates.specs.FromPoints.{count_checks, coordinate_check}
use Rattle.coordinates.proofs.Counts.{counts_pass}
use Rattle.points.specs.Reach.{InReach}
use Rattle.points.specs.Steps.{Usable}

module _ (points : List ℤ) (ranged : outcome (in_turn (coordinate_check points) (length points)) ≡ passed) where
  in_reach : InReach points
  unfolding coordinate_check
  in_reach = record { reach = λ k. go k (dec_lt k (length points)) }
    where
      go : (k : ℕ) → Dec (k < length points) → nat_abs (coordinate_at points k) ≤ 10000000
      go k (yes h) =
          leb-true (nat_abs (coordinate_at points k)) 10000000
          (need_holds (leb (nat_abs (coordinate_at points k)) 10000000) 18 0 (each_passes (coordinate_check points) (length points) ranged k h))
      go k (no h) =
          subst (λ (z : ℤ). nat_abs z ≤ 10000000) (sym (get_or-eq_default points (pos 0) {n = k} (omega arith))) (omega arith)

  pub usable : (designs : List ℕ) → outcome (count_checks points designs) ≡ passed → Usable points designs
  usable designs e =
      let counted = counts_pass points designs e in
      record { few = counted.few; numbers = counted.numbers; pairs = counted.designs; in_reach = in_reach }
