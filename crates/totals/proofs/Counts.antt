-- How many elements each total is of: n + 1 straights, 2 × n spirals, n arcs. Assumes nothing.
use mathlib.Core.Path.{◌≡◌, refl}
use Prim.Native.Nat.{ℕ, zero, suc, ◌+◌, ◌*◌}
use native.Mathlib.Omega.{arith}
use lib.ListN.{length}
use Rattle.line.specs.declared.Line.{Line}
use Rattle.stationing.specs.LineElements.{elements_from, elements_of}
use Rattle.totals.specs.Totals.{is_straight, is_spiral, is_arc, of_kind}

pub record Counts (line : Line) : Type 0 where
  pub straights : length (of_kind is_straight (elements_of line)) ≡ line.count + 1
  pub spirals : length (of_kind is_spiral (elements_of line)) ≡ 2 * line.count
  pub arcs : length (of_kind is_arc (elements_of line)) ≡ line.count

module _ (line : Line) where
  straights_from : (i k : ℕ) → length (of_kind is_straight (elements_from line i k)) ≡ k + 1
  unfolding elements_from of_kind
  straights_from i zero = refl
  straights_from i (suc k) = omega (arith, straights_from (suc i) k)

  spirals_from : (i k : ℕ) → length (of_kind is_spiral (elements_from line i k)) ≡ 2 * k
  unfolding elements_from of_kind
  spirals_from i zero = refl
  spirals_from i (suc k) = omega (arith, spirals_from (suc i) k)

  arcs_from : (i k : ℕ) → length (of_kind is_arc (elements_from line i k)) ≡ k
  unfolding elements_from of_kind
  arcs_from i zero = refl
  arcs_from i (suc k) = omega (arith, arcs_from (suc i) k)

  pub counts : Counts line
  unfolding elements_of
  counts =
      record { straights = straights_from 0 line.count; spirals = spirals_from 0 line.count; arcs = arcs_from 0 line.count }
