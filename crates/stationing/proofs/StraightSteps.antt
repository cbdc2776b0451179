-- One straight more: a distance less the tangents at its ends, tested and measured on natural numbers. Assumes nothing.
use mathlib.Core.Path.{◌≡◌, sym, ◌∙◌, ap}
use mathlib.Core.Bool.{Bool}
use mathlib.Core.List.{List}
use Prim.Native.Nat.{ℕ, ◌+◌, ◌-◌, ◌*◌, ◌<◌, ◌≤◌}
use native.Mathlib.Numerals.{add-one}
use native.Mathlib.Decide.{dec_lt}
use native.Mathlib.Omega.{arith}
use lib.Dec.{leb}
use lib.IntN.{pos, ◌-ℤ◌}
use lib.ListN.{get_or}
use lib.Signed.{le_z}
use borrow.Author.Tests.{lt-ltb, le-ltb}
use Rattle.numbers.proofs.Differences.{minus_le, minus_minus, reaches}
use Rattle.refusals.specs.Outcomes.{need}
use Rattle.refusals.specs.Order.{outcome}
use Rattle.line.specs.declared.Line.{Line}
use Rattle.line.specs.Checks.{distance_at}
use Rattle.stationing.specs.Stations.{tangent_at, tangent_before, tangent_after, straight_at}
use Rattle.stationing.specs.Answer.{straight_check}
use Rattle.stationing.specs.Arrays.{TangentsTo}

-- The tangent after distance i, by cases.
module _ (line : Line) (i : ℕ) where
  pub after_inside : i < line.count → tangent_after line i ≡ tangent_at line i
  unfolding tangent_after
  after_inside h = rw (lt-ltb i line.count h)

  pub after_end : line.count ≤ i → tangent_after line i ≡ pos 0
  unfolding tangent_after
  after_end h = rw (le-ltb i line.count h)

module _ (line : Line) (tangents : List ℕ) (all : TangentsTo line line.count tangents) where
  pub after_distance : (i : ℕ) → i ≤ line.count → pos (get_or tangents i 0) ≡ tangent_after line i
  after_distance i h = go (dec_lt i line.count)
    where
      go : Dec (i < line.count) → pos (get_or tangents i 0) ≡ tangent_after line i
      go (yes k) = all.used i k ∙ sym (after_inside line i k)
      go (no k) = ap pos (all.unused i (omega arith)) ∙ sym (after_end line i (omega arith))

  pub before_next : (i : ℕ) → i + 1 ≤ line.count → pos (get_or tangents i 0) ≡ tangent_before line (i + 1)
  unfolding tangent_before
  before_next i h = all.used i (omega arith) ∙ simp add-one

module _ (line : Line) (i : ℕ) {before after : ℕ} (b : pos before ≡ tangent_before line i) (a : pos after ≡ tangent_after line i) where
  straight_is : straight_at line i ≡ pos (1000 * distance_at line i) -ℤ pos (before + after)
  unfolding straight_at
  straight_is = sym (λ j. pos (1000 * distance_at line i) -ℤ b j -ℤ a j) ∙ minus_minus (1000 * distance_at line i) before after

  pub straight_reaches : le_z (pos 1000) (straight_at line i) ≡ leb (before + after + 1000) (1000 * distance_at line i)
  straight_reaches = ap (le_z (pos 1000)) straight_is ∙ reaches (1000 * distance_at line i) (before + after) 1000

  -- Refusal 15 on natural numbers.
  pub straight_checked : outcome (straight_check line i) ≡ need (leb (before + after + 1000) (1000 * distance_at line i)) 15 i
  unfolding straight_check
  straight_checked = ap (λ (t : Bool). need t 15 i) straight_reaches

  pub straight_length : before + after ≤ 1000 * distance_at line i → pos (1000 * distance_at line i - (before + after)) ≡ straight_at line i
  straight_length h = sym (minus_le h) ∙ sym straight_is
