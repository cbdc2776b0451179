-- Of two bounds of the turn that are one apart the lower is the turn. Assumes nothing.
use Rattle.std.proofs.Common.{◌≡◌, ℕ, ◌+◌, ◌≤◌, pos, sym, ◌∙◌, arith}
use Rattle.turns.specs.Turn.{reached, deflection_of, turn_or_wide}
use Rattle.turns.specs.Search.{Bracket}
use Rattle.turns.proofs.Seconds.{not_reached_later}
use Rattle.arithmetic.proofs.Largest.{largest_is, largest_step}

module _ (cross dot : ℕ) where
  pub bracketed : (low high : ℕ) → Bracket cross dot low high → high ≤ low + 1 → low ≡ turn_or_wide cross (pos dot)
  unfolding turn_or_wide deflection_of
  bracketed low high b near =
      sym (largest_is (reached cross (pos dot)) 216001 low (omega (arith, b.apart, b.most)) b.passes
      (λ k above most. not_reached_later cross dot high k (omega arith) most (b.fails (omega arith))))
      ∙ largest_step (reached cross (pos dot)) 216000
