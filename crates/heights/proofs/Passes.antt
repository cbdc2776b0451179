-- A pass over the start and the vertices, or over the curves: no check yet, one more that passes, and the first that does not. Assumes nothing.
use mathlib.Core.Path.{◌≡◌, refl, sym}
use Prim.Native.Nat.{ℕ, suc, ◌<◌}
use Rattle.refusals.specs.Outcomes.{passed, refused, first_of}
use Rattle.refusals.specs.Order.{Checks, in_turn, outcome}
use Rattle.refusals.proofs.Joining.{join}
use Rattle.refusals.proofs.InTurn.{first_refused}

module _ (each : ℕ → Checks) where
  pub none : outcome (in_turn each 0) ≡ passed
  unfolding first_of
  none = refl

  pub passes : (k : ℕ) → outcome (in_turn each k) ≡ passed → passed ≡ outcome (each k) → outcome (in_turn each (suc k)) ≡ passed
  unfolding first_of
  passes k before e = join before (sym e)

  pub fails : (k count : ℕ) {n p : ℕ} → k < count → outcome (in_turn each k) ≡ passed → refused n p ≡ outcome (each k)
      → refused n p ≡ outcome (in_turn each count)
  fails k count h before e = sym (first_refused each k count h before (sym e))
