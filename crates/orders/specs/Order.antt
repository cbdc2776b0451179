-- Numbers that never go back.
use Rattle.std.specs.Prelude.{List, [], ◌∷◌, ℕ, ◌≤◌}

-- Each number is at least the one before it: from `a` through the list to `b`, which is the last.
pub data Ascent : ℕ → List ℕ → ℕ → Type 0 where
  done : {a : ℕ} → Ascent a [] a
  up : {a x b : ℕ} {xs : List ℕ} → a ≤ x → Ascent x xs b → Ascent a (x ∷ xs) b
