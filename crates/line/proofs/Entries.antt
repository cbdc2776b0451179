-- The used and the unused entries of an array. Assumes nothing.
use mathlib.Core.Path.{◌≡◌, refl, sym, ◌∙◌, ap}
use mathlib.Core.List.{List, [], ◌∷◌}
use Prim.Native.Nat.{ℕ, zero, suc, ◌+◌, ◌≤◌, ◌<◌}
use native.Mathlib.Numerals.{add-one}
use native.Mathlib.Omega.{arith}
use lib.ListN.{length, set, get_or}
use Rattle.line.specs.Entries.{entries}

module _ {A : Type 0} where
  -- One entry more is used, at the code's `used + 1`.
  pub entries_set : (size used : ℕ) (f : ℕ → A) (z : A) → used < size → set (entries size used f z) used (f used) ≡ entries size (used + 1) f z
  unfolding entries
  entries_set size used f z h = go size used f h ∙ ap (λ (n : ℕ). entries size n f z) (sym (add-one used))
    where
      go : (size used : ℕ) (f : ℕ → A) → used < size → set (entries size used f z) used (f used) ≡ entries size (suc used) f z
      go zero used f h = absurd (omega arith)
      go (suc size) zero f h = refl
      go (suc size) (suc used) f h = ap (λ (xs : List A). f 0 ∷ xs) (go size used (λ i. f (suc i)) (omega arith))

  -- A used entry.
  pub entries_get : (size used i : ℕ) (f : ℕ → A) (z z' : A) → i < used → used ≤ size → get_or (entries size used f z) i z' ≡ f i
  unfolding entries
  entries_get size zero i f z z' h k = absurd (omega arith)
  entries_get zero (suc used) i f z z' h k = absurd (omega arith)
  entries_get (suc size) (suc used) zero f z z' h k = refl
  entries_get (suc size) (suc used) (suc i) f z z' h k = entries_get size used i (λ j. f (suc j)) z z' (omega arith) (omega arith)

  -- The used entries alone tell what the array holds.
  pub entries_same : (size used : ℕ) (f g : ℕ → A) (z : A) → ((i : ℕ) → i < used → f i ≡ g i) → entries size used f z ≡ entries size used g z
  unfolding entries
  entries_same size zero f g z e = refl
  entries_same zero (suc used) f g z e = refl
  entries_same (suc size) (suc used) f g z e =
      λ j. e 0 (omega arith) j ∷ entries_same size used (λ i. f (suc i)) (λ i. g (suc i)) z (λ i h. e (suc i) (omega arith)) j

  -- A list is its entries.
  pub entries_all : (xs : List A) (z : A) → entries (length xs) (length xs) (λ i. get_or xs i z) z ≡ xs
  unfolding entries
  entries_all [] z = refl
  entries_all (x ∷ xs) z = ap (λ (ys : List A). x ∷ ys) (entries_all xs z)
