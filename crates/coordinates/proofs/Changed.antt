-- Points whose coordinates are changed, east by one function and north by another: each is found where it was. Assumes nothing.
use mathlib.Core.Path.{◌≡◌, refl, ap}
use mathlib.Core.List.{List, [], ◌∷◌}
use Prim.Native.Nat.{ℕ, zero, suc, ◌+◌, ◌*◌, ◌<◌}
use native.Mathlib.Omega.{arith}
use lib.IntN.{ℤ, ◌-ℤ◌}
use lib.ListN.{length}
use Rattle.coordinates.specs.Legs.{coordinate_at, step_at}
use Rattle.coordinates.specs.Moves.{changed}

module _ (f g : ℤ → ℤ) where
  pub same_length : (points : List ℤ) → length (changed f g points) ≡ length points
  unfolding changed
  same_length [] = refl
  same_length (east ∷ []) = refl
  same_length (east ∷ north ∷ rest) = ap (λ (n : ℕ). suc (suc n)) (same_length rest)

  twice : (i : ℕ) → 2 * suc i ≡ suc (suc (2 * i))
  twice i = omega arith

  twice_and_one : (i : ℕ) → 2 * suc i + 1 ≡ suc (suc (2 * i + 1))
  twice_and_one i = omega arith

  -- A coordinate to the east,
  pub east_at : (points : List ℤ) (i : ℕ) → 2 * i < length points → coordinate_at (changed f g points) (2 * i) ≡ f (coordinate_at points (2 * i))
  unfolding changed
  east_at [] i h = absurd (omega arith)
  east_at (east ∷ []) zero h = refl
  east_at (east ∷ []) (suc i) h = absurd (omega arith)
  east_at (east ∷ north ∷ rest) zero h = refl
  east_at (east ∷ north ∷ rest) (suc i) h = rw (twice i) (east_at rest i (omega arith))

  -- and one to the north.
  pub north_at : (points : List ℤ) (i : ℕ) → 2 * i + 1 < length points
      → coordinate_at (changed f g points) (2 * i + 1) ≡ g (coordinate_at points (2 * i + 1))
  unfolding changed
  north_at [] i h = absurd (omega arith)
  north_at (east ∷ []) i h = absurd (omega arith)
  north_at (east ∷ north ∷ rest) zero h = refl
  north_at (east ∷ north ∷ rest) (suc i) h = rw (twice_and_one i) (north_at rest i (omega arith))

  -- From one point to the next.
  module _ (points : List ℤ) (i : ℕ) (h : 2 * i + 3 < length points) where
    pub east_step : step_at (changed f g points) (2 * i) ≡ f (coordinate_at points (2 * i + 2)) -ℤ f (coordinate_at points (2 * i))
    east_step =
        let next : 2 * suc i ≡ 2 * i + 2 = omega arith in
        let to = rw next at (east_at points (suc i) (omega arith)) in
        λ j. to j -ℤ east_at points i (omega arith) j

    pub north_step : step_at (changed f g points) (2 * i + 1) ≡ g (coordinate_at points (2 * i + 1 + 2)) -ℤ g (coordinate_at points (2 * i + 1))
    north_step =
        let next : 2 * suc i + 1 ≡ 2 * i + 1 + 2 = omega arith in
        let to = rw next at (north_at points (suc i) (omega arith)) in
        λ j. to j -ℤ north_at points i (omega arith) j
