-- A table by design speed holds its number under the speed V at the place (V − 40) / 10. Assumes nothing.
use mathlib.Core.Path.{◌≡◌, refl, ◌∙◌, ap}
use mathlib.Core.List.{List, [], ◌∷◌}
use Prim.Native.Nat.{ℕ, zero, suc, ◌+◌, ◌-◌, ◌*◌, ◌/◌, ◌%◌, ◌<◌, ◌≤◌}
use native.Mathlib.Omega.{arith}
use lib.ListN.{get_or}
use borrow.Author.Tests.{eq-eqb, ne_eqb}
use Rattle.line.specs.Speeds.{speeds, under_speed}

-- Speeds from the first on, 10 km/h apart.
abbrev steps : (first count : ℕ) → List ℕ
steps first zero = []
steps first (suc count) = first ∷ steps (first + 10) count

under_step : (first count k : ℕ) (row : List ℕ) → k < count → get_or row k 0 ≡ under_speed (first + 10 * k) (steps first count) row
unfolding under_speed
under_step first zero k row h = absurd (omega arith)
under_step first (suc count) k [] h = refl
under_step first (suc count) zero (x ∷ row) h = rw (eq-eqb first (first + 10 * 0) (omega arith))
under_step first (suc count) (suc k) (x ∷ row) h =
    let here : first + 10 + 10 * k ≡ first + 10 * suc k = omega arith in
    rw (ne_eqb first (first + 10 * suc k) (λ q. omega arith))
    (under_step (first + 10) count k row (omega arith) ∙ ap (λ (v : ℕ). under_speed v (steps (first + 10) count) row) here)

pub at_speed : (row : List ℕ) (v k : ℕ) → 40 ≤ v → v ≤ 120 → v % 10 ≡ 0 → k ≡ (v - 40) / 10 → get_or row k 0 ≡ under_speed v speeds row
at_speed row v k low high tens e =
    let here : 40 + 10 * k ≡ v = omega arith in
    under_step 40 9 k row (omega arith) ∙ ap (λ (v : ℕ). under_speed v speeds row) here
