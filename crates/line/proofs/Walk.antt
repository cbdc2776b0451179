-- The checks of the distances and curves, one entry after the other. Assumes nothing.
use mathlib.Core.Path.{◌≡◌, refl, sym, ◌∙◌, ap}
use Prim.Native.Nat.{ℕ, zero, suc, ◌+◌, ◌-◌, ◌≤◌}
use native.Mathlib.Nat.{add-zero, add-suc}
use native.Mathlib.Numerals.{add-one}
use native.Mathlib.Omega.{arith}
use Rattle.refusals.specs.Outcomes.{Outcome, passed, refused, ◌▹◌}
use Rattle.refusals.specs.Order.{outcome}
use Rattle.refusals.proofs.Joining.{join}
use Rattle.line.specs.declared.Line.{Line}
use Rattle.line.specs.Checks.{distance_check, curve_checks, distance_at, curve_at, body_checks}

-- One curve and one distance more behind entries that pass, at the code's `i + 1`.
pub body_step : (l : Line) (i : ℕ) {e : Outcome} → outcome (body_checks l i) ≡ passed
    → e ≡ (outcome (curve_checks (curve_at l i).deflection (curve_at l i).radius (curve_at l i).spiral (i + 1)) ▹ outcome (distance_check (distance_at l (i + 1)) (i + 1)))
    → e ≡ outcome (body_checks l (i + 1))
unfolding body_checks
body_step l i p q = q ∙ rw (add-one i, p)

-- A refusal stays, whatever comes after it.
stays : (l : Line) (i j : ℕ) {n p : ℕ} → outcome (body_checks l i) ≡ refused n p → outcome (body_checks l (i + j)) ≡ refused n p
unfolding body_checks
stays l i zero e = ap (λ (n : ℕ). outcome (body_checks l n)) (add-zero i) ∙ e
stays l i (suc j) e = ap (λ (n : ℕ). outcome (body_checks l n)) (add-suc i j) ∙ join (stays l i j e) refl

pub body_refused : (l : Line) (i k : ℕ) {n p : ℕ} → i ≤ k → refused n p ≡ outcome (body_checks l i) → refused n p ≡ outcome (body_checks l k)
body_refused l i k h e =
    let all : i + (k - i) ≡ k = omega arith in
    sym (stays l i (k - i) (sym e)) ∙ ap (λ (n : ℕ). outcome (body_checks l n)) all
