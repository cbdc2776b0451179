-- The numbers and places that refusals can have. Assumes nothing.
use mathlib.Core.Path.{◌≡◌, sym, ◌∙◌, ap}
use mathlib.Core.Bool.{Bool, true, false}
use mathlib.Core.Logic.{◌⊎◌, ⊎_elim}
use Prim.Native.Nat.{ℕ, ◌<◌, ◌≤◌}
use native.Mathlib.Omega.{arith}
use Rattle.refusals.specs.Outcomes.{refused}
use Rattle.refusals.specs.Order.{Checks, unchecked, check, ◌⨾◌, in_turn, outcome, Hold, First}
use Rattle.refusals.proofs.InOrder.{first_in_order}

-- Each check has a number from `least` to `most` and a place up to `far`, a later one wherever those before it hold.
abbrev pub Refuses : (least most far : ℕ) → Checks → Type 0
Refuses least most far unchecked = Unit {0}
Refuses least most far (check holds number place) = (least ≤ number) × (number ≤ most) × (place ≤ far)
Refuses least most far (a ⨾ b) = Refuses least most far a × (Hold a → Refuses least most far b)
Refuses least most far (in_turn each count) = (i : ℕ) → i < count → Refuses least most far (each i)

module _ (least most far : ℕ) where
  pub first_numbers : (c : Checks) {n p : ℕ} → Refuses least most far c → First c n p → (least ≤ n) × (n ≤ most) × (p ≤ far)
  first_numbers unchecked r f = absurd f
  first_numbers (check holds number place) r f = (omega (arith, r.0, f.1), omega (arith, r.1, f.1), omega (arith, r.2, f.2))
  first_numbers (a ⨾ b) r f = ⊎_elim (first_numbers a r.0) (λ q. first_numbers b (r.1 q.0) q.1) f
  first_numbers (in_turn each count) r f = first_numbers (each f.index) (r f.index f.below) f.here

  -- And so has a refusal.
  pub refusal_numbers : (c : Checks) {n p : ℕ} → Refuses least most far c → outcome c ≡ refused n p → (least ≤ n) × (n ≤ most) × (p ≤ far)
  refusal_numbers c r e = first_numbers c r (first_in_order c e)

-- Wider limits.
pub wider : (c : Checks) {least most far least' most' far' : ℕ} → Refuses least most far c → least' ≤ least → most ≤ most' → far ≤ far'
    → Refuses least' most' far' c
wider unchecked r l m f = tt
wider (check holds number place) r l m f = (omega (arith, r.0), omega (arith, r.1), omega (arith, r.2))
wider (a ⨾ b) r l m f = (wider a r.0 l m f, λ h. wider b (r.1 h) l m f)
wider (in_turn each count) r l m f = λ i h. wider (each i) (r i h) l m f

never_both : {t : Bool} → t ≡ true → t ≡ false → ⊥
never_both p q = let z : ◌≡◌ {A = ℕ} 0 1 = cc in absurd (omega arith)

-- Each check has a number that passes a test, or holds, a later one wherever those before it hold.
abbrev pub Answers : (test : ℕ → Bool) → Checks → Type 0
Answers test unchecked = Unit {0}
Answers test (check holds number place) = (test number ≡ true) ⊎ (holds ≡ true)
Answers test (a ⨾ b) = Answers test a × (Hold a → Answers test b)
Answers test (in_turn each count) = (i : ℕ) → i < count → Answers test (each i)

module _ (test : ℕ → Bool) where
  first_answers : (c : Checks) (n p : ℕ) → Answers test c → First c n p → test n ≡ true
  first_answers unchecked n p r f = absurd f
  first_answers (check holds number place) n p r f = ⊎_elim (λ t. sym (ap test f.1) ∙ t) (λ h. absurd (never_both h f.0)) r
  first_answers (a ⨾ b) n p r f = ⊎_elim (first_answers a n p r.0) (λ q. first_answers b n p (r.1 q.0) q.1) f
  first_answers (in_turn each count) n p r f = first_answers (each f.index) n p (r f.index f.below) f.here

  -- And so has a refusal.
  pub refusal_answers : (c : Checks) {n p : ℕ} → Answers test c → outcome c ≡ refused n p → test n ≡ true
  refusal_answers c {n} {p} r e = first_answers c n p r (first_in_order c e)
