-- Checks in an order (document 01, "Order"): their first refusal, and what it means to be the first.
use Rattle.std.specs.Prelude.{◌≡◌, ◌⊎◌, Bool, true, false, ℕ, ◌<◌}
use Rattle.refusals.specs.Outcomes.{Outcome, passed, need, ◌▹◌, first_of}

-- No check, one with the refusal where it does not hold, two one after the other, or `count` of many in turn.
infixr 20 ◌⨾◌
pub data Checks : Type 0 where
  unchecked : Checks
  check : (holds : Bool) → (number place : ℕ) → Checks
  ◌⨾◌ : Checks → Checks → Checks
  in_turn : (each : ℕ → Checks) → (count : ℕ) → Checks

-- What they say together: the first refusal.
abbrev pub outcome : Checks → Outcome
outcome unchecked = passed
outcome (check holds number place) = need holds number place
outcome (a ⨾ b) = outcome a ▹ outcome b
outcome (in_turn each count) = first_of (λ i. outcome (each i)) count

-- Each of them holds.
abbrev pub Hold : Checks → Type 0
Hold unchecked = Unit {0}
Hold (check holds number place) = holds ≡ true
Hold (a ⨾ b) = Hold a × Hold b
Hold (in_turn each count) = (i : ℕ) → i < count → Hold (each i)

-- One of many, and what holds of those before it.
pub record OneOf (count : ℕ) (Before Here : ℕ → Type 0) : Type 0 where
  pub index : ℕ
  pub below : index < count
  pub before : (i : ℕ) → i < index → Before i
  pub here : Here index

-- One of them does not hold, has this number and place, and each before it holds.
abbrev pub First : Checks → (number place : ℕ) → Type 0
First unchecked n p = ⊥
First (check holds number place) n p = (holds ≡ false) × (number ≡ n) × (place ≡ p)
First (a ⨾ b) n p = First a n p ⊎ (Hold a × First b n p)
First (in_turn each count) n p = OneOf count (λ i. Hold (each i)) (λ i. First (each i) n p)
