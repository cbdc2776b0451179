-- What a check says in document 01's numbers, and how checks join: the first refusal counts.
use Rattle.std.specs.Prelude.{Bool, true, false, ℕ, zero, suc, Result, Ok, Err}
use Rattle.refusals.specs.declared.Refusal.{Refusal}
use Rattle.refusals.specs.Table.{number_of, place_of}

-- What a check says: all is well, or a refusal's number and place.
pub data Outcome : Type 0 where
  passed : Outcome
  refused : (number place : ℕ) → Outcome

-- What each case of an answer says of its checks.
abbrev pub outcome_of : {T : Type 0} → Result T Refusal → Outcome
outcome_of (Ok value) = passed
outcome_of (Err r) = refused (number_of r) (place_of r)

-- What must hold, and the refusal where it does not.
abbrev pub need : Bool → ℕ → ℕ → Outcome
need true number place = passed
need false number place = refused number place

-- The first refusal of two outcomes.
infixr 20 ◌▹◌
abbrev pub ◌▹◌ : Outcome → Outcome → Outcome
passed ▹ b = b
(refused number place) ▹ b = refused number place

-- The first refusal of the first i of many checks, one after the other.
unfoldable pub first_of : (ℕ → Outcome) → ℕ → Outcome
first_of check zero = passed
first_of check (suc i) = first_of check i ▹ check i
