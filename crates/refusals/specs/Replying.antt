-- A call that answers a value: what it says, after document 01's "Refusal table" and "Order".
use Rattle.std.specs.Prelude.{ℕ, Result, Ok, Err}
use Rattle.refusals.specs.declared.Refusal.{Refusal}
use Rattle.refusals.specs.Table.{number_of, place_of}
use Rattle.refusals.specs.Outcomes.{Outcome, passed, refused}
use Rattle.refusals.specs.Order.{Checks, outcome}

-- What such a call says: the value, or a refusal's number and place.
pub data Reply (A : Type 0) : Type 0 where
  answered : A → Reply A
  declined : (number place : ℕ) → Reply A

-- What each case of an answer says, its value read as `view` does.
abbrev pub reply_by : {T A : Type 0} → (view : T → A) → Result T Refusal → Reply A
reply_by view (Ok value) = answered (view value)
reply_by view (Err r) = declined (number_of r) (place_of r)

-- The value where the checks pass, else the refusal.
abbrev pub reply_to : {A : Type 0} → Outcome → A → Reply A
reply_to passed value = answered value
reply_to (refused number place) value = declined number place

-- A call that makes these checks: its value or the first refusal.
unfoldable pub reply : {A : Type 0} → Checks → A → Reply A
reply checks value = reply_to (outcome checks) value
