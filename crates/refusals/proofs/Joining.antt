-- How outcomes join: two pass together exactly where each does, and a first refusal stays. Assumes nothing.
use mathlib.Core.Path.{◌≡◌, refl, sym, ◌∙◌, ap}
use mathlib.Core.Logic.{◌⊎◌, inl, inr}
use mathlib.Core.Bool.{Bool, true, false}
use Prim.Native.Nat.{ℕ}
use native.Mathlib.Omega.{arith}
use Rattle.std.specs.Prelude.{Result, Ok, Err}
use Rattle.refusals.specs.declared.Refusal.{Refusal}
use Rattle.refusals.specs.Table.{number_of, place_of}
use Rattle.refusals.specs.Outcomes.{Outcome, passed, refused, outcome_of, need, ◌▹◌}

pub passed_left : (a b : Outcome) → (a ▹ b) ≡ passed → a ≡ passed
passed_left passed b e = refl
passed_left (refused n p) b e = cc

pub passed_right : (a b : Outcome) → (a ▹ b) ≡ passed → b ≡ passed
passed_right passed b e = e
passed_right (refused n p) b e = cc

pub need_holds : (t : Bool) (n p : ℕ) → need t n p ≡ passed → t ≡ true
need_holds true n p e = refl
need_holds false n p e = cc

-- What passes is not refused, and a refusal of two is one's: the second's where the first passes.
pub never : {A : Type 0} (n p : ℕ) → passed ≡ refused n p → A
never n p e = let z : ◌≡◌ {A = ℕ} 0 1 = cc in absurd (omega arith)

pub not_both : {A T : Type 0} {v : Result T Refusal} {r : Refusal} {value : T} → v ≡ Err r → v ≡ Ok value → A
not_both {v} {r} e q = never (number_of r) (place_of r) (sym (ap outcome_of q) ∙ ap outcome_of e)

pub refused_by : (a b : Outcome) {n p : ℕ} → (a ▹ b) ≡ refused n p → (a ≡ refused n p) ⊎ ((a ≡ passed) × (b ≡ refused n p))
refused_by passed b e = inr (refl, e)
refused_by (refused n p) b e = inl e

-- A single check that refuses.
pub need_refused : (t : Bool) (m q : ℕ) {n p : ℕ} → need t m q ≡ refused n p → (t ≡ false) × (n ≡ m) × (p ≡ q)
need_refused true m q {n} {p} e = never n p e
need_refused false m q e = (refl, cc, cc)

-- The first refusal is the whole one.
pub refused_first : {T : Type 0} (v : Result T Refusal) {r : Refusal} (a b : Outcome) → v ≡ Err r → outcome_of v ≡ a → outcome_of v ≡ (a ▹ b)
refused_first v {r} a b e h = h ∙ stays a b (sym h ∙ ap outcome_of e)
  where
    stays : (a b : Outcome) {n p : ℕ} → a ≡ refused n p → a ≡ (a ▹ b)
    stays passed b {n} {p} e = never n p e
    stays (refused n p) b e = refl

-- Where the first passes, the second decides.
pub passed_first : {T : Type 0} (v : Result T Refusal) {value : T} (a b : Outcome) → v ≡ Ok value → outcome_of v ≡ a → b ≡ (a ▹ b)
passed_first v a b e h = follows a b (sym h ∙ ap outcome_of e)
  where
    follows : (a b : Outcome) → a ≡ passed → b ≡ (a ▹ b)
    follows passed b e = refl
    follows (refused n p) b e = never n p (sym e)

-- Outcomes join in one order, however they are grouped.
pub regroup : (a b c : Outcome) → ((a ▹ b) ▹ c) ≡ (a ▹ b ▹ c)
regroup passed b c = refl
regroup (refused n p) b c = refl

-- Equal outcomes join to equal ones, and equal tests ask the same.
pub join : {a a' b b' : Outcome} → a ≡ a' → b ≡ b' → (a ▹ b) ≡ (a' ▹ b')
join p q = λ j. p j ▹ q j

pub tested : (n p : ℕ) {o : Outcome} {t t' : Bool} → o ≡ need t n p → t ≡ t' → o ≡ need t' n p
tested n p e q = e ∙ ap (λ (t : Bool). need t n p) q
