-- What the answer of a call that answers a value says of its checks, and what such a call answers on each way out. Assumes nothing.
use mathlib.Core.Path.{◌≡◌, refl, sym, ◌∙◌, ap}
use Prim.Native.Nat.{ℕ}
use native.Mathlib.Omega.{arith}
use Rattle.refusals.specs.Outcomes.{Outcome, passed, refused}
use Rattle.refusals.specs.Order.{Checks, ◌⨾◌, outcome, First}
use Rattle.refusals.specs.Replying.{answered, declined, reply_to, reply}
use Rattle.refusals.proofs.InOrder.{first_in_order}

module _ {A : Type 0} where
  -- No answer is both.
  pub never_both : {B : Type 0} (v : A) (n p : ℕ) → answered v ≡ declined n p → B
  never_both v n p e = let z : ◌≡◌ {A = ℕ} 0 1 = cc in absurd (omega arith)

  same_value : (v w : A) → answered v ≡ answered w → v ≡ w
  same_value v w e = cc

  -- A value: every check passed, and it is the call's.
  passed_by : (o : Outcome) (w : A) {v : A} → answered v ≡ reply_to o w → (o ≡ passed) × (v ≡ w)
  passed_by passed w {v} e = (refl, same_value v w e)
  passed_by (refused n p) w {v} e = never_both v n p e

  -- A refusal: it is the checks'.
  refused_by : (o : Outcome) (w : A) {n p : ℕ} → declined n p ≡ reply_to o w → o ≡ refused n p
  refused_by passed w {n} {p} e = never_both w n p (sym e)
  refused_by (refused m k) w {n} {p} e =
      let number : m ≡ n = cc in
      let place : k ≡ p = cc in
      λ j. refused (number j) (place j)

  module _ (checks : Checks) (value : A) where
    pub replied : {v : A} → answered v ≡ reply checks value → (outcome checks ≡ passed) × (v ≡ value)
    unfolding reply
    replied e = passed_by (outcome checks) value e

    pub unreplied : {n p : ℕ} → declined n p ≡ reply checks value → outcome checks ≡ refused n p
    unfolding reply
    unreplied e = refused_by (outcome checks) value e

    -- It is the first in order.
    pub unreplied_first : {n p : ℕ} → declined n p ≡ reply checks value → First checks n p
    unreplied_first e = first_in_order checks (unreplied e)

    -- ---- the ways out

    pub passed_reply : {v : A} → outcome checks ≡ passed → v ≡ value → answered v ≡ reply checks value
    unfolding reply
    passed_reply e q = rw e (ap answered q)

    pub refused_reply : {n p : ℕ} → outcome checks ≡ refused n p → declined n p ≡ reply checks value
    unfolding reply
    refused_reply e = rw e

  -- Checks that agree, and values that are the same where they pass, give the same answer.
  pub same_reply : (a b : Checks) {x y : A} → outcome a ≡ outcome b → (outcome a ≡ passed → x ≡ y) → reply a x ≡ reply b y
  unfolding reply
  same_reply a b {x} {y} e same = go (outcome a) refl ∙ ap (λ (o : Outcome). reply_to o y) e
    where
      go : (o : Outcome) → outcome a ≡ o → reply_to (outcome a) x ≡ reply_to (outcome a) y
      go passed p = ap (reply_to (outcome a)) (same p)
      go (refused n k) p = rw p refl

  -- The first of two parts refuses, or passes and the second decides.
  module _ (a b : Checks) (value : A) where
    pub first_refused : {n p : ℕ} → outcome a ≡ refused n p → declined n p ≡ reply (a ⨾ b) value
    unfolding reply
    first_refused e = rw e

    pub first_passed : outcome a ≡ passed → reply b value ≡ reply (a ⨾ b) value
    unfolding reply
    first_passed e = rw e
