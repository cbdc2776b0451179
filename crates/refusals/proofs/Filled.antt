-- What the answer of a call that fills a buffer says of its checks and of the buffer. Assumes nothing.
use mathlib.Core.Path.{◌≡◌, refl, sym, ◌∙◌, ap}
use mathlib.Core.List.{List, ◌++◌}
use Prim.Native.Nat.{ℕ, ◌≤◌}
use native.Mathlib.Omega.{arith}
use lib.Dec.{leb}
use lib.ListN.{length, take, drop, length-append}
use lib.Seq.{take_at}
use borrow.Author.Tests.{leb-true}
use Rattle.refusals.specs.Outcomes.{Outcome, passed, refused}
use Rattle.refusals.specs.Order.{Checks, outcome, First}
use Rattle.refusals.specs.Filling.{filled, unfilled, count_after, buffer_after, with_room, fill}
use Rattle.refusals.proofs.Joining.{passed_left, passed_right, need_holds}
use Rattle.refusals.proofs.InOrder.{first_in_order}

-- No answer is both.
pub never : {A : Type 0} (count n p : ℕ) → filled count ≡ unfilled n p → A
never count n p e = let z : ◌≡◌ {A = ℕ} 0 1 = cc in absurd (omega arith)

-- A count: every check passed, and it is the whole count.
pub filled_passed : (o : Outcome) (whole : ℕ) {count : ℕ} → count_after o whole ≡ filled count → (o ≡ passed) × (count ≡ whole)
filled_passed passed whole e = (refl, cc)
filled_passed (refused n p) whole {count} e = never count n p (sym e)

-- A refusal: it is the checks'.
pub unfilled_refused : (o : Outcome) (whole : ℕ) {n p : ℕ} → count_after o whole ≡ unfilled n p → o ≡ refused n p
unfilled_refused passed whole {n} {p} e = never whole n p e
unfilled_refused (refused m k) whole {n} {p} e =
    let number : m ≡ n = cc in
    let place : k ≡ p = cc in
    λ j. refused (number j) (place j)

module _ {A : Type 0} (checks : Checks) (content lent : List A) where
  -- After a count every check passed, the buffer has room, and it holds the content and what lay behind it.
  pub record Filled (count : ℕ) : Type 0 where
    pub checked : outcome checks ≡ passed
    pub all : count ≡ length content
    pub room : count ≤ length lent
    pub holds : (fill checks content lent).buffer ≡ content ++ drop (length content) lent
    pub within : count ≤ length (fill checks content lent).buffer
    pub front : take count (fill checks content lent).buffer ≡ content

  pub found : {count : ℕ} → (fill checks content lent).reply ≡ filled count → Filled count
  unfolding fill with_room
  found {count} e =
      let told = filled_passed (outcome (with_room checks content lent)) (length content) e in
      let fits : length content ≤ length lent =
      leb-true _ _ (need_holds (leb (length content) (length lent)) 16 0 (passed_right (outcome checks) _ told.0)) in
      let whole = ap (λ (o : Outcome). buffer_after o content lent) told.0 in
      record {
        checked = passed_left (outcome checks) _ told.0;
        all = told.1;
        room = omega (arith, told.1, fits);
        holds = whole;
        within = omega (arith, told.1, ap length whole, length-append content (drop (length content) lent));
        front = ap (take count) whole ∙ take_at content _ count (sym told.1);
      }

  -- After a refusal the buffer is as it was, and the refusal is the first in order, 16 last.
  pub record Unfilled (number place : ℕ) : Type 0 where
    pub refusal : outcome (with_room checks content lent) ≡ refused number place
    pub first : First (with_room checks content lent) number place
    pub untouched : (fill checks content lent).buffer ≡ lent

  pub unfound : {n p : ℕ} → (fill checks content lent).reply ≡ unfilled n p → Unfilled n p
  unfolding fill
  unfound e =
      let refusal = unfilled_refused (outcome (with_room checks content lent)) (length content) e in
      record {
        refusal = refusal;
        first = first_in_order (with_room checks content lent) refusal;
        untouched = ap (λ (o : Outcome). buffer_after o content lent) refusal;
      }
