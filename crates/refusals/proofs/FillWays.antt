-- A call that fills a caller's buffer, for each way out: refused by its checks, by 16, or filled. Assumes nothing.
use mathlib.Core.Path.{◌≡◌, refl, sym, ◌∙◌, ap, subst}
use mathlib.Core.List.{List, ◌++◌, append-nil}
use Prim.Native.Nat.{ℕ, ◌≤◌, ◌<◌}
use native.Mathlib.Omega.{arith}
use lib.Dec.{leb}
use lib.ListN.{length, drop, drop_of_length-le}
use borrow.Author.Tests.{le-leb, lt-leb}
use Rattle.refusals.specs.Outcomes.{passed, refused, need, ◌▹◌}
use Rattle.refusals.specs.Order.{Checks, unchecked, outcome}
use Rattle.refusals.specs.Filling.{FillReply, filled, unfilled, count_after, buffer_after, with_room, fill}

module _ {A : Type 0} (checks : Checks) (content lent : List A) where
  -- Checks that refuse: their refusal, and the buffer as it was.
  pub refused_fill : {n p : ℕ} → outcome checks ≡ refused n p
      → (unfilled n p ≡ (fill checks content lent).reply) × (lent ≡ (fill checks content lent).buffer)
  unfolding fill with_room
  refused_fill e = rw e (refl, refl)

  -- Checks that pass, and a content of known length: 16 where the buffer is shorter,
  pub small_fill : {count : ℕ} → outcome checks ≡ passed → length content ≡ count → length lent < count
      → (unfilled 16 0 ≡ (fill checks content lent).reply) × (lent ≡ (fill checks content lent).buffer)
  unfolding fill with_room
  small_fill e size h = rw (e, lt-leb (length content) (length lent) (subst (λ (n : ℕ). length lent < n) (sym size) h)) (refl, refl)

  -- else the count, and the content at the front.
  pub whole_fill : {count : ℕ} {after : List A} → outcome checks ≡ passed → length content ≡ count → count ≤ length lent → after ≡ content ++ drop count lent
      → (filled count ≡ (fill checks content lent).reply) × (after ≡ (fill checks content lent).buffer)
  unfolding fill with_room
  whole_fill e size h a =
      rw (e, le-leb (length content) (length lent) (subst (λ (n : ℕ). n ≤ length lent) (sym size) h))
      (ap filled (sym size), a ∙ ap (λ (n : ℕ). content ++ drop n lent) (sym size))

-- Checks that say the same and the same content fill alike,
pub same_fill : {A : Type 0} (c d : Checks) (u v lent : List A) → outcome c ≡ outcome d → u ≡ v → fill c u lent ≡ fill d v lent
unfolding fill with_room
same_fill c d u v lent e q =
    let all : outcome (with_room c u lent) ≡ outcome (with_room d v lent) = λ j. e j ▹ need (leb (length (q j)) (length lent)) 16 0 in
    λ j. record { reply = count_after (all j) (length (q j)); buffer = buffer_after (all j) (q j) lent }

-- so that what was answered for the ones was answered for the others.
pub refill : {A : Type 0} (c d : Checks) (u v lent : List A) {reply : FillReply} {after : List A} → outcome c ≡ outcome d → u ≡ v
    → (reply ≡ (fill c u lent).reply) × (after ≡ (fill c u lent).buffer)
    → (reply ≡ (fill d v lent).reply) × (after ≡ (fill d v lent).buffer)
refill c d u v lent e q told =
    let same = same_fill c d u v lent e q in
    (told.0 ∙ (λ j. (same j).reply), told.1 ∙ (λ j. (same j).buffer))

-- A call whose checks pass and whose content is known, into a buffer that is long enough.
pub known_fill : {A : Type 0} (checks : Checks) (content known lent : List A) → outcome checks ≡ passed → content ≡ known → length known ≤ length lent
    → ((fill checks content lent).reply ≡ filled (length known)) × ((fill checks content lent).buffer ≡ known ++ drop (length known) lent)
known_fill checks content known lent e same room =
    let whole = whole_fill unchecked known lent refl refl room refl in
    let given = refill checks unchecked content known lent e same (refl, refl) in
    (given.0 ∙ sym whole.0, given.1 ∙ sym whole.1)

-- Into a buffer of just its length: the content itself.
pub exact_fill : {A : Type 0} (content lent : List A) → length content ≡ length lent → (fill unchecked content lent).buffer ≡ content
exact_fill {A} content lent e =
    let within : length lent ≤ length content = omega (arith, e) in
    (known_fill unchecked content content lent refl refl (omega (arith, e))).1
    ∙ ap (λ (rest : List A). content ++ rest) (drop_of_length-le lent within)
    ∙ append-nil content
