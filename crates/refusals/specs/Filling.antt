-- A call that fills a caller's buffer: what it answers and what the buffer then holds, after document 01's "Refusal table" and "Order".
use Rattle.std.specs.Prelude.{List, ◌++◌, ℕ, leb, length, drop, Result, Ok, Err}
use Rattle.refusals.specs.declared.Refusal.{Refusal}
use Rattle.refusals.specs.Table.{number_of, place_of}
use Rattle.refusals.specs.Outcomes.{Outcome, passed, refused}
use Rattle.refusals.specs.Order.{Checks, check, ◌⨾◌, outcome}

-- What such a call says: the count of what it wrote, or a refusal's number and place.
pub data FillReply : Type 0 where
  filled : (count : ℕ) → FillReply
  unfilled : (number place : ℕ) → FillReply

-- What each case of the answer says.
abbrev pub fill_reply_of : Result ℕ Refusal → FillReply
fill_reply_of (Ok count) = filled count
fill_reply_of (Err r) = unfilled (number_of r) (place_of r)

-- The count where the checks pass, else the refusal.
abbrev pub count_after : Outcome → ℕ → FillReply
count_after passed count = filled count
count_after (refused number place) count = unfilled number place

-- The content at the front and "the rest untouched" where the checks pass, else "lent memory is untouched".
abbrev pub buffer_after : {A : Type 0} → Outcome → List A → List A → List A
buffer_after passed content lent = content ++ drop (length content) lent
buffer_after (refused number place) content lent = lent

-- A call's checks, then 16: "lent bytes or row too few" for the content.
unfoldable pub with_room : {A : Type 0} → Checks → List A → List A → Checks
with_room checks content lent = checks ⨾ check (leb (length content) (length lent)) 16 0

-- What a call does to the buffer that it is lent: its reply, and what the buffer then holds.
pub record Fill (A : Type 0) : Type 0 where
  pub reply : FillReply
  pub buffer : List A

-- A call that makes these checks and writes this content: the content's length or the first refusal, and the content or what was lent.
unfoldable pub fill : {A : Type 0} → Checks → List A → List A → Fill A
fill checks content lent =
    record {
      reply = count_after (outcome (with_room checks content lent)) (length content);
      buffer = buffer_after (outcome (with_room checks content lent)) content lent;
    }
