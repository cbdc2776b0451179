-- Every length of an accepted line, from its start to its end, lies on exactly one element, which is the one that the call answers. Assumes
-- nothing.
use mathlib.Core.Path.{◌≡◌, refl, sym, ◌∙◌, ap, subst}
use mathlib.Core.Bool.{Bool, true, false}
use mathlib.Core.Logic.{◌⊎◌, inl, inr}
use mathlib.Core.List.{List, [], ◌∷◌}
use Prim.Native.Nat.{ℕ, zero, suc, ◌+◌, ◌-◌, ◌*◌, ◌≤◌, ◌<◌}
use native.Mathlib.Decide.{dec_lt}
use native.Mathlib.Omega.{arith}
use lib.IntN.{ℤ, pos, ◌+ℤ◌, +ℤ_idl}
use lib.ListN.{length, get_or}
use lib.Signed.{le_z}
use borrow.Author.Tests.{le-leb, leb-true}
use Rattle.numbers.proofs.Differences.{minus_le}
use Rattle.numbers.proofs.Tests.{clash}
use Rattle.refusals.specs.Outcomes.{passed}
use Rattle.refusals.specs.Order.{outcome}
use Rattle.refusals.specs.Replying.{answered}
use Rattle.refusals.proofs.Replied.{passed_reply}
use Rattle.line.specs.declared.Line.{Line}
use Rattle.line.specs.Checks.{curve_at}
use Rattle.stationing.specs.Stations.{spiral_at, straight_at, end_of}
use Rattle.stationing.specs.Answer.{alignment_checks}
use Rattle.stationing.specs.LineElements.{Element, straight_element, elements_from, elements_of, total, line_length, Placed, placed_from, placed_elements}
use Rattle.stationing.proofs.Accepted.{Accepted, accepted}
use Rattle.stationing.proofs.ElementsAndStations.{length_to_end}
use Rattle.pegs.specs.Pegs.{along_line, holds, last_straight, holding, element_under, peg_by, station_check, peg_checks, peg_reply}
use Rattle.pegs.specs.OneElement.{element_count, element_at, OnOneElement}
use Rattle.pegs.proofs.ElementLengths.{Lengths, none, more, total_is, Sum, lengths_from}
use Rattle.pegs.proofs.Walking.{first_held, not_begun, ended, held, gone_by, last_begins}

-- ---- elements whose lengths are natural numbers

placed_length : (b : ℤ) (es : List Element) → length (placed_from b es) ≡ length es
unfolding placed_from
placed_length b [] = refl
placed_length b (e ∷ es) = ap suc (placed_length (b +ℤ e.length) es)

module _ (along : ℕ) (d : Placed) where
  -- Whether the element at an index holds the length.
  abbrev Held : List Placed → ℕ → Bool → Type 0
  Held ps j t = holds (pos along) (get_or ps j d) ≡ t

  -- None of those that begin later holds the length, and none of those that have ended.
  later : {es : List Element} {sum : ℕ} (b : ℕ) → Lengths es sum → along < b → (j : ℕ) → j < length es → Held (placed_from (pos b) es) j false
  unfolding placed_from
  later b none h j k = absurd (omega arith)
  later b (more {e} l is ls) h zero k = not_begun along b l e is h
  later b (more l is ls) h (suc j) k = rw is (later (b + l) ls (omega arith) j (omega arith))

  over : {es : List Element} {sum : ℕ} (b : ℕ) → Lengths es sum → b + sum ≤ along → (j : ℕ) → j < length es → Held (placed_from (pos b) es) j false
  unfolding placed_from
  over b none h j k = absurd (omega arith)
  over b (more {e} l is ls) h zero k = ended along b l e is (omega arith)
  over b (more l is ls) h (suc j) k = rw is (over (b + l) ls (omega arith) j (omega arith))

  over_last : {es : List Element} {sum : ℕ} (b : ℕ) (last : Placed) → Lengths es sum → b + sum ≤ along → holding (pos along) (placed_from (pos b) es) last ≡ last
  unfolding placed_from holding
  over_last b last none h = refl
  over_last b last (more {e} {es} l is ls) h = gone_by along b l e is es last (omega arith) ∙ over_last (b + l) last ls (omega arith)

  -- One that holds it, and no other.
  record HeldByOne (ps : List Placed) (count : ℕ) (last : Placed) : Type 0 where
    index : ℕ
    inside : index < count
    here : Held ps index true
    only : (j : ℕ) → j < count → Held ps j true → j ≡ index
    under : holding (pos along) ps last ≡ get_or ps index d

  held_by_one : {es : List Element} {sum : ℕ} (b : ℕ) (last : Placed) → Lengths es sum → b ≤ along → along < b + sum
      → HeldByOne (placed_from (pos b) es) (length es) last
  unfolding placed_from
  held_by_one b last none h k = absurd (omega arith)
  held_by_one b last (more {e} {es} l is ls) h k = go (dec_lt along (b + l)) (λ m. held_by_one (b + l) last ls m (omega arith))
    where
      go : Dec (along < b + l) → (b + l ≤ along → HeldByOne (placed_from (pos (b + l)) es) (length es) last)
          → HeldByOne (placed_from (pos b) (e ∷ es)) (suc (length es)) last
      go (yes m) next =
          record {
            index = 0;
            inside = omega arith;
            here = first_held along b l e is h m;
            only = only;
            under = held along b l e is es last h m;
          }
        where
          only : (j : ℕ) → j < suc (length es) → Held (placed_from (pos b) (e ∷ es)) j true → j ≡ 0
          only zero i q = refl
          only (suc j) i q = clash (rw is at q) (later (b + l) ls m j (omega arith))
      go (no m) next =
          let n = next (omega arith) in
          record {
            index = suc n.index;
            inside = omega (arith, n.inside);
            here = rw is n.here;
            only = only n;
            under = gone_by along b l e is es last (omega arith) ∙ n.under ∙ rw is refl;
          }
        where
          only : (n : HeldByOne (placed_from (pos (b + l)) es) (length es) last) → (j : ℕ) → j < suc (length es)
              → Held (placed_from (pos b) (e ∷ es)) j true → j ≡ suc n.index
          only n zero i q = clash q (ended along b l e is (omega arith))
          only n (suc j) i q = ap suc (n.only j (omega arith) (rw is at q))

-- ---- the elements of an accepted line

module _ (line : Line) (ok : Accepted line) where
  count_from : (i k : ℕ) → length (elements_from line i k) ≡ 4 * k + 1
  unfolding elements_from
  count_from i zero = refl
  count_from i (suc k) = omega (arith, count_from (suc i) k)

  -- The last of them is the last straight.
  last_from : (i k b : ℕ) (d : Placed) → i + k ≡ line.count → line_length line ≡ pos b +ℤ total (elements_from line i k)
      → get_or (placed_from (pos b) (elements_from line i k)) (4 * k) d ≡ last_straight line
  unfolding elements_from placed_from total spiral_at
  last_from i zero b d n f =
      let all : i ≡ line.count = omega arith in
      let s = ok.straight line.count (omega arith) in
      let straight : straight_at line i ≡ pos s.value = ap (straight_at line) all ∙ s.same in
      let far : line_length line ≡ pos (b + (s.value + 0)) = f ∙ rw straight in
      ap (λ (k : ℕ). record { element = straight_element line k; begin = pos b }) all ∙ sym (last_begins line b s.value s.same far)
  last_from i (suc k) b d n f =
      let s = ok.straight i (omega arith) in
      let D = ok.arc i (omega arith) in
      let L = 1000 * (curve_at line i).spiral in
      let rest = total_is (lengths_from line ok (suc i) k (omega arith)).lengths in
      let four : 4 * suc k ≡ suc (suc (suc (suc (4 * k)))) = omega arith in
      rw (four, s.same, D.same)
      (last_from (suc i) k (b + s.value + L + D.value + L) d (omega arith) (f ∙ rw (s.same, D.same, rest) (ap pos (omega arith))))

  abbrev n : ℕ
  n = line.count

  all : Sum line 0 n
  all = lengths_from line ok 0 n (omega arith)

  -- The line's length is what its elements add up to.
  long : line_length line ≡ pos all.sum
  unfolding line_length elements_of
  long = total_is all.lengths

  module _ (along : ℕ) (inside : le_z (pos along) (line_length line) ≡ true) where
    -- There are 4 × n + 1 elements.
    many : element_count line ≡ 4 * n + 1
    unfolding placed_elements elements_of
    many = placed_length (pos 0) (elements_from line 0 n) ∙ count_from 0 n

    size : length (elements_from line 0 n) ≡ 4 * n + 1
    size = count_from 0 n

    -- The last straight stands at the last index.
    last_at : element_at line (4 * n) ≡ last_straight line
    unfolding placed_elements elements_of line_length
    last_at = last_from 0 n 0 (last_straight line) (omega arith) (sym (+ℤ_idl (total (elements_from line 0 n))))

    before_end : HeldByOne along (last_straight line) (placed_from (pos 0) (elements_from line 0 n)) (length (elements_from line 0 n)) (last_straight line) → along < all.sum
        → OnOneElement line (pos along)
    unfolding element_under placed_elements elements_of
    before_end one short =
        record {
          index = one.index;
          here = record { inside = omega (arith, one.inside, many, size); lies = inl one.here };
          only = λ j o. only j o.inside o.lies;
          under = one.under;
        }
      where
        only : (j : ℕ) → j < element_count line → (holds (pos along) (element_at line j) ≡ true) ⊎ ((pos along ≡ line_length line) × (suc j ≡ element_count line)) → j ≡ one.index
        only j i (inl h) = one.only j (omega (arith, many, size, i)) h
        only j i (inr h) =
            let same : pos along ≡ pos all.sum = h.0 ∙ long in
            let equal : along ≡ all.sum = cc in
            absurd (omega arith)

    at_end : all.sum ≤ along → along ≤ all.sum → OnOneElement line (pos along)
    unfolding element_under placed_elements elements_of
    at_end low high =
        record {
          index = 4 * n;
          here = record { inside = omega (arith, many); lies = inr (ap pos (omega arith) ∙ sym long, omega (arith, many)) };
          only = λ j o. only j o.inside o.lies;
          under = over_last along (last_straight line) 0 (last_straight line) all.lengths (omega arith) ∙ sym last_at;
        }
      where
        only : (j : ℕ) → j < element_count line → (holds (pos along) (element_at line j) ≡ true) ⊎ ((pos along ≡ line_length line) × (suc j ≡ element_count line)) → j ≡ 4 * n
        only j i (inl h) = clash h (over along (last_straight line) 0 all.lengths (omega arith) j (omega (arith, many, size, i)))
        only j i (inr h) = omega (arith, many, h.1)

    one_on_line : OnOneElement line (pos along)
    one_on_line = go (dec_lt along all.sum)
      where
        not_beyond : along ≤ all.sum
        not_beyond = leb-true along all.sum (sym (ap (le_z (pos along)) long) ∙ inside)

        go : Dec (along < all.sum) → OnOneElement line (pos along)
        go (yes h) = before_end (held_by_one along (last_straight line) 0 (last_straight line) all.lengths (omega arith) (omega arith)) h
        go (no h) = at_end (omega arith) not_beyond

-- The length to a station that is not before the start.
along_after : (line : Line) (station : ℕ) → 1000 * line.start ≤ station → along_line line station ≡ pos (station - 1000 * line.start)
unfolding along_line
along_after line station h = minus_le h

-- From the start to the end.
pub one_element : (line : Line) → outcome (alignment_checks line) ≡ passed → (along : ℕ) → le_z (pos along) (line_length line) ≡ true → OnOneElement line (pos along)
one_element line e along inside = one_on_line line (accepted line e) along inside

-- Every station of an accepted line, from its start to its end, is answered, and its length from the start lies on exactly one element.
pub record StationFound (line : Line) (station : ℕ) : Type 0 where
  pub answer : peg_reply line station ≡ answered (peg_by line (along_line line station))
  pub one : OnOneElement line (along_line line station)

pub each_station : (line : Line) → outcome (alignment_checks line) ≡ passed → (station : ℕ) → 1000 * line.start ≤ station → le_z (pos station) (end_of line) ≡ true
    → StationFound line station
unfolding peg_reply peg_checks station_check
each_station line e station from to =
    record {
      answer = sym (passed_reply (peg_checks line station) (peg_by line (along_line line station)) passes refl);
      one = subst (OnOneElement line) (sym is_along) (one_element line e along inside);
    }
  where
    sums : ℕ
    sums = (all line (accepted line e)).sum

    along : ℕ
    along = station - 1000 * line.start

    is_along : along_line line station ≡ pos along
    is_along = along_after line station from

    far : line_length line ≡ pos (sums)
    far = long line (accepted line e)

    end : end_of line ≡ pos (1000 * line.start + sums)
    end = sym (length_to_end line) ∙ ap (λ (z : ℤ). pos (1000 * line.start) +ℤ z) far

    reaches : station ≤ 1000 * line.start + sums
    reaches = leb-true station (1000 * line.start + sums) (sym (ap (le_z (pos station)) end) ∙ to)

    inside : le_z (pos along) (line_length line) ≡ true
    inside = rw (far, le-leb along (sums) (omega (arith, reaches)))

    passes : outcome (peg_checks line station) ≡ passed
    passes = rw (e, is_along, le-leb 0 along (omega arith), inside)
