-- What the reader answers on each way out, from what it knows of the sheet that it opened; and the writer, from what it is told. Assumes nothing.
use mathlib.Core.Path.{◌≡◌, sym, ◌∙◌, ap, subst}
use mathlib.Core.List.{List, ◌++◌}
use Prim.Native.Nat.{ℕ, ◌≤◌, ◌<◌}
use lib.Dec.{leb}
use lib.ListN.{length, drop}
use Rattle.refusals.specs.Outcomes.{Outcome, passed, refused, need, ◌▹◌}
use Rattle.refusals.specs.Order.{outcome}
use Rattle.refusals.specs.Filling.{filled, unfilled}
use Rattle.refusals.proofs.FillWays.{refused_fill, small_fill, whole_fill}
use Rattle.line.specs.declared.Line.{Line}
use Rattle.line.specs.Checks.{body_checks, field_checks}
use Rattle.line.specs.Entries.{line_after}
use Rattle.bits.specs.Bits.{Bytes}
use Rattle.packed_sheet.specs.declared.Edition.{Edition}
use Rattle.packed_sheet.specs.declared.Head.{Head}
use Rattle.packed_sheet.specs.Layout.{numbered, byte_count}
use Rattle.packed_sheet.specs.Reading.{head_of, count_of, line_of, frame_checks, read_checks_as, read_line_as, edition_of, read_checks, read_line, read_edition}
use Rattle.packed_sheet.specs.Writing.{sheet_of, write_checks, sheet_in}
use Rattle.packed_sheet.specs.EachStore.{Stores}
use Rattle.packed_sheet.proofs.EachStore.{whole_sheet}
use Rattle.packed_sheet.proofs.Editions.{reported}
use Rattle.packed_sheet.proofs.Frames.{framed}
use Rattle.packed_sheet.proofs.RoundTrip.{read_written}
use Rattle.packed_sheet.proofs.WaysOut.{line_decides, sheet_length}

-- ---- the reader

-- Fewer than seven bytes.
pub short_refused : (s : List ℕ) {n p : ℕ} → refused n p ≡ need (leb 7 (length s)) 1 0 → refused n p ≡ outcome (read_checks s)
unfolding read_checks_as frame_checks
short_refused s e = rw (← e)

-- 1 to 7 pass: there are 64 curves or fewer, and as many bytes as n calls for.
module _ (s : List ℕ) (E : Edition) {head : Head} (h : head ≡ head_of E s) (passes : passed ≡ outcome (frame_checks E s)) where
  pub few_told : head.count ≤ 64
  few_told = rw h (framed E s (sym passes)).few

  pub whole_told : length s ≡ byte_count E head.count
  whole_told = rw h (framed E s (sym passes)).size

module _ (s t : List ℕ) (E : Edition) (named : E ≡ edition_of t) (same : t ≡ s) where
  own : E ≡ edition_of s
  own = named ∙ ap edition_of same

  as_own : {o : Outcome} → o ≡ outcome (read_checks_as E t) → o ≡ outcome (read_checks s)
  as_own e = e ∙ λ j. outcome (read_checks_as (own j) (same j))

  -- 2 to 7 refuse.
  pub frame_refused : {n p : ℕ} → refused n p ≡ outcome (frame_checks E t) → refused n p ≡ outcome (read_checks s)
  unfolding read_checks_as
  frame_refused e = as_own (ap (λ (o : Outcome). o ▹ outcome (body_checks (line_of E t) (count_of E t))) e)

  -- They pass, and the line is checked.
  pub line_checked : (line : Line) {o : Outcome} → passed ≡ outcome (frame_checks E t) → line ≡ line_of E t
      → o ≡ outcome (field_checks E.greatest line) → o ≡ outcome (read_checks s)
  line_checked line passes l e =
      as_own (e ∙ ap (λ (l : Line). outcome (field_checks E.greatest l)) l ∙ line_decides E t (sym passes))

  -- Nothing is refused.
  module _ (accepted : passed ≡ outcome (read_checks s)) where
    pub edition_told : E.number ≡ read_edition s
    edition_told = ap (λ (E : Edition). E.number) own ∙ sym (reported s (sym accepted))

    pub line_told : (line : Line) → line ≡ line_of E t → line ≡ read_line s
    unfolding read_line_as
    line_told line l = l ∙ (λ j. line_of (own j) (same j)) ∙ ap (λ (o : Outcome). line_after o (line_of (edition_of s) s)) accepted

    pub sheet_told : (line : Line) → Bytes s → line ≡ line_of E t → sheet_of (numbered E.number) line ≡ s
    sheet_told line bytes l = (λ j. sheet_of (numbered (edition_told j)) (line_told line l j)) ∙ read_written s bytes (sym accepted)

-- What the proof of `read` cites.
pub ruleset reading = (short_refused, few_told, whole_told, frame_refused, line_checked, edition_told, line_told)

-- ---- the writer

module _ (number : ℕ) (line : Line) (lent : List ℕ) where
  pub told_refused : {n p : ℕ} → refused n p ≡ outcome (write_checks number line)
      → (unfilled n p ≡ (sheet_in number line lent).reply) × (lent ≡ (sheet_in number line lent).buffer)
  unfolding sheet_in
  told_refused e = refused_fill (write_checks number line) (sheet_of (numbered number) line) lent (sym e)

  module _ (passes : passed ≡ outcome (write_checks number line)) (E : Edition) (named : E ≡ numbered number) (size : ℕ)
      (sized : size ≡ byte_count E line.count) where
    length_told : length (sheet_of (numbered number) line) ≡ size
    length_told = sheet_length (numbered number) line ∙ sym (sized ∙ ap (λ (E : Edition). byte_count E line.count) named)

    pub told_small : length lent < size → (unfilled 16 0 ≡ (sheet_in number line lent).reply) × (lent ≡ (sheet_in number line lent).buffer)
    unfolding sheet_in
    told_small h = small_fill (write_checks number line) (sheet_of (numbered number) line) lent (sym passes) length_told h

    pub told_written : (l : Line) {after : List ℕ} → l ≡ line → size ≤ length lent → Stores E l 0 lent (byte_count E l.count) after
        → (filled size ≡ (sheet_in number line lent).reply) × (after ≡ (sheet_in number line lent).buffer)
    unfolding sheet_in
    told_written l {after} same h stores =
        let all : Stores (numbered number) line 0 lent (byte_count (numbered number) line.count) after =
        subst (λ (E : Edition). Stores E line 0 lent (byte_count E line.count) after) named
        (subst (λ (l : Line). Stores E l 0 lent (byte_count E l.count) after) same stores) in
        let length : byte_count (numbered number) line.count ≡ size = sym (sheet_length (numbered number) line) ∙ length_told in
        let whole = whole_sheet (numbered number) line lent all (sheet_length (numbered number) line) in
        whole_fill (write_checks number line) (sheet_of (numbered number) line) lent (sym passes) length_told h (whole ∙ ap (λ (n : ℕ). sheet_of (numbered number) line ++ drop n lent) length)

-- What the proof of `write` cites.
pub ruleset writing = (told_refused, told_small, told_written)
