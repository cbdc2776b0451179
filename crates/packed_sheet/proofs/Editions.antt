-- The two editions: which numbers have one, that the head of both fits, and what follows from an edition's number. Assumes nothing.
use mathlib.Core.Path.{◌≡◌, refl, ◌∙◌, ap}
use mathlib.Core.Bool.{Bool, true, false, cond}
use mathlib.Core.Logic.{◌⊎◌, inl, inr}
use mathlib.Core.List.{List}
use Prim.Native.Nat.{ℕ, ◌≤◌}
use native.Mathlib.Omega.{arith}
use lib.Dec.{eqb}
use lib.ListN.{length}
use borrow.Author.Tests.{eqb-true}
use Rattle.refusals.specs.Outcomes.{Outcome, passed, need, ◌▹◌}
use Rattle.refusals.specs.Order.{outcome}
use Rattle.refusals.proofs.Joining.{passed_left, passed_right, need_holds}
use Rattle.line.specs.declared.Line.{Line}
use Rattle.line.specs.Checks.{greatest_start, field_checks}
use Rattle.line.specs.Ranges.{FieldsInRange}
use Rattle.bits.specs.Bits.{bits_at, values_at}
use Rattle.packed_sheet.specs.declared.Edition.{Edition}
use Rattle.packed_sheet.specs.declared.Head.{Head}
use Rattle.packed_sheet.specs.Layout.{first_edition, second_edition, numbered, edition_check, Holds, edition_width, byte_count}
use Rattle.packed_sheet.specs.Reading.{head_of, count_of, read_checks, edition_of, number_after, read_edition}
use Rattle.packed_sheet.specs.Writing.{sheet_of, write_checks}
use Rattle.packed_sheet.proofs.Frames.{framed}
use Rattle.packed_sheet.proofs.WaysOut.{frame_passes}
use Rattle.packed_sheet.proofs.ReadAgain.{head_again}

-- What holds of both editions holds of the edition of any number.
pub of_both : (P : Edition → Type 0) → P first_edition → P second_edition → (number : ℕ) → P (numbered number)
unfolding numbered
of_both P first second number = go (eqb number 2)
  where
    go : (is2 : Bool) → P (cond is2 second_edition first_edition)
    go true = second
    go false = first

-- Their heads have room.
pub numbered_holds : (number : ℕ) → Holds (numbered number)
numbered_holds =
    of_both Holds
    (record { number = omega arith; start = omega arith; wide = omega arith; narrow = omega arith })
    (record { number = omega arith; start = omega arith; wide = omega arith; narrow = omega arith })

-- "706 are the longest of both": a sheet of 64 curves or fewer has no more bytes, and none that reads has.
pub longest : (number n : ℕ) → n ≤ 64 → byte_count (numbered number) n ≤ 706
longest number n few = of_both (λ (E : Edition). byte_count E n ≤ 706) (omega arith) (omega arith) number

pub no_longer : (sheet : List ℕ) → outcome (read_checks sheet) ≡ passed → length sheet ≤ 706
unfolding edition_of
no_longer sheet e =
    let frame = framed (edition_of sheet) sheet (frame_passes (edition_of sheet) sheet e) in
    omega (arith, frame.size, longest (bits_at sheet 0 edition_width) (count_of (edition_of sheet) sheet) frame.few)

-- Their starts are starts that lines may have.
pub start_of_line : (number : ℕ) → (numbered number).greatest ≤ greatest_start
start_of_line = of_both (λ (E : Edition). E.greatest ≤ greatest_start) (omega arith) (omega arith)

-- An edition is that of its number.
pub own_number : (number : ℕ) → numbered (numbered number).number ≡ numbered number
unfolding numbered
own_number = of_both (λ (E : Edition). numbered E.number ≡ E) refl refl

-- The number of an edition passes.
pub own_passes : (number : ℕ) → outcome (edition_check (numbered number).number) ≡ passed
unfolding edition_check numbered
own_passes = of_both (λ (E : Edition). outcome (edition_check E.number) ≡ passed) refl refl

-- A number that passes is that of its edition: 1 or 2, and both pass.
pub known_number : (number : ℕ) → outcome (edition_check number) ≡ passed → number ≡ (numbered number).number
unfolding edition_check
known_number number e = eqb-true number _ (need_holds _ 2 0 e)

pub one_or_two : (number : ℕ) → outcome (edition_check number) ≡ passed → (number ≡ 1) ⊎ (number ≡ 2)
one_or_two number e = of_both (λ (E : Edition). number ≡ E.number → (number ≡ 1) ⊎ (number ≡ 2)) inl inr number (known_number number e)

pub one_and_two : (number : ℕ) → (number ≡ 1) ⊎ (number ≡ 2) → outcome (edition_check number) ≡ passed
unfolding edition_check numbered
one_and_two number (inl e) = ap (λ (n : ℕ). need (eqb n (numbered n).number) 2 0) e
one_and_two number (inr e) = ap (λ (n : ℕ). need (eqb n (numbered n).number) 2 0) e

-- ---- the edition that is read

-- The edition of a sheet that was written in one of the two.
pub edition_again : (number : ℕ) (line : Line) → FieldsInRange (numbered number).greatest line → edition_of (sheet_of (numbered number) line) ≡ numbered number
unfolding edition_of head_of values_at
edition_again number line ok =
    let E : Edition = numbered number in
    ap (λ (h : Head). numbered h.edition) (head_again E (numbered_holds number) line ok) ∙ own_number number

pub edition_holds : (sheet : List ℕ) → Holds (edition_of sheet)
unfolding edition_of
edition_holds sheet = numbered_holds _

-- The number that is reported where nothing is refused: that of the sheet's edition, which has it.
pub reported : (sheet : List ℕ) → outcome (read_checks sheet) ≡ passed → read_edition sheet ≡ (edition_of sheet).number
unfolding read_edition
reported sheet e = ap (λ (o : Outcome). number_after o (edition_of sheet).number) e

pub reported_one_or_two : (sheet : List ℕ) → outcome (read_checks sheet) ≡ passed → (read_edition sheet ≡ 1) ⊎ (read_edition sheet ≡ 2)
unfolding edition_of
reported_one_or_two sheet e =
    of_both (λ (E : Edition). read_edition sheet ≡ E.number → (read_edition sheet ≡ 1) ⊎ (read_edition sheet ≡ 2)) inl inr (bits_at sheet 0 edition_width) (reported sheet e)

pub reported_edition : (sheet : List ℕ) → outcome (read_checks sheet) ≡ passed → numbered (read_edition sheet) ≡ edition_of sheet
unfolding edition_of
reported_edition sheet e = ap numbered (reported sheet e) ∙ own_number _

-- Check 2 of the reader asks what the writer's does, of the number in the first four bits.
pub named_as_told : (sheet : List ℕ) → outcome (edition_check (bits_at sheet 0 edition_width)) ≡ need (eqb (head_of (edition_of sheet) sheet).edition (edition_of sheet).number) 2 0
unfolding edition_check edition_of head_of values_at
named_as_told sheet = refl

-- ---- the edition that is told

module _ (number : ℕ) (line : Line) where
  pub told_edition : outcome (write_checks number line) ≡ passed → outcome (edition_check number) ≡ passed
  unfolding write_checks
  told_edition e = passed_left (outcome (edition_check number)) _ e

  pub told_fields : outcome (write_checks number line) ≡ passed → outcome (field_checks (numbered number).greatest line) ≡ passed
  unfolding write_checks
  told_fields e = passed_right (outcome (edition_check number)) _ e

  pub both_pass : outcome (edition_check number) ≡ passed → outcome (field_checks (numbered number).greatest line) ≡ passed → outcome (write_checks number line) ≡ passed
  unfolding write_checks
  both_pass n f = λ j. n j ▹ f j
