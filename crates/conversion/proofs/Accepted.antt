-- A sheet that the converter takes: it reads, the other edition is asked for, and that holds its start; and the writer takes its line in that.
-- Assumes nothing.
use mathlib.Core.Path.{◌≡◌, ◌∙◌, ap}
use mathlib.Core.Bool.{Bool, true, false, cond}
use mathlib.Core.List.{List}
use Prim.Native.Nat.{ℕ, ◌≤◌}
use lib.Dec.{leb, eqb}
use borrow.Author.Tests.{eqb-true, leb-true, eq-eqb, le-leb}
use Rattle.refusals.specs.Outcomes.{passed, need}
use Rattle.refusals.specs.Order.{outcome}
use Rattle.refusals.proofs.Joining.{passed_left, passed_right, need_holds}
use Rattle.line.proofs.InRange.{line_in_range, line_passes, other_greatest}
use Rattle.packed_sheet.specs.Layout.{numbered, edition_check}
use Rattle.packed_sheet.specs.Reading.{read_checks, read_line, edition_of, read_edition}
use Rattle.packed_sheet.specs.Writing.{write_checks}
use Rattle.packed_sheet.proofs.WaysOut.{accepted_line}
use Rattle.packed_sheet.proofs.Editions.{both_pass}
use Rattle.conversion.specs.Conversion.{other_number, asked_checks, convert_checks}

-- The other edition has a number.
pub other_known : (number : ℕ) → outcome (edition_check (other_number number)) ≡ passed
unfolding other_number edition_check numbered
other_known number = go (eqb number 2)
  where
    go : (is2 : Bool) → need (eqb (cond is2 1 2) (numbered (cond is2 1 2)).number) 2 0 ≡ passed
    go true = λ j. passed
    go false = λ j. passed

-- Such a sheet is taken.
pub accepts : (sheet : List ℕ) (asked : ℕ) → outcome (read_checks sheet) ≡ passed → asked ≡ other_number (read_edition sheet)
    → (read_line sheet).start ≤ (numbered asked).greatest → outcome (convert_checks sheet asked) ≡ passed
unfolding convert_checks asked_checks
accepts sheet asked reads other near =
    rw (reads, eq-eqb asked (other_number (read_edition sheet)) other, le-leb (read_line sheet).start (numbered asked).greatest near)

-- And of each that is taken, this holds.
module _ (sheet : List ℕ) (asked : ℕ) (accepted : outcome (convert_checks sheet asked) ≡ passed) where
  pub reads : outcome (read_checks sheet) ≡ passed
  unfolding convert_checks
  reads = passed_left (outcome (read_checks sheet)) _ accepted

  then : outcome (asked_checks (read_edition sheet) (read_line sheet).start asked) ≡ passed
  unfolding convert_checks
  then = passed_right (outcome (read_checks sheet)) _ accepted

  pub is_other : asked ≡ other_number (read_edition sheet)
  unfolding asked_checks
  is_other = eqb-true asked _ (need_holds _ 2 0 (passed_left (need (eqb asked (other_number (read_edition sheet))) 2 0) _ then))

  pub near : (read_line sheet).start ≤ (numbered asked).greatest
  unfolding asked_checks
  near = leb-true _ _ (need_holds (leb (read_line sheet).start (numbered asked).greatest) 24 0 (passed_right (need (eqb asked (other_number (read_edition sheet))) 2 0) _ then))

  pub writes : outcome (write_checks asked (read_line sheet)) ≡ passed
  writes =
      let known = ap (λ (n : ℕ). outcome (edition_check n)) is_other ∙ other_known (read_edition sheet) in
      let ok = line_in_range (read_line sheet) (accepted_line (edition_of sheet) sheet reads) in
      both_pass asked (read_line sheet) known (line_passes (read_line sheet) (other_greatest (numbered asked).greatest (read_line sheet) ok near))
