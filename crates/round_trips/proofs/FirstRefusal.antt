-- A refusal of reader or writer is the first in document 01's order: the check with its number and place does not hold, and each before it
-- holds. Assumes nothing.
use mathlib.Core.Path.{◌≡◌}
use mathlib.Core.List.{List}
use Prim.Native.Nat.{ℕ}
use Rattle.refusals.specs.Outcomes.{refused}
use Rattle.refusals.specs.Order.{outcome, First}
use Rattle.refusals.specs.Filling.{unfilled, with_room}
use Rattle.refusals.proofs.InOrder.{first_in_order}
use Rattle.refusals.proofs.Filled.{unfound}
use Rattle.line.specs.declared.Line.{Line}
use Rattle.packed_sheet.specs.Layout.{numbered}
use Rattle.packed_sheet.specs.Reading.{read_checks}
use Rattle.packed_sheet.specs.Writing.{sheet_of, write_checks, sheet_in}

pub read_first : (sheet : List ℕ) {n p : ℕ} → outcome (read_checks sheet) ≡ refused n p → First (read_checks sheet) n p
read_first sheet e = first_in_order (read_checks sheet) e

pub write_first : (number : ℕ) (line : Line) (bytes : List ℕ) {n p : ℕ} → (sheet_in number line bytes).reply ≡ unfilled n p
    → First (with_room (write_checks number line) (sheet_of (numbered number) line) bytes) n p
unfolding sheet_in
write_first number line bytes e = (unfound (write_checks number line) (sheet_of (numbered number) line) bytes e).first
