-- The refusals of reader and calculator are 1 to 15, and no place has more than seven bits. Assumes nothing.
use mathlib.Core.Path.{refl}
use mathlib.Core.List.{List}
use Prim.Native.Nat.{ℕ, ◌≤◌, ◌<◌}
use native.Mathlib.Omega.{arith}
use Rattle.refusals.specs.Outcomes.{Outcome, passed, refused}
use Rattle.refusals.specs.Order.{outcome}
use Rattle.refusals.proofs.Numbers.{Refuses, wider}
use Rattle.line.specs.declared.Line.{Line}
use Rattle.line.specs.Entries.{line_after}
use Rattle.packed_sheet.specs.Reading.{line_of, read_line_as, edition_of, read_checks, read_line}
use Rattle.packed_sheet.proofs.Frames.{count_below}
use Rattle.round_trips.proofs.Numbers.{read_numbers}
use Rattle.stationing.specs.Answer.{alignment_checks}
use Rattle.orders.proofs.Numbers.{alignment_numbers}
use Rattle.sheet_checks.specs.SheetChecks.{sheet_checks}

-- n has seven bits.
count_short : (line : Line) (o : Outcome) → line.count < 128 → (line_after o line).count ≤ 127
count_short line passed h = omega arith
count_short line (refused n p) h = omega arith

pub sheet_numbers_lem : (sheet : List ℕ) → Refuses 1 15 127 (sheet_checks sheet)
unfolding sheet_checks read_line_as line_of
sheet_numbers_lem sheet =
    let E = edition_of sheet in
    let read = read_checks sheet in
    let line = read_line sheet in
    let seven_bits = count_below E sheet refl in (
      wider read (read_numbers sheet) (omega arith) (omega arith) (omega arith),
      λ _. wider (alignment_checks line) (alignment_numbers line) (omega arith) (omega arith) (count_short (line_of E sheet) (outcome read) seven_bits),
    )
