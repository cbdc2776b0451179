-- A sheet whose line is worked on: document 01's "Order", the reader's checks and then the calculator's before 16.
use Rattle.std.specs.Prelude.{List, ℕ}
use Rattle.refusals.specs.Order.{Checks, ◌⨾◌}
use Rattle.packed_sheet.specs.Reading.{read_checks, read_line}
use Rattle.stationing.specs.Answer.{alignment_checks}

-- The checks of reader and calculator, in this order.
unfoldable pub sheet_checks : List ℕ → Checks
sheet_checks sheet = read_checks sheet ⨾ alignment_checks (read_line sheet)
