-- Document 01's "The station program": what it prints for the bytes of a sheet.
use Rattle.std.specs.Prelude.{List, ◌++◌, ℕ, length, drop, replicate}
use Rattle.refusals.specs.Outcomes.{Outcome, passed, refused}
use Rattle.refusals.specs.Order.{Checks, ◌⨾◌, outcome}
use Rattle.line.specs.declared.Line.{Line}
use Rattle.packed_sheet.specs.Reading.{read_checks, read_line}
use Rattle.stationing.specs.Stations.{station_row}
use Rattle.stationing.specs.Answer.{alignment_checks}
use Rattle.report.specs.Text.{station_list, refusal_line}

-- The list of stations, or "only `REFUSED`, number, place"
abbrev pub answer_text : Outcome → List ℕ → List ℕ
answer_text passed row = station_list row
answer_text (refused number place) row = refusal_line number place

-- The text of a line: its stations, or the calculator's refusal.
unfoldable pub line_text : Line → List ℕ
line_text line = answer_text (outcome (alignment_checks line)) (station_row line)

-- The checks of reader and calculator, in this order.
unfoldable pub sheet_checks : List ℕ → Checks
sheet_checks sheet = read_checks sheet ⨾ alignment_checks (read_line sheet)

-- The text of a sheet.
unfoldable pub sheet_text : List ℕ → List ℕ
sheet_text sheet = answer_text (outcome (sheet_checks sheet)) (station_row (read_line sheet))

-- The text in 5,417 bytes, zeros behind it; no sheet needs more (`proofs/Fits.antt`).
unfoldable pub whole_text : List ℕ → List ℕ
whole_text sheet = sheet_text sheet ++ drop (length (sheet_text sheet)) (replicate 5417 0)
