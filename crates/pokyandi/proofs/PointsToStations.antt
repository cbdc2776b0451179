-- A line that `pokyandi_from_points` answers is accepted by `pokyandi_write` in each edition that holds its start, as edition 2 does, and its
-- sheet by `pokyandi_stations`, which gives the stations of that line: each call refuses only for a small buffer. Assumes nothing.
use mathlib.Core.Path.{◌≡◌, ◌∙◌, ap}
use mathlib.Core.List.{List}
use Prim.Native.Nat.{ℕ, ◌≤◌}
use lib.IntN.{ℤ}
use Rattle.refusals.specs.Outcomes.{passed}
use Rattle.refusals.specs.Order.{outcome}
use Rattle.refusals.proofs.Joining.{passed_left, join}
use Rattle.line.specs.declared.Line.{Line}
use Rattle.line.specs.Checks.{field_checks, line_checks}
use Rattle.line.specs.Entries.{cleared}
use Rattle.line.proofs.InRange.{line_in_range, line_passes, other_greatest}
use Rattle.line_numbers.proofs.LineAndNumbers.{line_again, outcome_again}
use Rattle.packed_sheet.specs.Layout.{numbered, edition_check}
use Rattle.packed_sheet.specs.Reading.{read_checks, read_line, read_edition}
use Rattle.packed_sheet.specs.Writing.{sheet_of}
use Rattle.packed_sheet.proofs.Editions.{both_pass}
use Rattle.packed_sheet.proofs.RoundTrip.{written_read}
use Rattle.stationing.specs.Stations.{station_row}
use Rattle.stationing.specs.Answer.{alignment_checks}
use Rattle.stationing.proofs.Accepted.{few}
use Rattle.coordinates.specs.FromPoints.{line_from, from_points_checks}
use Rattle.coordinates.proofs.AnsweredLine.{answered}
use Rattle.station_report.specs.Report.{sheet_checks}
use Rattle.pokyandi.specs.Calls.{sheet_stations, told_checks, numbers_sheet, point_numbers}

module _ (v e start : ℕ) (points : List ℤ) (curves : List ℕ) (accepted : outcome (from_points_checks v e start points curves) ≡ passed) where
  abbrev line : Line
  line = line_from v e start points curves

  abbrev numbers : List ℕ
  numbers = point_numbers v e start points curves

  aligned : outcome (alignment_checks line) ≡ passed
  aligned = (answered v e start points curves accepted).checked

  fields : outcome (line_checks line) ≡ passed
  unfolding alignment_checks
  fields = passed_left (outcome (line_checks line)) _ aligned

  -- Edition 2 holds its start.
  pub second_holds : line.start ≤ (numbered 2).greatest
  unfolding numbered
  second_holds = (line_in_range line fields).start_most

  -- An edition that holds its start.
  module _ (number : ℕ) (known : outcome (edition_check number) ≡ passed) (near : line.start ≤ (numbered number).greatest) where
    in_edition : outcome (field_checks (numbered number).greatest line) ≡ passed
    in_edition = line_passes line (other_greatest (numbered number).greatest line (line_in_range line fields) near)

    -- The writer takes it,
    pub points_written : outcome (told_checks number numbers) ≡ passed
    unfolding told_checks point_numbers
    points_written = join known (outcome_again line (numbered number).greatest (few line aligned) ∙ in_edition)

    sheet_is : numbers_sheet number numbers ≡ sheet_of (numbered number) line
    unfolding numbers_sheet point_numbers
    sheet_is = ap (sheet_of (numbered number)) (line_again line ∙ (answered v e start points curves accepted).unused)

    read : (outcome (read_checks (sheet_of (numbered number) line)) ≡ passed)
        × (read_edition (sheet_of (numbered number) line) ≡ number)
        × (read_line (sheet_of (numbered number) line) ≡ cleared line)
    read = written_read number line (both_pass number line known in_edition)

    line_is : read_line (numbers_sheet number numbers) ≡ line
    line_is = ap (λ (s : List ℕ). read_line s) sheet_is ∙ read.2 ∙ (answered v e start points curves accepted).unused

    -- and reader and calculator take its sheet.
    pub points_stationed : (outcome (sheet_checks (numbers_sheet number numbers)) ≡ passed) × (sheet_stations (numbers_sheet number numbers) ≡ station_row line)
    unfolding sheet_checks sheet_stations
    points_stationed =
        let reads = ap (λ (s : List ℕ). outcome (read_checks s)) sheet_is ∙ read.0 in
        (join reads (ap (λ (l : Line). outcome (alignment_checks l)) line_is ∙ aligned), ap station_row line_is)
