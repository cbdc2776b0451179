-- How many stations a line has. Assumes nothing.
use mathlib.Core.Path.{◌≡◌, ◌∙◌, ap}
use mathlib.Core.List.{map-append}
use native.Mathlib.Omega.{arith}
use lib.IntN.{nat_abs}
use lib.ListN.{length, length-append}
use Rattle.line.specs.declared.Line.{Line}
use Rattle.stationing.specs.Stations.{curve_stations, stations_of, station_row}
use Rattle.stationing.specs.Answer.{station_count}
use Rattle.stationing.proofs.RowSteps.{numbers_to, numbers_length}

-- There are 4 × n + 1 stations.
pub row_count : (line : Line) → length (station_row line) ≡ station_count line
unfolding station_row stations_of
row_count line =
    ap length (map-append nat_abs (curve_stations line line.count) _)
    ∙ length-append (numbers_to line line.count) _
    ∙ omega (arith, numbers_length line line.count)
