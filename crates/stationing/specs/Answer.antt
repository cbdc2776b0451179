-- The calculator (document 01, "Order"): its checks of a line, and what it answers and leaves in a row.
use Rattle.std.specs.Prelude.{List, ℕ, suc, ◌+◌, ◌*◌, pos}
use Rattle.std.specs.Int.Signed.{le_z}
use Rattle.refusals.specs.Order.{Checks, check, ◌⨾◌, in_turn}
use Rattle.refusals.specs.Filling.{Fill, fill}
use Rattle.line.specs.declared.Line.{Line}
use Rattle.line.specs.Checks.{curve_at, line_checks}
use Rattle.elements.specs.Answer.{arc_check}
use Rattle.stationing.specs.RoadTables.{radius_serves, spiral_serves}
use Rattle.stationing.specs.Stations.{straight_at, station_row}

-- 12, 13, 14 of a curve at the design speed v and the crossfall e
unfoldable pub design_checks : (v e A R L place : ℕ) → Checks
design_checks v e A R L place =
    check (radius_serves v e R) 12 place
    ⨾ check (spiral_serves v R L) 13 place
    ⨾ arc_check A R L place

-- Those of the curve at entry i; "the curve (1 to n) for 9 to 14"
unfoldable pub design_checks_at : Line → ℕ → Checks
design_checks_at line i =
    design_checks line.speed line.crossfall (curve_at line i).deflection (curve_at line i).radius (curve_at line i).spiral (suc i)

-- 15: "a straight under 1,000 µm", "the index of the distance (0 to n)"
unfoldable pub straight_check : Line → ℕ → Checks
straight_check line i = check (le_z (pos 1000) (straight_at line i)) 15 i

-- The calculator's checks 3 to 15: "3 to 6, 8 to 11 likewise; then 12, 13, 14 curve by curve; then 15 by ascending distance"
unfoldable pub alignment_checks : Line → Checks
alignment_checks line =
    line_checks line
    ⨾ in_turn (design_checks_at line) line.count
    ⨾ in_turn (straight_check line) (suc line.count)

-- "The calculator writes 4 × n + 1 numbers"
abbrev pub station_count : Line → ℕ
station_count line = 4 * line.count + 1

-- The calculator, with a row lent: those checks, "then 16"; the stations "at the front", "and returns that count"
unfoldable pub stations_in : Line → List ℕ → Fill ℕ
stations_in line = fill (alignment_checks line) (station_row line)
