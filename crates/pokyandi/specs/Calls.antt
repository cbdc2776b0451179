-- What the calls write, from the bytes of a sheet or the numbers of a line, of points or of a curve.
use Rattle.std.specs.Prelude.{List, [], ◌∷◌, map, ℕ, ◌+◌, ◌*◌, ℤ, nat_abs, length}
use Rattle.refusals.specs.Order.{Checks, ◌⨾◌, outcome}
use Rattle.refusals.specs.Filling.{FillReply, count_after, Fill, fill}
use Rattle.line_numbers.specs.Numbers.{line_numbers, line_of, numbers_checks}
use Rattle.packed_sheet.specs.Layout.{numbered, edition_check}
use Rattle.packed_sheet.specs.Reading.{read_checks, read_line, read_edition}
use Rattle.packed_sheet.specs.Writing.{sheet_of}
use Rattle.elements.specs.declared.Elements.{Elements}
use Rattle.elements.specs.declared.SpiralPoint.{SpiralPoint}
use Rattle.elements.specs.Answer.{Values, values_by}
use Rattle.elements.specs.SpiralPoint.{Offsets}
use Rattle.spiral_table.specs.LookUp.{end_by, look_up_checks}
use Rattle.stationing.specs.Stations.{station_row}
use Rattle.coordinates.specs.FromPoints.{line_from}
use Rattle.pegs.specs.Pegs.{peg_checks}
use Rattle.pegs.specs.Numbers.{station_numbers}
use Rattle.station_report.specs.Report.{sheet_checks}

-- The stations of a sheet's line.
unfoldable pub sheet_stations : List ℕ → List ℕ
sheet_stations sheet = station_row (read_line sheet)

-- What the check of a sheet says: how many stations it has, or the first refusal of reader and calculator.
unfoldable pub check_reply : List ℕ → FillReply
check_reply sheet = count_after (outcome (sheet_checks sheet)) (length (sheet_stations sheet))

-- The checks of a sheet and a station: the reader's, and those of a peg; and the peg as numbers.
unfoldable pub sheet_peg_checks : List ℕ → ℕ → Checks
sheet_peg_checks sheet station = read_checks sheet ⨾ peg_checks (read_line sheet) station

unfoldable pub sheet_peg : List ℕ → ℕ → List ℤ
sheet_peg sheet station = station_numbers (read_line sheet) station

-- The line of a sheet, as numbers.
unfoldable pub sheet_numbers : List ℕ → List ℕ
sheet_numbers sheet = line_numbers (read_line sheet)

-- The checks of an edition that is told and a line that is given as numbers: "refusal 2 before all others"; and the sheet of that line.
unfoldable pub told_checks : ℕ → List ℕ → Checks
told_checks number numbers = edition_check number ⨾ numbers_checks (numbered number).greatest numbers

unfoldable pub numbers_sheet : ℕ → List ℕ → List ℕ
numbers_sheet number numbers = sheet_of (numbered number) (line_of numbers)

-- "the edition as its count after all reading checks"
unfoldable pub edition_reply : List ℕ → FillReply
edition_reply sheet = count_after (outcome (read_checks sheet)) (read_edition sheet)

-- The line of points, as numbers.
unfoldable pub point_numbers : (v e start : ℕ) → List ℤ → List ℕ → List ℕ
point_numbers v e start points curves = line_numbers (line_from v e start points curves)

-- "The element call returns X, Y, k, p, D, TT."
unfoldable pub element_values : (A R L : ℕ) → List ℤ
element_values A R L = v.X ∷ v.Y ∷ v.k ∷ v.p ∷ v.D ∷ v.TT ∷ []
  where
    v : Values
    v = values_by A R L

-- As they are written; where the call answers, none is below zero (`proofs/Elements.antt`).
unfoldable pub element_numbers : (A R L : ℕ) → List ℕ
element_numbers A R L = map nat_abs (element_values A R L)

-- The same of elements that were answered.
abbrev pub numbers_of : Elements → List ℕ
numbers_of e = e.x ∷ e.y ∷ e.centre ∷ e.shift ∷ e.arc ∷ e.tangent ∷ []

-- "gives X and Y"
abbrev pub offset_numbers : Offsets → List ℤ
offset_numbers o = o.x ∷ o.y ∷ []

-- As they are written; where the call answers, none is below zero (`proofs/Elements.antt`).
unfoldable pub end_numbers : (r L : ℕ) → List ℕ
end_numbers r L = map nat_abs (offset_numbers (end_by r L))

-- The same of an end that was answered.
abbrev pub end_numbers_of : SpiralPoint → List ℕ
end_numbers_of p = p.x ∷ p.y ∷ []

-- What the look-up does to the numbers that it is lent: 25, 11, then 16; X and Y.
unfoldable pub unit_spiral_in : (r L : ℕ) → List ℕ → Fill ℕ
unit_spiral_in r L lent = fill (look_up_checks r L) (end_numbers r L) lent

-- The version of the library, 0.9.0: major, minor and patch in thousands.
abbrev pub version : ℕ
version = (0 * 1000 + 9) * 1000 + 0
