-- Document 01's "Working rule", "Stations": the straights and the stations of a line, in µm ("start, distances and L each times 1,000").
-- Entry i of a line holds curve i + 1. Differences may be negative.
use Rattle.std.specs.Prelude.{cond, List, [], ◌∷◌, ◌++◌, map, ℕ, zero, suc, ◌*◌, ltb, ℤ, pos, nat_abs, ◌+ℤ◌, ◌-ℤ◌}
use Rattle.line.specs.declared.Line.{Line}
use Rattle.line.specs.Checks.{distance_at, curve_at}
use Rattle.elements.specs.WorkingRule.{arc_of, tangent_of}

-- L, D and TT of the curve at entry i.
unfoldable pub spiral_at : Line → ℕ → ℤ
spiral_at line i = pos (1000 * (curve_at line i).spiral)

unfoldable pub arc_at : Line → ℕ → ℤ
arc_at line i = arc_of (curve_at line i).deflection (curve_at line i).radius (curve_at line i).spiral

unfoldable pub tangent_at : Line → ℕ → ℤ
tangent_at line i = tangent_of (curve_at line i).deflection (curve_at line i).radius (curve_at line i).spiral

-- "the TT of the curves at its ends": there is none before distance 0, and none after distance n.
unfoldable pub tangent_before : Line → ℕ → ℤ
tangent_before line zero = pos 0
tangent_before line (suc i) = tangent_at line i

unfoldable pub tangent_after : Line → ℕ → ℤ
tangent_after line i = cond (ltb i line.count) (tangent_at line i) (pos 0)

-- "A straight is its distance less the TT of the curves at its ends."
unfoldable pub straight_at : Line → ℕ → ℤ
straight_at line i = pos (1000 * distance_at line i) -ℤ tangent_before line i -ℤ tangent_after line i

-- The stations of a curve's four points.
pub record Points : Type 0 where
  pub TS : ℤ
  pub SC : ℤ
  pub CS : ℤ
  pub ST : ℤ

-- "TS = former ST .. + the straight; SC = TS + L; CS = SC + D; ST = CS + L"
abbrev pub points_from : ℤ → ℤ → ℤ → ℤ → Points
points_from former straight L D =
    let TS = former +ℤ straight in
    let SC = TS +ℤ L in
    let CS = SC +ℤ D in
    let ST = CS +ℤ L in
    record { TS = TS; SC = SC; CS = CS; ST = ST }

-- The ST before distance i, "at first the start".
unfoldable pub former_st : Line → ℕ → ℤ
former_st line zero = pos (1000 * line.start)
former_st line (suc i) = (points_from (former_st line i) (straight_at line i) (spiral_at line i) (arc_at line i)).ST

-- The points of the curve at entry i.
unfoldable pub points_at : Line → ℕ → Points
points_at line i = points_from (former_st line i) (straight_at line i) (spiral_at line i) (arc_at line i)

-- "end = last ST + last straight"
unfoldable pub end_of : Line → ℤ
end_of line = former_st line line.count +ℤ straight_at line line.count

-- "TS, SC, CS, ST of each curve in order": those of the first i curves
unfoldable pub curve_stations : Line → ℕ → List ℤ
curve_stations line zero = []
curve_stations line (suc i) =
    curve_stations line i
    ++ ((points_at line i).TS ∷ (points_at line i).SC ∷ (points_at line i).CS ∷ (points_at line i).ST ∷ [])

-- ", then the end": 4 × n + 1 stations
unfoldable pub stations_of : Line → List ℤ
stations_of line = curve_stations line line.count ++ (end_of line ∷ [])

-- The stations as a row of natural numbers; those of an accepted line are not below zero (`orders/proofs/InOrder.antt`).
unfoldable pub station_row : Line → List ℕ
station_row line = map nat_abs (stations_of line)
