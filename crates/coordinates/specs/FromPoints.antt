-- Document 02, N2: the line of points, and what is refused. The design speed v, the crossfall e and the start are a line's, in document 01's
-- units; `curves` are radius and spiral of each PI in turn, in mm.
use Rattle.std.specs.Prelude.{not, ◌&&◌, List, ℕ, suc, ◌+◌, ◌*◌, ◌%◌, leb, ltb, eqb, ℤ, pos, nat_abs, length, get_or}
use Rattle.std.specs.Int.Signed.{lt_z}
use Rattle.refusals.specs.Order.{Checks, check, ◌⨾◌, in_turn}
use Rattle.line.specs.declared.Curve.{Curve}
use Rattle.line.specs.declared.Line.{Line}
use Rattle.line.specs.Checks.{within, distance_check, blank_curve}
use Rattle.line.specs.Entries.{entries}
use Rattle.turns.specs.Turn.{reached, deflection_of}
use Rattle.stationing.specs.Answer.{alignment_checks}
use Rattle.coordinates.specs.Legs.{point_count, curve_count, coordinate_at, leg_at, length_of, cross_at, dot_at}

-- ---- the line

-- Distance i, "the root of the summed squares, rounded down".
abbrev pub distance_from : List ℤ → ℕ → ℕ
distance_from points i = length_of (leg_at points i)

-- The deflection at entry i: "the largest whole number of seconds s, 0 to 216,000, for which the cross product's size times cosine(s) is at least
-- the dot product times sine(s)".
unfoldable pub deflection_from : List ℤ → ℕ → ℕ
deflection_from points i = deflection_of (nat_abs (cross_at points i)) (dot_at points i)

-- The curve at entry i: "Side is its sign, positive being left. Radii, spirals .. come beside them".
unfoldable pub curve_from : List ℤ → List ℕ → ℕ → Curve
curve_from points curves i =
    record {
      left = lt_z (pos 0) (cross_at points i);
      deflection = deflection_from points i;
      radius = get_or curves (2 * i) 0;
      spiral = get_or curves (2 * i + 1) 0;
    }

-- The line, "its unused entries zero".
unfoldable pub line_from : (v e start : ℕ) → List ℤ → List ℕ → Line
line_from v e start points curves =
    record {
      speed = v;
      crossfall = e;
      start = start;
      count = curve_count points;
      distances = entries 65 (suc (curve_count points)) (distance_from points) 0;
      curves = entries 64 (curve_count points) (curve_from points curves) blank_curve;
    }

-- ---- what is refused

-- 3: other than two numbers for each point and two for each PI (docs/DECISIONS.md); "fewer than 2 or more than 66 points"
unfoldable pub count_checks : List ℤ → List ℕ → Checks
count_checks points curves =
    check (eqb (length points % 2) 0 && eqb (length curves) (2 * curve_count points)) 3 0
    ⨾ check (within 2 66 (point_count points)) 3 0

-- "then with 18 a coordinate beyond 10,000,000 either way"
unfoldable pub coordinate_check : List ℤ → ℕ → Checks
coordinate_check points k = check (leb (nat_abs (coordinate_at points k)) 10000000) 18 0

-- "then with 8 a distance"
unfoldable pub length_check : List ℤ → ℕ → Checks
length_check points i = distance_check (distance_from points i) i

-- "then point by point with 20 a dot product not above zero or a turn where 216,001 also holds, and with 19 a turn of 0 seconds", "the place for
-- 19 and 20 is the curve"
unfoldable pub turn_checks : List ℤ → ℕ → Checks
turn_checks points i =
    check (lt_z (pos 0) (dot_at points i) && not (reached (nat_abs (cross_at points i)) (dot_at points i) 216001)) 20 (suc i)
    ⨾ check (ltb 0 (deflection_from points i)) 19 (suc i)

-- In the request's order, "all before the calculator's checks 3 to 15" of the line.
unfoldable pub from_points_checks : (v e start : ℕ) → List ℤ → List ℕ → Checks
from_points_checks v e start points curves =
    count_checks points curves
    ⨾ in_turn (coordinate_check points) (length points)
    ⨾ in_turn (length_check points) (suc (curve_count points))
    ⨾ in_turn (turn_checks points) (curve_count points)
    ⨾ alignment_checks (line_from v e start points curves)
