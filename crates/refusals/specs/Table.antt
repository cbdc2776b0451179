-- Document 01's "Refusal table", which document 02's numbers join: the number and the place of each refusal.
use Rattle.std.specs.Prelude.{ℕ}
use Rattle.refusals.specs.declared.Refusal.{Refusal}
use Rattle.refusals.specs.declared.Refusal.TheVariants.{Truncated, Edition, CurveCount, Speed, Crossfall, Start, Trailing, Distance, Deflection, Radius, Spiral, LeastRadius, LeastSpiral, ShortArc, ShortStraight, SmallBuffer, Station, Coordinate, NoTurn, WideTurn, VerticalCurve, Grade, Sight, FarStart, Thousandth}

-- "Refusal table", the column No.
abbrev pub number_of : Refusal → ℕ
number_of Truncated = 1
number_of Edition = 2
number_of CurveCount = 3
number_of Speed = 4
number_of Crossfall = 5
number_of Start = 6
number_of Trailing = 7
number_of (Distance index) = 8
number_of (Deflection curve) = 9
number_of (Radius curve) = 10
number_of (Spiral curve) = 11
number_of (LeastRadius curve) = 12
number_of (LeastSpiral curve) = 13
number_of (ShortArc curve) = 14
number_of (ShortStraight index) = 15
number_of SmallBuffer = 16
number_of Station = 17
number_of Coordinate = 18
number_of (NoTurn curve) = 19
number_of (WideTurn curve) = 20
number_of (VerticalCurve vertex) = 21
number_of (Grade vertex) = 22
number_of (Sight vertex) = 23
number_of FarStart = 24
number_of Thousandth = 25

-- "the index of the distance (0 to n) for 8 and 15, the curve (1 to n) for 9 to 14, else 0"; "the place for 19 and 20 is the curve";
-- 21 to 23, "the place being the vertex (0 for the first grade)"
abbrev pub place_of : Refusal → ℕ
place_of Truncated = 0
place_of Edition = 0
place_of CurveCount = 0
place_of Speed = 0
place_of Crossfall = 0
place_of Start = 0
place_of Trailing = 0
place_of (Distance index) = index
place_of (Deflection curve) = curve
place_of (Radius curve) = curve
place_of (Spiral curve) = curve
place_of (LeastRadius curve) = curve
place_of (LeastSpiral curve) = curve
place_of (ShortArc curve) = curve
place_of (ShortStraight index) = index
place_of SmallBuffer = 0
place_of Station = 0
place_of Coordinate = 0
place_of (NoTurn curve) = curve
place_of (WideTurn curve) = curve
place_of (VerticalCurve vertex) = vertex
place_of (Grade vertex) = vertex
place_of (Sight vertex) = vertex
place_of FarStart = 0
place_of Thousandth = 0
