-- The checks of a line's fields, in the words and the order of document 01: "The line", "Refusal table" and "Order".
use Rattle.std.specs.Prelude.{Bool, false, ◌&&◌, ℕ, zero, suc, ◌%◌, leb, eqb, get_or}
use Rattle.line.specs.declared.Curve.{Curve}
use Rattle.line.specs.declared.Line.{Line}
use Rattle.refusals.specs.Order.{Checks, check, ◌⨾◌}

-- `least` to `most`, both included.
abbrev pub within : ℕ → ℕ → ℕ → Bool
within least most x = leb least x && leb x most

-- "the calculator's is for a start over 4,000,000,000" (document 02, N6): a line's greatest start, in mm; a sheet's follows its edition
abbrev pub greatest_start : ℕ
greatest_start = 4000000000

-- 4: V "40, 50, .. 120 only"
abbrev pub speed_check : ℕ → Checks
speed_check speed = check (within 40 120 speed && eqb (speed % 10) 0) 4 0

-- 6: the start, over the greatest
unfoldable pub start_check : (greatest start : ℕ) → Checks
start_check greatest start = check (leb start greatest) 6 0

-- 3 to 6: "n curves (0 to 64)", V, e "2 to 12", the start
unfoldable pub head_checks : (greatest count speed crossfall start : ℕ) → Checks
head_checks greatest count speed crossfall start =
    check (leb count 64) 3 0
    ⨾ speed_check speed
    ⨾ check (within 2 12 crossfall) 5 0
    ⨾ start_check greatest start

-- 8: "1 to 20,000,000 mm"
unfoldable pub distance_check : ℕ → ℕ → Checks
distance_check distance index = check (within 1 20000000 distance) 8 index

-- 9, 10, 11 within a curve: A "1 to 432,000 seconds", R "20,000 to 5,000,000 mm", L "0 to 500,000 mm and at most R"
unfoldable pub curve_checks : ℕ → ℕ → ℕ → ℕ → Checks
curve_checks A R L place =
    check (within 1 432000 A) 9 place
    ⨾ check (within 20000 5000000 R) 10 place
    ⨾ check (leb L 500000 && leb L R) 11 place

-- The distance of an index, 0 to n.
abbrev pub distance_at : Line → ℕ → ℕ
distance_at line i = get_or line.distances i 0

-- A curve whose fields are all zero.
abbrev pub blank_curve : Curve
blank_curve = record { left = false; deflection = 0; radius = 0; spiral = 0 }

-- The curve at an entry: entry i holds curve i + 1.
abbrev pub curve_at : Line → ℕ → Curve
curve_at line i = get_or line.curves i blank_curve

-- "8 to 11 in sheet order": distance 0, curve 1, distance 1, .. up to curve i and distance i
unfoldable pub body_checks : Line → ℕ → Checks
body_checks line zero = distance_check (distance_at line 0) 0
body_checks line (suc i) =
    body_checks line i
    ⨾ curve_checks (curve_at line i).deflection (curve_at line i).radius (curve_at line i).spiral (suc i)
    ⨾ distance_check (distance_at line (suc i)) (suc i)

-- Those of a line's fields, its start up to the greatest: "3 to 6, 8 to 11 likewise"
unfoldable pub field_checks : (greatest : ℕ) → Line → Checks
field_checks greatest line =
    head_checks greatest line.count line.speed line.crossfall line.start
    ⨾ body_checks line line.count

-- Those of a line that is worked on, of whatever sheet or none.
abbrev pub line_checks : Line → Checks
line_checks line = field_checks greatest_start line
