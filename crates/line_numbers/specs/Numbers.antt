-- A line as numbers, for callers in other languages: n, V, e, start, distance 0, then side, A, R, L and the distance after it for each curve,
-- in document 01's units and in the order of its sheet. The form is this project's own (docs/library.md).
use Rattle.std.specs.Prelude.{◌&&◌, cond, List, [], ◌∷◌, ◌++◌, ℕ, zero, suc, ◌+◌, ◌*◌, leb, eqb, length, get_or}
use Rattle.refusals.specs.Order.{Checks, check, ◌⨾◌}
use Rattle.line.specs.declared.Curve.{Curve}
use Rattle.line.specs.declared.Line.{Line}
use Rattle.line.specs.Checks.{distance_at, blank_curve, curve_at, field_checks}
use Rattle.line.specs.Entries.{side_bit, entries}

-- How many numbers a line of n curves has.
abbrev pub number_count : ℕ → ℕ
number_count n = 5 + 5 * n

-- ---- the numbers of a line

-- n, V, e, start, distance 0
abbrev pub head_numbers : Line → List ℕ
head_numbers line = line.count ∷ line.speed ∷ line.crossfall ∷ line.start ∷ distance_at line 0 ∷ []

-- Side, A, R, L of the curve at entry i, then the distance after it.
abbrev pub entry_numbers : Line → ℕ → List ℕ
entry_numbers line i =
    side_bit (curve_at line i).left ∷ (curve_at line i).deflection ∷ (curve_at line i).radius ∷ (curve_at line i).spiral ∷ distance_at line (suc i) ∷ []

-- Those of the head and of the first i entries.
unfoldable pub numbers_to : Line → ℕ → List ℕ
numbers_to line zero = head_numbers line
numbers_to line (suc i) = numbers_to line i ++ entry_numbers line i

-- "n, V, e, start, distance 0, then side, A, R, L, distance for each curve"
unfoldable pub line_numbers : Line → List ℕ
line_numbers line = numbers_to line line.count

-- 3: "n over 64", where a line is to be written as numbers
abbrev pub few_check : Line → Checks
few_check line = check (leb line.count 64) 3 0

-- ---- the line of numbers

-- The number at an index; 0 where there is none.
abbrev pub number_at : List ℕ → ℕ → ℕ
number_at numbers index = get_or numbers index 0

-- Distance i.
abbrev pub distance_of : List ℕ → ℕ → ℕ
distance_of numbers i = number_at numbers (4 + 5 * i)

-- "side (0 right, 1 left, a field of two values only)": a deflection to another side is none, and counts as 0, which 9 refuses.
unfoldable pub turn_of : (side A : ℕ) → ℕ
turn_of side A = cond (leb side 1) A 0

-- The curve at entry i.
unfoldable pub curve_of : List ℕ → ℕ → Curve
curve_of numbers i =
    record {
      left = eqb (number_at numbers (5 + 5 * i)) 1;
      deflection = turn_of (number_at numbers (5 + 5 * i)) (number_at numbers (6 + 5 * i));
      radius = number_at numbers (7 + 5 * i);
      spiral = number_at numbers (8 + 5 * i);
    }

-- The line, its unused entries zero.
unfoldable pub line_of : List ℕ → Line
line_of numbers =
    record {
      speed = number_at numbers 1;
      crossfall = number_at numbers 2;
      start = number_at numbers 3;
      count = number_at numbers 0;
      distances = entries 65 (suc (number_at numbers 0)) (distance_of numbers) 0;
      curves = entries 64 (number_at numbers 0) (curve_of numbers) blank_curve;
    }

-- 3: "n over 64", or other than the numbers of n curves
unfoldable pub count_check : List ℕ → Checks
count_check numbers = check (leb (number_at numbers 0) 64 && eqb (length numbers) (number_count (number_at numbers 0))) 3 0

-- The checks of numbers, their start up to the greatest: 3, then the writer's "3 to 6, 8 to 11 likewise" of their line.
unfoldable pub numbers_checks : (greatest : ℕ) → List ℕ → Checks
numbers_checks greatest numbers = count_check numbers ⨾ field_checks greatest (line_of numbers)
