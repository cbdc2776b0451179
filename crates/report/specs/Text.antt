-- Document 01's "The station program", and document 02's table of N8 and lengths of N9: the text of an answer, in ASCII codes.
use Rattle.std.specs.Prelude.{cond, List, [], ◌++◌, ℕ, zero, suc, ◌+◌, ◌*◌, ◌/◌, ◌%◌, eqb, length, get_or, drop, replicate}
use Rattle.refusals.specs.Outcomes.{Outcome, passed, refused}
use Rattle.report.specs.Numbers.{ascii, decimal, metres}

-- Three words, "one space between", and the end of the line.
unfoldable pub words : List ℕ → List ℕ → List ℕ → List ℕ
words a b c = a ++ ascii " " ++ b ++ ascii " " ++ c ++ ascii "\n"

-- The heading.
unfoldable pub heading : List ℕ
heading = words (ascii "POINT") (ascii "CURVE") (ascii "STATION")

-- The names of a curve's points in their order.
unfoldable pub turn_name : ℕ → List ℕ
turn_name zero = ascii "TS"
turn_name (suc zero) = ascii "SC"
turn_name (suc (suc zero)) = ascii "CS"
turn_name (suc (suc (suc turn))) = ascii "ST"

-- The name of number i of a row of `count` numbers: "TS, SC, CS, ST of each curve in order, then the end"
unfoldable pub point_name : (count i : ℕ) → List ℕ
point_name count i = cond (eqb (suc i) count) (ascii "END") (turn_name (i % 4))

-- Its curve; "The end has curve 0."
unfoldable pub point_curve : (count i : ℕ) → ℕ
point_curve count i = cond (eqb (suc i) count) 0 (suc (i / 4))

-- Its line: "point name, curve number and station in metres"
unfoldable pub point_line : List ℕ → ℕ → List ℕ
point_line row i = words (point_name (length row) i) (decimal (point_curve (length row) i)) (metres (get_or row i 0))

-- The first i lines of a text, one after the other.
unfoldable pub lines_of : (ℕ → List ℕ) → ℕ → List ℕ
lines_of line zero = []
lines_of line (suc i) = lines_of line i ++ line i

-- "the heading, then ..": the text of a row of stations
unfoldable pub station_list : List ℕ → List ℕ
station_list row = heading ++ lines_of (point_line row) (length row)

-- "`REFUSED`, number, place, one space between"
unfoldable pub refusal_line : (number place : ℕ) → List ℕ
refusal_line number place = words (ascii "REFUSED") (decimal number) (decimal place)

-- "A refusal, here and in any later program, prints only `REFUSED`, number, place": what is printed, or the refusal
abbrev pub answer_text : Outcome → List ℕ → List ℕ
answer_text passed text = text
answer_text (refused number place) text = refusal_line number place

-- A text at the front of `size` zeros.
unfoldable pub in_zeros : (size : ℕ) → List ℕ → List ℕ
in_zeros size text = text ++ drop (length text) (replicate size 0)

-- Document 02, N8: "row number from 0, x, y, one space between": the line of row i of a table that has two numbers to a row
unfoldable pub row_line : List ℕ → ℕ → List ℕ
row_line table i = words (decimal i) (decimal (get_or table (2 * i) 0)) (decimal (get_or table (2 * i + 1) 0))

-- "no heading": its rows in turn
unfoldable pub table_text : List ℕ → List ℕ
table_text table = lines_of (row_line table) (length table / 2)

-- Document 02, N9: "STRAIGHTS, SPIRALS, ARCS or SUM, one space, the number", and the end of the line
unfoldable pub named_line : List ℕ → ℕ → List ℕ
named_line name n = name ++ ascii " " ++ decimal n ++ ascii "\n"

-- "One line each, in this order": the text of four lengths
unfoldable pub length_list : (straights spirals arcs sum : ℕ) → List ℕ
length_list straights spirals arcs sum =
    named_line (ascii "STRAIGHTS") straights
    ++ named_line (ascii "SPIRALS") spirals
    ++ named_line (ascii "ARCS") arcs
    ++ named_line (ascii "SUM") sum
