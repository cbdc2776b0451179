-- How long the pieces of a text are. Assumes nothing.
use mathlib.Core.Path.{◌≡◌, ◌∙◌, subst}
use mathlib.Core.List.{List, ◌++◌}
use Prim.Native.Nat.{ℕ, zero, suc, ◌+◌, ◌-◌, ◌*◌, ◌/◌, ◌%◌, ◌≤◌, ◌<◌}
use native.Mathlib.Nat.{add-zero, add-suc}
use native.Mathlib.Omega.{arith}
use lib.ListN.{length, get_or, length-append}
use Rattle.io.specs.Digits.{last_digits}
use Rattle.report.specs.Numbers.{ascii, decimal, metres}
use Rattle.report.specs.Text.{words, heading, point_name, point_curve, point_line, lines_of, station_list, refusal_line, row_line, named_line}
use Rattle.report.proofs.Digits.{digits_length, decimal_length, decimal_most}

pub metres_length : (station : ℕ) → length (metres station) ≡ length (decimal (station / 1000000)) + 7
unfolding metres ascii
metres_length station =
    omega (
      arith,
      length-append (decimal (station / 1000000) ++ ascii ".") (last_digits 10 6 (station % 1000000)),
      length-append (decimal (station / 1000000)) (ascii "."),
      digits_length 10 6 (station % 1000000),
    )

words_length : (a b c : List ℕ) → length (words a b c) ≡ length a + length b + length c + 3
unfolding words ascii
words_length a b c =
    omega (
      arith,
      length-append (a ++ ascii " " ++ b ++ ascii " " ++ c) (ascii "\n"),
      length-append (a ++ ascii " " ++ b ++ ascii " ") c,
      length-append (a ++ ascii " " ++ b) (ascii " "),
      length-append (a ++ ascii " ") b,
      length-append a (ascii " "),
    )

pub line_length_lem : (row : List ℕ) (i : ℕ)
    → length (point_line row i) ≡ length (point_name (length row) i) + length (decimal (point_curve (length row) i)) + length (metres (get_or row i 0)) + 3
unfolding point_line
line_length_lem row i = words_length (point_name (length row) i) (decimal (point_curve (length row) i)) (metres (get_or row i 0))

-- One line more.
pub lines_more : (line : ℕ → List ℕ) (i : ℕ) → length (lines_of line (suc i)) ≡ length (lines_of line i) + length (line i)
unfolding lines_of
lines_more line i = length-append (lines_of line i) (line i)

-- The first lines are no longer than all.
lines_grow : (line : ℕ → List ℕ) (i k : ℕ) → length (lines_of line i) ≤ length (lines_of line (i + k))
lines_grow line i zero = rw add-zero (omega arith)
lines_grow line i (suc k) = rw (add-suc i k, lines_more line (i + k)) (omega (arith, lines_grow line i k))

-- Before the end one more has room.
pub lines_before : (line : ℕ → List ℕ) (i count : ℕ) → i < count → length (lines_of line i) + length (line i) ≤ length (lines_of line count)
lines_before line i count h =
    let e : suc i + (count - suc i) ≡ count = omega arith in
    let most = subst (λ (n : ℕ). length (lines_of line (suc i)) ≤ length (lines_of line n)) e (lines_grow line (suc i) (count - suc i)) in
    omega (arith, lines_more line i, most)

pub list_length : (row : List ℕ) → length (station_list row) ≡ 20 + length (lines_of (point_line row) (length row))
unfolding station_list heading words ascii
list_length row = length-append heading (lines_of (point_line row) (length row))

pub refusal_length : (number place : ℕ) → length (refusal_line number place) ≡ length (decimal number) + length (decimal place) + 10
unfolding refusal_line ascii
refusal_length number place = words_length (ascii "REFUSED") (decimal number) (decimal place) ∙ omega arith

pub row_length : (table : List ℕ) (i : ℕ)
    → length (row_line table i) ≡ length (decimal i) + length (decimal (get_or table (2 * i) 0)) + length (decimal (get_or table (2 * i + 1) 0)) + 3
unfolding row_line
row_length table i = words_length (decimal i) (decimal (get_or table (2 * i) 0)) (decimal (get_or table (2 * i + 1) 0))

pub named_length : (name : List ℕ) (n : ℕ) → length (named_line name n) ≡ length name + length (decimal n) + 2
unfolding named_line ascii
named_length name n =
    omega (
      arith,
      length-append (name ++ ascii " " ++ decimal n) (ascii "\n"),
      length-append (name ++ ascii " ") (decimal n),
      length-append name (ascii " "),
    )

-- How long what is put is.
pub ruleset lengths = (length-append, decimal_length, decimal_most, metres_length, line_length_lem, row_length)
