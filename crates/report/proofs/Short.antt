-- The text of at most 257 stations below 10,000 km takes at most 5,417 bytes, that of four lengths of 64 bits at most 111. Assumes nothing.
use mathlib.Core.Path.{◌≡◌, refl, ap}
use mathlib.Core.Bool.{Bool, true, false}
use mathlib.Core.List.{List}
use Prim.Native.Nat.{ℕ, zero, suc, ◌+◌, ◌*◌, ◌/◌, ◌%◌, ◌^◌, ◌≤◌, ◌<◌}
use native.Mathlib.Omega.{arith}
use lib.Dec.{eqb}
use lib.ListN.{length, get_or, length-append}
use borrow.Author.Tests.{eqb-true, eqb-false}
use Rattle.report.specs.Numbers.{ascii, decimal}
use Rattle.report.specs.Text.{point_name, point_curve, point_line, lines_of, station_list, refusal_line, named_line, length_list}
use Rattle.report.proofs.Digits.{decimal_short}
use Rattle.report.proofs.Names.{name_length, end_name, end_curve, point_name_lem, point_curve_lem}
use Rattle.report.proofs.Lengths.{metres_length, line_length_lem, lines_more, list_length, refusal_length, named_length}

module _ (row : List ℕ) (few : length row ≤ 257) (low : (k : ℕ) → get_or row k 0 < 10 ^ 13) where
  -- Name and curve: `END` and 0, or two letters and a number up to 64.
  label_short : (i : ℕ) → i < length row → (b : Bool) → eqb (suc i) (length row) ≡ b
      → length (point_name (length row) i) + length (decimal (point_curve (length row) i)) ≤ 4
  unfolding ascii
  label_short i h true e =
      let end : i + 1 ≡ length row = omega (arith, eqb-true (suc i) (length row) e) in
      omega (
        arith,
        ap length (end_name (length row) i end),
        ap (λ (n : ℕ). length (decimal n)) (end_curve (length row) i end),
        decimal_short 0 0 (omega arith),
      )
  label_short i h false e =
      let apart : suc i ≡ length row → ⊥ = eqb-false (suc i) (length row) e in
      let inside : i + 1 ≡ length row → ⊥ = λ q. apart (omega (arith, q)) in
      omega (
        arith,
        ap length (point_name_lem (length row) i inside),
        name_length (i % 4),
        ap (λ (n : ℕ). length (decimal n)) (point_curve_lem (length row) i inside),
        decimal_short (suc (i / 4)) 1 (omega (arith, apart)),
      )

  line_short : (i : ℕ) → i < length row → length (point_line row i) ≤ 21
  line_short i h =
      omega (
        arith,
        line_length_lem row i,
        label_short i h (eqb (suc i) (length row)) refl,
        metres_length (get_or row i 0),
        decimal_short (get_or row i 0 / 1000000) 6 (omega (arith, low i)),
      )

  lines_short : (i : ℕ) → i ≤ length row → length (lines_of (point_line row) i) ≤ 21 * i
  unfolding lines_of
  lines_short zero h = omega arith
  lines_short (suc i) h = omega (arith, lines_more (point_line row) i, lines_short i (omega arith), line_short i (omega arith))

  pub list_short : length (station_list row) ≤ 5417
  list_short = omega (arith, list_length row, lines_short (length row) (omega arith))

-- The line of a refusal takes few.
pub refusal_short : (number place : ℕ) → number < 1000 → place < 1000 → length (refusal_line number place) ≤ 16
refusal_short number place h k =
    omega (arith, refusal_length number place, decimal_short number 2 h, decimal_short place 2 k)

-- A line of a name and a number of up to 20 digits.
pub named_short : (name : List ℕ) (n : ℕ) → n < 10 ^ 20 → length (named_line name n) ≤ length name + 22
named_short name n h = omega (arith, named_length name n, decimal_short n 19 h)

-- The text of four lengths.
pub length_list_short : (a b c d : ℕ) → a < 10 ^ 20 → b < 10 ^ 20 → c < 10 ^ 20 → d < 10 ^ 20 → length (length_list a b c d) ≤ 111
unfolding length_list ascii
length_list_short a b c d ha hb hc hd =
    simp length-append
    (omega (
      arith,
      named_short (ascii "STRAIGHTS") a ha,
      named_short (ascii "SPIRALS") b hb,
      named_short (ascii "ARCS") c hc,
      named_short (ascii "SUM") d hd,
    ))
