-- The numbers of a line, stored five by five. Assumes nothing.
use mathlib.Core.Path.{◌≡◌, refl, sym, ◌∙◌, ap}
use mathlib.Core.List.{List, ◌++◌}
use Prim.Native.Nat.{ℕ, zero, suc, ◌+◌}
use native.Mathlib.Numerals.{add-one}
use native.Mathlib.Omega.{arith}
use lib.ListN.{length, take, drop, length-append}
use lib.Seq.{take_at, drop_at, drop-drop}
use Rattle.refusals.specs.Outcomes.{refused}
use Rattle.refusals.specs.Order.{outcome}
use Rattle.refusals.specs.Filling.{unfilled, fill}
use Rattle.refusals.proofs.FillWays.{refused_fill, small_fill, whole_fill}
use Rattle.line.specs.declared.Line.{Line}
use Rattle.line_numbers.specs.Numbers.{number_count, entry_numbers, numbers_to, line_numbers, few_check}

pub numbers_length : (line : Line) (i : ℕ) → length (numbers_to line i) ≡ number_count i
unfolding numbers_to
numbers_length line zero = refl
numbers_length line (suc i) = length-append (numbers_to line i) (entry_numbers line i) ∙ omega (arith, numbers_length line i)

-- A line of n curves has 5 + 5 × n numbers.
pub line_length_lem : (line : Line) → length (line_numbers line) ≡ number_count line.count
unfolding line_numbers
line_length_lem line = numbers_length line line.count

-- One entry more, at the code's `i + 1`.
pub entry_stored : (line : Line) (i : ℕ) (lent now part : List ℕ) → now ≡ numbers_to line i ++ drop (number_count i) lent
    → part ≡ entry_numbers line i
    → take (number_count i) now ++ part ++ drop (number_count i + 5) now ≡ numbers_to line (i + 1) ++ drop (number_count (i + 1)) lent
unfolding numbers_to
entry_stored line i lent now part e q =
    let k = number_count i in
    let front : take k now ≡ numbers_to line i = ap (take k) e ∙ take_at (numbers_to line i) _ k (numbers_length line i) in
    let behind : drop k now ≡ drop k lent = ap (drop k) e ∙ drop_at (numbers_to line i) _ k (numbers_length line i) in
    let next : number_count (i + 1) ≡ k + 5 = omega arith in
    let rest : drop (k + 5) now ≡ drop (number_count (i + 1)) lent =
    sym (drop-drop 5 k now) ∙ ap (drop 5) behind ∙ drop-drop 5 k lent ∙ ap (λ (n : ℕ). drop n lent) (sym next) in
    (λ j. front j ++ q j ++ rest j) ∙ ap (λ (n : ℕ). numbers_to line n ++ drop (number_count (i + 1)) lent) (sym (add-one i))

-- Refusal 3 leaves the numbers as they were.
pub numbers_refused : (line : Line) (lent : List ℕ) {n p : ℕ} → refused n p ≡ outcome (few_check line)
    → (unfilled n p ≡ (fill (few_check line) (line_numbers line) lent).reply) × (lent ≡ (fill (few_check line) (line_numbers line) lent).buffer)
numbers_refused line lent e = refused_fill (few_check line) (line_numbers line) lent (sym e)

-- What the proof of `write` cites.
pub ruleset writing = (numbers_refused, small_fill, whole_fill, line_length_lem)
