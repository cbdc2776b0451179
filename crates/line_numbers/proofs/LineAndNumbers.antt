-- A line and its numbers tell each other: the line of a line's numbers is the line with its unused entries zero, and the numbers of the line of
-- accepted numbers are those. Assumes nothing.
use mathlib.Core.Path.{◌≡◌, refl, sym, ◌∙◌, ap}
use mathlib.Core.Bool.{Bool, true, ◌&&◌}
use mathlib.Core.List.{List, [], ◌∷◌, ◌++◌, append_assoc}
use Prim.Native.Nat.{ℕ, zero, suc, ◌+◌, ◌*◌, ◌≤◌, ◌<◌}
use native.Mathlib.Decide.{dec_le, dec_lt}
use native.Mathlib.Omega.{arith}
use lib.Dec.{leb, eqb}
use lib.ListN.{length, take, get_or-append}
use lib.Seq.{take-suc, take-length, get_or-append-add}
use borrow.Author.Tests.{leb-true, eqb-true, le-leb, lt-leb, eq-eqb}
use Rattle.numbers.proofs.Tests.{both_left, both_right}
use Rattle.refusals.specs.Outcomes.{passed, need, ◌▹◌}
use Rattle.refusals.specs.Order.{outcome}
use Rattle.refusals.proofs.Joining.{passed_left, passed_right, need_holds}
use Rattle.line.specs.declared.Curve.{Curve}
use Rattle.line.specs.declared.Line.{Line}
use Rattle.line.specs.Checks.{distance_at, blank_curve, curve_at, field_checks}
use Rattle.line.specs.Entries.{side_bit, entries, cleared}
use Rattle.line.specs.Ranges.{FieldsInRange}
use Rattle.line.proofs.InRange.{line_in_range}
use Rattle.line.proofs.Entries.{entries_get, entries_same}
use Rattle.line.proofs.Sides.{side_of_bit, bit_of_side, side_fits}
use Rattle.line.proofs.Unused.{unused_ignored, cleared_alike}
use Rattle.line_numbers.specs.Numbers.{number_count, head_numbers, entry_numbers, numbers_to, line_numbers, number_at, distance_of, turn_of, curve_of, line_of, count_check, numbers_checks}
use Rattle.line_numbers.proofs.Storing.{numbers_length}

-- A side of two values keeps its deflection, and another has none.
turn_kept : (side A : ℕ) → side ≤ 1 → turn_of side A ≡ A
unfolding turn_of
turn_kept side A h = rw (le-leb side 1 h)

turn_lost : (side A : ℕ) → 1 < side → turn_of side A ≡ 0
unfolding turn_of
turn_lost side A h = rw (lt-leb side 1 h)

-- ---- from a line to its numbers and back

module _ (line : Line) where
  -- Number k of the head, and of entry i.
  head_in : (m k : ℕ) → k < 5 → number_at (numbers_to line m) k ≡ number_at (head_numbers line) k
  unfolding numbers_to
  head_in zero k h = refl
  head_in (suc m) k h = get_or-append (numbers_to line m) (entry_numbers line m) 0 k (omega (arith, numbers_length line m)) ∙ head_in m k h

  entry_in : (m i k : ℕ) → i < m → k < 5 → number_at (numbers_to line m) (number_count i + k) ≡ number_at (entry_numbers line i) k
  unfolding numbers_to
  entry_in zero i k h h' = absurd (omega arith)
  entry_in (suc m) i k h h' = go (dec_lt i m) (λ l. entry_in m i k l h')
    where
      go : Dec (i < m) → (i < m → number_at (numbers_to line m) (number_count i + k) ≡ number_at (entry_numbers line i) k)
          → number_at (numbers_to line m ++ entry_numbers line m) (number_count i + k) ≡ number_at (entry_numbers line i) k
      go (yes l) earlier =
          get_or-append (numbers_to line m) (entry_numbers line m) 0 (number_count i + k) (omega (arith, numbers_length line m)) ∙ earlier l
      go (no l) earlier =
          let last : m ≡ i = omega arith in
          let at : number_count i + k ≡ length (numbers_to line m) + k = omega (arith, numbers_length line m) in
          ap (number_at (numbers_to line m ++ entry_numbers line m)) at
          ∙ get_or-append-add (numbers_to line m) (entry_numbers line m) k 0
          ∙ ap (λ (i : ℕ). number_at (entry_numbers line i) k) last

  abbrev numbers : List ℕ
  numbers = numbers_to line line.count

  number_of : (i k m : ℕ) → i < line.count → k < 5 → m ≡ number_count i + k → number_at numbers m ≡ number_at (entry_numbers line i) k
  number_of i k m h h' e = ap (number_at numbers) e ∙ entry_in line.count i k h h'

  distance_back : (i : ℕ) → i < suc line.count → distance_of numbers i ≡ distance_at line i
  distance_back zero h = head_in line.count 4 (omega arith)
  distance_back (suc i) h = number_of i 4 (4 + 5 * suc i) (omega arith) (omega arith) (omega arith)

  curve_back : (i : ℕ) → i < line.count → curve_of numbers i ≡ curve_at line i
  unfolding curve_of
  curve_back i h =
      let c = curve_at line i in
      let side = number_of i 0 (5 + 5 * i) h (omega arith) (omega arith) in
      λ j. record {
        left = (ap (λ (n : ℕ). eqb n 1) side ∙ side_of_bit c.left) j;
        deflection = ((λ j. turn_of (side j) (number_of i 1 (6 + 5 * i) h (omega arith) (omega arith) j)) ∙ turn_kept (side_bit c.left) c.deflection (side_fits c.left)) j;
        radius = number_of i 2 (7 + 5 * i) h (omega arith) (omega arith) j;
        spiral = number_of i 3 (8 + 5 * i) h (omega arith) (omega arith) j;
      }

  -- The line of a line's numbers is the line with its unused entries zero.
  pub line_again : line_of (line_numbers line) ≡ cleared line
  unfolding line_numbers line_of cleared
  line_again =
      let n : number_at numbers 0 ≡ line.count = head_in line.count 0 (omega arith) in
      λ j. record {
        speed = head_in line.count 1 (omega arith) j;
        crossfall = head_in line.count 2 (omega arith) j;
        start = head_in line.count 3 (omega arith) j;
        count = n j;
        distances = (ap (λ (n : ℕ). entries 65 (suc n) (distance_of numbers) 0) n ∙ entries_same 65 (suc line.count) (distance_of numbers) (distance_at line) 0 distance_back) j;
        curves = (ap (λ (n : ℕ). entries 64 n (curve_of numbers) blank_curve) n ∙ entries_same 64 line.count (curve_of numbers) (curve_at line) blank_curve curve_back) j;
      }

  -- A line and its numbers have the same first refusal.
  pub outcome_again : (greatest : ℕ) → line.count ≤ 64 → outcome (numbers_checks greatest (line_numbers line)) ≡ outcome (field_checks greatest line)
  unfolding numbers_checks count_check line_numbers
  outcome_again greatest few =
      let n : number_at numbers 0 ≡ line.count = head_in line.count 0 (omega arith) in
      let counted : (leb (number_at numbers 0) 64 && eqb (length numbers) (number_count (number_at numbers 0))) ≡ true =
      rw (n, le-leb line.count 64 few) (eq-eqb (length numbers) (number_count line.count) (numbers_length line line.count)) in
      ap (λ (b : Bool). need b 3 0 ▹ outcome (field_checks greatest (line_of numbers))) counted
      ∙ ap (λ (l : Line). outcome (field_checks greatest l)) line_again
      ∙ unused_ignored (cleared line) line (cleared_alike line few) greatest

-- ---- from numbers to their line and back

-- Numbers that pass the first check are those of at most 64 curves, as many as n calls for.
module _ (numbers : List ℕ) (passes : outcome (count_check numbers) ≡ passed) where
  test : (leb (number_at numbers 0) 64 && eqb (length numbers) (number_count (number_at numbers 0))) ≡ true
  unfolding count_check
  test = need_holds _ 3 0 passes

  pub few_counted : number_at numbers 0 ≤ 64
  few_counted = leb-true (number_at numbers 0) 64 (both_left _ (eqb (length numbers) (number_count (number_at numbers 0))) test)

  pub all_counted : length numbers ≡ number_count (number_at numbers 0)
  all_counted = eqb-true (length numbers) (number_count (number_at numbers 0)) (both_right (leb (number_at numbers 0) 64) _ test)

module _ (greatest : ℕ) (numbers : List ℕ) (accepted : outcome (numbers_checks greatest numbers) ≡ passed) where
  abbrev n : ℕ
  n = number_at numbers 0

  passes : outcome (count_check numbers) ≡ passed
  unfolding numbers_checks
  passes = passed_left (outcome (count_check numbers)) _ accepted

  few : n ≤ 64
  few = few_counted numbers passes

  -- Accepted numbers are as many as n calls for: a line cut short is never taken for a whole one.
  pub counted : length numbers ≡ number_count n
  counted = all_counted numbers passes

  in_range : FieldsInRange greatest (line_of numbers)
  unfolding numbers_checks
  in_range = line_in_range (line_of numbers) (passed_right (outcome (count_check numbers)) _ accepted)

  distance_of_lem : (i : ℕ) → i ≤ n → distance_at (line_of numbers) i ≡ distance_of numbers i
  unfolding line_of
  distance_of_lem i h = entries_get 65 (suc n) i (distance_of numbers) 0 0 (omega arith) (omega (arith, few))

  curve_of_lem : (i : ℕ) → i < n → curve_at (line_of numbers) i ≡ curve_of numbers i
  unfolding line_of
  curve_of_lem i h = entries_get 64 n i (curve_of numbers) blank_curve blank_curve h few

  -- Each side is 0 or 1: another is never taken for one of them.
  pub side_told : (i : ℕ) → i < n → number_at numbers (5 + 5 * i) ≤ 1
  unfolding line_of curve_of
  side_told i h = go (dec_le side 1)
    where
      side : ℕ
      side = number_at numbers (5 + 5 * i)

      go : Dec (side ≤ 1) → side ≤ 1
      go (yes k) = k
      go (no k) =
          let none = ap (λ (c : Curve). c.deflection) (curve_of_lem i h) ∙ turn_lost side (number_at numbers (6 + 5 * i)) (omega arith) in
          absurd (omega (arith, none, (in_range.curve i h).A-least))

  -- The five numbers of an entry.
  abbrev five : ℕ → List ℕ
  five k = number_at numbers k ∷ number_at numbers (suc k) ∷ number_at numbers (suc (suc k)) ∷ number_at numbers (suc (suc (suc k))) ∷ number_at numbers (suc (suc (suc (suc k)))) ∷ []

  next_five : (k : ℕ) → suc (suc (suc (suc k))) < length numbers → take (suc (suc (suc (suc (suc k))))) numbers ≡ take k numbers ++ five k
  next_five k h =
      rw (
        take-suc numbers (suc (suc (suc (suc k)))) 0 h,
        take-suc numbers (suc (suc (suc k))) 0 (omega arith),
        take-suc numbers (suc (suc k)) 0 (omega arith),
        take-suc numbers (suc k) 0 (omega arith),
        take-suc numbers k 0 (omega arith),
      )
      (simp append_assoc refl)

  head_again : head_numbers (line_of numbers) ≡ five 0
  unfolding line_of
  head_again = ap (λ (d : ℕ). n ∷ number_at numbers 1 ∷ number_at numbers 2 ∷ number_at numbers 3 ∷ d ∷ []) (distance_of_lem 0 (omega arith))

  entry_again : (i : ℕ) → i < n → entry_numbers (line_of numbers) i ≡ five (number_count i)
  unfolding curve_of
  entry_again i h =
      let k = number_count i in
      let side = number_at numbers k in
      let same = curve_of_lem i h in
      let at₁ : 6 + 5 * i ≡ suc k = omega arith in
      let at₂ : 7 + 5 * i ≡ suc (suc k) = omega arith in
      let at₃ : 8 + 5 * i ≡ suc (suc (suc k)) = omega arith in
      let at₄ : 4 + 5 * suc i ≡ suc (suc (suc (suc k))) = omega arith in
      let left = ap (λ (c : Curve). side_bit c.left) same ∙ bit_of_side side (side_told i h) in
      let A = ap (λ (c : Curve). c.deflection) same ∙ turn_kept side _ (side_told i h) ∙ ap (number_at numbers) at₁ in
      let R = ap (λ (c : Curve). c.radius) same ∙ ap (number_at numbers) at₂ in
      let L = ap (λ (c : Curve). c.spiral) same ∙ ap (number_at numbers) at₃ in
      let d = distance_of_lem (suc i) h ∙ ap (number_at numbers) at₄ in
      λ j. left j ∷ A j ∷ R j ∷ L j ∷ d j ∷ []

  numbers_to_lem : (i : ℕ) → i ≤ n → numbers_to (line_of numbers) i ≡ take (number_count i) numbers
  unfolding numbers_to
  numbers_to_lem zero h = head_again ∙ sym (next_five 0 (omega (arith, counted)))
  numbers_to_lem (suc i) h =
      let k = number_count i in
      let next : number_count (suc i) ≡ suc (suc (suc (suc (suc k)))) = omega arith in
      (λ j. numbers_to_lem i (omega arith) j ++ entry_again i h j)
      ∙ sym (ap (λ (m : ℕ). take m numbers) next ∙ next_five k (omega (arith, counted)))

  -- The numbers of the line of accepted numbers are those.
  pub numbers_again : line_numbers (line_of numbers) ≡ numbers
  unfolding line_numbers line_of
  numbers_again = numbers_to_lem n (omega arith) ∙ ap (λ (k : ℕ). take k numbers) (sym counted) ∙ take-length numbers
