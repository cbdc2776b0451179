-- The sine and the cosine: their terms fall, so neither is below zero, and the cosine of an angle of 60° and a second or less stays above
-- 0.45. Assumes nothing.
use mathlib.Core.Path.{◌≡◌, refl, sym, ◌∙◌, ap}
use mathlib.Core.List.{[], ◌∷◌}
use Prim.Native.Nat.{ℕ, suc, ◌+◌, ◌-◌, ◌*◌, ◌/◌, ◌%◌, ◌≤◌}
use native.Mathlib.Numerals.{add-one}
use native.Mathlib.Nat.{mul_comm, mul-le-mul, mul-le-mul_left, div-le_of_le-mul}
use native.Mathlib.Omega.{arith}
use lib.IntN.{pos, ◌+ℤ◌, ◌-ℤ◌}
use lib.ListN.{get_or}
use borrow.Author.Tests.{eq-eqb, ne_eqb}
use Rattle.numbers.specs.Whole.{Between}
use Rattle.numbers.proofs.Differences.{minus_le}
use Rattle.elements.specs.WorkingRule.{scale, term, alternating, sine_of, cosine_of, sine_divisor, cosine_divisor}
use Rattle.elements.proofs.Alternating.{falling_least}

-- The greatest angle: half of 120°, and more than a spiral's half radian.
abbrev pub greatest_angle : ℕ
greatest_angle = 1047197551

-- The full angle of the greatest turn: 60° and a second.
abbrev pub greatest_turn_angle : ℕ
greatest_turn_angle = 1047202399

-- A term is no greater than the former.
pub next_falls : (former z divisor : ℕ) → z ≤ scale * divisor → former * z / (scale * divisor) ≤ former
next_falls former z divisor h =
    div-le_of_le-mul (scale * divisor) (rw (mul_comm (scale * divisor) former) (mul-le-mul_left former h))

-- The next term, behind term j.
pub next_is : (divisor : ℕ → ℕ) (first z j d : ℕ) {former x : ℕ} → former ≡ term divisor first z j → x ≡ former * z / (scale * d) → d ≡ divisor (suc j)
    → x ≡ term divisor first z (j + 1)
unfolding term
next_is divisor first z j d e q same = q ∙ rw (add-one j, e, same)

-- One term more: where it is taken away, it is no greater than what is left.
module _ (t : ℕ → ℕ) (j : ℕ) (added taken x : ℕ) (sum : pos (added - taken) ≡ alternating t j) (next : x ≡ t (j + 1)) where
  pub next_taken : taken + x ≤ added → j % 2 ≡ 0 → pos (added - (taken + x)) ≡ alternating t (j + 1)
  unfolding alternating
  next_taken above even =
      let less : added - taken - x ≡ added - (taken + x) = omega arith in
      let whole : alternating t (j + 1) ≡ alternating t j -ℤ pos (t (j + 1)) = rw (add-one j, eq-eqb (suc j % 2) 1 (omega arith)) in
      sym (whole ∙ sym (λ i. sum i -ℤ pos (next i)) ∙ minus_le (omega arith) ∙ ap pos less)

  pub next_added : taken ≤ added → j % 2 ≡ 1 → pos (added + x - taken) ≡ alternating t (j + 1)
  unfolding alternating
  next_added above odd =
      let more : added - taken + x ≡ added + x - taken = omega arith in
      let whole : alternating t (j + 1) ≡ alternating t j +ℤ pos (t (j + 1)) = rw (add-one j, ne_eqb (suc j % 2) 1 (λ q. omega arith)) in
      sym (whole ∙ sym (λ i. sum i +ℤ pos (next i)) ∙ ap pos more)

-- The divisors of the second to the seventh term, listed.
pub sine_listed : (first z : ℕ)
    → alternating (term (λ j. get_or (6 ∷ 20 ∷ 42 ∷ 72 ∷ 110 ∷ 156 ∷ []) (j - 1) 0) first z) 6 ≡ alternating (term sine_divisor first z) 6
unfolding term alternating
sine_listed first z = refl

pub cosine_listed : (first z : ℕ)
    → alternating (term (λ j. get_or (2 ∷ 12 ∷ 30 ∷ 56 ∷ 90 ∷ 132 ∷ []) (j - 1) 0) first z) 6 ≡ alternating (term cosine_divisor first z) 6
unfolding term alternating
cosine_listed first z = refl

-- Seven falling terms, written out.
seven_terms : (t : ℕ → ℕ) → t 1 ≤ t 0 → t 2 ≤ t 1 → t 3 ≤ t 2 → t 4 ≤ t 3 → t 5 ≤ t 4 → t 6 ≤ t 5
    → alternating t 6 ≡ pos (t 0 + t 2 + t 4 + t 6 - (t 1 + t 3 + t 5))
unfolding alternating
seven_terms t h1 h2 h3 h4 h5 h6 =
    let two : t 3 ≤ t 0 - t 1 + t 2 = omega arith in
    let four : t 5 ≤ t 0 - t 1 + t 2 - t 3 + t 4 = omega arith in
    rw (minus_le h1, minus_le two, minus_le four) (ap pos (omega arith))

-- The same sum, of terms that were computed one after the other.
pub computed_series : (divisor : ℕ → ℕ) (first z : ℕ) {t1 t2 t3 t4 t5 t6 d1 d2 d3 d4 d5 d6 : ℕ}
    → (t1 ≡ first * z / (scale * d1)) × (t1 ≤ first) → (t2 ≡ t1 * z / (scale * d2)) × (t2 ≤ t1) → (t3 ≡ t2 * z / (scale * d3)) × (t3 ≤ t2)
    → (t4 ≡ t3 * z / (scale * d4)) × (t4 ≤ t3) → (t5 ≡ t4 * z / (scale * d5)) × (t5 ≤ t4) → (t6 ≡ t5 * z / (scale * d6)) × (t6 ≤ t5)
    → d1 ≡ divisor 1 → d2 ≡ divisor 2 → d3 ≡ divisor 3 → d4 ≡ divisor 4 → d5 ≡ divisor 5 → d6 ≡ divisor 6
    → pos (first + t2 + t4 + t6 - (t1 + t3 + t5)) ≡ alternating (term divisor first z) 6
unfolding term
computed_series divisor first z {t1} {t2} {t3} {t4} {t5} {t6} n1 n2 n3 n4 n5 n6 e1 e2 e3 e4 e5 e6 =
    let t = term divisor first z in
    let q1 : t1 ≡ t 1 = n1.0 ∙ rw e1 in
    let q2 : t2 ≡ t 2 = n2.0 ∙ rw (q1, e2) in
    let q3 : t3 ≡ t 3 = n3.0 ∙ rw (q2, e3) in
    let q4 : t4 ≡ t 4 = n4.0 ∙ rw (q3, e4) in
    let q5 : t5 ≡ t 5 = n5.0 ∙ rw (q4, e5) in
    let q6 : t6 ≡ t 6 = n6.0 ∙ rw (q5, e6) in
    ap pos (rw (q1, q2, q3, q4, q5, q6))
    ∙ sym
    (seven_terms t
    (omega (arith, q1, n1.1))
    (omega (arith, q1, q2, n2.1))
    (omega (arith, q2, q3, n3.1))
    (omega (arith, q3, q4, n4.1))
    (omega (arith, q4, q5, n5.1))
    (omega (arith, q5, q6, n6.1)))

-- The range of a series whose terms fall, of any number of terms.
pub series_between : (divisor : ℕ → ℕ) (first z n : ℕ) → ((j : ℕ) → z ≤ scale * divisor (suc j))
    → Between (alternating (term divisor first z) (suc n)) (first - first * z / (scale * divisor 1)) first
unfolding term
series_between divisor first z n falls =
    falling_least (term divisor first z) (λ j. next_falls (term divisor first z j) z (divisor (suc j)) (falls j)) n

-- The square of an angle.
pub square_most : (q : ℕ) → q ≤ greatest_turn_angle → q * q / scale ≤ 1096632864
square_most q h = omega (arith, mul-le-mul h h)

-- The divisors are 2 or more.
pub sine_divisor_least : (j : ℕ) → 2 ≤ sine_divisor (suc j)
sine_divisor_least j = mul-le-mul {n₁ = 2} {m₁ = 1} {n₂ = 2 * suc j} {m₂ = 2 * suc j + 1} (omega arith) (omega arith)

pub cosine_divisor_least : (j : ℕ) → 2 ≤ cosine_divisor (suc j)
cosine_divisor_least j = mul-le-mul {n₁ = 1} {m₁ = 2} {n₂ = 2 * suc j - 1} {m₂ = 2 * suc j} (omega arith) (omega arith)

pub sine_between : (q : ℕ) → q ≤ greatest_turn_angle → Between (sine_of q) (q - q * (q * q / scale) / (scale * 6)) q
unfolding sine_of
sine_between q h =
    series_between sine_divisor q (q * q / scale) 5 (λ j. omega (arith, square_most q h, sine_divisor_least j))

pub cosine_between : (q : ℕ) → q ≤ greatest_turn_angle → Between (cosine_of q) (scale - scale * (q * q / scale) / (scale * 2)) scale
unfolding cosine_of
cosine_between q h =
    series_between cosine_divisor scale (q * q / scale) 5 (λ j. omega (arith, square_most q h, cosine_divisor_least j))

-- The cosine of an angle up to `most`: 0.4516.. for half angles and turns.
pub cosine_above : (most q : ℕ) → most ≤ greatest_turn_angle → q ≤ most → Between (cosine_of q) (scale - most * most / scale / 2) scale
cosine_above most q m h =
    let b = cosine_between q (omega arith) in
    record { value = b.value; same = b.same; low = omega (arith, b.low, mul-le-mul h h); high = b.high }
