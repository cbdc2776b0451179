-- From one angle to another that is 4,848 or more greater, as that of any later second is, the sine rises and the cosine does not, though
-- both are rounded at each division. (From one angle to the next number they need not: the cosine rises by one at 16,380,751, and
-- the sine falls by one at 235,624,356.) Assumes nothing.
use Rattle.std.proofs.Common.{◌≡◌, ℕ, zero, suc, ◌+◌, ◌-◌, ◌*◌, ◌/◌, ◌<◌, ◌≤◌, Bool, true, false, leb, pos, refl, le_trans, mul-le-mul_right, add-mul, mul-le-mul, mul-le-mul_left, arith, leb-false, leb-true}
use Rattle.elements.specs.WorkingRule.{scale, term, alternating, sine_of, cosine_of, sine_divisor, cosine_divisor}
use Rattle.elements.proofs.SineAndCosine.{greatest_turn_angle, next_falls, square_most, computed_series, sine_divisor_least, cosine_divisor_least}
use Rattle.turns.proofs.NextTerm.{most, product_rise, quotient_rises, next_rises, next_rises_little}

-- ---- seven terms of one series

-- Term by term: each is no greater than the former.
module _ (divisor : ℕ → ℕ) (first z : ℕ) (falls : (j : ℕ) → z ≤ scale * divisor (suc j)) where
  pub falling : (j : ℕ) → term divisor first z (suc j) ≤ term divisor first z j
  unfolding term
  falling j = next_falls (term divisor first z j) z (divisor (suc j)) (falls j)

  -- The sum, of natural numbers.
  pub sum_of : (s : ℕ) → pos s ≡ alternating (term divisor first z) 6
      → s
      ≡ first + term divisor first z 2 + term divisor first z 4 + term divisor first z 6
      - (term divisor first z 1 + term divisor first z 3 + term divisor first z 5)
  unfolding term
  sum_of s e =
      let c =
      computed_series divisor first z
      (refl, falling 0)
      (refl, falling 1)
      (refl, falling 2)
      (refl, falling 3)
      (refl, falling 4)
      (refl, falling 5)
      refl
      refl
      refl
      refl
      refl
      refl in
      cc (e, c)

-- ---- the terms of two series, the second of a greater first term and a greater z

module _ (divisor : ℕ → ℕ) (a b z w : ℕ) (above : (j : ℕ) → 2 ≤ divisor (suc j)) (f : a ≤ b) (g : z ≤ w) (b-most : b ≤ most) (w_most : w ≤ most) where
  later_most : (j : ℕ) → term divisor b w j ≤ most
  unfolding term
  later_most zero = b-most
  later_most (suc j) =
      le_trans (next_falls (term divisor b w j) w (divisor (suc j)) (omega (arith, above j))) (later_most j)

  pub rises : (j : ℕ) → term divisor a z j ≤ term divisor b w j
  unfolding term
  rises zero = f
  rises (suc j) =
      next_rises (divisor (suc j)) (term divisor a z j) (term divisor b w j) z w (omega (arith, above j)) (rises j) g (later_most j) w_most

  pub rises_little : (j : ℕ)
      → 10 * (divisor (suc j) * term divisor b w (suc j))
      ≤ 10 * (divisor (suc j) * term divisor a z (suc j)) + 11 * (term divisor b w j - term divisor a z j) + 11 * (w - z) + 10 * divisor (suc j)
  unfolding term
  rises_little j =
      next_rises_little (divisor (suc j)) (term divisor a z j) (term divisor b w j) z w (omega (arith, above j)) (rises j) g (later_most j) w_most

-- ---- the sine

term_first : (divisor : ℕ → ℕ) (first z : ℕ) → term divisor first z 0 ≡ first
unfolding term
term_first divisor first z = refl

module _ (p q : ℕ) (later : p + 4848 ≤ q) (q-most : q ≤ greatest_turn_angle) where
  squares_rise : p * p / scale ≤ q * q / scale
  squares_rise = quotient_rises scale (omega arith) (mul-le-mul {n₁ = p} {m₁ = p} {n₂ = q} {m₂ = q} (omega arith) (omega arith))

  squares_rise_little : 10 * (q * q / scale - p * p / scale) ≤ 21 * (q - p) + 10
  squares_rise_little =
      let left : p * (q - p) ≤ greatest_turn_angle * (q - p) = mul-le-mul_right (q - p) (omega arith) in
      let right : (q - p) * q ≤ (q - p) * greatest_turn_angle = mul-le-mul_left (q - p) q-most in
      omega (arith, product_rise p q p q (omega arith) (omega arith))

  pub sine_rises : (s t : ℕ) → pos s ≡ sine_of p → pos t ≡ sine_of q → s < t
  unfolding sine_of
  sine_rises s t es et =
      let z = p * p / scale in
      let w = q * q / scale in
      let D = q - p in
      let w_most : w ≤ 1096632864 = square_most q q-most in
      let zw = squares_rise in
      let T : ℕ → ℕ = term sine_divisor p z in
      let U : ℕ → ℕ = term sine_divisor q w in
      let rise : (j : ℕ) → T j ≤ U j =
      rises sine_divisor p q z w sine_divisor_least (omega arith) zw (omega arith) (omega arith) in
      let little = rises_little sine_divisor p q z w sine_divisor_least (omega arith) zw (omega arith) (omega arith) in
      let b1 : 10000 * U 1 ≤ 10000 * T 1 + 5684 * D + 12000 =
      omega (arith, little 0, squares_rise_little, term_first sine_divisor p z, term_first sine_divisor q w) in
      let b2 : 10000 * U 2 ≤ 10000 * T 2 + 1468 * D + 11300 = omega (arith, little 1, squares_rise_little) in
      let b3 : 10000 * U 3 ≤ 10000 * T 3 + 589 * D + 10600 = omega (arith, little 2, squares_rise_little) in
      let b4 : 10000 * U 4 ≤ 10000 * T 4 + 330 * D + 10400 = omega (arith, little 3, squares_rise_little) in
      let b5 : 10000 * U 5 ≤ 10000 * T 5 + 214 * D + 10300 = omega (arith, little 4, squares_rise_little) in
      let falls : (j : ℕ) → z ≤ scale * sine_divisor (suc j) = λ j. omega (arith, sine_divisor_least j) in
      let fall : (j : ℕ) → T (suc j) ≤ T j = falling sine_divisor p z falls in
      let ss = sum_of sine_divisor p z falls s es in
      let st = sum_of sine_divisor q w (λ j. omega (arith, sine_divisor_least j)) t et in
      omega (arith, rise 2, rise 4, rise 6, fall 0, fall 2, fall 4, term_first sine_divisor p z)

-- ---- the cosine

-- Term j of the cosine of an angle whose square is v.
abbrev cosine_term : ℕ → ℕ → ℕ
cosine_term v j = term cosine_divisor scale v j

cosine_first : (v : ℕ) → cosine_term v 1 ≡ v / 2
unfolding term
cosine_first v = omega arith

cosine_second : (v : ℕ) → cosine_term v 2 ≡ cosine_term v 1 * v / 12000000000
unfolding term
cosine_second v = refl

-- The terms that are added rise no more than the first that is taken away.
abbrev Covered : ℕ → ℕ → Type 0
Covered z w =
    cosine_term z 1 + (cosine_term w 2 + cosine_term w 4 + cosine_term w 6)
    ≤ cosine_term w 1 + (cosine_term z 2 + cosine_term z 4 + cosine_term z 6)

module _ (z w : ℕ) (zw : z ≤ w) (w_most : w ≤ 1096632864) where
  falls_z : (j : ℕ) → z ≤ scale * cosine_divisor (suc j)
  falls_z j = omega (arith, cosine_divisor_least j)

  falls_w : (j : ℕ) → w ≤ scale * cosine_divisor (suc j)
  falls_w j = omega (arith, cosine_divisor_least j)

  -- No term is added where the square is small;
  added_near : w ≤ 154000 → Covered z w
  added_near h =
      let one : cosine_term w 1 ≤ 77000 = omega (arith, cosine_first w) in
      let two : cosine_term w 2 ≡ 0 = omega (arith, cosine_second w, mul-le-mul one h) in
      let fall : (j : ℕ) → cosine_term w (suc j) ≤ cosine_term w j = falling cosine_divisor scale w falls_w in
      omega (arith, fall 2, fall 3, fall 4, fall 5, cosine_first z, cosine_first w)

  -- and otherwise the squares of two angles are apart.
  added_far : z + 58 ≤ w → Covered z w
  added_far h =
      let Z = w - z in
      let little = rises_little cosine_divisor scale scale z w cosine_divisor_least (omega arith) zw (omega arith) (omega arith) in
      let b2 : 10000 * cosine_term w 2 ≤ 10000 * cosine_term z 2 + 1375 * Z + 10917 =
      omega (arith, little 1, cosine_first z, cosine_first w) in
      let b3 : 10000 * cosine_term w 3 ≤ 10000 * cosine_term z 3 + 418 * Z + 10401 = omega (arith, little 2) in
      let b4 : 10000 * cosine_term w 4 ≤ 10000 * cosine_term z 4 + 205 * Z + 10205 = omega (arith, little 3) in
      let b5 : 10000 * cosine_term w 5 ≤ 10000 * cosine_term z 5 + 125 * Z + 10125 = omega (arith, little 4) in
      let b6 : 10000 * cosine_term w 6 ≤ 10000 * cosine_term z 6 + 85 * Z + 10085 = omega (arith, little 5) in
      omega (arith, cosine_first z, cosine_first w)

  -- So the cosine does not rise.
  not_above : (s t : ℕ) → pos s ≡ alternating (term cosine_divisor scale z) 6 → pos t ≡ alternating (term cosine_divisor scale w) 6
      → Covered z w → t ≤ s
  not_above s t es et added =
      let ss = sum_of cosine_divisor scale z falls_z s es in
      let st = sum_of cosine_divisor scale w falls_w t et in
      let rise = rises cosine_divisor scale scale z w cosine_divisor_least (omega arith) zw (omega arith) (omega arith) in
      omega (arith, rise 3, rise 5)

module _ (p q : ℕ) (later : p + 4848 ≤ q) (q-most : q ≤ greatest_turn_angle) where
  squares_rise_much : 12300000 ≤ q → p * p / scale + 58 ≤ q * q / scale
  squares_rise_much h =
      let left : (p + 4848) * q ≤ q * q = mul-le-mul_right q later in
      let right : p * p ≤ p * q = mul-le-mul_left p (omega arith) in
      omega (arith, add-mul p 4848 q)

  added : (b : Bool) → leb 12300000 q ≡ b → Covered (p * p / scale) (q * q / scale)
  added true e =
      added_far (p * p / scale) (q * q / scale) (squares_rise p q later q-most) (square_most q q-most)
      (squares_rise_much (leb-true 12300000 q e))
  added false e =
      let h = leb-false 12300000 q e in
      let small : q * q ≤ 12299999 * 12299999 =
      mul-le-mul {n₁ = q} {m₁ = q} {n₂ = 12299999} {m₂ = 12299999} (omega arith) (omega arith) in
      added_near (p * p / scale) (q * q / scale) (squares_rise p q later q-most) (square_most q q-most) (omega arith)

  pub cosine_falls : (s t : ℕ) → pos s ≡ cosine_of p → pos t ≡ cosine_of q → t ≤ s
  unfolding cosine_of
  cosine_falls s t es et =
      not_above (p * p / scale) (q * q / scale) (squares_rise p q later q-most) (square_most q q-most) s t es et
      (added (leb 12300000 q) refl)
