-- A power series, with powers that grow by two over their factorials: the rule's seven terms against the exact sum of seven and more. Assumes
-- nothing.
use mathlib.Core.Path.{◌≡◌, ◌∙◌, ap, subst}
use Prim.Native.Nat.{ℕ, zero, suc, ◌+◌, ◌-◌, ◌*◌, ◌≤◌, ◌<◌}
use native.Mathlib.Nat.{mul_comm, mul-le-mul, mul-le-mul_left, mul-pos, le_of_mul-le-mul_right}
use native.Mathlib.Omega.{arith}
use lib.Dec.{lit<}
use lib.IntN.{pos}
use Rattle.numbers.proofs.Products.{products}
use Rattle.elements.specs.WorkingRule.{scale, term, alternating}
use Rattle.numbers.specs.Fractions.{Fraction, ◌⊗◌, ◌↑◌, ◌⊘◌}
use Rattle.accuracy.specs.ExactElements.{alternating_sum, factorial}
use Rattle.accuracy.proofs.Parts.{plus, minus, as_pos}
use Rattle.accuracy.proofs.Nearness.{Near, Same}
use Rattle.accuracy.proofs.Powers.{part_top, part_under, next_term}
use Rattle.accuracy.proofs.Terms.{Bound, Term, reach, next, reaches, term_same, term_next}
use Rattle.accuracy.proofs.Series.{errors, Smaller, near_alternating, near_further}

-- What is known of term j of the rule, computed from the first term and the square.
abbrev pub bound_at : (ℕ → ℕ) → Bound → Bound → ℕ → Bound
bound_at divisor first square zero = first
bound_at divisor first square (suc j) = next (bound_at divisor first square j) square (divisor (suc j))

-- A product by w over c is the g-th part at most, where w is at most c over g; and so is any fraction of the same value.
smaller_side : (g t d w e c t' d' : ℕ) → zero < e → zero < c → t * w * d' ≡ t' * (d * e * c) → g * w ≤ c * e → g * t' * d ≤ t * d'
smaller_side g t d w e c t' d' pe pc s h =
    le_of_mul-le-mul_right
    (simp products (omega (arith, simp products at (ap (λ (n : ℕ). g * n) s), simp products at (mul-le-mul_left (t * d') h))))
    (mul-pos pe pc)

-- If t is at most r, scaled, and t' its g-th part at most, then 2,000 times t' is at most T where r is at most T times g over 2,000.
small_side : (g S t d r t' d' T : ℕ) → zero < g → zero < d → S * t ≤ r * d → g * t' * d ≤ t * d' → 2000 * r ≤ T * g → 2000 * (S * t') ≤ T * d'
small_side g S t d r t' d' T pg pd h k l =
    le_of_mul-le-mul_right
    (simp products
    (omega (
      arith,
      simp products at (mul-le-mul_left (2000 * d') h),
      simp products at (mul-le-mul_left (2000 * S) k),
      simp products at (mul-le-mul_left (d * d') l),
    )))
    (mul-pos pg pd)

-- Equal cross products of a product over c and another fraction, none below zero.
crossed : (t w : Fraction) {t' : Fraction} (c : ℕ) → zero < c → minus t.top ≡ zero → minus w.top ≡ zero → minus t'.top ≡ zero → Same (t ⊗ w ⊘ c) t'
    → plus t.top * plus w.top * t'.under ≡ plus t'.top * (t.under * w.under * c)
unfolding ◌⊗◌
crossed t w {t'} c above z z' z'' s =
    let top : (t ⊗ w ⊘ c).top ≡ pos (plus t.top * plus w.top) =
    part_top (t ⊗ w) above ∙ rw (as_pos t.top z, as_pos w.top z') in
    omega (arith, rw (top, part_under (t ⊗ w) above, z'') at s.cross)

bounded : (g w e c r : ℕ) → scale * w ≤ r * e → g * r ≤ scale * c → g * w ≤ c * e
bounded g w e c r h k =
    omega (arith, simp products at (mul-le-mul_left g h), simp products at (mul-le-mul_left e k), mul_comm c e)

module _ (divisor exponent : ℕ → ℕ) (steps : (j : ℕ) → exponent (suc j) ≡ exponent j + 2) (divides : (j : ℕ) → divisor (suc j) ≡ (exponent j + 1) * (exponent j + 2)) where
  -- Exact term j.
  unfoldable pub exact : Fraction → ℕ → Fraction
  exact v j = v ↑ exponent j ⊘ factorial (exponent j)

  module _ {first z : ℕ} (v : Fraction) (b c : Bound) (sign : minus v.top ≡ zero) (t₀ : Term first (exact v 0) b) (square : Term z (v ↑ 2) c) where
    above : (j : ℕ) → zero < divisor (suc j)
    above j = rw (divides j) (mul-pos (omega arith) (omega arith))

    -- The next exact term, from the former.
    follows : (j : ℕ) → Same (exact v j ⊗ v ↑ 2 ⊘ divisor (suc j)) (exact v (suc j))
    unfolding exact
    follows j = rw (steps j, divides j) (next_term v sign (exponent j))

    terms : (j : ℕ) → Term (term divisor first z j) (exact v j) (bound_at divisor b c j)
    unfolding term
    terms zero = t₀
    terms (suc j) = term_same (follows j) (term_next (divisor (suc j)) (above j) (terms j) square)

    -- It is the g-th part at most, where the square is at most the divisor over g.
    smaller : (g j : ℕ) → g * reach c ≤ scale * divisor (suc j) → Smaller g (exact v (suc j)) (exact v j)
    smaller g j h =
        record {
          part =
              smaller_side g (plus (exact v j).top) (exact v j).under (plus (v ↑ 2).top) (v ↑ 2).under (divisor (suc j))
              (plus (exact v (suc j)).top)
              (exact v (suc j)).under
              (v ↑ 2).above
              (above j)
              (crossed _ _ (divisor (suc j)) (above j) (terms j).sign square.sign (terms (suc j)).sign (follows j))
              (bounded g (plus (v ↑ 2).top) (v ↑ 2).under (divisor (suc j)) (reach c) (reaches square) h);
        }

    -- The divisors of the terms after the eighth: each of these is at most half of the one before.
    later : (i : ℕ) → 7 ≤ i → 12 ≤ divisor (suc i)
    later zero h = elim h [ ]
    later (suc i) h = rw (divides (suc i), steps i) (mul-le-mul {n₁ = 3} {m₁ = 4} (omega arith) (omega arith))

    -- The eighth term is at most the 160th part of the seventh; T is room for it and all further ones.
    pub near_series : (n T : ℕ) → 7 ≤ n → reach c ≤ 2 * scale → 160 * reach c ≤ scale * divisor 7 → 2000 * reach (bound_at divisor b c 6) ≤ T * 160
        → Near scale (alternating (term divisor first z) 6) (alternating_sum (exact v) n) ((errors (bound_at divisor b c) 6).short + T) ((errors (bound_at divisor b c) 6).over + T)
    near_series n T seven low part small =
        let sum = near_alternating (term divisor first z) (exact v) (bound_at divisor b c) terms 6 in
        let eighth =
        small_side 160 scale (plus (exact v 6).top) (exact v 6).under (reach (bound_at divisor b c 6)) (plus (exact v 7).top) (exact v 7).under T (lit< tt) (exact v 6).above (reaches (terms 6)) (smaller 160 6 part).part small in
        subst
        (λ (k : ℕ). Near scale (alternating (term divisor first z) 6) (alternating_sum (exact v) k) ((errors (bound_at divisor b c) 6).short + T) ((errors (bound_at divisor b c) 6).over + T))
        (omega arith)
        (near_further (alternating (term divisor first z) 6) (exact v) 7 T (λ i. (terms i).sign) (λ i h. smaller 2 i (omega (arith, low, later i h))) eighth sum (n - 7))
