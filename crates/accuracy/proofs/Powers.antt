-- Powers of a fraction that is not below zero, and how the terms of a power series follow from each other. Assumes nothing.
use mathlib.Core.Path.{◌≡◌, refl, sym, ◌∙◌, ap}
use Prim.Native.Nat.{ℕ, zero, suc, ◌+◌, ◌*◌, ◌^◌, ◌<◌}
use native.Mathlib.Nat.{mul_assoc, mul-pos, zero-lt-suc, not-suc-le-zero, add-zero, add-suc, mul-one, one-mul, pow-zero, pow-suc}
use native.Mathlib.Numerals.{add-one, add-two}
use native.Mathlib.Omega.{arith}
use lib.Dec.{lit<}
use lib.IntN.{pos}
use Rattle.numbers.proofs.Products.{products}
use Rattle.numbers.specs.Fractions.{Fraction, whole, ◌⊗◌, ◌↑◌, ◌⊘◌}
use Rattle.accuracy.specs.ExactElements.{factorial}
use Rattle.accuracy.proofs.Parts.{plus, minus, as_pos}
use Rattle.accuracy.proofs.Nearness.{Same}

-- ---- a quotient by a natural number

module _ (u : Fraction) where
  pub part_top : {n : ℕ} → zero < n → (u ⊘ n).top ≡ u.top
  unfolding ◌⊘◌
  part_top {n = zero} h = absurd (not-suc-le-zero h)
  part_top {n = suc n} h = refl

  pub part_under : {n : ℕ} → zero < n → (u ⊘ n).under ≡ u.under * n
  unfolding ◌⊘◌
  part_under {n = zero} h = absurd (not-suc-le-zero h)
  part_under {n = suc n} h = refl

-- ---- powers

natural_power_sum : (n a b : ℕ) → n ^ a * n ^ b ≡ n ^ (a + b)
natural_power_sum n a zero = rw (pow-zero n, add-zero a) (mul-one _)
natural_power_sum n a (suc b) =
    rw (pow-suc n b, add-suc a b, pow-suc n (a + b)) (sym (mul_assoc _ _ _) ∙ ap (λ (m : ℕ). m * n) (natural_power_sum n a b))

module _ (v : Fraction) (sign : minus v.top ≡ zero) where
  pub power_top : (n : ℕ) → (v ↑ n).top ≡ pos (plus v.top ^ n)
  unfolding ◌↑◌ ◌⊗◌ whole
  power_top zero = rw (pow-zero (plus v.top))
  power_top (suc n) = rw (power_top n, as_pos v.top sign) (ap pos (sym (pow-suc (plus v.top) n)))

  pub power_under : (n : ℕ) → (v ↑ n).under ≡ v.under ^ n
  unfolding ◌↑◌ ◌⊗◌ whole
  power_under zero = sym (pow-zero v.under)
  power_under (suc n) = ap (λ (m : ℕ). m * v.under) (power_under n) ∙ sym (pow-suc v.under n)

-- Fractions with natural numbers on top.
pub same_naturals : {u v : Fraction} (a b : ℕ) → u.top ≡ pos a → v.top ≡ pos b → a * v.under ≡ b * u.under → Same u v
same_naturals {u} {v} a b p q e = record { cross = rw (p, q) (omega (arith, e)) }

-- A product of powers, the first power, and a quotient by one.
pub power_sum : (v : Fraction) → minus v.top ≡ zero → (a b : ℕ) → Same (v ↑ a ⊗ v ↑ b ⊘ 1) (v ↑ (a + b))
unfolding ◌⊗◌
power_sum v sign a b =
    let n : ℕ = plus v.top in
    same_naturals (n ^ a * n ^ b) (n ^ (a + b))
    (part_top (v ↑ a ⊗ v ↑ b) (lit< tt) ∙ rw (power_top v sign a, power_top v sign b))
    (power_top v sign (a + b))
    (rw (power_under v sign (a + b), part_under (v ↑ a ⊗ v ↑ b) (lit< tt), power_under v sign a, power_under v sign b, mul-one)
    (λ i. natural_power_sum n a b i * sym (natural_power_sum v.under a b) i))

pub power_one : (v : Fraction) → minus v.top ≡ zero → Same v (v ↑ 1)
power_one v sign =
    same_naturals (plus v.top) (plus v.top ^ 1) (as_pos v.top sign) (power_top v sign 1)
    (rw (power_under v sign 1) (λ i. first (plus v.top) i * sym (first v.under) i))
  where
    first : (n : ℕ) → n ≡ n ^ 1
    first n = sym (rw (pow-suc n 0, pow-zero n) (one-mul n))

pub over_one : (v : Fraction) → Same v (v ⊘ 1)
over_one v =
    record { cross = rw (part_top v (lit< tt), part_under v (lit< tt), mul-one) (omega arith) }

-- ---- factorials

pub factorial_above : (n : ℕ) → zero < factorial n
unfolding factorial
factorial_above zero = zero-lt-suc zero
factorial_above (suc n) = mul-pos (zero-lt-suc n) (factorial_above n)

two_more : (a : ℕ) → factorial (a + 2) ≡ factorial a * ((a + 1) * (a + 2))
unfolding factorial
two_more a = rw (add-two, add-one) (turned (suc a) (suc (suc a)) (factorial a))
  where
    turned : (x y f : ℕ) → y * (x * f) ≡ f * (x * y)
    turned x y f = simp products

-- ---- the terms of a power series: powers a and a + 2 over their factorials

module _ (v : Fraction) (sign : minus v.top ≡ zero) (a : ℕ) where
  term_top : (v ↑ a ⊘ factorial a).top ≡ pos (plus v.top ^ a)
  term_top = part_top (v ↑ a) (factorial_above a) ∙ power_top v sign a

  term_under : (v ↑ a ⊘ factorial a).under ≡ v.under ^ a * factorial a
  term_under = part_under (v ↑ a) (factorial_above a) ∙ ap (λ (n : ℕ). n * factorial a) (power_under v sign a)

arranged : (p p' r d d' e f c : ℕ) → p * p' ≡ r → d * d' ≡ e → p * p' * (e * (f * c)) ≡ r * (d * f * d' * c)
arranged p p' r d d' e f c h k = rw (sym h, sym k) (simp products)

-- Each next term is the former times the square, over the two new factors.
pub next_term : (v : Fraction) → minus v.top ≡ zero → (a : ℕ)
    → Same ((v ↑ a ⊘ factorial a) ⊗ v ↑ 2 ⊘ ((a + 1) * (a + 2))) (v ↑ (a + 2) ⊘ factorial (a + 2))
unfolding ◌⊗◌
next_term v sign a =
    let n : ℕ = plus v.top in
    let c : ℕ = (a + 1) * (a + 2) in
    let above : zero < c = mul-pos (omega arith) (omega arith) in
    same_naturals (n ^ a * n ^ 2) (n ^ (a + 2))
    (part_top ((v ↑ a ⊘ factorial a) ⊗ v ↑ 2) above ∙ rw (term_top v sign a, power_top v sign 2))
    (term_top v sign (a + 2))
    (rw (term_under v sign (a + 2), part_under ((v ↑ a ⊘ factorial a) ⊗ v ↑ 2) above, term_under v sign a, power_under v sign 2, two_more a)
    (arranged _ _ _ _ _ _ (factorial a) c (natural_power_sum n a 2) (natural_power_sum v.under a 2)))
