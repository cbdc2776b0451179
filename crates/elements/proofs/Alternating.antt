-- Alternating sums of any number of terms: the first term less the alternating sum of the rest. So a sum of falling terms lies between
-- its first term and that less the second. Assumes nothing.
use mathlib.Core.Path.{◌≡◌, refl, sym, ◌∙◌, ap}
use mathlib.Core.Bool.{Bool, true, false, not, cond}
use Prim.Native.Nat.{ℕ, zero, suc, ◌-◌, ◌%◌, ◌≤◌}
use native.Mathlib.Omega.{arith}
use lib.Dec.{eqb}
use lib.IntN.{ℤ, pos, neg_ℤ, neg_ℤ-neg_ℤ, neg_ℤ-+ℤ, ◌+ℤ◌, ◌-ℤ◌, +ℤ_assoc}
use borrow.Author.Tests.{eqb-true, eqb-false, eq-eqb, ne_eqb}
use Rattle.numbers.specs.Whole.{Between}
use Rattle.numbers.proofs.Differences.{minus_le}
use Rattle.numbers.proofs.Ranges.{natural, widen}
use Rattle.elements.specs.WorkingRule.{alternating}

take_sum : (a b c : ℤ) → a -ℤ b -ℤ c ≡ a -ℤ (b +ℤ c)
take_sum a b c = +ℤ_assoc a (neg_ℤ b) (neg_ℤ c) ∙ ap (λ (z : ℤ). a +ℤ z) (sym (neg_ℤ-+ℤ b c))

take_difference : (a b c : ℤ) → a -ℤ b +ℤ c ≡ a -ℤ (b -ℤ c)
take_difference a b c =
    +ℤ_assoc a (neg_ℤ b) c
    ∙ ap (λ (z : ℤ). a +ℤ z) (ap (λ (z : ℤ). neg_ℤ b +ℤ z) (sym (neg_ℤ-neg_ℤ c)) ∙ sym (neg_ℤ-+ℤ b (neg_ℤ c)))

-- The next number is odd exactly where this one is not.
parity : (n : ℕ) → eqb (suc n % 2) 1 ≡ not (eqb (n % 2) 1)
parity n = go (eqb (n % 2) 1) refl
  where
    go : (o : Bool) → eqb (n % 2) 1 ≡ o → eqb (suc n % 2) 1 ≡ not o
    go true e = let odd = eqb-true (n % 2) 1 e in ne_eqb (suc n % 2) 1 (λ q. omega arith)
    go false e = let even = eqb-false (n % 2) 1 e in eq-eqb (suc n % 2) 1 (omega arith)

signs : (o : Bool) (a s r x : ℤ) → s ≡ a -ℤ r → cond (not o) (s -ℤ x) (s +ℤ x) ≡ a -ℤ cond o (r -ℤ x) (r +ℤ x)
signs true a s r x e = ap (λ (z : ℤ). z +ℤ x) e ∙ take_difference a r x
signs false a s r x e = ap (λ (z : ℤ). z -ℤ x) e ∙ take_sum a r x

pub first_less_rest : (t : ℕ → ℕ) (n : ℕ) → alternating t (suc n) ≡ pos (t 0) -ℤ alternating (λ j. t (suc j)) n
unfolding alternating
first_less_rest t zero = refl
first_less_rest t (suc n) =
    let x = pos (t (suc (suc n))) in
    let s = alternating t (suc n) in
    ap (λ (o : Bool). cond o (s -ℤ x) (s +ℤ x)) (parity (suc n))
    ∙ signs (eqb (suc n % 2) 1) (pos (t 0)) s (alternating (λ j. t (suc j)) n) x (first_less_rest t n)

-- Falling terms: not below zero and not above the first, nor below the first less the second.
less_rest : (t : ℕ → ℕ) (n : ℕ) → t 1 ≤ t 0 → Between (alternating (λ j. t (suc j)) n) 0 (t 1) → Between (alternating t (suc n)) (t 0 - t 1) (t 0)
less_rest t n h rest =
    rw (first_less_rest t n, rest.same, minus_le {a = t 0} {b = rest.value} (omega (arith, rest.high)))
    (natural (t 0 - rest.value) (omega (arith, rest.high)) (omega arith))

pub falling_between : (t : ℕ → ℕ) → ((j : ℕ) → t (suc j) ≤ t j) → (n : ℕ) → Between (alternating t n) 0 (t 0)
unfolding alternating
falling_between t falls zero = natural (t 0) (omega arith) (omega arith)
falling_between t falls (suc n) =
    widen (less_rest t n (falls 0) (falling_between (λ j. t (suc j)) (λ j. falls (suc j)) n)) (omega arith) (omega arith)

pub falling_least : (t : ℕ → ℕ) → ((j : ℕ) → t (suc j) ≤ t j) → (n : ℕ) → Between (alternating t (suc n)) (t 0 - t 1) (t 0)
falling_least t falls n = less_rest t n (falls 0) (falling_between (λ j. t (suc j)) (λ j. falls (suc j)) n)
