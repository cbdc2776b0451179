-- The largest number that passes a test: it passes, no greater one does, and no other number is so; and the root by its square and the next
-- one. By induction on the bound. Assumes nothing.
use mathlib.Core.Path.{◌≡◌, refl, sym}
use mathlib.Core.Bool.{Bool, true, false, cond}
use Prim.Native.Nat.{ℕ, zero, suc, ◌+◌, ◌*◌, ◌≤◌, ◌<◌}
use native.Mathlib.Nat.{mul-le-mul, lt_of_lt_of_le, le_trans}
use native.Mathlib.Numerals.{add-one}
use native.Mathlib.Omega.{arith}
use lib.Dec.{leb}
use borrow.Author.Tests.{leb-true, leb-false, le-leb, lt-leb}
use Rattle.arithmetic.specs.Largest.{largest, root_of}

pub largest_step : (test : ℕ → Bool) (n : ℕ) → largest test (suc n) ≡ cond (test (suc n)) (suc n) (largest test n)
unfolding largest
largest_step test n = refl

pub largest_most : (test : ℕ → Bool) (n : ℕ) → largest test n ≤ n
unfolding largest
largest_most test zero = omega arith
largest_most test (suc n) = go (test (suc n)) (largest_most test n)
  where
    go : (t : Bool) → largest test n ≤ n → cond t (suc n) (largest test n) ≤ suc n
    go true h = omega arith
    go false h = omega arith

-- It passes where 0 does,
pub largest_passes : (test : ℕ → Bool) (n : ℕ) → test zero ≡ true → test (largest test n) ≡ true
unfolding largest
largest_passes test zero e = e
largest_passes test (suc n) e = go (test (suc n)) refl (largest_passes test n e)
  where
    go : (t : Bool) → test (suc n) ≡ t → test (largest test n) ≡ true → test (cond t (suc n) (largest test n)) ≡ true
    go true passes earlier = passes
    go false fails earlier = earlier

-- and no greater one does.
pub largest_last : (test : ℕ → Bool) (n k : ℕ) → largest test n < k → k ≤ n → test k ≡ false
unfolding largest
largest_last test zero k above most = absurd (omega arith)
largest_last test (suc n) k above most = go (test (suc n)) refl above (leb k n) refl (λ a m. largest_last test n k a m)
  where
    go : (t : Bool) → test (suc n) ≡ t → cond t (suc n) (largest test n) < k → (l : Bool) → leb k n ≡ l
        → (largest test n < k → k ≤ n → test k ≡ false) → test k ≡ false
    go true passes a l e earlier = absurd (omega arith)
    go false fails a true e earlier = earlier a (leb-true k n e)
    go false fails a false e earlier = let same : k ≡ suc n = omega (arith, leb-false k n e) in rw same fails

-- So the next one does not, where the one after the bound does not either.
pub largest_next : (test : ℕ → Bool) (n : ℕ) → test (suc n) ≡ false → test (suc (largest test n)) ≡ false
largest_next test n beyond = go (leb (suc (largest test n)) n) refl
  where
    go : (l : Bool) → leb (suc (largest test n)) n ≡ l → test (suc (largest test n)) ≡ false
    go true e = largest_last test n (suc (largest test n)) (omega arith) (leb-true _ _ e)
    go false e =
        let same : suc (largest test n) ≡ suc n = omega (arith, leb-false (suc (largest test n)) n e, largest_most test n) in
        rw same beyond

-- A number that passes, or zero, is the largest where none of the greater ones passes.
pub largest_is : (test : ℕ → Bool) (n s : ℕ) → s ≤ n → (zero < s → test s ≡ true) → ((k : ℕ) → s < k → k ≤ n → test k ≡ false)
    → largest test n ≡ s
unfolding largest
largest_is test zero s h passes none = omega arith
largest_is test (suc n) s h passes none =
    go (leb s n) refl (λ below. largest_is test n s below passes (λ k l m. none k l (omega arith)))
  where
    go : (t : Bool) → leb s n ≡ t → (s ≤ n → largest test n ≡ s) → largest test (suc n) ≡ s
    go true e below =
        rw (none (suc n) (omega (arith, leb-true s n e)) (omega arith)) (below (leb-true s n e))
    go false e below =
        let same : s ≡ suc n = omega (arith, leb-false s n e) in
        let passed : test (suc n) ≡ true = rw same at (passes (omega arith)) in
        rw passed (sym same)

-- ---- the root

root_most : (r : ℕ) → r ≤ r * r
root_most zero = omega arith
root_most (suc r) =
    omega (arith, mul-le-mul {n₁ = suc r} {m₁ = 1} {n₂ = suc r} {m₂ = suc r} (omega arith) (omega arith))

pub root_is : (n r : ℕ) → r * r ≤ n → n < (r + 1) * (r + 1) → r ≡ root_of n
unfolding root_of
root_is n r low high =
    sym
    (largest_is (λ k. leb (k * k) n) n r (le_trans (root_most r) low)
    (λ above. le-leb (r * r) n low)
    (λ k above most.
    lt-leb (k * k) n
    (lt_of_lt_of_le high
    (mul-le-mul {n₁ = r + 1} {m₁ = r + 1} {n₂ = k} {m₂ = k} (omega arith) (omega arith)))))

-- So it is the one whose square is n or less, while the next one's is above n.
pub root_within : (n : ℕ) → (root_of n * root_of n ≤ n) × (n < (root_of n + 1) * (root_of n + 1))
unfolding root_of
root_within n =
    let test : ℕ → Bool = λ r. leb (r * r) n in
    let r = largest test n in
    let here = leb-true (r * r) n (largest_passes test n (le-leb 0 n (omega arith))) in
    let next = leb-false (suc r * suc r) n (largest_next test n (lt-leb (suc n * suc n) n (omega (arith, root_most (suc n))))) in
    (here, rw (add-one r) next)
