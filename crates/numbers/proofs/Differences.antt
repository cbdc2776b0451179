-- Differences of two natural numbers, as whole numbers. Assumes nothing.
use mathlib.Core.Path.{◌≡◌, refl, sym, ◌∙◌, ap}
use mathlib.Core.Bool.{Bool, true, false}
use Prim.Native.Nat.{ℕ, zero, suc, ◌+◌, ◌-◌, ◌≤◌, ◌<◌}
use native.Mathlib.Omega.{arith}
use lib.Dec.{leb}
use lib.IntN.{ℤ, pos, negsuc, neg_ℤ, ◌+ℤ◌, ◌-ℤ◌, +ℤ_assoc, neg_ℤ-+ℤ}
use lib.Signed.{le_z}
use borrow.Author.Tests.{le-leb, lt-leb, le-ltb, lt-ltb, leb-true, leb-false}

-- A number less one that is no greater.
pub minus_le : {a b : ℕ} → b ≤ a → pos a -ℤ pos b ≡ pos (a - b)
minus_le {a} {b = zero} h = ap pos (omega arith)
minus_le {a} {b = suc b} h = rw (le-ltb a (suc b) h)

-- A number less a greater one is below zero.
pub minus_lt : {a b : ℕ} → a < b → pos a -ℤ pos b ≡ negsuc (b - suc a)
minus_lt {a} {b = zero} h = absurd (omega arith)
minus_lt {a} {b = suc b} h = rw (lt-ltb a (suc b) h)

-- Less two numbers, one after the other, is less their sum.
pub minus_minus : (a b c : ℕ) → pos a -ℤ pos b -ℤ pos c ≡ pos a -ℤ pos (b + c)
minus_minus a b c =
    +ℤ_assoc (pos a) (neg_ℤ (pos b)) (neg_ℤ (pos c)) ∙ ap (λ (z : ℤ). pos a +ℤ z) (sym (neg_ℤ-+ℤ (pos b) (pos c)))

-- A test on a difference is one on a sum.
pub reaches : (a b k : ℕ) → le_z (pos k) (pos a -ℤ pos b) ≡ leb (b + k) a
reaches a b k = go (leb b a) refl
  where
    go : (t : Bool) → leb b a ≡ t → le_z (pos k) (pos a -ℤ pos b) ≡ leb (b + k) a
    go true e =
        let h = leb-true b a e in
        rw (minus_le h) (near (leb k (a - b)) refl h)
      where
        near : (t : Bool) → leb k (a - b) ≡ t → b ≤ a → leb k (a - b) ≡ leb (b + k) a
        near true q h =
            let r = leb-true k (a - b) q in
            q ∙ sym (le-leb (b + k) a (omega arith))
        near false q h =
            let r = leb-false k (a - b) q in
            q ∙ sym (lt-leb (b + k) a (omega arith))
    go false e =
        let h = leb-false b a e in
        rw (minus_lt h) (sym (lt-leb (b + k) a (omega arith)))

pub stays_below : (a b k : ℕ) → le_z (pos a -ℤ pos b) (pos k) ≡ leb a (b + k)
stays_below a b k = go (leb b a) refl
  where
    go : (t : Bool) → leb b a ≡ t → le_z (pos a -ℤ pos b) (pos k) ≡ leb a (b + k)
    go true e =
        let h = leb-true b a e in
        rw (minus_le h) (near (leb (a - b) k) refl h)
      where
        near : (t : Bool) → leb (a - b) k ≡ t → b ≤ a → leb (a - b) k ≡ leb a (b + k)
        near true q h =
            let r = leb-true (a - b) k q in
            q ∙ sym (le-leb a (b + k) (omega arith))
        near false q h =
            let r = leb-false (a - b) k q in
            q ∙ sym (lt-leb a (b + k) (omega arith))
    go false e =
        let h = leb-false b a e in
        rw (minus_lt h) (sym (le-leb a (b + k) (omega arith)))
