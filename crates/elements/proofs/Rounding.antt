-- The rounding of the last division of an element or an offset: how it is computed, and what callers use of it. Assumes nothing.
use mathlib.Core.Path.{◌≡◌, sym, ap}
use Prim.Native.Nat.{ℕ, zero, suc, ◌+◌, ◌*◌, ◌/◌, ◌%◌, ◌≤◌, ◌<◌}
use native.Mathlib.Nat.{mul-pos, mul-div-mul_left, div-lt_iff_lt-mul, div-mul-le_self, le-div_iff_mul-le}
use native.Mathlib.Omega.{arith}
use lib.Dec.{lit<}
use lib.IntN.{ℤ, pos, ◌-ℤ◌}
use Rattle.numbers.specs.Whole.{Between}
use Rattle.numbers.proofs.Ranges.{natural, difference_between}
use Rattle.numbers.proofs.Products.{products}
use Rattle.elements.specs.WorkingRule.{rounded}

-- Half of an even divisor is added, then it is divided.
pub half_added : (n m : ℕ) → m % 2 ≡ 0 → pos ((n + m / 2) / m) ≡ rounded (pos n) m
unfolding rounded
half_added n m even =
    let twice : 2 * (n + m / 2) ≡ 2 * n + m = omega arith in
    ap pos (rw (sym twice) (sym (mul-div-mul_left (n + m / 2) m (lit< tt))))

-- A number of `most` units and no more is rounded to `most` or less, and not below zero.
pub rounded_between : {z : ℤ} {least h : ℕ} (m most : ℕ) → zero < m → Between z least h → h ≤ m * most → Between (rounded z m) 0 most
unfolding rounded
rounded_between m most above b o =
    let below : (2 * b.value + m) / (2 * m) < suc most =
    (div-lt_iff_lt-mul {k = 2 * m} {x = 2 * b.value + m} {y = suc most} (mul-pos (omega arith) above)).1
    (simp products (omega (arith, b.high, o))) in
    rw b.same (natural ((2 * b.value + m) / (2 * m)) (omega arith) (omega arith))

-- The greater number is not rounded to less.
pub rounded_keeps_order : {a b u v : ℕ} (m : ℕ) → zero < m → pos u ≡ rounded (pos a) m → pos v ≡ rounded (pos b) m → a ≤ b → u ≤ v
unfolding rounded
rounded_keeps_order {a} {b} {u} {v} m above p q h =
    let eu : u ≡ (2 * a + m) / (2 * m) = cc in
    let ev : v ≡ (2 * b + m) / (2 * m) = cc in
    rw (eu, ev)
    ((le-div_iff_mul-le {k = 2 * m} {x = (2 * a + m) / (2 * m)} {y = 2 * b + m} (mul-pos (omega arith) above)).1
    (omega (arith, div-mul-le_self (2 * a + m) (2 * m))))

-- What is left of one rounding after another that is no greater.
pub rest_between : (n k m most : ℕ) → zero < m → k ≤ n → n ≤ m * most → Between (rounded (pos n) m -ℤ rounded (pos k) m) 0 most
rest_between n k m most above o h =
    let u = rounded_between m most above (natural n {least = 0} {most = n} (omega arith) (omega arith)) h in
    let v = rounded_between m most above (natural k {least = 0} {most = n} (omega arith) o) h in
    difference_between u v (rounded_keeps_order m above (sym v.same) (sym u.same) o)
