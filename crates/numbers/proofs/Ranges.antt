-- Whole numbers in a range of natural numbers. Assumes nothing.
use mathlib.Core.Path.{◌≡◌, refl}
use Prim.Native.Nat.{ℕ, ◌+◌, ◌-◌, ◌*◌, ◌/◌, ◌≤◌}
use native.Mathlib.Nat.{mul-le-mul, mul-le-mul_right, div-le_of_le-mul}
use native.Mathlib.Omega.{arith}
use lib.IntN.{ℤ, pos, ◌+ℤ◌, ◌-ℤ◌, ◌*ℤ◌}
use Rattle.numbers.specs.Whole.{◌÷◌, Between}
use Rattle.numbers.proofs.Differences.{minus_le}

-- A number whose whole number is in a range is in that range.
pub at_least : {r least most : ℕ} {z : ℤ} → pos r ≡ z → Between z least most → least ≤ r
at_least {r} {z} e b = let q : r ≡ b.value = cc b.same in omega (arith, b.low)

pub at_most : {r least most : ℕ} {z : ℤ} → pos r ≡ z → Between z least most → r ≤ most
at_most {r} {z} e b = let q : r ≡ b.value = cc b.same in omega (arith, b.high)

-- A natural number in a range.
abbrev pub natural : (n : ℕ) {least most : ℕ} → least ≤ n → n ≤ most → Between (pos n) least most
natural n l h = record { value = n; same = refl; low = l; high = h }

-- A range that is wider.
pub widen : {z : ℤ} {least most least' most' : ℕ} → Between z least most → least' ≤ least → most ≤ most' → Between z least' most'
widen b l h =
    record { value = b.value; same = b.same; low = omega (arith, b.low); high = omega (arith, b.high) }

-- ---- sums, differences, products and quotients of numbers in a range

module _ {a b : ℤ} {l h l' h' : ℕ} (u : Between a l h) (v : Between b l' h') where
  pub sum_between : Between (a +ℤ b) (l + l') (h + h')
  sum_between =
      rw (u.same, v.same) (natural (u.value + v.value) (omega (arith, u.low, v.low)) (omega (arith, u.high, v.high)))

  pub difference_between : v.value ≤ u.value → Between (a -ℤ b) 0 h
  difference_between o =
      rw (u.same, v.same, minus_le o) (natural (u.value - v.value) (omega arith) (omega (arith, u.high)))

  pub product_between : Between (a *ℤ b) (l * l') (h * h')
  product_between =
      rw (u.same, v.same) (natural (u.value * v.value) (mul-le-mul u.low v.low) (mul-le-mul u.high v.high))

  pub quotient_between : (most : ℕ) → h ≤ l' * most → Between (a ÷ b) 0 most
  quotient_between most o =
      rw (u.same, v.same)
      (natural (u.value / v.value) (omega arith)
      (div-le_of_le-mul v.value (omega (arith, u.high, mul-le-mul_right most v.low))))
