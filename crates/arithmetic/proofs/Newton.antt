-- Newton's step to a root, the mean of a guess and the quotient by it: it is not below the root, since a product is at most the square of the
-- mean of its factors; and from a guess above the root it is smaller, since the quotient is. Assumes nothing.
use mathlib.Core.Path.{◌≡◌, refl}
use mathlib.Core.Bool.{Bool, true, false}
use Prim.Native.Nat.{ℕ, zero, suc, ◌+◌, ◌-◌, ◌*◌, ◌/◌, ◌≤◌, ◌<◌}
use native.Mathlib.Nat.{add-mul, mul-add, mul_comm, mul-le-mul_left, lt-mul-div-succ, lt_of_lt_of_le, div-lt_iff_lt-mul}
use native.Mathlib.Omega.{arith}
use lib.Dec.{leb}
use borrow.Author.Tests.{leb-true, leb-false}

-- A factor that is `less` below the mean, and one that is at most as much above it.
product_below : (a less b : ℕ) → b ≤ a + less + less → a * b ≤ (a + less) * (a + less)
product_below a less b h =
    omega (
      arith,
      mul-le-mul_left a h,
      mul-add a (a + less) less,
      mul-add a a less,
      add-mul a less (a + less),
      mul-add less a less,
      mul_comm less a,
    )

-- A product is at most the square of the mean of its factors, rounded up or more.
product_most : (a b mean : ℕ) → a + b ≤ 2 * mean → a * b ≤ mean * mean
product_most a b mean h = go (leb a mean) refl
  where
    below : (a b : ℕ) → a + b ≤ 2 * mean → a ≤ mean → a * b ≤ mean * mean
    below a b h l =
        let same : a + (mean - a) ≡ mean = omega arith in
        rw same at (product_below a (mean - a) b (omega arith))

    go : (t : Bool) → leb a mean ≡ t → a * b ≤ mean * mean
    go true e = below a b h (leb-true a mean e)
    go false e = rw (mul_comm a b) (below b a (omega arith) (omega (arith, leb-false a mean e)))

-- From any guess above zero, one step is not below the root.
pub newton_above : (n g : ℕ) → zero < g → n < ((g + n / g) / 2 + 1) * ((g + n / g) / 2 + 1)
newton_above n g above =
    lt_of_lt_of_le (lt-mul-div-succ n above) (product_most g (n / g + 1) ((g + n / g) / 2 + 1) (omega arith))

-- A guess whose square is above a number is above zero,
pub sq_pos : (n g : ℕ) → n < g * g → zero < g
sq_pos n zero h = absurd (omega arith)
sq_pos n (suc g) h = omega arith

-- the quotient by it is smaller, and so is one step from it.
pub quotient_below : (n g : ℕ) → n < g * g → n / g < g
quotient_below n g h = (div-lt_iff_lt-mul {k = g} {x = n} {y = g} (sq_pos n g h)).1 h

pub newton_below : (n g : ℕ) → n < g * g → (g + n / g) / 2 < g
newton_below n g h = omega (arith, quotient_below n g h)
