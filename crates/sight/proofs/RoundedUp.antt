-- A fraction that is not below zero, rounded up, is the least whole number that is not below it. Assumes nothing.
use mathlib.Core.Path.{◌≡◌}
use Prim.Native.Nat.{ℕ, zero, suc, ◌*◌, ◌≤◌}
use native.Mathlib.Nat.{zero-div, lt-div-mul-add, div-lt_iff_lt-mul}
use native.Mathlib.Omega.{arith}
use lib.IntN.{pos}
use Rattle.numbers.specs.Fractions.{Fraction}
use Rattle.sight.specs.Formulas.{rounded_up}

module _ (u : Fraction) where
  -- Not below it,
  pub not_below : (a : ℕ) → u.top ≡ pos a → a ≤ rounded_up u * u.under
  unfolding rounded_up
  not_below zero e = omega arith
  not_below (suc a) e = rw e (omega (arith, lt-div-mul-add {a = a} u.above))

  -- and no greater than any other.
  pub least : (a n : ℕ) → u.top ≡ pos a → a ≤ n * u.under → rounded_up u ≤ n
  unfolding rounded_up
  least zero n e h = rw (e, zero-div u.under) (omega arith)
  least (suc a) n e h = rw e ((div-lt_iff_lt-mul u.above).1 h)
