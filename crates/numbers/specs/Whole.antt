-- Whole numbers, which may be negative: the quotient rounded down, and a range of numbers not below zero.
use Rattle.std.specs.Prelude.{◌≡◌, ℕ, suc, ◌/◌, ◌≤◌, ℤ, pos, negsuc, neg_ℤ}

-- A whole number over a natural number above zero, rounded down.
abbrev pub down : ℤ → ℕ → ℤ
down (pos a) m = pos (a / m)
down (negsuc a) m = negsuc (a / m)

-- The quotient of two whole numbers, rounded down. A quotient by zero means nothing, and the laws show that none is taken.
infixl 7 ◌÷◌
abbrev pub ◌÷◌ : ℤ → ℤ → ℤ
z ÷ pos m = down z m
z ÷ negsuc m = down (neg_ℤ z) (suc m)

-- A whole number that is not below `least` and not above `most`, both natural numbers.
pub record Between (z : ℤ) (least most : ℕ) : Type 0 where
  pub value : ℕ
  pub same : z ≡ pos value
  pub low : least ≤ value
  pub high : value ≤ most
