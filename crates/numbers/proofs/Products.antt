-- Sums of products in one order, for `simp`: two polynomials that are equal become the same, but for the order of their terms.
use native.Mathlib.Nat.{mul-add, add-mul, mul_assoc, mul_comm, mul_left_comm}

pub ruleset products = (mul-add, add-mul, mul_assoc, mul_comm, mul_left_comm)
