-- The end of the spiral of length one, rule against exact, from what is known of its angle. Assumes nothing.
use Prim.Native.Nat.{ℕ, ◌+◌}
use native.Mathlib.Omega.{arith}
use lib.Dec.{lit<}
use Rattle.elements.specs.WorkingRule.{scale, t2, t3, t4, t5, t6, unit_x, unit_y}
use Rattle.numbers.specs.Fractions.{Fraction, ◌↑◌}
use Rattle.accuracy.specs.ExactElements.{exact_unit_x, exact_unit_y}
use Rattle.accuracy.proofs.Nearness.{Near, loosen, near_nat, near_sum, near_difference}
use Rattle.accuracy.proofs.Powers.{power_one}
use Rattle.accuracy.proofs.Terms.{Bound, next, over_constant, Term, near_quotient, term_same, term_power}

-- What is known of the square of an angle, and of its third to sixth power.
abbrev square : Bound → Bound
square b = next b b 1

abbrev cube : Bound → Bound
cube b = next (square b) b 1

abbrev fourth_power : Bound → Bound
fourth_power b = next (square b) (square b) 1

abbrev fifth_power : Bound → Bound
fifth_power b = next (fourth_power b) b 1

abbrev sixth_power : Bound → Bound
sixth_power b = next (fourth_power b) (square b) 1

-- The errors of x and y, in thousandths of a unit.
abbrev pub short_x : Bound → ℕ
short_x b = (over_constant (square b) 10).over + (over_constant (fourth_power b) 216).short + (over_constant (sixth_power b) 9360).over

abbrev pub over_x : Bound → ℕ
over_x b = (over_constant (square b) 10).short + (over_constant (fourth_power b) 216).over + (over_constant (sixth_power b) 9360).short

abbrev pub short_y : Bound → ℕ
short_y b = (over_constant b 3).short + (over_constant (cube b) 42).over + (over_constant (fifth_power b) 1320).short

abbrev pub over_y : Bound → ℕ
over_y b = (over_constant b 3).over + (over_constant (cube b) 42).short + (over_constant (fifth_power b) 1320).over

module _ {q : ℕ} (s : Fraction) {b : Bound} (angle : Term q s b) where
  first : Term q (s ↑ 1) b
  first = term_same (power_one s angle.sign) angle

  second : Term (t2 q) (s ↑ 2) (square b)
  unfolding t2
  second = term_power s 1 1 angle.sign first first

  fourth : Term (t4 q) (s ↑ 4) (fourth_power b)
  unfolding t4
  fourth = term_power s 2 2 angle.sign second second

  pub near_unit_x : Near scale (unit_x q) (exact_unit_x s) (short_x b) (over_x b)
  unfolding unit_x t6
  near_unit_x =
      let sixth = term_power s 4 2 angle.sign fourth second in
      loosen (omega arith) (omega arith)
      (near_difference
      (near_sum (near_difference (near_nat scale 1) (near_quotient 10 (lit< tt) second)) (near_quotient 216 (lit< tt) fourth))
      (near_quotient 9360 (lit< tt) sixth))

  pub near_unit_y : Near scale (unit_y q) (exact_unit_y s) (short_y b) (over_y b)
  unfolding unit_y t3 t5
  near_unit_y =
      let third = term_power s 2 1 angle.sign second first in
      let fifth = term_power s 4 1 angle.sign fourth first in
      near_sum (near_difference (near_quotient 3 (lit< tt) angle) (near_quotient 42 (lit< tt) third)) (near_quotient 1320 (lit< tt) fifth)
