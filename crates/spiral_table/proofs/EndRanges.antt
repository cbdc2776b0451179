-- X and Y that the look-up answers are not below zero, nor above 500 m and a sixth of that. Assumes nothing.
use mathlib.Core.Path.{◌≡◌}
use Prim.Native.Nat.{ℕ, ◌≤◌}
use native.Mathlib.Omega.{arith}
use borrow.Author.Tests.{leb-true}
use Rattle.numbers.specs.Whole.{Between}
use Rattle.numbers.proofs.Ranges.{natural, product_between}
use Rattle.refusals.specs.Outcomes.{passed}
use Rattle.refusals.specs.Order.{outcome}
use Rattle.refusals.proofs.InOrder.{all_hold}
use Rattle.elements.proofs.Rounding.{rounded_between}
use Rattle.elements.proofs.UnitSpiral.{greatest_spiral_angle, unit_x_between, unit_y_between}
use Rattle.spiral_table.specs.UnitSpiralTable.{row_angle}
use Rattle.spiral_table.specs.LookUp.{end_by, look_up_checks}

pub record EndInRange (r L : ℕ) : Type 0 where
  pub X : Between (end_by r L).x 0 500000000
  pub Y : Between (end_by r L).y 0 83333333

pub end_in_range : (r L : ℕ) → outcome (look_up_checks r L) ≡ passed → EndInRange r L
unfolding look_up_checks end_by row_angle
end_in_range r L e =
    let checked = all_hold (look_up_checks r L) e in
    let row : r ≤ 500 = leb-true r 500 checked.0 in
    let length = natural L {least = 0} {most = 500000} (omega arith) (leb-true L 500000 checked.1) in
    let angle : row_angle r ≤ greatest_spiral_angle = omega (arith, row) in
    record {
      X = rounded_between 1000000 500000000 (omega arith) (product_between length (unit_x_between (row_angle r) angle)) (omega arith);
      Y = rounded_between 1000000 83333333 (omega arith) (product_between length (unit_y_between (row_angle r) angle)) (omega arith);
    }
