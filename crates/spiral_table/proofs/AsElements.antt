-- For a curve whose spiral angle is that of a row, the look-up gives X and Y of the element call. Assumes nothing.
use mathlib.Core.Path.{◌≡◌, sym, ◌∙◌}
use Prim.Native.Nat.{ℕ, ◌≤◌}
use native.Mathlib.Omega.{arith}
use lib.IntN.{pos}
use borrow.Author.Tests.{le-leb}
use Rattle.std.specs.Prelude.{Result, Ok}
use Rattle.refusals.specs.declared.Refusal.{Refusal}
use Rattle.refusals.specs.Outcomes.{passed, need, ◌▹◌}
use Rattle.refusals.specs.Order.{outcome}
use Rattle.refusals.specs.Replying.{answered}
use Rattle.refusals.proofs.Joining.{passed_left}
use Rattle.refusals.proofs.Replied.{passed_reply}
use Rattle.line.specs.Checks.{curve_checks}
use Rattle.line.specs.Ranges.{CurveInRange}
use Rattle.line.proofs.InRange.{curve_in_range}
use Rattle.elements.specs.declared.Elements.{Elements}
use Rattle.elements.specs.declared.SpiralPoint.{SpiralPoint}
use Rattle.elements.specs.WorkingRule.{unit_x, unit_y, scaled_length, spiral_angle, spiral_x, spiral_y}
use Rattle.elements.specs.Answer.{reply_of, arc_check, element_checks, element_reply}
use Rattle.elements.specs.SpiralPoint.{point_reply_of}
use Rattle.elements.proofs.Bounds.{spiral_angle_most}
use Rattle.elements.proofs.Replies.{found_elements}
use Rattle.spiral_table.specs.UnitSpiralTable.{row_angle}
use Rattle.spiral_table.specs.LookUp.{end_by, look_up_checks, look_up_reply}

module _ (A R L r : ℕ) (at_row : spiral_angle R L ≡ row_angle r) where
  -- X and Y are the same at the same angle.
  pub same_end : end_by r L ≡ record { x = spiral_x R L; y = spiral_y R L }
  unfolding end_by spiral_x spiral_y
  same_end = λ j. record { x = scaled_length L (unit_x (sym at_row j)); y = scaled_length L (unit_y (sym at_row j)) }

  -- A curve in range has a spiral that the table holds.
  tabled : CurveInRange A R L → outcome (look_up_checks r L) ≡ passed
  unfolding look_up_checks row_angle
  tabled ok =
      let row : r ≤ 500 = omega (arith, at_row, spiral_angle_most R L ok.L-to-R) in
      λ j. need (le-leb r 500 row j) 25 0 ▹ need (le-leb L 500000 ok.L-most j) 11 0

  -- Where the element call answers, the look-up answers too, with its X and Y.
  pub look_up_as_elements : (e : Elements) (a : Result SpiralPoint Refusal) → reply_of (Ok e) ≡ element_reply A R L → point_reply_of a ≡ look_up_reply r L
      → point_reply_of a ≡ answered (record { x = pos e.x; y = pos e.y })
  unfolding look_up_reply element_checks
  look_up_as_elements e a found looked =
      let f = found_elements A R L e found in
      let ok = curve_in_range A R L 0 (passed_left (outcome (curve_checks A R L 0)) (outcome (arc_check A R L 0)) f.checked) in
      let X = f.X in
      let Y = f.Y in
      let same : record { x = pos e.x; y = pos e.y } ≡ end_by r L = (λ j. record { x = X j; y = Y j }) ∙ sym same_end in
      looked ∙ sym (passed_reply (look_up_checks r L) (end_by r L) (tabled ok) same)
