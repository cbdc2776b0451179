-- The numbers that `pokyandi_elements` and `pokyandi_unit_spiral` write are the rule's values themselves: none is below zero where the call
-- answers. Assumes nothing.
use mathlib.Core.Path.{◌≡◌}
use mathlib.Core.List.{map}
use Prim.Native.Nat.{ℕ}
use lib.IntN.{pos}
use Rattle.refusals.specs.Outcomes.{passed}
use Rattle.refusals.specs.Order.{outcome}
use Rattle.refusals.proofs.Joining.{passed_left}
use Rattle.line.specs.Checks.{curve_checks}
use Rattle.line.proofs.InRange.{curve_in_range}
use Rattle.elements.specs.Answer.{arc_check, values_by, element_checks}
use Rattle.elements.proofs.Bounds.{bounds}
use Rattle.elements.proofs.Arc.{arc_answered}
use Rattle.spiral_table.specs.LookUp.{end_by, look_up_checks}
use Rattle.spiral_table.proofs.EndRanges.{end_in_range}
use Rattle.pokyandi.specs.Calls.{element_values, element_numbers, offset_numbers, end_numbers}

pub numbers_exact : (A R L : ℕ) → outcome (element_checks A R L) ≡ passed → map pos (element_numbers A R L) ≡ element_values A R L
unfolding element_checks element_numbers element_values values_by
numbers_exact A R L e =
    let b = bounds A R L (curve_in_range A R L 0 (passed_left (outcome (curve_checks A R L 0)) (outcome (arc_check A R L 0)) e)) in
    rw (b.X.same, b.Y.same, b.k.same, b.p.same, (arc_answered A R L e).same, b.TT.same)

pub end_exact : (r L : ℕ) → outcome (look_up_checks r L) ≡ passed → map pos (end_numbers r L) ≡ offset_numbers (end_by r L)
unfolding end_numbers
end_exact r L e =
    let b = end_in_range r L e in
    rw (b.X.same, b.Y.same)
