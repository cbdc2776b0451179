-- The arc D and refusal 14: D reaches 1,000 exactly where the turn, the arc with its spirals, reaches the spirals and 1,000. So an arc that
-- is answered is 1,000 µm at least. Assumes nothing.
use mathlib.Core.Path.{◌≡◌, refl, sym, ◌∙◌, ap}
use mathlib.Core.Bool.{Bool}
use Prim.Native.Nat.{ℕ, ◌+◌, ◌-◌, ◌*◌, ◌≤◌}
use native.Mathlib.Omega.{arith}
use lib.Dec.{leb}
use lib.IntN.{ℤ, pos, ◌-ℤ◌}
use lib.Signed.{le_z}
use borrow.Author.Tests.{leb-true}
use Rattle.numbers.specs.Whole.{Between}
use Rattle.numbers.proofs.Differences.{minus_le, reaches}
use Rattle.refusals.specs.Outcomes.{passed, need}
use Rattle.refusals.specs.Order.{outcome}
use Rattle.refusals.proofs.Joining.{passed_left, passed_right, need_holds}
use Rattle.line.specs.Checks.{curve_checks}
use Rattle.line.proofs.InRange.{curve_in_range}
use Rattle.elements.specs.WorkingRule.{rounded, full_angle, arc_of}
use Rattle.elements.specs.Answer.{arc_check, element_checks}
use Rattle.elements.proofs.Bounds.{turn_between}

module _ (A R L : ℕ) {turn full : ℕ} (ef : full ≡ full_angle A) (e : pos turn ≡ rounded (pos (R * full)) 1000000) where
  arc_is : arc_of A R L ≡ pos turn -ℤ pos (1000 * L)
  unfolding arc_of
  arc_is = ap (λ (z : ℤ). z -ℤ pos (1000 * L)) (sym (e ∙ ap (λ (f : ℕ). rounded (pos (R * f)) 1000000) ef))

  pub arc_reaches : le_z (pos 1000) (arc_of A R L) ≡ leb (1000 * L + 1000) turn
  arc_reaches = ap (le_z (pos 1000)) arc_is ∙ reaches turn (1000 * L) 1000

  pub computed_d : 1000 * L ≤ turn → pos (turn - 1000 * L) ≡ arc_of A R L
  computed_d h = sym (minus_le h) ∙ sym arc_is

-- An arc that passes 14 at one place passes it at every place.
pub arc_anywhere : (A R L p q : ℕ) → outcome (arc_check A R L p) ≡ passed → outcome (arc_check A R L q) ≡ passed
unfolding arc_check
arc_anywhere A R L p q e = ap (λ (t : Bool). need t 14 q) (need_holds (le_z (pos 1000) (arc_of A R L)) 14 p e)

-- D is 1,000 µm at least where the elements are answered.
pub arc_answered : (A R L : ℕ) → outcome (element_checks A R L) ≡ passed → Between (arc_of A R L) 1000 10471975510
unfolding element_checks arc_check
arc_answered A R L e =
    let ok = curve_in_range A R L 0 (passed_left (outcome (curve_checks A R L 0)) _ e) in
    let u = turn_between A ok.A-most R ok.R-most in
    let far : 1000 * L + 1000 ≤ u.value =
    leb-true (1000 * L + 1000) u.value
    (sym (arc_reaches A R L refl (sym u.same)) ∙ need_holds _ 14 0 (passed_right (outcome (curve_checks A R L 0)) _ e)) in
    record {
      value = u.value - 1000 * L;
      same = sym (computed_d A R L refl (sym u.same) (omega arith));
      low = omega arith;
      high = omega (arith, u.high);
    }
