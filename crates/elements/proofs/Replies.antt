-- What a caller learns from the element call's answer. Assumes nothing.
use mathlib.Core.Path.{◌≡◌, refl, ap}
use mathlib.Core.Bool.{Bool, true, false}
use Prim.Native.Nat.{ℕ, ◌≤◌}
use lib.IntN.{pos}
use lib.Signed.{le_z}
use Rattle.std.specs.Prelude.{Ok, Err}
use Rattle.numbers.proofs.Ranges.{at_least, at_most}
use Rattle.refusals.specs.declared.Refusal.{Refusal}
use Rattle.refusals.specs.Table.{number_of, place_of}
use Rattle.refusals.specs.Outcomes.{passed, refused, need}
use Rattle.refusals.specs.Order.{outcome}
use Rattle.refusals.proofs.Joining.{passed_left, never}
use Rattle.refusals.proofs.Replied.{replied, unreplied}
use Rattle.line.specs.Checks.{curve_checks}
use Rattle.line.specs.Ranges.{CurveInRange}
use Rattle.line.proofs.InRange.{curve_in_range, curve_passes}
use Rattle.elements.specs.declared.Elements.{Elements}
use Rattle.elements.specs.WorkingRule.{spiral_x, spiral_y, centre_of, shift_of, arc_of, tangent_of}
use Rattle.elements.specs.Answer.{Values, reply_of, values_by, arc_check, element_checks, element_reply}
use Rattle.elements.proofs.Bounds.{bounds}
use Rattle.elements.proofs.Arc.{arc_answered}

-- Elements that are answered: every check passed, each number is the rule's, and it has a range.
pub record FoundElements (A R L : ℕ) (e : Elements) : Type 0 where
  pub checked : outcome (element_checks A R L) ≡ passed
  pub X : pos e.x ≡ spiral_x R L
  pub Y : pos e.y ≡ spiral_y R L
  pub k : pos e.centre ≡ centre_of R L
  pub p : pos e.shift ≡ shift_of R L
  pub D : pos e.arc ≡ arc_of A R L
  pub TT : pos e.tangent ≡ tangent_of A R L
  pub D-least : 1000 ≤ e.arc
  pub D-most : e.arc ≤ 10471975510
  pub TT-most : e.tangent ≤ 12300000000

pub found_elements : (A R L : ℕ) (e : Elements) → reply_of (Ok e) ≡ element_reply A R L → FoundElements A R L e
unfolding element_reply element_checks values_by
found_elements A R L e h =
    let told = replied (element_checks A R L) (values_by A R L) h in
    let ok = curve_in_range A R L 0 (passed_left (outcome (curve_checks A R L 0)) (outcome (arc_check A R L 0)) told.0) in
    let D = ap (λ (v : Values). v.D) told.1 in
    let TT = ap (λ (v : Values). v.TT) told.1 in
    record {
      checked = told.0;
      X = ap (λ (v : Values). v.X) told.1;
      Y = ap (λ (v : Values). v.Y) told.1;
      k = ap (λ (v : Values). v.k) told.1;
      p = ap (λ (v : Values). v.p) told.1;
      D = D;
      TT = TT;
      D-least = at_least D (arc_answered A R L told.0);
      D-most = at_most D (arc_answered A R L told.0);
      TT-most = at_most TT (bounds A R L ok).TT;
    }

-- A refusal that is answered is the checks'.
pub refused_elements : (A R L : ℕ) (r : Refusal) → reply_of (Err r) ≡ element_reply A R L → outcome (element_checks A R L) ≡ refused (number_of r) (place_of r)
unfolding element_reply
refused_elements A R L r h = unreplied (element_checks A R L) (values_by A R L) h

-- A curve in range is refused with 14 alone: at any place, its arc is too short.
pub refused_arc_lem : (A R L : ℕ) (r : Refusal) (place : ℕ) → CurveInRange A R L → reply_of (Err r) ≡ element_reply A R L
    → outcome (arc_check A R L place) ≡ refused 14 place
unfolding element_checks arc_check
refused_arc_lem A R L r place ok h =
    go (le_z (pos 1000) (arc_of A R L)) (rw (curve_passes A R L 0 ok) at (refused_elements A R L r h))
  where
    go : (t : Bool) → need t 14 0 ≡ refused (number_of r) (place_of r) → need t 14 place ≡ refused 14 place
    go true q = never (number_of r) (place_of r) q
    go false q = refl
