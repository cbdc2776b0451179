-- One curve more: what its checks and its elements say of the line's. Assumes nothing.
use mathlib.Core.Path.{◌≡◌, refl, sym, ◌∙◌}
use Prim.Native.Nat.{ℕ, ◌+◌, ◌<◌}
use native.Mathlib.Numerals.{add-one}
use Rattle.std.specs.Prelude.{Err}
use Rattle.refusals.specs.declared.Refusal.{Refusal}
use Rattle.refusals.specs.Outcomes.{Outcome, passed, refused, need, ◌▹◌}
use Rattle.refusals.specs.Order.{in_turn, outcome}
use Rattle.refusals.proofs.Joining.{passed_right, regroup, join}
use Rattle.refusals.proofs.InTurn.{one_more, first_refused}
use Rattle.line.specs.declared.Line.{Line}
use Rattle.line.specs.Checks.{curve_at, curve_checks}
use Rattle.line.specs.Ranges.{CurveInRange}
use Rattle.elements.specs.declared.Elements.{Elements}
use Rattle.elements.specs.Answer.{reply_of, arc_check, element_checks, element_reply}
use Rattle.elements.proofs.Arc.{arc_anywhere}
use Rattle.elements.proofs.Replies.{FoundElements, refused_arc_lem}
use Rattle.stationing.specs.RoadTables.{radius_serves, spiral_serves}
use Rattle.stationing.specs.Answer.{design_checks, design_checks_at}

-- 12 and 13 of the curve at entry i.
abbrev pub least_check : Line → ℕ → ℕ → Outcome
least_check line i place =
    need (radius_serves line.speed line.crossfall (curve_at line i).radius) 12 place
    ▹ need (spiral_serves line.speed (curve_at line i).radius (curve_at line i).spiral) 13 place

-- A curve whose elements are found passes 14 at any place.
found_arc : (A R L place : ℕ) → outcome (element_checks A R L) ≡ passed → outcome (arc_check A R L place) ≡ passed
unfolding element_checks
found_arc A R L place e = arc_anywhere A R L 0 place (passed_right (outcome (curve_checks A R L 0)) (outcome (arc_check A R L 0)) e)

module _ (line : Line) (i : ℕ) (so_far : outcome (in_turn (design_checks_at line) i) ≡ passed) where
  -- The curve's checks: 12 and 13, then 14.
  checks : {least : Outcome} → least ≡ least_check line i (i + 1)
      → outcome (design_checks_at line i) ≡ (least ▹ outcome (arc_check (curve_at line i).deflection (curve_at line i).radius (curve_at line i).spiral (i + 1)))
  unfolding design_checks_at design_checks
  checks e =
      let place = i + 1 in
      let radius = need (radius_serves line.speed line.crossfall (curve_at line i).radius) 12 place in
      let spiral = need (spiral_serves line.speed (curve_at line i).radius (curve_at line i).spiral) 13 place in
      let arc = outcome (arc_check (curve_at line i).deflection (curve_at line i).radius (curve_at line i).spiral place) in
      let here : outcome (design_checks_at line i) ≡ (radius ▹ spiral ▹ arc) = simp add-one in
      here ∙ sym (regroup radius spiral arc) ∙ join (sym e) refl

  pub least_refused : {n p : ℕ} (count : ℕ) → i < count → refused n p ≡ least_check line i (i + 1)
      → refused n p ≡ outcome (in_turn (design_checks_at line) count)
  least_refused count h e = sym (first_refused (design_checks_at line) i count h so_far (checks e))

  module _ (passes : passed ≡ least_check line i (i + 1)) where
    pub arc_refused : (r : Refusal) (count : ℕ) → i < count → CurveInRange (curve_at line i).deflection (curve_at line i).radius (curve_at line i).spiral
        → reply_of (Err r) ≡ element_reply (curve_at line i).deflection (curve_at line i).radius (curve_at line i).spiral
        → refused 14 (i + 1) ≡ outcome (in_turn (design_checks_at line) count)
    arc_refused r count h ok e =
        sym (first_refused (design_checks_at line) i count h so_far (checks passes ∙ refused_arc_lem _ _ _ r (i + 1) ok e))

    pub curve_passed : {e : Elements} → FoundElements (curve_at line i).deflection (curve_at line i).radius (curve_at line i).spiral e
        → outcome (in_turn (design_checks_at line) (i + 1)) ≡ passed
    curve_passed f =
        one_more (design_checks_at line) i so_far (checks passes ∙ found_arc _ _ _ (i + 1) f.checked)
