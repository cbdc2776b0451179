-- What holds of a line that passes the calculator's checks 3 to 15: its fields are in range, and so are its tangents, arcs and straights.
-- Assumes nothing.
use mathlib.Core.Path.{◌≡◌, sym, ◌∙◌}
use Prim.Native.Nat.{ℕ, zero, suc, ◌+◌, ◌-◌, ◌*◌, ◌<◌, ◌≤◌}
use native.Mathlib.Decide.{dec_lt}
use native.Mathlib.Omega.{arith}
use borrow.Author.Tests.{leb-true}
use Rattle.numbers.specs.Whole.{Between}
use Rattle.numbers.proofs.Ranges.{natural}
use Rattle.refusals.specs.Outcomes.{passed, need}
use Rattle.refusals.specs.Order.{in_turn, outcome}
use Rattle.refusals.proofs.Joining.{passed_left, passed_right, need_holds, join}
use Rattle.refusals.proofs.InTurn.{each_passes}
use Rattle.line.specs.declared.Line.{Line}
use Rattle.line.specs.Checks.{distance_at, curve_at, line_checks}
use Rattle.line.specs.Ranges.{LineInRange}
use Rattle.line.proofs.InRange.{line_in_range, curve_passes}
use Rattle.elements.specs.Answer.{arc_check, element_checks}
use Rattle.elements.proofs.Bounds.{bounds}
use Rattle.elements.proofs.Arc.{arc_anywhere, arc_answered}
use Rattle.stationing.specs.RoadTables.{radius_serves, spiral_serves}
use Rattle.stationing.specs.Stations.{arc_at, tangent_at, tangent_before, tangent_after, straight_at}
use Rattle.stationing.specs.Answer.{design_checks, design_checks_at, straight_check, alignment_checks}
use Rattle.stationing.proofs.StraightSteps.{after_inside, after_end, straight_reaches, straight_length}

pub record Accepted (line : Line) : Type 0 where
  pub in_range : LineInRange line
  pub tangent : (i : ℕ) → i < line.count → Between (tangent_at line i) 0 12300000000
  pub arc : (i : ℕ) → i < line.count → Between (arc_at line i) 1000 10471975510
  pub straight : (i : ℕ) → i ≤ line.count → Between (straight_at line i) 1000 20000000000

-- ---- the tangents at the ends of a distance

module _ (line : Line) (ok : LineInRange line) where
  tangent_between : (i : ℕ) → i < line.count → Between (tangent_at line i) 0 12300000000
  unfolding tangent_at
  tangent_between i h = (bounds _ _ _ (ok.curve i h)).TT

  pub before_between : (i : ℕ) → i ≤ line.count → Between (tangent_before line i) 0 12300000000
  unfolding tangent_before
  before_between zero h = natural 0 (omega arith) (omega arith)
  before_between (suc i) h = tangent_between i h

  pub after_between : (i : ℕ) → Between (tangent_after line i) 0 12300000000
  after_between i = go (dec_lt i line.count)
    where
      go : Dec (i < line.count) → Between (tangent_after line i) 0 12300000000
      go (yes h) = rw (after_inside line i h) (tangent_between i h)
      go (no h) = rw (after_end line i (omega arith)) (natural 0 (omega arith) (omega arith))

  -- ---- a straight that passes 15, and an arc that passes 14

  straight_between : (i : ℕ) → i ≤ line.count → outcome (straight_check line i) ≡ passed → Between (straight_at line i) 1000 20000000000
  unfolding straight_check
  straight_between i h e =
      let b = before_between i h in
      let a = after_between i in
      let far : b.value + a.value + 1000 ≤ 1000 * distance_at line i =
      leb-true _ _ (sym (straight_reaches line i (sym b.same) (sym a.same)) ∙ need_holds _ 15 i e) in
      record {
        value = 1000 * distance_at line i - (b.value + a.value);
        same = sym (straight_length line i (sym b.same) (sym a.same) (omega arith));
        low = omega arith;
        high = omega (arith, ok.distance_most i h);
      }

  arc_between : (i : ℕ) → i < line.count → outcome (design_checks_at line i) ≡ passed → Between (arc_at line i) 1000 10471975510
  unfolding arc_at design_checks_at design_checks element_checks
  arc_between i h e =
      let c = curve_at line i in
      let A = c.deflection in
      let R = c.radius in
      let L = c.spiral in
      let radius = need (radius_serves line.speed line.crossfall R) 12 (suc i) in
      let spiral = need (spiral_serves line.speed R L) 13 (suc i) in
      let arc : outcome (arc_check A R L (suc i)) ≡ passed = passed_right spiral _ (passed_right radius _ e) in
      arc_answered A R L (join (curve_passes A R L 0 (ok.curve i h)) (arc_anywhere A R L (suc i) 0 arc))

pub accepted : (line : Line) → outcome (alignment_checks line) ≡ passed → Accepted line
unfolding alignment_checks
accepted line e =
    let ok = line_in_range line (passed_left (outcome (line_checks line)) _ e) in
    let later = passed_right (outcome (line_checks line)) _ e in
    let curves = passed_left (outcome (in_turn (design_checks_at line) line.count)) _ later in
    let straights = passed_right (outcome (in_turn (design_checks_at line) line.count)) (outcome (in_turn (straight_check line) (suc line.count))) later in
    record {
      in_range = ok;
      tangent = tangent_between line ok;
      arc = λ i h. arc_between line ok i h (each_passes (design_checks_at line) line.count curves i h);
      straight = λ i h. straight_between line ok i h (each_passes (straight_check line) (suc line.count) straights i (omega arith));
    }

-- There are 64 curves at the most.
pub few : (line : Line) → outcome (alignment_checks line) ≡ passed → line.count ≤ 64
few line e = (accepted line e).in_range.few
