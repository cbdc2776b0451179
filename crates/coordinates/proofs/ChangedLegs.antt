-- Points whose legs are all changed alike, by a change that keeps lengths, dot products and the sizes of the cross products: the refusals are
-- the same but for 18, and of the line only the curves can differ. Assumes nothing.
use mathlib.Core.Path.{◌≡◌, sym, ◌∙◌, ap}
use mathlib.Core.Bool.{Bool}
use mathlib.Core.List.{List}
use Prim.Native.Nat.{ℕ, suc, ◌+◌, ◌*◌, ◌<◌, ◌≤◌}
use native.Mathlib.Omega.{arith}
use lib.IntN.{ℤ, pos, nat_abs}
use lib.ListN.{length, get_or}
use lib.Signed.{lt_z}
use Rattle.refusals.specs.Outcomes.{passed}
use Rattle.refusals.specs.Order.{in_turn, outcome}
use Rattle.refusals.specs.Replying.{reply}
use Rattle.refusals.proofs.Joining.{passed_left}
use Rattle.refusals.proofs.Replied.{same_reply}
use Rattle.line.specs.declared.Curve.{Curve}
use Rattle.line.specs.declared.Line.{Line}
use Rattle.line.specs.Checks.{blank_curve}
use Rattle.line.specs.Entries.{entries}
use Rattle.line.proofs.Entries.{entries_same}
use Rattle.coordinates.specs.declared.Leg.{Leg}
use Rattle.coordinates.specs.Legs.{curve_count, leg_at, length_of, cross_of, dot_of, cross_at}
use Rattle.coordinates.specs.FromPoints.{distance_from, curve_from, line_from, count_checks, coordinate_check, from_points_checks}
use Rattle.coordinates.proofs.Counts.{Counted, counts_pass}
use Rattle.coordinates.proofs.SameShape.{SameShape, same_count, same_counts, same_deflection, same_refusals}

pub record Keeps (change : Leg → Leg) : Type 0 where
  pub length : (leg : Leg) → length_of (change leg) ≡ length_of leg
  pub cross : (into out : Leg) → nat_abs (cross_of (change into) (change out)) ≡ nat_abs (cross_of into out)
  pub dot : (into out : Leg) → dot_of (change into) (change out) ≡ dot_of into out

module _ (change : Leg → Leg) (keeps : Keeps change) (points there : List ℤ) (lengths : length there ≡ length points)
    (legs : (i : ℕ) → 2 * i + 3 < length points → leg_at there i ≡ change (leg_at points i)) (curves : List ℕ) where
  module _ (counted : Counted points curves) where
    -- A product of the legs at a PI.
    pub product : {A : Type 0} (f : Leg → Leg → A) (i : ℕ) → i < curve_count points
        → f (leg_at there i) (leg_at there (suc i)) ≡ f (change (leg_at points i)) (change (leg_at points (suc i)))
    product f i h = λ j. f (legs i (omega (arith, counted.numbers)) j) (legs (suc i) (omega (arith, counted.numbers)) j)

    same_distance : (i : ℕ) → i ≤ curve_count points → distance_from there i ≡ distance_from points i
    same_distance i h = ap length_of (legs i (omega (arith, counted.numbers))) ∙ keeps.length (leg_at points i)

    shape : SameShape there points
    shape =
        let n = same_count there points lengths in
        record {
          distance = λ i h. same_distance i (omega (arith, n));
          cross = λ i h. ap nat_abs (product cross_of i (omega (arith, n))) ∙ keeps.cross (leg_at points i) (leg_at points (suc i));
          dot = λ i h. product dot_of i (omega (arith, n)) ∙ keeps.dot (leg_at points i) (leg_at points (suc i));
        }

    -- A curve, whatever becomes of its side.
    pub curve_with : (i : ℕ) → i < curve_count points → {left : Bool} → lt_z (pos 0) (cross_at there i) ≡ left
        → ◌≡◌ {A = Curve} (curve_from there curves i)
        (record {
          left = left;
          deflection = (curve_from points curves i).deflection;
          radius = (curve_from points curves i).radius;
          spiral = (curve_from points curves i).spiral;
        })
    unfolding curve_from
    curve_with i h side = λ j. record {
      left = side j;
      deflection = same_deflection there points lengths shape i (omega (arith, same_count there points lengths)) j;
      radius = get_or curves (2 * i) 0;
      spiral = get_or curves (2 * i + 1) 0;
    }

    -- The line, from its curves.
    pub line_with_lem : (v e start : ℕ) (f : ℕ → Curve) → ((i : ℕ) → i < curve_count points → curve_from there curves i ≡ f i)
        → ◌≡◌ {A = Line} (line_from v e start there curves)
        (record {
          speed = v;
          crossfall = e;
          start = start;
          count = curve_count points;
          distances = entries 65 (suc (curve_count points)) (distance_from points) 0;
          curves = entries 64 (curve_count points) f blank_curve;
        })
    unfolding line_from
    line_with_lem v e start f same =
        let n = same_count there points lengths in
        let distances =
        ap (λ (k : ℕ). entries 65 (suc k) (distance_from there) 0) n
        ∙ entries_same 65 (suc (curve_count points)) (distance_from there) (distance_from points) 0 (λ i h. same_distance i (omega arith)) in
        let bends =
        ap (λ (k : ℕ). entries 64 k (curve_from there curves) blank_curve) n
        ∙ entries_same 64 (curve_count points) (curve_from there curves) f blank_curve same in
        λ j. record { speed = v; crossfall = e; start = start; count = n j; distances = distances j; curves = bends j }

  -- The answer: the same refusal, or this line.
  pub answer_with : (v e start : ℕ) (line : Line)
      → outcome (in_turn (coordinate_check there) (length there)) ≡ outcome (in_turn (coordinate_check points) (length points))
      → (Counted points curves → outcome (from_points_checks v e start points curves) ≡ passed → line_from v e start there curves ≡ line)
      → reply (from_points_checks v e start there curves) (line_from v e start there curves) ≡ reply (from_points_checks v e start points curves) line
  unfolding from_points_checks
  answer_with v e start line ranges made =
      let counted : outcome (count_checks there curves) ≡ passed → Counted points curves =
      λ h. counts_pass points curves (sym (same_counts there points lengths curves) ∙ h) in
      let same = same_refusals there points lengths v e start curves (λ h. shape (counted h)) ranges in
      same_reply (from_points_checks v e start there curves) (from_points_checks v e start points curves) same
      (λ h. made (counted (passed_left (outcome (count_checks there curves)) _ h)) (sym same ∙ h))
