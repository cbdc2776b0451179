-- A check passes exactly where the fields are in range. Assumes nothing.
use mathlib.Core.Path.{◌≡◌}
use mathlib.Core.Logic.{◌⊎◌, inl, inr, ⊎_elim}
use mathlib.Core.Bool.{true, ◌&&◌}
use Prim.Native.Nat.{ℕ, zero, suc, ◌%◌, ◌≤◌}
use native.Mathlib.Decide.{dec_le}
use native.Mathlib.Omega.{arith}
use lib.Arith.{le-zero}
use lib.Dec.{leb, eqb}
use borrow.Author.Tests.{leb-true, eqb-true, le-leb, eq-eqb}
use Rattle.numbers.proofs.Tests.{both_left, both_right}
use Rattle.line.specs.declared.Line.{Line}
use Rattle.refusals.specs.Outcomes.{passed, need}
use Rattle.refusals.specs.Order.{outcome}
use Rattle.line.specs.Checks.{within, start_check, head_checks, distance_check, curve_checks, distance_at, curve_at, body_checks, field_checks}
use Rattle.line.specs.Ranges.{CurveInRange, FieldsInRange}
use Rattle.refusals.proofs.Joining.{passed_left, passed_right, need_holds}

within_least : (least most x : ℕ) → within least most x ≡ true → least ≤ x
within_least least most x e = leb-true least x (both_left _ (leb x most) e)

within_most : (least most x : ℕ) → within least most x ≡ true → x ≤ most
within_most least most x e = leb-true x most (both_right (leb least x) _ e)

-- ---- a curve

pub curve_in_range : (A R L place : ℕ) → outcome (curve_checks A R L place) ≡ passed → CurveInRange A R L
unfolding curve_checks
curve_in_range A R L place h =
    let a = need_holds _ 9 place (passed_left (need (within 1 432000 A) 9 place) _ h) in
    let h₁ = passed_right (need (within 1 432000 A) 9 place) _ h in
    let r = need_holds _ 10 place (passed_left (need (within 20000 5000000 R) 10 place) _ h₁) in
    let l = need_holds (leb L 500000 && leb L R) 11 place (passed_right (need (within 20000 5000000 R) 10 place) _ h₁) in
    record {
      A-least = within_least 1 432000 A a;
      A-most = within_most 1 432000 A a;
      R-least = within_least 20000 5000000 R r;
      R-most = within_most 20000 5000000 R r;
      L-most = leb-true L 500000 (both_left _ (leb L R) l);
      L-to-R = leb-true L R (both_right (leb L 500000) _ l);
    }

pub curve_passes : (A R L place : ℕ) → CurveInRange A R L → outcome (curve_checks A R L place) ≡ passed
unfolding curve_checks
curve_passes A R L place k =
    rw (
      le-leb 1 A k.A-least,
      le-leb A 432000 k.A-most,
      le-leb 20000 R k.R-least,
      le-leb R 5000000 k.R-most,
      le-leb L 500000 k.L-most,
      le-leb L R k.L-to-R,
    )

-- ---- the distances and curves of a line

body_below : (l : Line) (i k : ℕ) → k ≤ i → outcome (body_checks l i) ≡ passed → outcome (body_checks l k) ≡ passed
unfolding body_checks
body_below l zero k h e = rw (le-zero h) e
body_below l (suc i) k h e =
    ⊎_elim (λ m. body_below l i k m (passed_left (outcome (body_checks l i)) _ e)) (λ m. rw m e) (le_split k i h)
  where
    le_split : (k i : ℕ) → k ≤ suc i → (k ≤ i) ⊎ (k ≡ suc i)
    le_split k i h = go (dec_le k i)
      where
        go : Dec (k ≤ i) → (k ≤ i) ⊎ (k ≡ suc i)
        go (yes m) = inl m
        go (no m) = inr (omega arith)

-- The distance of the last entry of a body that passes, and the curve before it.
last_distance : (l : Line) (i : ℕ) → outcome (body_checks l i) ≡ passed → within 1 20000000 (distance_at l i) ≡ true
unfolding body_checks distance_check
last_distance l zero e = need_holds _ 8 0 e
last_distance l (suc i) e =
    let c = curve_at l i in
    need_holds _ 8 (suc i)
    (passed_right (outcome (curve_checks c.deflection c.radius c.spiral (suc i))) _ (passed_right (outcome (body_checks l i)) _ e))

last_curve : (l : Line) (i : ℕ) → outcome (body_checks l (suc i)) ≡ passed
    → CurveInRange (curve_at l i).deflection (curve_at l i).radius (curve_at l i).spiral
unfolding body_checks
last_curve l i e =
    let c = curve_at l i in
    curve_in_range _ _ _ (suc i)
    (passed_left (outcome (curve_checks c.deflection c.radius c.spiral (suc i))) _ (passed_right (outcome (body_checks l i)) _ e))

-- ---- the head, and a whole line

pub few_curves : (g n v e s : ℕ) → outcome (head_checks g n v e s) ≡ passed → n ≤ 64
unfolding head_checks
few_curves g n v e s h = leb-true n 64 (need_holds _ 3 0 (passed_left (need (leb n 64) 3 0) _ h))

pub line_in_range : {g : ℕ} (l : Line) → outcome (field_checks g l) ≡ passed → FieldsInRange g l
unfolding field_checks head_checks start_check
line_in_range {g} l h =
    let n = l.count in
    let v = l.speed in
    let e = l.crossfall in
    let head = passed_left (outcome (head_checks g n v e l.start)) _ h in
    let body = passed_right (outcome (head_checks g n v e l.start)) (outcome (body_checks l n)) h in
    let h₁ = passed_right (need (leb n 64) 3 0) _ head in
    let speed = need_holds (within 40 120 v && eqb (v % 10) 0) 4 0 (passed_left (need (within 40 120 v && eqb (v % 10) 0) 4 0) _ h₁) in
    let h₂ = passed_right (need (within 40 120 v && eqb (v % 10) 0) 4 0) _ h₁ in
    let fall = need_holds (within 2 12 e) 5 0 (passed_left (need (within 2 12 e) 5 0) _ h₂) in
    let start = need_holds (leb l.start g) 6 0 (passed_right (need (within 2 12 e) 5 0) _ h₂) in
    record {
      few = few_curves g n v e l.start head;
      speed_least = within_least 40 120 v (both_left _ (eqb (v % 10) 0) speed);
      speed_most = within_most 40 120 v (both_left _ (eqb (v % 10) 0) speed);
      speed_tens = eqb-true (v % 10) 0 (both_right (within 40 120 v) _ speed);
      crossfall_least = within_least 2 12 e fall;
      crossfall_most = within_most 2 12 e fall;
      start_most = leb-true l.start g start;
      distance_least = λ i m. within_least 1 20000000 (distance_at l i) (last_distance l i (body_below l n i m body));
      distance_most = λ i m. within_most 1 20000000 (distance_at l i) (last_distance l i (body_below l n i m body));
      curve = λ i m. last_curve l i (body_below l n (suc i) m body);
    }

-- Under another limit of the start.
pub other_greatest : {g : ℕ} (g' : ℕ) (l : Line) → FieldsInRange g l → l.start ≤ g' → FieldsInRange g' l
other_greatest g' l ok h =
    record {
      few = ok.few;
      speed_least = ok.speed_least;
      speed_most = ok.speed_most;
      speed_tens = ok.speed_tens;
      crossfall_least = ok.crossfall_least;
      crossfall_most = ok.crossfall_most;
      start_most = h;
      distance_least = ok.distance_least;
      distance_most = ok.distance_most;
      curve = ok.curve;
    }

-- And a line in range passes.
within_holds : (least most x : ℕ) → least ≤ x → x ≤ most → within least most x ≡ true
within_holds least most x l h = rw (le-leb least x l, le-leb x most h)

body_passes : {g : ℕ} (l : Line) → FieldsInRange g l → (i : ℕ) → i ≤ l.count → outcome (body_checks l i) ≡ passed
unfolding body_checks distance_check
body_passes l ok zero h = rw (within_holds 1 20000000 (distance_at l 0) (ok.distance_least 0 h) (ok.distance_most 0 h))
body_passes l ok (suc i) h =
    let c = curve_at l i in
    rw (
      body_passes l ok i (omega arith),
      curve_passes c.deflection c.radius c.spiral (suc i) (ok.curve i h),
      within_holds 1 20000000 (distance_at l (suc i)) (ok.distance_least (suc i) h) (ok.distance_most (suc i) h),
    )

pub line_passes : {g : ℕ} (l : Line) → FieldsInRange g l → outcome (field_checks g l) ≡ passed
unfolding field_checks head_checks start_check
line_passes {g} l ok =
    rw (
      le-leb l.count 64 ok.few,
      within_holds 40 120 l.speed ok.speed_least ok.speed_most,
      eq-eqb (l.speed % 10) 0 ok.speed_tens,
      within_holds 2 12 l.crossfall ok.crossfall_least ok.crossfall_most,
      le-leb l.start g ok.start_most,
    )
    (body_passes l ok l.count (omega arith))
