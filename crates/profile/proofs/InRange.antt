-- The checks pass exactly where the fields are in range. Assumes nothing.
use mathlib.Core.Path.{◌≡◌}
use mathlib.Core.Bool.{true, ◌&&◌}
use Prim.Native.Nat.{ℕ, suc, ◌+◌, ◌/◌, ◌%◌, ◌≤◌, ◌<◌}
use native.Mathlib.Omega.{arith}
use lib.Dec.{leb, eqb}
use lib.IntN.{nat_abs}
use borrow.Author.Tests.{leb-true, eqb-true}
use Rattle.numbers.proofs.Tests.{both_left, both_right}
use Rattle.refusals.specs.Outcomes.{passed}
use Rattle.refusals.specs.Order.{outcome}
use Rattle.refusals.proofs.InOrder.{all_hold}
use Rattle.line.specs.Checks.{within}
use Rattle.profile.specs.declared.Profile.{Profile}
use Rattle.profile.specs.Vertices.{station_of, grade_of, length_of, end_of}
use Rattle.profile.specs.Checks.{greatest_station, station_check, height_check, grade_check, curve_fits, length_check, range_checks}
use Rattle.profile.specs.Checked.{ProfileInRange}

-- The four conditions of a curve's length.
pub record Fits (end station length : ℕ) : Type 0 where
  pub even : length % 2 ≡ 0
  pub least : 1 ≤ length
  pub most : length ≤ 2000000
  pub after : end + length / 2 ≤ station

pub curve_fits_lem : (end station length : ℕ) → curve_fits end station length ≡ true → Fits end station length
curve_fits_lem end station length e =
    let even = eqb (length % 2) 0 in
    let least = leb 1 length in
    let most = leb length 2000000 in
    let after = leb (end + length / 2) station in
    let a = both_left (even && least && most) after e in
    let b = both_left (even && least) most a in
    record {
      even = eqb-true (length % 2) 0 (both_left even least b);
      least = leb-true 1 length (both_right even least b);
      most = leb-true length 2000000 (both_right (even && least) most a);
      after = leb-true (end + length / 2) station (both_right (even && least && most) after e);
    }

module _ (p : Profile) (h : outcome (range_checks p) ≡ passed) where
  pub profile_in_range : ProfileInRange p
  unfolding range_checks station_check height_check grade_check length_check
  profile_in_range =
      let held = all_hold (range_checks p) h in
      let speed = held.1 in
      let stations = speed.1 in
      let height = stations.1 in
      let grades = height.1 in
      let lengths = grades.1 in
      let v = p.speed in
      let ranged = both_left (within 40 120 v) (eqb (v % 10) 0) speed.0 in
      let fits : (i : ℕ) → i < p.count → Fits (end_of p i) (station_of p (suc i)) (length_of p (suc i)) = λ i l. curve_fits_lem _ _ _ (lengths i l) in
      record {
        few = leb-true p.count 32 held.0;
        speed_least = leb-true 40 v (both_left (leb 40 v) (leb v 120) ranged);
        speed_most = leb-true v 120 (both_right (leb 40 v) (leb v 120) ranged);
        speed_tens = eqb-true (v % 10) 0 (both_right (within 40 120 v) (eqb (v % 10) 0) speed.0);
        high = leb-true (nat_abs p.height) 10000000 height.0;
        near = λ k l. leb-true (station_of p k) greatest_station (stations.0 k (omega arith));
        flat = λ k l. leb-true (nat_abs (grade_of p k)) 120000 (grades.0 k (omega arith));
        even = λ i l. omega (arith, (fits i l).even);
        least = λ i l. (fits i l).least;
        most = λ i l. (fits i l).most;
        after = λ i l. (fits i l).after;
      }
