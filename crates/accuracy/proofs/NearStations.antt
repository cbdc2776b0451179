-- The straights and the stations of a line whose fields are in range, rule against exact. Assumes nothing.
use mathlib.Core.Path.{◌≡◌}
use Prim.Native.Nat.{ℕ, zero, suc, ◌+◌, ◌*◌, ◌≤◌, ◌<◌}
use native.Mathlib.Decide.{dec_lt}
use native.Mathlib.Omega.{arith}
use lib.Dec.{lit≤}
use borrow.Author.Tests.{lt-ltb, le-ltb}
use Rattle.line.specs.declared.Line.{Line}
use Rattle.line.specs.Checks.{distance_at, curve_at}
use Rattle.line.specs.Ranges.{LineInRange}
use Rattle.stationing.specs.Stations.{spiral_at, arc_at, tangent_at, tangent_before, tangent_after, straight_at, former_st, points_at, end_of}
use Rattle.stationing.proofs.StraightSteps.{after_inside, after_end}
use Rattle.numbers.specs.Fractions.{nat}
use Rattle.accuracy.specs.ExactStations.{exact_spiral_at, exact_arc_at, exact_tangent_at, exact_tangent_before, exact_tangent_after, exact_straight_at, exact_former_st, exact_points_at, exact_end}
use Rattle.accuracy.proofs.Nearness.{Near, loosen, near_nat, near_sum, near_difference}
use Rattle.accuracy.proofs.NearElements.{near_d}
use Rattle.accuracy.proofs.Tangent.{short_tangent, over_tangent, near_tt}

-- The error of a point of the curve at entry i.
abbrev pub point_error : ℕ → ℕ
point_error i = 476000 * i + 240431

module _ (n : ℕ) (seven : 7 ≤ n) (line : Line) (ok : LineInRange line) where
  -- ---- L, D, TT and straights

  near_spiral_at : (i : ℕ) → Near 1000 (spiral_at line i) (exact_spiral_at line i) 0 0
  unfolding spiral_at exact_spiral_at
  near_spiral_at i = near_nat 1000 (curve_at line i).spiral

  pub near_arc_at : (i : ℕ) → i < line.count → Near 1000 (arc_at line i) (exact_arc_at line i) 5500 1870
  unfolding arc_at exact_arc_at
  near_arc_at i h = near_d _ _ _ (ok.curve i h)

  near_tangent_at : (i : ℕ) → i < line.count → Near 1000 (tangent_at line i) (exact_tangent_at n line i) short_tangent over_tangent
  unfolding tangent_at exact_tangent_at
  near_tangent_at i h = near_tt _ _ _ (ok.curve i h) n seven

  near_before : (i : ℕ) → i ≤ line.count → Near 1000 (tangent_before line i) (exact_tangent_before n line i) short_tangent over_tangent
  unfolding tangent_before exact_tangent_before
  near_before zero h = loosen (lit≤ tt) (lit≤ tt) (near_nat 1000 0)
  near_before (suc i) h = near_tangent_at i h

  exact_after_inside : (i : ℕ) → i < line.count → exact_tangent_after n line i ≡ exact_tangent_at n line i
  unfolding exact_tangent_after
  exact_after_inside i h = rw (lt-ltb i line.count h)

  exact_after_end : (i : ℕ) → line.count ≤ i → exact_tangent_after n line i ≡ nat 0
  unfolding exact_tangent_after
  exact_after_end i h = rw (le-ltb i line.count h)

  near_after_inside : (i : ℕ) → i < line.count → Near 1000 (tangent_after line i) (exact_tangent_after n line i) short_tangent over_tangent
  near_after_inside i h = rw (after_inside line i h, exact_after_inside i h) (near_tangent_at i h)

  near_after_end : (i : ℕ) → line.count ≤ i → Near 1000 (tangent_after line i) (exact_tangent_after n line i) 0 0
  near_after_end i h = rw (after_end line i h, exact_after_end i h) (near_nat 1000 0)

  -- A straight, with the errors of its tangents.
  straight_from : (i : ℕ) {b b' a a' : ℕ} → Near 1000 (tangent_before line i) (exact_tangent_before n line i) b b'
      → Near 1000 (tangent_after line i) (exact_tangent_after n line i) a a' → Near 1000 (straight_at line i) (exact_straight_at n line i) (0 + b' + a') (0 + b + a)
  unfolding straight_at exact_straight_at
  straight_from i before after = near_difference (near_difference (near_nat 1000 (distance_at line i)) before) after

  pub near_straight : (i : ℕ) → i ≤ line.count → Near 1000 (straight_at line i) (exact_straight_at n line i) 423650 469862
  near_straight i h = go (dec_lt i line.count)
    where
      go : Dec (i < line.count) → Near 1000 (straight_at line i) (exact_straight_at n line i) 423650 469862
      go (yes k) = straight_from i (near_before i h) (near_after_inside i k)
      go (no k) = loosen (lit≤ tt) (lit≤ tt) (straight_from i (near_before i h) (near_after_end i (omega arith)))

  -- ---- stations

  -- The ST before distance i and the tangent before it, with errors that stay below 476 µm a curve together.
  record Reached (i : ℕ) : Type 0 where
    station_error : ℕ
    tangent_error : ℕ
    station : Near 1000 (former_st line i) (exact_former_st n line i) station_error station_error
    tangent : Near 1000 (tangent_before line i) (exact_tangent_before n line i) tangent_error tangent_error
    few : station_error + tangent_error ≤ 476000 * i

  -- The four points of the curve at entry i.
  pub record NearPoints (i : ℕ) : Type 0 where
    pub TS : Near 1000 (points_at line i).TS (exact_points_at n line i).TS (point_error i) (point_error i)
    pub SC : Near 1000 (points_at line i).SC (exact_points_at n line i).SC (point_error i) (point_error i)
    pub CS : Near 1000 (points_at line i).CS (exact_points_at n line i).CS (point_error i) (point_error i)
    pub ST : Near 1000 (points_at line i).ST (exact_points_at n line i).ST (point_error i) (point_error i)

  points_from_lem : (i : ℕ) → i < line.count → Reached i → NearPoints i
  unfolding points_at exact_points_at
  points_from_lem i h r =
      let few = r.few in
      let TS = near_sum r.station (straight_from i r.tangent (near_after_inside i h)) in
      let SC = near_sum TS (near_spiral_at i) in
      let CS = near_sum SC (near_arc_at i h) in
      let ST = near_sum CS (near_spiral_at i) in
      record {
        TS = loosen (omega arith) (omega arith) TS;
        SC = loosen (omega arith) (omega arith) SC;
        CS = loosen (omega arith) (omega arith) CS;
        ST = loosen (omega arith) (omega arith) ST;
      }

  reached : (i : ℕ) → i ≤ line.count → Reached i
  unfolding former_st exact_former_st tangent_before exact_tangent_before points_at exact_points_at
  reached zero h =
      record {
        station_error = 0;
        tangent_error = 0;
        station = near_nat 1000 line.start;
        tangent = near_nat 1000 0;
        few = omega arith;
      }
  reached (suc i) h =
      record {
        station_error = point_error i;
        tangent_error = short_tangent;
        station = (points_from_lem i h (reached i (omega arith))).ST;
        tangent = loosen (lit≤ tt) (lit≤ tt) (near_tangent_at i h);
        few = omega arith;
      }

  pub near_points : (i : ℕ) → i < line.count → NearPoints i
  near_points i h = points_from_lem i h (reached i (omega arith))

  pub near_end : Near 1000 (end_of line) (exact_end n line) (476000 * line.count) (476000 * line.count)
  unfolding end_of exact_end
  near_end =
      let r = reached line.count (omega arith) in
      let few = r.few in
      loosen (omega arith) (omega arith)
      (near_sum r.station (straight_from line.count r.tangent (near_after_end line.count (omega arith))))
