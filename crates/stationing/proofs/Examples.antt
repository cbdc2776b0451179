-- Document 01's cases 1 to 5 and 9, a ramp, and the tables, orders, places and limits of 12 to 15, from the definitions. Assumes nothing.
use mathlib.Core.Path.{◌≡◌, refl}
use mathlib.Core.Bool.{Bool, true, false, not, ◌&&◌}
use mathlib.Core.List.{List, [], ◌∷◌}
use Prim.Native.Nat.{ℕ, ◌-◌}
use lib.IntN.{pos}
use lib.ListN.{replicate}
use Rattle.refusals.specs.Outcomes.{first_of}
use Rattle.refusals.specs.Filling.{filled, unfilled, with_room, fill}
use Rattle.line.specs.declared.Curve.{Curve}
use Rattle.line.specs.declared.Line.{Line}
use Rattle.line.specs.Checks.{start_check, head_checks, distance_check, curve_checks, body_checks, field_checks}
use Rattle.elements.specs.WorkingRule.{rounded, full_angle, half_angle, spiral_angle, term, alternating, sine_of, cosine_of, t2, t3, t4, t5, t6, unit_x, unit_y, spiral_x, spiral_y, centre_of, shift_of, arc_of, tan_of, tangent_of}
use Rattle.elements.specs.Answer.{arc_check}
use Rattle.line.specs.Speeds.{under_speed}
use Rattle.stationing.specs.RoadTables.{friction_at, least_spiral_at, radius_serves, spiral_serves}
use Rattle.stationing.specs.Stations.{spiral_at, arc_at, tangent_at, tangent_before, tangent_after, straight_at, former_st, points_at, end_of, curve_stations, stations_of, station_row}
use Rattle.stationing.specs.Answer.{design_checks, design_checks_at, straight_check, alignment_checks, stations_in}

-- A curve to the right.
abbrev curve : ℕ → ℕ → ℕ → Curve
curve A R L = record { left = false; deflection = A; radius = R; spiral = L }

-- V 70, e 8, start 0, second distance 400,000 and A 177,764 right; the first distance, R and L differ by case.
abbrev pub case_line : (distance R L : ℕ) → Line
case_line distance R L =
    record {
      speed = 70;
      crossfall = 8;
      start = 0;
      count = 1;
      distances = distance ∷ 400000 ∷ replicate 63 0;
      curves = curve 177764 R L ∷ replicate 63 (curve 0 0 0);
    }

-- Case 9, from a start: no curve, distance 500,000.
abbrev pub no_curve_from : ℕ → Line
no_curve_from start =
    record { speed = 70; crossfall = 8; start = start; count = 0; distances = 500000 ∷ replicate 64 0; curves = replicate 64 (curve 0 0 0) }

abbrev pub no_curve : Line
no_curve = no_curve_from 0

-- Case 1's curve with other R and L.
abbrev curve1 : (R L : ℕ) → Curve
curve1 R L = curve 177764 R L

-- V 70, e 8, start 0, n curves.
abbrev pub line_of : ℕ → List ℕ → List Curve → Line
line_of n distances curves =
    record { speed = 70; crossfall = 8; start = 0; count = n; distances = distances; curves = curves }

-- Two curves far enough from each other.
abbrev two_curves : Curve → Curve → Line
two_curves a b = line_of 2 (500000 ∷ 500000 ∷ 500000 ∷ []) (a ∷ b ∷ [])

-- At the design speed v and crossfall 8, R is the least radius, and with the greatest radius L the least spiral.
abbrev limits : (v R L : ℕ) → Bool
limits v R L =
    radius_serves v 8 R
    && not (radius_serves v 8 (R - 1))
    && spiral_serves v 5000000 L
    && not (spiral_serves v 5000000 (L - 1))

-- A row with two numbers more than there are stations.
abbrev pub row : List ℕ
row = 1 ∷ 2 ∷ 3 ∷ 4 ∷ 5 ∷ 6 ∷ 7 ∷ []

pub record Examples : Type 0 where
  pub case_1 : (stations_in (case_line 500000 350000 40000) row).reply ≡ filled 5
  pub case_1_row : (stations_in (case_line 500000 350000 40000) row).buffer
      ≡ 319010720 ∷ 359010720 ∷ 620649187 ∷ 660649187 ∷ 879659907 ∷ 6 ∷ 7 ∷ []
  pub case_1_small : (stations_in (case_line 500000 350000 40000) (replicate 4 0)).reply ≡ unfilled 16 0
  pub case_2 : (stations_in (case_line 180991 350000 40000) (replicate 5 0)).reply ≡ filled 5
  pub case_2_straight : straight_at (case_line 180991 350000 40000) 0 ≡ pos 1720
  pub case_3 : (stations_in (case_line 180990 350000 40000) []).reply ≡ unfilled 15 0
  pub case_3_row : (stations_in (case_line 180990 350000 40000) row).buffer ≡ row
  pub case_4 : (stations_in (case_line 500000 350000 39999) (replicate 5 0)).reply ≡ unfilled 13 1
  pub case_5 : radius_serves 70 8 167751 ≡ true
  pub case_5_accepted : (stations_in (case_line 500000 167751 0) (replicate 5 0)).reply ≡ filled 5
  pub case_5_refused : (stations_in (case_line 500000 167750 0) (replicate 5 0)).reply ≡ unfilled 12 1
  pub case_9 : (stations_in no_curve (7 ∷ [])).reply ≡ filled 1
  pub case_9_row : (stations_in no_curve (7 ∷ [])).buffer ≡ 500000000 ∷ []
  -- ---- the same from the greatest start of document 02, N6, and from one more
  pub greatest_start_lem : (stations_in (no_curve_from 4000000000) (7 ∷ [])).reply ≡ filled 1
  pub greatest_start_row : (stations_in (no_curve_from 4000000000) (7 ∷ [])).buffer ≡ 4000500000000 ∷ []
  pub start_beyond : (stations_in (no_curve_from 4000000001) []).reply ≡ unfilled 6 0
  -- ---- document 02, N7: a ramp whose spirals are as long as its radius
  pub ramp : (stations_in (line_of 1 (500000 ∷ 400000 ∷ []) (curve 300000 200000 200000 ∷ [])) row).buffer
      ≡ 215492495 ∷ 415492495 ∷ 506380704 ∷ 706380704 ∷ 821873199 ∷ 6 ∷ 7 ∷ []
  -- ---- the road tables, each order, each place, each limit
  pub tables : (limits 40 48456 30000
      && limits 50 82021 30000
      && limits 60 123246 30000
      && limits 70 167751 40000
      && limits 80 229063 40000
      && limits 90 289907 50000
      && limits 100 374954 60000
      && limits 110 476378 60000
      && limits 120 596768 70000)
      ≡ true
  pub spiral_by_radius : spiral_serves 70 308700 40000 && not (spiral_serves 70 308699 40000) ≡ true
  pub radius_before_spiral : (stations_in (case_line 500000 167750 39999) row).reply ≡ unfilled 12 1
  pub curve_by_curve : (stations_in (two_curves (curve1 350000 39999) (curve1 167750 0)) (replicate 9 0)).reply ≡ unfilled 13 1
  pub second_radius : (stations_in (two_curves (curve1 350000 40000) (curve1 167750 0)) (replicate 9 0)).reply ≡ unfilled 12 2
  pub second_spiral : (stations_in (two_curves (curve1 350000 40000) (curve1 350000 39999)) (replicate 9 0)).reply ≡ unfilled 13 2
  pub straight_of_1000 : (stations_in (line_of 0 (1 ∷ []) []) (7 ∷ [])).reply ≡ filled 1
  pub straight_of_999 : (stations_in (line_of 1 (182719 ∷ 400000 ∷ []) (curve 179442 350000 40000 ∷ [])) row).reply ≡ unfilled 15 0
  pub straights_in_turn : (stations_in (line_of 1 (180990 ∷ 180990 ∷ []) (curve1 350000 40000 ∷ [])) row).reply ≡ unfilled 15 0
  pub last_straight_lem : (stations_in (line_of 1 (500000 ∷ 180990 ∷ []) (curve1 350000 40000 ∷ [])) row).reply ≡ unfilled 15 1

pub examples : Examples
unfolding first_of start_check head_checks distance_check curve_checks body_checks field_checks rounded full_angle half_angle spiral_angle term alternating sine_of cosine_of t2 t3 t4 t5 t6 unit_x unit_y spiral_x spiral_y centre_of shift_of arc_of tan_of tangent_of arc_check under_speed friction_at least_spiral_at radius_serves spiral_serves spiral_at arc_at tangent_at tangent_before tangent_after straight_at former_st points_at end_of curve_stations stations_of station_row design_checks design_checks_at straight_check alignment_checks with_room fill stations_in
examples =
    record {
      case_1 = refl;
      case_1_row = refl;
      case_1_small = refl;
      case_2 = refl;
      case_2_straight = refl;
      case_3 = refl;
      case_3_row = refl;
      case_4 = refl;
      case_5 = refl;
      case_5_accepted = refl;
      case_5_refused = refl;
      case_9 = refl;
      case_9_row = refl;
      greatest_start_lem = refl;
      greatest_start_row = refl;
      start_beyond = refl;
      ramp = refl;
      tables = refl;
      spiral_by_radius = refl;
      radius_before_spiral = refl;
      curve_by_curve = refl;
      second_radius = refl;
      second_spiral = refl;
      straight_of_1000 = refl;
      straight_of_999 = refl;
      straights_in_turn = refl;
      last_straight_lem = refl;
    }
