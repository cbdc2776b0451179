-- The claims at single curves and lines, by computation: the exact values of document 01's case 1 and of a ramp to nine decimals of a mm, the
-- bounds at the greatest deflection and spiral angle, and lines with a large difference, with two curves, with short straights and with a short
-- arc. Assumes nothing.
use mathlib.Core.Path.{◌≡◌, refl}
use mathlib.Core.Bool.{false}
use mathlib.Core.List.{◌∷◌}
use Prim.Native.Nat.{ℕ, suc}
use lib.Dec.{T}
use lib.IntN.{ℤ, pos, ◌*ℤ◌}
use lib.ListN.{replicate}
use lib.Signed.{le_z, lt_z, le_z_yes, lt_z_yes}
use Rattle.refusals.specs.Outcomes.{first_of}
use Rattle.refusals.specs.Filling.{filled, unfilled, with_room, fill}
use Rattle.line.specs.declared.Curve.{Curve}
use Rattle.line.specs.declared.Line.{Line}
use Rattle.line.specs.Checks.{start_check, head_checks, distance_check, curve_checks, body_checks, field_checks}
use Rattle.elements.specs.WorkingRule.{rounded, full_angle, half_angle, spiral_angle, term, alternating, sine_of, cosine_of, t2, t3, t4, t5, t6, unit_x, unit_y, spiral_x, spiral_y, centre_of, shift_of, arc_of, tan_of, tangent_of}
use Rattle.elements.specs.Answer.{arc_check}
use Rattle.elements.specs.SpiralPoint.{part_to, angle_to, offset_x, offset_y}
use Rattle.line.specs.Speeds.{under_speed}
use Rattle.stationing.specs.RoadTables.{friction_at, least_spiral_at, radius_serves, spiral_serves}
use Rattle.stationing.specs.Stations.{spiral_at, arc_at, tangent_at, tangent_before, tangent_after, straight_at, former_st, points_at, end_of, curve_stations, stations_of, station_row}
use Rattle.stationing.specs.Answer.{design_checks, design_checks_at, straight_check, alignment_checks, stations_in}
use Rattle.numbers.specs.Fractions.{Fraction, whole, nat, ◌⊕◌, ◌⊖◌, ◌⊗◌, ◌↑◌, ◌⊘◌, over, ratio, ◌≼◌, ◌≺◌, ◌≈◌}
use Rattle.accuracy.specs.ExactOffsets.{exact_angle_to, exact_offset_x, exact_offset_y, OffsetsWithin}
use Rattle.accuracy.specs.ExactElements.{exact_pi, exact_angle, exact_half_angle, exact_spiral_angle, alternating_sum, factorial, exact_sine, exact_cosine, document_terms, exact_x, exact_y, exact_centre, exact_shift, exact_arc, exact_tan, exact_tangent}
use Rattle.accuracy.specs.ExactStations.{exact_spiral_at, exact_arc_at, exact_tangent_at, exact_tangent_before, exact_tangent_after, exact_straight_at, exact_former_st, exact_points_at, exact_end}
use Rattle.accuracy.specs.Accuracy.{Within, ElementsWithin, tolerance, tenths, least_straight, least_arc, refused_straight, refused_arc}

-- v has k billionths and no full one more.
pub record Billionths (k : ℕ) (v : Fraction) : Type 0 where
  pub low : nat k ⊘ 1000000000 ≼ v
  pub high : v ≺ nat (suc k) ⊘ 1000000000

-- ---- computed tests

abbrev LessOrEqual : Fraction → Fraction → Type 0
LessOrEqual u v = T (le_z (u.top *ℤ pos v.under) (v.top *ℤ pos u.under))

abbrev Less : Fraction → Fraction → Type 0
Less u v = T (lt_z (u.top *ℤ pos v.under) (v.top *ℤ pos u.under))

less : {u v : Fraction} → Less u v → u ≺ v
less t = record { cross = lt_z_yes t }

equal : {u v : Fraction} → LessOrEqual u v → LessOrEqual v u → u ≈ v
equal s t = record { at_most = record { cross = le_z_yes s }; at_least = record { cross = le_z_yes t } }

decimals : {k : ℕ} {v : Fraction} → LessOrEqual (nat k ⊘ 1000000000) v → Less v (nat (suc k) ⊘ 1000000000) → Billionths k v
decimals s t = record { low = record { cross = le_z_yes s }; high = less t }

near : {e : ℕ} {q : ℤ} {v : Fraction} → LessOrEqual (whole q ⊖ nat 1000 ⊗ v) (nat e) → LessOrEqual (nat 1000 ⊗ v ⊖ whole q) (nat e) → Within e q v
near s t = record { over = record { cross = le_z_yes s }; short = record { cross = le_z_yes t } }

-- ---- lines

abbrev pub curve : ℕ → ℕ → ℕ → Curve
curve A R L = record { left = false; deflection = A; radius = R; spiral = L }

abbrev pub one_curve : (first last A R L : ℕ) → Line
one_curve first last A R L =
    record {
      speed = 70;
      crossfall = 8;
      start = 0;
      count = 1;
      distances = first ∷ last ∷ replicate 63 0;
      curves = curve A R L ∷ replicate 63 (curve 0 0 0);
    }

-- Document 01's case 1, with another first distance.
abbrev pub case_line : ℕ → Line
case_line first = one_curve first 400000 177764 350000 40000

-- The radius and the spiral of cases 6 and 7.
abbrev pub short_arc : ℕ → Line
short_arc A = one_curve 500000 400000 A 350000 40000

-- A curve whose TT is 54 µm short of the exact one.
abbrev pub far_line : Line
far_line = one_curve 20000000 20000000 427972 4958722 192135

-- The curve of case 1 twice.
abbrev pub two_curves : Line
two_curves =
    record {
      speed = 70;
      crossfall = 8;
      start = 0;
      count = 2;
      distances = 500000 ∷ 500000 ∷ 400000 ∷ replicate 62 0;
      curves = curve 177764 350000 40000 ∷ curve 177764 350000 40000 ∷ replicate 62 (curve 0 0 0);
    }

pub record Examples : Type 0 where
  -- 1 − 1/3! + 1/5! − .. − 1/15!, and 1 − 1/2! + 1/4! − .. − 1/14!
  pub sine_of_1 : exact_sine document_terms (nat 1) ≈ nat 1100370038249 ⊘ 1307674368000
  pub cosine_of_1 : exact_cosine document_terms (nat 1) ≈ nat 47102631757 ⊘ 87178291200
  pub case_1_x : Billionths 39986940749847 (exact_x 350000 40000)
  pub case_1_y : Billionths 761727076632 (exact_y 350000 40000)
  -- document 02, N7: a spiral as long as its radius, and a point of it
  pub ramp_x : Billionths 487643841257122 (exact_x 500000 500000)
  pub ramp_y : Billionths 81857075216450 (exact_y 500000 500000)
  pub ramp_x_lem : Billionths 395923372187671 (exact_offset_x 500000 500000 400000000)
  pub ramp_y_lem : Billionths 42355607277160 (exact_offset_y 500000 500000 400000000)
  pub half_way_x : Billionths 19999591840591 (exact_offset_x 350000 40000 20000000)
  pub half_way_y : Billionths 95236706936 (exact_offset_y 350000 40000 20000000)
  -- A point whose y is 1.600 µm short of the exact one.
  pub short_offset : OffsetsWithin 500904 482476 480741324
  pub case_1_k : Billionths 19997823326689 (exact_centre document_terms 350000 40000)
  pub case_1_p : Billionths 190453979048 (exact_shift document_terms 350000 40000)
  pub case_1_d : Billionths 261638467230644 (exact_arc 177764 350000 40000)
  pub case_1_tt : Billionths 180989278939951 (exact_tangent document_terms 177764 350000 40000)
  pub greatest : ElementsWithin document_terms 432000 500000 500000
  -- a curve whose X is 1.441 µm over the exact one, and whose Y is 1.296 µm short of it
  pub far_x_and_y : ElementsWithin document_terms 432000 510068 497247
  pub far_accepted : (stations_in far_line (replicate 5 0)).reply ≡ filled 5
  pub far_ts : Within (tolerance 1) (points_at far_line 0).TS (exact_points_at document_terms far_line 0).TS
  pub far_end : Within (tolerance 1) (end_of far_line) (exact_end document_terms far_line)
  pub two_accepted : (stations_in two_curves (replicate 9 0)).reply ≡ filled 9
  pub second_ts : Within (tolerance 2) (points_at two_curves 1).TS (exact_points_at document_terms two_curves 1).TS
  pub two_end : Within (tolerance 2) (end_of two_curves) (exact_end document_terms two_curves)
  -- case 2, an accepted straight of 1,720 µm; case 3, a refused one; case 7's curve in a line, a refused arc; case 6's, an accepted one
  pub case_2 : (stations_in (case_line 180991) (replicate 5 0)).reply ≡ filled 5
  pub case_2_straight : tenths least_straight ≺ exact_straight_at document_terms (case_line 180991) 0
  pub case_3 : (stations_in (case_line 180990) (replicate 5 0)).reply ≡ unfilled 15 0
  pub case_3_straight : exact_straight_at document_terms (case_line 180990) 0 ≺ tenths refused_straight
  pub case_6 : (stations_in (short_arc 23574) (replicate 5 0)).reply ≡ filled 5
  pub case_6_arc : tenths least_arc ≺ exact_arc_at (short_arc 23574) 0
  pub case_7 : (stations_in (short_arc 23573) (replicate 5 0)).reply ≡ unfilled 14 1
  pub case_7_arc : exact_arc_at (short_arc 23573) 0 ≺ tenths refused_arc

pub examples : Examples
unfolding first_of start_check head_checks distance_check curve_checks body_checks field_checks arc_check under_speed friction_at least_spiral_at radius_serves spiral_serves design_checks design_checks_at straight_check alignment_checks with_room fill stations_in rounded full_angle half_angle spiral_angle term alternating sine_of cosine_of t2 t3 t4 t5 t6 unit_x unit_y spiral_x spiral_y centre_of shift_of arc_of tan_of tangent_of spiral_at arc_at tangent_at tangent_before tangent_after straight_at former_st points_at end_of curve_stations stations_of station_row whole ◌⊕◌ ◌⊖◌ ◌⊗◌ ◌↑◌ ◌⊘◌ over ratio exact_pi exact_angle exact_half_angle exact_spiral_angle alternating_sum factorial exact_sine exact_cosine exact_x exact_y exact_centre exact_shift exact_arc exact_tan exact_tangent exact_spiral_at exact_arc_at exact_tangent_at exact_tangent_before exact_tangent_after exact_straight_at exact_former_st exact_points_at exact_end exact_angle_to exact_offset_x exact_offset_y part_to angle_to offset_x offset_y
examples =
    record {
      sine_of_1 = equal tt tt;
      cosine_of_1 = equal tt tt;
      case_1_x = decimals tt tt;
      case_1_y = decimals tt tt;
      ramp_x = decimals tt tt;
      ramp_y = decimals tt tt;
      ramp_x_lem = decimals tt tt;
      ramp_y_lem = decimals tt tt;
      half_way_x = decimals tt tt;
      half_way_y = decimals tt tt;
      short_offset = record { x = near tt tt; y = near tt tt };
      case_1_k = decimals tt tt;
      case_1_p = decimals tt tt;
      case_1_d = decimals tt tt;
      case_1_tt = decimals tt tt;
      greatest = record { X = near tt tt; Y = near tt tt; k = near tt tt; p = near tt tt; D = near tt tt; TT = near tt tt };
      far_x_and_y = record { X = near tt tt; Y = near tt tt; k = near tt tt; p = near tt tt; D = near tt tt; TT = near tt tt };
      far_accepted = refl;
      far_ts = near tt tt;
      far_end = near tt tt;
      two_accepted = refl;
      second_ts = near tt tt;
      two_end = near tt tt;
      case_2 = refl;
      case_2_straight = less tt;
      case_3 = refl;
      case_3_straight = less tt;
      case_6 = refl;
      case_6_arc = less tt;
      case_7 = refl;
      case_7_arc = less tt;
    }
