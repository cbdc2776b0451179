-- Pegs of document 01's case 1, of lines that begin at 1,000 mm with a curve to the left and another behind it, at an exact half, and of a ramp,
-- from the definitions. Assumes nothing.
use mathlib.Core.Path.{◌≡◌, refl}
use mathlib.Core.Bool.{Bool, true, false}
use mathlib.Core.List.{[], ◌∷◌, map}
use Prim.Native.Nat.{ℕ}
use lib.IntN.{ℤ, pos, neg_ℤ}
use lib.ListN.{replicate}
use Rattle.refusals.specs.Outcomes.{first_of}
use Rattle.refusals.specs.Filling.{filled, unfilled, with_room, fill}
use Rattle.refusals.specs.Replying.{Reply, answered, declined, reply}
use Rattle.line.specs.declared.Curve.{Curve}
use Rattle.line.specs.declared.Line.{Line}
use Rattle.line.specs.Checks.{start_check, head_checks, distance_check, curve_checks, body_checks, field_checks}
use Rattle.elements.specs.WorkingRule.{rounded, full_angle, half_angle, spiral_angle, term, alternating, sine_of, cosine_of, t2, t3, t4, t5, t6, unit_x, unit_y, spiral_x, spiral_y, centre_of, shift_of, arc_of, tan_of, tangent_of}
use Rattle.elements.specs.Answer.{arc_check}
use Rattle.elements.specs.SpiralPoint.{part_to, angle_to, offset_x, offset_y}
use Rattle.stationing.specs.declared.ElementKind.{ElementKind}
use Rattle.stationing.specs.declared.ElementKind.TheVariants.{Straight, SpiralIn, Arc, SpiralOut}
use Rattle.line.specs.Speeds.{under_speed}
use Rattle.stationing.specs.RoadTables.{friction_at, least_spiral_at, radius_serves, spiral_serves}
use Rattle.stationing.specs.Stations.{spiral_at, arc_at, tangent_at, tangent_before, tangent_after, straight_at, former_st}
use Rattle.stationing.specs.Answer.{design_checks, design_checks_at, straight_check, alignment_checks}
use Rattle.stationing.specs.LineElements.{elements_from, elements_of, total, line_length, placed_from, placed_elements}
use Rattle.stationing.proofs.Examples.{case_line, no_curve_from, no_curve, line_of}
use Rattle.pegs.specs.Pegs.{along_line, holds, last_straight, holding, element_under, PegValues, peg_by, station_check, peg_checks, peg_reply}
use Rattle.pegs.specs.Numbers.{kind_number, peg_numbers, station_numbers}

-- A peg, by its values.
abbrev at : ElementKind → (number : ℕ) → (length x y : ℤ) → Reply PegValues
at kind number length x y = answered (record { kind = kind; number = number; length = length; offsets = record { x = x; y = y } })

-- One without offsets.
abbrev plain : ElementKind → (number length : ℕ) → Reply PegValues
plain kind number length = at kind number (pos length) (pos 0) (pos 0)

-- Case 1.
abbrev one : Line
one = case_line 500000 350000 40000

-- V 70, e 8, start 1,000; a curve to the left, and behind it another to the right.
abbrev curve : Bool → (A R L : ℕ) → Curve
curve left A R L = record { left = left; deflection = A; radius = R; spiral = L }

abbrev behind : Curve → Line
behind second =
    record {
      speed = 70;
      crossfall = 8;
      start = 1000;
      count = 2;
      distances = 500000 ∷ 500000 ∷ 500000 ∷ [];
      curves = curve true 177764 350000 40000 ∷ second ∷ [];
    }

-- Without spirals, and with others than the first.
abbrev two : Line
two = behind (curve false 100000 350000 0)

abbrev three : Line
three = behind (curve false 100000 400000 50000)

-- A curve to the left whose y at CS is exactly a half over 9,521,588 before its sign.
abbrev half_way : Line
half_way = line_of 1 (2000000 ∷ 2000000 ∷ []) (curve true 100000 4375000 500000 ∷ [])

-- A ramp to the left whose spirals are as long as its radius.
abbrev ramp : Line
ramp = line_of 1 (500000 ∷ 400000 ∷ []) (curve true 300000 200000 200000 ∷ [])

pub record Examples : Type 0 where
  pub start : peg_reply one 0 ≡ plain Straight 0 0
  pub before_ts : peg_reply one 319010719 ≡ plain Straight 0 319010719
  pub at_ts : peg_reply one 319010720 ≡ plain SpiralIn 1 0
  pub half_way_lem : peg_reply one 339010720 ≡ at SpiralIn 1 (pos 20000000) (pos 19999592) (pos 95237)
  pub before_sc : peg_reply one 359010719 ≡ at SpiralIn 1 (pos 39999999) (pos 39986940) (pos 761727)
  pub at_sc : peg_reply one 359010720 ≡ plain Arc 1 0
  pub before_cs : peg_reply one 620649186 ≡ plain Arc 1 261638466
  pub at_cs : peg_reply one 620649187 ≡ at SpiralOut 1 (pos 40000000) (pos 39986941) (pos 761727)
  pub half_way_back : peg_reply one 640649187 ≡ at SpiralOut 1 (pos 20000000) (pos 19999592) (pos 95237)
  pub before_st : peg_reply one 660649186 ≡ at SpiralOut 1 (pos 1) (pos 1) (pos 0)
  pub at_st : peg_reply one 660649187 ≡ plain Straight 1 0
  pub end : peg_reply one 879659907 ≡ plain Straight 1 219010720
  pub beyond : peg_reply one 879659908 ≡ declined 17 0
  -- ---- the second line
  pub before_start : peg_reply two 999999 ≡ declined 17 0
  pub at_start : peg_reply two 1000000 ≡ plain Straight 0 0
  pub left_in : peg_reply two 340010720 ≡ at SpiralIn 1 (pos 20000000) (pos 19999592) (neg_ℤ (pos 95237))
  pub left_out : peg_reply two 641649187 ≡ at SpiralOut 1 (pos 20000000) (pos 19999592) (neg_ℤ (pos 95237))
  pub before_second : peg_reply two 894115691 ≡ plain Straight 1 232466504
  pub no_spiral_in : peg_reply two 894115692 ≡ plain Arc 2 0
  pub no_spiral_out : peg_reply two 1063800480 ≡ plain Straight 2 0
  pub second_end : peg_reply two 1477256265 ≡ plain Straight 2 413455785
  pub second_in : peg_reply three 876691103 ≡ at SpiralIn 2 (pos 20000000) (pos 19999800) (pos 66666)
  pub second_out : peg_reply three 1070616575 ≡ at SpiralOut 2 (pos 30000000) (pos 29998481) (pos 224992)
  pub left_numbers : station_numbers three 340010720 ≡ pos 1 ∷ pos 1 ∷ pos 20000000 ∷ pos 19999592 ∷ neg_ℤ (pos 95237) ∷ []
  -- ---- a left curve's y is rounded and then negated
  pub left_half : peg_reply half_way 2788695701 ≡ at SpiralOut 1 (pos 500000000) (pos 499836760) (neg_ℤ (pos 9521589))
  -- ---- the ramp: on the spiral in, and at CS
  pub ramp_in : peg_reply ramp 365492495 ≡ at SpiralIn 1 (pos 150000000) (pos 148817814) (neg_ℤ (pos 13983245))
  pub ramp_out : peg_reply ramp 506380704 ≡ at SpiralOut 1 (pos 200000000) (pos 195057536) (neg_ℤ (pos 32742830))
  -- ---- a line without curves, refused lines, and a peg as numbers
  pub no_curve_lem : (fill (peg_checks no_curve 250000000) (station_numbers no_curve 250000000) (replicate 6 (pos 7))).reply ≡ filled 5
  pub no_curve_numbers : (fill (peg_checks no_curve 250000000) (station_numbers no_curve 250000000) (replicate 6 (pos 7))).buffer
      ≡ pos 0 ∷ pos 0 ∷ pos 250000000 ∷ pos 0 ∷ pos 0 ∷ pos 7 ∷ []
  pub far : (fill (peg_checks (no_curve_from 4000000000) 4000250000000) (station_numbers (no_curve_from 4000000000) 4000250000000) (replicate 6 (pos 7))).reply ≡ filled 5
  pub far_numbers : (fill (peg_checks (no_curve_from 4000000000) 4000250000000) (station_numbers (no_curve_from 4000000000) 4000250000000) (replicate 6 (pos 7))).buffer
      ≡ pos 0 ∷ pos 0 ∷ pos 250000000 ∷ pos 0 ∷ pos 0 ∷ pos 7 ∷ []
  pub sixteen_last : (fill (peg_checks no_curve 500000001) (station_numbers no_curve 500000001) []).reply ≡ unfilled 17 0
  pub fifteen_first : peg_reply (case_line 180990 350000 40000) 879659908 ≡ declined 15 0
  pub kinds : map kind_number (Straight ∷ SpiralIn ∷ Arc ∷ SpiralOut ∷ []) ≡ 0 ∷ 1 ∷ 2 ∷ 3 ∷ []
  pub numbers : peg_numbers (record { kind = Arc; number = 7; length = pos 8; offsets = record { x = pos 9; y = pos 10 } })
      ≡ pos 2 ∷ pos 7 ∷ pos 8 ∷ pos 9 ∷ pos 10 ∷ []

pub examples : Examples
unfolding first_of start_check head_checks distance_check curve_checks body_checks field_checks rounded full_angle half_angle spiral_angle term alternating sine_of cosine_of t2 t3 t4 t5 t6 unit_x unit_y spiral_x spiral_y centre_of shift_of arc_of tan_of tangent_of arc_check under_speed friction_at least_spiral_at radius_serves spiral_serves spiral_at arc_at tangent_at tangent_before tangent_after straight_at former_st design_checks design_checks_at straight_check alignment_checks elements_from elements_of total line_length placed_from placed_elements part_to angle_to offset_x offset_y along_line holds last_straight holding element_under peg_by station_check peg_checks reply peg_reply station_numbers with_room fill
examples =
    record {
      start = refl;
      before_ts = refl;
      at_ts = refl;
      half_way_lem = refl;
      before_sc = refl;
      at_sc = refl;
      before_cs = refl;
      at_cs = refl;
      half_way_back = refl;
      before_st = refl;
      at_st = refl;
      end = refl;
      beyond = refl;
      before_start = refl;
      at_start = refl;
      left_in = refl;
      left_out = refl;
      before_second = refl;
      no_spiral_in = refl;
      no_spiral_out = refl;
      second_end = refl;
      second_in = refl;
      second_out = refl;
      left_numbers = refl;
      left_half = refl;
      ramp_in = refl;
      ramp_out = refl;
      no_curve_lem = refl;
      no_curve_numbers = refl;
      far = refl;
      far_numbers = refl;
      sixteen_last = refl;
      fifteen_first = refl;
      kinds = refl;
      numbers = refl;
    }
