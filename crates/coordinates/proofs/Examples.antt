-- Refusals in their order and with their places, sides, and document 01's case 1 by its points. Assumes nothing.
use mathlib.Core.Path.{◌≡◌, refl, sym}
use mathlib.Core.List.{List, [], ◌∷◌}
use Prim.Native.Nat.{ℕ}
use native.Mathlib.Omega.{arith}
use lib.IntN.{ℤ, pos, negsuc}
use lib.ListN.{replicate}
use mathlib.Core.Bool.{true}
use Rattle.refusals.specs.Outcomes.{Outcome, passed, refused, first_of}
use Rattle.refusals.specs.Order.{outcome}
use Rattle.refusals.specs.Replying.{answered, reply}
use Rattle.refusals.proofs.Filled.{found}
use Rattle.refusals.proofs.Replied.{passed_reply}
use Rattle.line.specs.Checks.{distance_check, head_checks, field_checks}
use Rattle.line.specs.Entries.{entries}
use Rattle.arithmetic.specs.Largest.{largest, root_of}
use Rattle.arithmetic.proofs.Largest.{root_is}
use Rattle.elements.specs.WorkingRule.{full_angle, term, alternating, sine_of, cosine_of}
use Rattle.turns.specs.Turn.{reached, deflection_of, LastReached}
use Rattle.turns.proofs.OneTurn.{last_is_turn}
use Rattle.turns.proofs.Examples.{turns}
use Rattle.stationing.specs.Stations.{station_row}
use Rattle.stationing.specs.Answer.{alignment_checks, stations_in}
use Rattle.stationing.proofs.Examples.{case_line, row}
use Rattle.stationing.proofs.Examples as stations
use Rattle.coordinates.specs.Legs.{length_of, cross_of, dot_of, cross_at, dot_at}
use Rattle.coordinates.specs.FromPoints.{distance_from, deflection_from, curve_from, line_from, count_checks, coordinate_check, length_check, turn_checks, from_points_checks}

-- What is said of points at V 70, e 8, start 0.
abbrev says : List ℤ → List ℕ → Outcome
says points curves = outcome (from_points_checks 70 8 0 points curves)

-- Two points, 1 mm apart, and a third.
abbrev before : ℤ → ℤ → List ℤ
before east north = pos 0 ∷ pos 0 ∷ pos 1 ∷ pos 0 ∷ east ∷ north ∷ []

-- A design for each of two PIs.
abbrev one : List ℕ
one = 350000 ∷ 40000 ∷ []

abbrev two : List ℕ
two = 350000 ∷ 40000 ∷ 350000 ∷ 40000 ∷ []

pub record Examples : Type 0 where
  pub one_point : says (pos 0 ∷ pos 0 ∷ []) [] ≡ refused 3 0
  pub odd : says (pos 0 ∷ pos 0 ∷ pos 10000001 ∷ pos 0 ∷ pos 0 ∷ []) [] ≡ refused 3 0
  pub no_design : says (before (pos 10000001) (pos 0)) [] ≡ refused 3 0
  pub too_far_east : says (before (pos 10000001) (pos 0)) one ≡ refused 18 0
  pub too_far_south : says (before (pos 1) (negsuc 10000000)) one ≡ refused 18 0
  pub far_before_near : says (pos 0 ∷ pos 0 ∷ pos 0 ∷ pos 0 ∷ pos 10000001 ∷ pos 0 ∷ []) one ≡ refused 18 0
  pub equal_points : says (before (pos 1) (pos 0)) one ≡ refused 8 1
  pub distance_before_turn : says (pos 0 ∷ pos 0 ∷ pos 1 ∷ pos 0 ∷ pos 0 ∷ pos 0 ∷ pos 0 ∷ pos 0 ∷ []) two ≡ refused 8 2
  pub square_turn : says (before (pos 1) (pos 1)) one ≡ refused 20 1
  pub back : says (before (pos 0) (pos 0)) one ≡ refused 20 1
  pub over_60 : says (before (pos 2) (pos 2)) one ≡ refused 20 1
  pub left : cross_at (before (pos 2) (pos 1)) 0 ≡ pos 1
  pub right : cross_at (before (pos 2) (negsuc 0)) 0 ≡ negsuc 0

pub examples : Examples
unfolding from_points_checks count_checks coordinate_check length_check turn_checks distance_check first_of length_of cross_of dot_of root_of largest reached full_angle term alternating sine_of cosine_of
examples =
    record {
      one_point = refl;
      odd = refl;
      no_design = refl;
      too_far_east = refl;
      too_far_south = refl;
      far_before_near = refl;
      equal_points = refl;
      distance_before_turn = refl;
      square_turn = refl;
      back = refl;
      over_60 = refl;
      left = refl;
      right = refl;
    }

-- ---- where a turn is found

-- Straight on, by no turn; and a turn of 45° before one that goes back.
abbrev on_to : ℤ → ℤ → List ℤ
on_to east north = pos 0 ∷ pos 0 ∷ pos 1 ∷ pos 0 ∷ pos 2 ∷ north ∷ east ∷ north ∷ []

pub record Turned : Type 0 where
  pub straight_on : says (before (pos 2) (pos 0)) one ≡ refused 19 1
  pub first_point_first : says (on_to (pos 1) (pos 0)) two ≡ refused 19 1
  pub second_point : says (on_to (pos 1) (pos 1)) two ≡ refused 20 2
  pub turn_before_speed : outcome (from_points_checks 45 8 0 (before (pos 2) (pos 0)) one) ≡ refused 19 1
  pub deflection_45 : deflection_from (before (pos 2) (pos 1)) 0 ≡ 162000

pub turned : Turned
unfolding from_points_checks count_checks coordinate_check length_check turn_checks distance_check first_of deflection_from length_of cross_of dot_of root_of largest reached full_angle term alternating sine_of cosine_of
turned =
    record {
      straight_on = rw turns.none refl;
      first_point_first = rw turns.none refl;
      second_point = rw turns.equal_products refl;
      turn_before_speed = rw turns.none refl;
      deflection_45 = turns.equal_products;
    }

-- ---- document 01's case 1 by its points: the third is 760.421 m east and 303.614 m south of the first

abbrev points1 : List ℤ
points1 = pos 0 ∷ pos 0 ∷ pos 500000 ∷ pos 0 ∷ pos 760421 ∷ negsuc 303613 ∷ []

distance_0 : distance_from points1 0 ≡ 500000
unfolding length_of
distance_0 = sym (root_is 250000000000 500000 (omega arith) (omega arith))

distance_1 : distance_from points1 1 ≡ 400000
unfolding length_of
distance_1 = sym (root_is 160000558237 400000 (omega arith) (omega arith))

last_second : LastReached 151807000000 (pos 130210500000) 177764
unfolding reached full_angle term alternating sine_of cosine_of
last_second = record { here = refl; not_next = refl }

deflection_1 : deflection_from points1 0 ≡ 177764
unfolding deflection_from cross_of dot_of
deflection_1 = sym (last_is_turn 151807000000 130210500000 177764 (omega arith) last_second)

line_1 : line_from 70 8 0 points1 one ≡ case_line 500000 350000 40000
unfolding line_from curve_from entries cross_of
line_1 = rw (distance_0, distance_1, deflection_1) refl

aligned : outcome (alignment_checks (case_line 500000 350000 40000)) ≡ passed
unfolding stations_in
aligned =
    (found (alignment_checks (case_line 500000 350000 40000)) (station_row (case_line 500000 350000 40000)) row (stations.examples).case_1).checked

checks_1 : says points1 one ≡ passed
unfolding from_points_checks count_checks coordinate_check length_check turn_checks distance_check first_of cross_of dot_of reached full_angle term alternating sine_of cosine_of
checks_1 = rw (distance_0, distance_1, deflection_1, line_1, aligned) refl

pub case_1 : reply (from_points_checks 70 8 0 points1 one) (line_from 70 8 0 points1 one) ≡ answered (case_line 500000 350000 40000)
case_1 = sym (passed_reply (from_points_checks 70 8 0 points1 one) (line_from 70 8 0 points1 one) checks_1 (sym line_1))

-- ---- the edges of each check, and the entry of a second curve

-- What is said of points with a speed that is refused, once all before it holds.
abbrev passes : List ℤ → List ℕ → Outcome
passes points curves = outcome (from_points_checks 45 8 0 points curves)

-- One second: 1 mm aside on 206.266 m; and 60°: 362 mm aside on 209.
abbrev slight : List ℤ
slight = before (pos 206267) (pos 1)

abbrev sixty : List ℤ
sixty = before (pos 210) (negsuc 361)

-- 45° to the left twice.
abbrev twice : List ℤ
twice = pos 0 ∷ pos 0 ∷ pos 1 ∷ pos 0 ∷ pos 2 ∷ pos 1 ∷ pos 2 ∷ pos 2 ∷ []

slight_length : root_of 42545662757 ≡ 206266
slight_length = sym (root_is 42545662757 206266 (omega arith) (omega arith))

sixty_length : root_of 174725 ≡ 418
sixty_length = sym (root_is 174725 418 (omega arith) (omega arith))

one_second_last : LastReached 1 (pos 206266) 1
unfolding reached full_angle term alternating sine_of cosine_of
one_second_last = record { here = refl; not_next = refl }

sixty_last : LastReached 362 (pos 209) 216000
unfolding reached full_angle term alternating sine_of cosine_of
sixty_last = record { here = refl; not_next = refl }

one_second : deflection_of 1 (pos 206266) ≡ 1
one_second = sym (last_is_turn 1 206266 1 (omega arith) one_second_last)

sixty_degrees : deflection_of 362 (pos 209) ≡ 216000
sixty_degrees = sym (last_is_turn 362 209 216000 (omega arith) sixty_last)

root_1 : root_of 1 ≡ 1
root_1 = sym (root_is 1 1 (omega arith) (omega arith))

slight_passes : passes slight one ≡ refused 4 0
unfolding from_points_checks count_checks coordinate_check length_check turn_checks distance_check head_checks field_checks alignment_checks first_of deflection_from length_of cross_of dot_of reached full_angle term alternating sine_of cosine_of line_from
slight_passes = rw (root_1, slight_length, one_second) refl

sixty_passes : passes sixty one ≡ refused 4 0
unfolding from_points_checks count_checks coordinate_check length_check turn_checks distance_check head_checks field_checks alignment_checks first_of deflection_from length_of cross_of dot_of reached full_angle term alternating sine_of cosine_of line_from
sixty_passes = rw (root_1, sixty_length, sixty_degrees) refl

pub record Edges : Type 0 where
  pub most_points : outcome (count_checks (replicate 132 (pos 0)) (replicate 128 0)) ≡ passed
  pub over_most_points : outcome (count_checks (replicate 134 (pos 0)) (replicate 130 0)) ≡ refused 3 0
  pub at_the_limit : passes (pos 10000000 ∷ negsuc 9999999 ∷ pos 9999999 ∷ negsuc 9999999 ∷ []) [] ≡ refused 4 0
  pub turn_of_1 : passes slight one ≡ refused 4 0
  pub turn_of_216000 : passes sixty one ≡ refused 4 0
  pub second_curve : curve_from twice (350000 ∷ 40000 ∷ 300000 ∷ 30000 ∷ []) 1 ≡ record { left = true; deflection = 162000; radius = 300000; spiral = 30000 }
  pub second_legs : (cross_at (pos 0 ∷ pos 0 ∷ pos 1 ∷ pos 0 ∷ pos 3 ∷ pos 2 ∷ pos 3 ∷ pos 5 ∷ []) 1 ≡ pos 6) × (dot_at (pos 0 ∷ pos 0 ∷ pos 1 ∷ pos 0 ∷ pos 3 ∷ pos 2 ∷ pos 3 ∷ pos 5 ∷ []) 1 ≡ pos 6)
  pub given : ((line_from 70 8 5 twice two).speed ≡ 70) × ((line_from 70 8 5 twice two).crossfall ≡ 8) × ((line_from 70 8 5 twice two).start ≡ 5)

pub edges : Edges
unfolding from_points_checks count_checks coordinate_check length_check turn_checks distance_check head_checks field_checks alignment_checks first_of deflection_from length_of cross_of dot_of root_of largest reached full_angle term alternating sine_of cosine_of curve_from line_from
edges =
    record {
      most_points = refl;
      over_most_points = refl;
      at_the_limit = refl;
      turn_of_1 = slight_passes;
      turn_of_216000 = sixty_passes;
      second_curve = rw turns.equal_products refl;
      second_legs = (refl, refl);
      given = (refl, refl, refl);
    }
