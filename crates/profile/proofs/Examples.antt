-- Heights at the places where a rule shows, and the orders, places and limits of the refusals, by computation. Assumes nothing.
use mathlib.Core.Path.{◌≡◌, refl}
use mathlib.Core.List.{List, [], ◌∷◌}
use Prim.Native.Nat.{ℕ, zero, suc, ◌+◌}
use lib.IntN.{ℤ, pos, neg_ℤ}
use Rattle.std.specs.Prelude.{Ok, Err}
use Rattle.numbers.specs.Fractions.{whole, ◌⊕◌, ◌⊗◌, ◌⊘◌, ◌↑◌, over, ratio}
use Rattle.refusals.specs.declared.Refusal.TheVariants.{Sight}
use Rattle.refusals.specs.Outcomes.{first_of}
use Rattle.refusals.specs.Replying.{Reply, answered, declined, reply}
use Rattle.line.specs.Speeds.{under_speed}
use Rattle.sight.specs.Sight.{long_enough, sight_serves}
use Rattle.sight.specs.Formulas.{stopping, rounded_up, stopping_distance}
use Rattle.grades.specs.Heights.{height_on, height_in}
use Rattle.profile.specs.declared.Vertex.{Vertex}
use Rattle.profile.specs.declared.Profile.{Profile}
use Rattle.profile.specs.Vertices.{station_of, grade_of, length_of, begin_of, end_of, run_to, height_of}
use Rattle.profile.specs.Checks.{station_check, height_check, grade_check, length_check, sight_check, range_checks, profile_checks, asked_check, height_checks}
use Rattle.profile.specs.HeightAt.{on_grade, begin_height, in_curve, height_from, height_by, height_reply_of, height_reply}

abbrev vertex : (station : ℕ) (grade : ℤ) (length : ℕ) → Vertex
vertex station grade length = record { station = station; grade = grade; length = length }

abbrev profile : (v start : ℕ) (height grade : ℤ) (count : ℕ) → List Vertex → Profile
profile v start height grade count vertices =
    record {
      speed = v;
      start = start;
      height = height;
      grade = grade;
      count = count;
      vertices = vertices;
    }

-- V 60, start 1,000, height -3, first grade 33,333; two vertices.
abbrev with : Vertex → Vertex → Profile
with a b = profile 60 1000 (neg_ℤ (pos 3)) (pos 33333) 2 (a ∷ b ∷ [])

-- A crest, and a sag behind it.
abbrev crest : Vertex
crest = vertex 300000 (neg_ℤ (pos 20000)) 150000

abbrev sag : Vertex
sag = vertex 500000 (pos 10000) 100000

abbrev one : Profile
one = with crest sag

-- A sag with the steepest grades, which begins at the start.
abbrev steep : Profile
steep = profile 40 0 (pos 0) (neg_ℤ (pos 120000)) 1 (vertex 100000 (pos 120000) 200000 ∷ [])

-- No vertex.
abbrev straight : Profile
straight = profile 50 7 (neg_ℤ (pos 1)) (pos 100000) 0 []

-- Vertices every 100 m, whose curves touch.
abbrev alternate : ℕ → ℕ → List Vertex
alternate zero s = []
alternate (suc n) s = vertex s (pos 110000) 100000 ∷ vertex (s + 100000) (pos 120000) 100000 ∷ alternate n (s + 200000)

abbrev many : (count : ℕ) → Profile
many count = profile 40 0 (pos 10000000) (pos 120000) count (alternate 16 100000)

abbrev mm : ℕ → Reply ℤ
mm n = answered (pos n)

abbrev below : ℕ → Reply ℤ
below n = answered (neg_ℤ (pos n))

pub record Examples : Type 0 where
  -- ---- heights: rounded down once, below zero too
  pub at_start : height_reply one 1000 ≡ below 3
  pub rounded_down : height_reply one 1030 ≡ below 3
  pub before_begin : height_reply one 224999 ≡ mm 7463
  pub at_begin : height_reply one 225000 ≡ mm 7463
  pub behind_begin : height_reply one 225001 ≡ mm 7463
  pub in_crest : height_reply one 240000 ≡ mm 7923
  pub at_vertex : height_reply one 300000 ≡ mm 8963
  pub before_end : height_reply one 374999 ≡ mm 8463
  pub at_end : height_reply one 375000 ≡ mm 8463
  pub behind_end : height_reply one 375001 ≡ mm 8463
  pub in_sag_lem : height_reply one 500000 ≡ mm 6338
  pub greatest_station_lem : height_reply one 200000000 ≡ mm 2000963
  pub steep_begin : height_reply steep 1 ≡ below 1
  pub steep_middle : height_reply steep 99999 ≡ below 6000
  pub steep_behind : height_reply steep 150003 ≡ below 4500
  pub steep_end : height_reply steep 200000 ≡ mm 0
  pub half_below_zero : height_reply straight 12 ≡ below 1
  pub above_zero : height_reply straight 17 ≡ mm 0
  pub all_vertices : height_reply (many 32) 200000000 ≡ mm 33984000
  -- ---- 3, 4 and 6, each with a later fault beside it
  pub too_many : height_reply (many 33) 0 ≡ declined 3 0
  pub no_speed : height_reply (profile 130 200000001 (pos 0) (pos 0) 0 []) 0 ≡ declined 4 0
  pub start_far : height_reply (profile 60 200000001 (pos 0) (pos 120001) 0 []) 0 ≡ declined 6 0
  pub vertex_far : height_reply (with crest (vertex 200000001 (pos 120001) 100000)) 1000 ≡ declined 6 0
  pub high : height_reply (profile 60 0 (pos 10000001) (pos 120001) 0 []) 0 ≡ declined 6 0
  pub low : height_reply (profile 60 0 (neg_ℤ (pos 10000001)) (pos 0) 0 []) 0 ≡ declined 6 0
  pub lowest : height_reply (profile 60 200000000 (neg_ℤ (pos 10000000)) (neg_ℤ (pos 120000)) 0 []) 200000000 ≡ below 10000000
  -- ---- 22 before 21 before 23, each at its vertex
  pub first_grade : height_reply (profile 60 1000 (pos 0) (pos 120001) 2 (vertex 300000 (pos 0) 1 ∷ sag ∷ [])) 1000 ≡ declined 22 0
  pub second_grade : height_reply (with (vertex 300000 (pos 0) 1) (vertex 500000 (neg_ℤ (pos 120001)) 100000)) 1000 ≡ declined 22 2
  pub odd : height_reply (with (vertex 300000 (neg_ℤ (pos 20000)) 2) (vertex 500000 (pos 10000) 100001)) 1000 ≡ declined 21 2
  pub no_length : height_reply (with (vertex 300000 (neg_ℤ (pos 20000)) 0) sag) 1000 ≡ declined 21 1
  pub too_long : height_reply (with (vertex 5000000 (neg_ℤ (pos 20000)) 2000002) sag) 1000 ≡ declined 21 1
  pub longest : height_reply (with (vertex 5000000 (neg_ℤ (pos 20000)) 2000000) (vertex 9000000 (pos 10000) 100000)) 200000000 ≡ mm 1996628
  pub touching : height_reply (with crest (vertex 500000 (pos 10000) 250000)) 375000 ≡ mm 8463
  pub overlapping : height_reply (with crest (vertex 499999 (pos 10000) 250000)) 1000 ≡ declined 21 2
  pub from_the_start : height_reply (with (vertex 76000 (neg_ℤ (pos 20000)) 150000) sag) 1001 ≡ below 3
  pub before_the_start : height_reply (with (vertex 75999 (neg_ℤ (pos 20000)) 150000) sag) 1000 ≡ declined 21 1
  pub end_beyond : height_reply (profile 60 1000 (neg_ℤ (pos 3)) (pos 33333) 1 (vertex 200000000 (neg_ℤ (pos 20000)) 150000 ∷ [])) 200000000 ≡ mm 6665563
  pub short_crest : height_reply (with (vertex 300000 (neg_ℤ (pos 20000)) 2) sag) 0 ≡ declined 23 1
  pub short_sag : height_reply (with crest (vertex 500000 (pos 10000) 2)) 1000 ≡ declined 23 2
  -- ---- 17
  pub before_start : height_reply one 999 ≡ declined 17 0
  pub beyond : height_reply one 200000001 ≡ declined 17 0
  -- ---- what the cases say
  pub found_says : height_reply_of (Ok (neg_ℤ (pos 3))) ≡ below 3
  pub refused_says : height_reply_of (Err (Sight 32)) ≡ declined 23 32

pub examples : Examples
unfolding first_of whole ◌⊕◌ ◌⊗◌ ◌⊘◌ ◌↑◌ over ratio under_speed stopping rounded_up stopping_distance long_enough sight_serves height_on height_in station_of grade_of length_of begin_of end_of run_to height_of station_check height_check grade_check length_check sight_check range_checks profile_checks asked_check height_checks on_grade begin_height in_curve height_from height_by reply height_reply
examples =
    record {
      at_start = refl;
      rounded_down = refl;
      before_begin = refl;
      at_begin = refl;
      behind_begin = refl;
      in_crest = refl;
      at_vertex = refl;
      before_end = refl;
      at_end = refl;
      behind_end = refl;
      in_sag_lem = refl;
      greatest_station_lem = refl;
      steep_begin = refl;
      steep_middle = refl;
      steep_behind = refl;
      steep_end = refl;
      half_below_zero = refl;
      above_zero = refl;
      all_vertices = refl;
      too_many = refl;
      no_speed = refl;
      start_far = refl;
      vertex_far = refl;
      high = refl;
      low = refl;
      lowest = refl;
      first_grade = refl;
      second_grade = refl;
      odd = refl;
      no_length = refl;
      too_long = refl;
      longest = refl;
      touching = refl;
      overlapping = refl;
      from_the_start = refl;
      before_the_start = refl;
      end_beyond = refl;
      short_crest = refl;
      short_sag = refl;
      before_start = refl;
      beyond = refl;
      found_says = refl;
      refused_says = refl;
    }
