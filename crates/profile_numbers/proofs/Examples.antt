-- Counts of numbers, numbers that no field holds, and room, by computation. Assumes nothing.
use mathlib.Core.Path.{◌≡◌, refl}
use mathlib.Core.List.{List, [], ◌∷◌, ◌++◌}
use Prim.Native.Nat.{ℕ, zero, suc}
use lib.IntN.{ℤ, pos, negsuc, neg_ℤ}
use Rattle.numbers.specs.Fractions.{whole, ◌⊕◌, ◌⊗◌, ◌⊘◌, ◌↑◌, over, ratio}
use Rattle.refusals.specs.Outcomes.{first_of}
use Rattle.refusals.specs.Filling.{FillReply, filled, unfilled, with_room, fill}
use Rattle.line.specs.Speeds.{under_speed}
use Rattle.line.specs.Entries.{entries}
use Rattle.sight.specs.Sight.{long_enough, sight_serves}
use Rattle.sight.specs.Formulas.{stopping, rounded_up, stopping_distance}
use Rattle.grades.specs.Heights.{height_on, height_in}
use Rattle.profile.specs.Vertices.{station_of, grade_of, length_of, begin_of, end_of, run_to, height_of}
use Rattle.profile.specs.Checks.{station_check, height_check, grade_check, length_check, sight_check, range_checks, profile_checks, asked_check, height_checks}
use Rattle.profile.specs.HeightAt.{on_grade, begin_height, in_curve, height_from, height_by}
use Rattle.profile_numbers.specs.Numbers.{unsigned, profile_of, count_check, height_numbers, numbers_checks}

-- V 60, start 1,000, height -3, first grade 33,333; a crest at 300,000 and a sag at 500,000.
abbrev head : List ℤ
head = pos 60 ∷ pos 1000 ∷ neg_ℤ (pos 3) ∷ pos 33333 ∷ []

abbrev crest : List ℤ
crest = pos 300000 ∷ neg_ℤ (pos 20000) ∷ pos 150000 ∷ []

abbrev sag : List ℤ
sag = pos 500000 ∷ pos 10000 ∷ pos 100000 ∷ []

-- n vertices with a grade beyond its range.
abbrev vertices : ℕ → List ℤ
vertices zero = []
vertices (suc n) = pos 300000 ∷ pos 120001 ∷ pos 2 ∷ vertices n

-- The least number of 64 bits.
abbrev least : ℤ
least = negsuc 9223372036854775807

-- What the call replies with a buffer of one number, and what the buffer then holds.
abbrev replied : List ℤ → ℕ → FillReply
replied numbers station = (fill (numbers_checks numbers station) (height_numbers numbers station) (pos 9 ∷ [])).reply

abbrev stored : List ℤ → ℕ → List ℤ → List ℤ
stored numbers station lent = (fill (numbers_checks numbers station) (height_numbers numbers station) lent).buffer

pub record Examples : Type 0 where
  pub height : stored (head ++ crest ++ sag) 375001 (pos 9 ∷ pos 8 ∷ []) ≡ pos 8463 ∷ pos 8 ∷ []
  pub one_number : replied (head ++ crest ++ sag) 375001 ≡ filled 1
  pub below_zero : stored head 1030 (pos 9 ∷ []) ≡ neg_ℤ (pos 3) ∷ []
  pub no_numbers : replied [] 0 ≡ unfilled 3 0
  pub three_numbers : replied (pos 60 ∷ pos 1000 ∷ pos 0 ∷ []) 0 ≡ unfilled 3 0
  pub five_numbers : replied (pos 45 ∷ pos 1000 ∷ pos 0 ∷ pos 0 ∷ pos 0 ∷ []) 1000 ≡ unfilled 3 0
  pub six_numbers : replied (head ++ pos 300000 ∷ pos 0 ∷ []) 1000 ≡ unfilled 3 0
  pub many_vertices : replied (head ++ vertices 32) 1000 ≡ unfilled 22 1
  pub too_many_vertices : replied (head ++ vertices 33) 1000 ≡ unfilled 3 0
  pub speed_below : replied (neg_ℤ (pos 60) ∷ least ∷ pos 0 ∷ pos 0 ∷ []) 0 ≡ unfilled 4 0
  pub start_below : replied (pos 60 ∷ neg_ℤ (pos 1) ∷ pos 0 ∷ pos 120001 ∷ []) 0 ≡ unfilled 6 0
  pub station_below : replied (head ++ least ∷ pos 120001 ∷ pos 2 ∷ []) 1000 ≡ unfilled 6 0
  pub height_least : replied (pos 60 ∷ pos 0 ∷ least ∷ pos 0 ∷ []) 0 ≡ unfilled 6 0
  pub grade_least : replied (pos 60 ∷ pos 0 ∷ pos 0 ∷ least ∷ []) 0 ≡ unfilled 22 0
  pub length_below : replied (head ++ crest ++ pos 500000 ∷ pos 10000 ∷ neg_ℤ (pos 100000) ∷ []) 1000 ≡ unfilled 21 2
  pub station_17 : replied head 18446744073709551615 ≡ unfilled 17 0
  pub room_last : (fill (numbers_checks head 999) (height_numbers head 999) []).reply ≡ unfilled 17 0
  pub no_room : (fill (numbers_checks head 1000) (height_numbers head 1000) []).reply ≡ unfilled 16 0
  pub untouched : stored head 999 (pos 9 ∷ []) ≡ pos 9 ∷ []

pub examples : Examples
unfolding first_of whole ◌⊕◌ ◌⊗◌ ◌⊘◌ ◌↑◌ over ratio under_speed entries stopping rounded_up stopping_distance long_enough sight_serves height_on height_in station_of grade_of length_of begin_of end_of run_to height_of station_check height_check grade_check length_check sight_check range_checks profile_checks asked_check height_checks on_grade begin_height in_curve height_from height_by unsigned profile_of count_check height_numbers numbers_checks with_room fill
examples =
    record {
      height = refl;
      one_number = refl;
      below_zero = refl;
      no_numbers = refl;
      three_numbers = refl;
      five_numbers = refl;
      six_numbers = refl;
      many_vertices = refl;
      too_many_vertices = refl;
      speed_below = refl;
      start_below = refl;
      station_below = refl;
      height_least = refl;
      grade_least = refl;
      length_below = refl;
      station_17 = refl;
      room_last = refl;
      no_room = refl;
      untouched = refl;
    }
