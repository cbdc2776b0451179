-- Document 02, N5: what is refused of a profile, in its order.
use Rattle.std.specs.Prelude.{Bool, ◌&&◌, ℕ, suc, ◌+◌, ◌/◌, ◌%◌, leb, eqb, nat_abs}
use Rattle.refusals.specs.Order.{Checks, check, ◌⨾◌, in_turn}
use Rattle.line.specs.Checks.{speed_check}
use Rattle.sight.specs.Sight.{sight_serves}
use Rattle.sight.specs.Formulas.{stopping_distance}
use Rattle.profile.specs.declared.Profile.{Profile}
use Rattle.profile.specs.Vertices.{station_of, grade_of, length_of, end_of}

-- "Stations are 0 to 200,000,000 mm."
abbrev pub greatest_station : ℕ
greatest_station = 200000000

-- 6: "a station or the height outside its range", "from −10,000,000 to 10,000,000 mm"; the start is the station of 0
unfoldable pub station_check : Profile → ℕ → Checks
station_check p k = check (leb (station_of p k) greatest_station) 6 0

unfoldable pub height_check : Profile → Checks
height_check p = check (leb (nat_abs p.height) 10000000) 6 0

-- 22: "a grade beyond 120,000 either way, .. the place being the vertex (0 for the first grade)"
unfoldable pub grade_check : Profile → ℕ → Checks
grade_check p k = check (leb (nat_abs (grade_of p k)) 120000) 22 k

-- 21, of entry i: "a curve length that is odd, zero, above 2,000,000 or reaching past the curve before it or the profile's start"; a curve may touch
-- the one before it
abbrev pub curve_fits : (end station length : ℕ) → Bool
curve_fits end station length = eqb (length % 2) 0 && leb 1 length && leb length 2000000 && leb (end + length / 2) station

unfoldable pub length_check : Profile → ℕ → Checks
length_check p i = check (curve_fits (end_of p i) (station_of p (suc i)) (length_of p (suc i))) 21 (suc i)

-- 23, of entry i: "a curve shorter than sight needs"
unfoldable pub sight_check : Profile → ℕ → Checks
sight_check p i =
    check (sight_serves (stopping_distance p.speed) (grade_of p i) (grade_of p (suc i)) (length_of p (suc i))) 23 (suc i)

-- "It refuses with 3 more than 32 vertices, with 4 the speed, with 6 .., then in a pass each over the vertices with 22 .., with 21 .."
unfoldable pub range_checks : Profile → Checks
range_checks p =
    check (leb p.count 32) 3 0
    ⨾ speed_check p.speed
    ⨾ in_turn (station_check p) (suc p.count)
    ⨾ height_check p
    ⨾ in_turn (grade_check p) (suc p.count)
    ⨾ in_turn (length_check p) p.count

-- ".. and with 23"
unfoldable pub profile_checks : Profile → Checks
profile_checks p = range_checks p ⨾ in_turn (sight_check p) p.count

-- "and last with 17 a height asked outside the start and 200,000,000"
unfoldable pub asked_check : Profile → (station : ℕ) → Checks
asked_check p station = check (leb p.start station && leb station greatest_station) 17 0

unfoldable pub height_checks : Profile → (station : ℕ) → Checks
height_checks p station = profile_checks p ⨾ asked_check p station
