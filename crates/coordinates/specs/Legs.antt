-- Document 02, N2: points "as whole mm east and north", and the legs between them. Points are a list of coordinates, east and north of each in
-- turn; points and legs count from 0.
use Rattle.std.specs.Prelude.{List, ℕ, suc, ◌+◌, ◌-◌, ◌*◌, ◌/◌, ℤ, pos, nat_abs, ◌+ℤ◌, ◌-ℤ◌, ◌*ℤ◌, length, get_or}
use Rattle.arithmetic.specs.Largest.{root_of}
use Rattle.coordinates.specs.declared.Leg.{Leg}

-- How many points there are, and how many curves: "n + 2 points".
abbrev pub point_count : List ℤ → ℕ
point_count points = length points / 2

abbrev pub curve_count : List ℤ → ℕ
curve_count points = point_count points - 2

-- Coordinate k: that of point i to the east is at 2 × i, that to the north at 2 × i + 1.
abbrev pub coordinate_at : List ℤ → ℕ → ℤ
coordinate_at points k = get_or points k (pos 0)

-- From coordinate k to the same one of the next point.
abbrev pub step_at : List ℤ → ℕ → ℤ
step_at points k = coordinate_at points (k + 2) -ℤ coordinate_at points k

-- From point i to the next.
abbrev pub leg_at : List ℤ → ℕ → Leg
leg_at points i = record { east = step_at points (2 * i); north = step_at points (2 * i + 1) }

-- "the summed squares"
abbrev pub squares : Leg → ℕ
squares leg = nat_abs leg.east * nat_abs leg.east + nat_abs leg.north * nat_abs leg.north

-- "A distance is the root of the summed squares, rounded down."
unfoldable pub length_of : Leg → ℕ
length_of leg = root_of (squares leg)

-- "The cross product is east in × north out − north in × east out, of the legs into and out of the PI."
unfoldable pub cross_of : Leg → Leg → ℤ
cross_of into out = into.east *ℤ out.north -ℤ into.north *ℤ out.east

-- "the dot product"
unfoldable pub dot_of : Leg → Leg → ℤ
dot_of into out = into.east *ℤ out.east +ℤ into.north *ℤ out.north

-- Those at the PI of entry i, which is point i + 1.
abbrev pub cross_at : List ℤ → ℕ → ℤ
cross_at points i = cross_of (leg_at points i) (leg_at points (suc i))

abbrev pub dot_at : List ℤ → ℕ → ℤ
dot_at points i = dot_of (leg_at points i) (leg_at points (suc i))
