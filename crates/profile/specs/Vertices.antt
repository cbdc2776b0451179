-- Document 02, N5: "A profile has a speed V, a start station, a start height .., a first grade, and up to 32 vertices, each with station, outgoing
-- grade and curve length." Vertices are counted from 1 on, and 0 is the start; stations and lengths are in mm, grades in millionths.
use Rattle.std.specs.Prelude.{ℕ, zero, suc, ◌+◌, ◌-◌, ◌/◌, ℤ, pos, ◌-ℤ◌, ◌*ℤ◌, get_or}
use Rattle.grades.specs.Heights.{along_grade}
use Rattle.profile.specs.declared.Vertex.{Vertex}
use Rattle.profile.specs.declared.Profile.{Profile}

-- A vertex whose fields are all zero.
abbrev pub blank_vertex : Vertex
blank_vertex = record { station = 0; grade = pos 0; length = 0 }

-- The vertex at an entry: entry i holds vertex i + 1.
abbrev pub vertex_at : Profile → ℕ → Vertex
vertex_at p i = get_or p.vertices i blank_vertex

unfoldable pub station_of : Profile → ℕ → ℕ
station_of p zero = p.start
station_of p (suc k) = (vertex_at p k).station

-- The grade that goes out of a vertex, and so comes into the next one.
unfoldable pub grade_of : Profile → ℕ → ℤ
grade_of p zero = p.grade
grade_of p (suc k) = (vertex_at p k).grade

-- The length of a vertex' curve; the start has none.
unfoldable pub length_of : Profile → ℕ → ℕ
length_of p zero = 0
length_of p (suc k) = (vertex_at p k).length

-- Where a vertex' curve begins, half its length before the vertex (check 21: it is not longer), and where it ends.
unfoldable pub begin_of : Profile → ℕ → ℕ
begin_of p k = station_of p k - length_of p k / 2

unfoldable pub end_of : Profile → ℕ → ℕ
end_of p k = station_of p k + length_of p k / 2

-- From a vertex to a station, below zero before it.
unfoldable pub run_to : Profile → ℕ → (station : ℕ) → ℤ
run_to p k station = pos station -ℤ pos (station_of p k)

-- "Heights at vertices are carried exactly in millionths of a mm.": along the grade from vertex to vertex, by its intersection points
unfoldable pub height_of : Profile → ℕ → ℤ
height_of p zero = p.height *ℤ pos 1000000
height_of p (suc k) = along_grade (height_of p k) (grade_of p k) (run_to p k (station_of p (suc k)))
