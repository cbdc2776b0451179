-- A profile as numbers, for callers in other languages: V, start, start height, first grade, then station, outgoing grade and curve length of each
-- vertex, in document 02's units (N5). The form is this project's own (docs/library.md).
use Rattle.std.specs.Prelude.{List, [], ◌∷◌, ℕ, ◌+◌, ◌-◌, ◌*◌, ◌/◌, leb, eqb, ℤ, pos, negsuc, length, get_or}
use Rattle.refusals.specs.Order.{Checks, check, ◌⨾◌}
use Rattle.line.specs.Entries.{entries}
use Rattle.profile.specs.declared.Vertex.{Vertex}
use Rattle.profile.specs.declared.Profile.{Profile}
use Rattle.profile.specs.Vertices.{blank_vertex}
use Rattle.profile.specs.Checks.{height_checks}
use Rattle.profile.specs.HeightAt.{height_by}

-- How many vertices there are numbers for, and the number at an index; 0 where there is none.
abbrev pub vertex_count : List ℤ → ℕ
vertex_count numbers = (length numbers - 4) / 3

abbrev pub number_at : List ℤ → ℕ → ℤ
number_at numbers index = get_or numbers index (pos 0)

-- A number that does not fit its field is refused by the check of its range, and never wrapped: one below zero, where a field has none, becomes the
-- greatest number of the field, which no range has.
unfoldable pub unsigned : ℤ → ℕ
unsigned (pos n) = n
unsigned (negsuc n) = 18446744073709551615

-- The vertex of entry i.
abbrev pub vertex_of : List ℤ → ℕ → Vertex
vertex_of numbers i =
    record {
      station = unsigned (number_at numbers (4 + 3 * i));
      grade = number_at numbers (4 + 3 * i + 1);
      length = unsigned (number_at numbers (4 + 3 * i + 2));
    }

-- The profile, its unused entries zero.
unfoldable pub profile_of : List ℤ → Profile
profile_of numbers =
    record {
      speed = unsigned (number_at numbers 0);
      start = unsigned (number_at numbers 1);
      height = number_at numbers 2;
      grade = number_at numbers 3;
      count = vertex_count numbers;
      vertices = entries 32 (vertex_count numbers) (vertex_of numbers) blank_vertex;
    }

-- 3, before all else: a count of numbers other than 4 + 3 × n
unfoldable pub count_check : List ℤ → Checks
count_check numbers = check (eqb (length numbers) (4 + 3 * vertex_count numbers)) 3 0

-- Then those of the profile and of the station; 16 comes with the buffer.
unfoldable pub numbers_checks : List ℤ → (station : ℕ) → Checks
numbers_checks numbers station = count_check numbers ⨾ height_checks (profile_of numbers) station

-- One number: the height.
unfoldable pub height_numbers : List ℤ → (station : ℕ) → List ℤ
height_numbers numbers station = height_by (profile_of numbers) station ∷ []

-- Both checks that refuse with 3: what the code makes before it reads the numbers.
unfoldable pub size_checks : List ℤ → Checks
size_checks numbers = count_check numbers ⨾ check (leb (vertex_count numbers) 32) 3 0
