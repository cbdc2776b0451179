-- A line's lengths in arrays of natural numbers, and the numbers of one curve's stations.
use Rattle.std.specs.Prelude.{◌≡◌, List, [], ◌∷◌, ℕ, ◌+◌, ◌<◌, ◌≤◌, ℤ, pos, length, get_or}
use Rattle.line.specs.declared.Line.{Line}
use Rattle.stationing.specs.Stations.{arc_at, tangent_at, straight_at}

-- The first i entries of an array are what f gives, the others 0.
pub record Front (f : ℕ → ℤ) (size i : ℕ) (xs : List ℕ) : Type 0 where
  pub sized : length xs ≡ size
  pub used : (k : ℕ) → k < i → pos (get_or xs k 0) ≡ f k
  pub unused : (k : ℕ) → i ≤ k → get_or xs k 0 ≡ 0

-- Tangents, arcs and straights of the first i entries of a line, in µm.
abbrev pub TangentsTo : Line → ℕ → List ℕ → Type 0
TangentsTo line = Front (tangent_at line) 65

abbrev pub ArcsTo : Line → ℕ → List ℕ → Type 0
ArcsTo line = Front (arc_at line) 64

abbrev pub StraightsTo : Line → ℕ → List ℕ → Type 0
StraightsTo line = Front (straight_at line) 65

-- The four stations of a curve after the station `former`.
abbrev pub four_from : (former straight spiral arc : ℕ) → List ℕ
four_from former straight spiral arc =
    (former + straight)
    ∷ (former + straight + spiral)
    ∷ (former + straight + spiral + arc)
    ∷ (former + straight + spiral + arc + spiral)
    ∷ []
