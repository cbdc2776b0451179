-- Document 01's "Road tables", and the tests of refusals 12 and 13.
use Rattle.std.specs.Prelude.{Bool, ◌&&◌, ◌||◌, List, [], ◌∷◌, ℕ, ◌+◌, ◌*◌, leb, eqb}
use Rattle.line.specs.Speeds.{speeds, under_speed}

-- The row "f, hundredths"
abbrev pub frictions : List ℕ
frictions = 18 ∷ 16 ∷ 15 ∷ 15 ∷ 14 ∷ 14 ∷ 13 ∷ 12 ∷ 11 ∷ []

-- The row "least spiral, m"
abbrev pub least_spirals : List ℕ
least_spirals = 30 ∷ 30 ∷ 30 ∷ 40 ∷ 40 ∷ 50 ∷ 60 ∷ 60 ∷ 70 ∷ []

-- f at a design speed v.
unfoldable pub friction_at : ℕ → ℕ
friction_at v = under_speed v speeds frictions

-- The least spiral at a design speed v, in m.
unfoldable pub least_spiral_at : ℕ → ℕ
least_spiral_at v = under_speed v speeds least_spirals

-- "R passes 12 exactly when 127 × (e + f) × R is at least 100,000 × V²"
unfoldable pub radius_serves : ℕ → ℕ → ℕ → Bool
radius_serves v e R = leb (100000 * (v * v)) (127 * (e + friction_at v) * R)

-- "L above 0 passes 13 exactly when it reaches the table and L × R is at least 36,000 × V³"
unfoldable pub spiral_serves : ℕ → ℕ → ℕ → Bool
spiral_serves v R L = eqb L 0 || (leb (1000 * least_spiral_at v) L && leb (36000 * (v * v * v)) (L * R))
