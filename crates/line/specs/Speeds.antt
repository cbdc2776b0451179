-- Tables by design speed (document 01, "Road tables").
use Rattle.std.specs.Prelude.{cond, List, [], ◌∷◌, ℕ, eqb}

-- The row "V"
abbrev pub speeds : List ℕ
speeds = 40 ∷ 50 ∷ 60 ∷ 70 ∷ 80 ∷ 90 ∷ 100 ∷ 110 ∷ 120 ∷ []

-- The entry of a row under a speed.
unfoldable pub under_speed : ℕ → List ℕ → List ℕ → ℕ
under_speed speed [] row = 0
under_speed speed (v ∷ vs) [] = 0
under_speed speed (v ∷ vs) (x ∷ row) = cond (eqb v speed) x (under_speed speed vs row)
