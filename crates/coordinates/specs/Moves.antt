-- Points that are moved, or whose north and south are exchanged, and a line that turns to the other sides: what the laws of a line from points
-- speak of.
use Rattle.std.specs.Prelude.{not, List, [], ◌∷◌, ℤ, neg_ℤ, ◌+ℤ◌}
use Rattle.line.specs.declared.Curve.{Curve}
use Rattle.line.specs.declared.Line.{Line}
use Rattle.line.specs.Checks.{blank_curve, curve_at}
use Rattle.line.specs.Entries.{entries, entered}

-- Each coordinate to the east changed by `f`, each to the north by `g`.
unfoldable pub changed : (f g : ℤ → ℤ) → List ℤ → List ℤ
changed f g [] = []
changed f g (east ∷ []) = f east ∷ []
changed f g (east ∷ north ∷ rest) = f east ∷ g north ∷ changed f g rest

-- North and south exchanged.
abbrev pub mirrored : List ℤ → List ℤ
mirrored points = changed (λ east. east) neg_ℤ points

-- All points moved by the same amount.
abbrev pub moved : (east north : ℤ) → List ℤ → List ℤ
moved east north points = changed (λ x. x +ℤ east) (λ x. x +ℤ north) points

-- The curve to the other side, and the line with each of its curves so.
abbrev pub other_side : Curve → Curve
other_side c = record { left = not c.left; deflection = c.deflection; radius = c.radius; spiral = c.spiral }

unfoldable pub other_sides : Line → Line
other_sides line = entered line line.distances (entries 64 line.count (λ i. other_side (curve_at line i)) blank_curve)
