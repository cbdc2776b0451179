-- The angle of a turn, which document 02's lines from coordinates (N2) try up to 60° and a second.
use Rattle.std.specs.Prelude.{cond, ℕ, leb}
use Rattle.elements.specs.WorkingRule.{full_angle}

-- "a turn where 216,001 also holds": the greatest that is tried, in seconds
abbrev pub greatest_turn : ℕ
greatest_turn = 216001

-- "the full angle" of a turn; a greater turn counts as the greatest
unfoldable pub turn_angle : ℕ → ℕ
turn_angle seconds = full_angle (cond (leb seconds greatest_turn) seconds greatest_turn)
