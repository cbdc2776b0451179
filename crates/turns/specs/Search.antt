-- What the code's search for a turn knows at each step; no definition of the turn rests on it.
use Rattle.std.specs.Prelude.{◌≡◌, ℕ, zero, ◌<◌, ◌≤◌, true, false, pos}
use Rattle.turns.specs.Turn.{reached}

-- The turn is `low` or more and below `high`; 216,002, which is never tried, stands for no bound.
pub record Bracket (cross dot low high : ℕ) : Type 0 where
  pub apart : low < high
  pub most : high ≤ 216002
  pub passes : zero < low → reached cross (pos dot) low ≡ true
  pub fails : high ≤ 216001 → reached cross (pos dot) high ≡ false
