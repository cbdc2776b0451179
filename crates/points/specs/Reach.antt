-- Points that pass 18, and the legs between them: what the private steps of the call know.
use Rattle.std.specs.Prelude.{List, ℕ, ◌≤◌, ℤ, nat_abs}
use Rattle.coordinates.specs.declared.Leg.{Leg}
use Rattle.coordinates.specs.Legs.{coordinate_at}

-- Each coordinate is within 10,000,000 mm.
pub record InReach (points : List ℤ) : Type 0 where
  pub reach : (k : ℕ) → nat_abs (coordinate_at points k) ≤ 10000000

-- So each leg is within 20,000,000 mm either way.
pub record Short (leg : Leg) : Type 0 where
  pub east : nat_abs leg.east ≤ 20000000
  pub north : nat_abs leg.north ≤ 20000000
