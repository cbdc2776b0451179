-- What the fields of a profile that is accepted have to do with its numbers: the statement of the law in `proofs/NeverWrapped.antt`.
use Rattle.std.specs.Prelude.{◌≡◌, ℕ, suc, ◌+◌, ◌*◌, ◌<◌, ℤ, pos, List}
use Rattle.profile.specs.declared.Profile.{Profile}
use Rattle.profile.specs.Vertices.{station_of, grade_of, length_of}
use Rattle.profile_numbers.specs.Numbers.{number_at}

-- Each field is the number that was given for it.
pub record FieldsAre (numbers : List ℤ) (p : Profile) : Type 0 where
  pub speed : pos p.speed ≡ number_at numbers 0
  pub start : pos p.start ≡ number_at numbers 1
  pub height : p.height ≡ number_at numbers 2
  pub grade : p.grade ≡ number_at numbers 3
  pub station : (i : ℕ) → i < p.count → pos (station_of p (suc i)) ≡ number_at numbers (4 + 3 * i)
  pub outgoing : (i : ℕ) → i < p.count → grade_of p (suc i) ≡ number_at numbers (4 + 3 * i + 1)
  pub length : (i : ℕ) → i < p.count → pos (length_of p (suc i)) ≡ number_at numbers (4 + 3 * i + 2)
