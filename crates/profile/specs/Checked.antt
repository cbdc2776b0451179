-- What the checks have shown of a profile and of a station, as facts.
use Rattle.std.specs.Prelude.{◌≡◌, ℕ, suc, ◌+◌, ◌*◌, ◌/◌, ◌%◌, ◌≤◌, ◌<◌, nat_abs}
use Rattle.profile.specs.declared.Profile.{Profile}
use Rattle.profile.specs.Vertices.{station_of, grade_of, length_of, end_of}

-- A profile that passes 3, 4, 6, 22 and 21.
pub record ProfileInRange (p : Profile) : Type 0 where
  pub few : p.count ≤ 32
  pub speed_least : 40 ≤ p.speed
  pub speed_most : p.speed ≤ 120
  pub speed_tens : p.speed % 10 ≡ 0
  pub high : nat_abs p.height ≤ 10000000
  pub near : (k : ℕ) → k ≤ p.count → station_of p k ≤ 200000000
  pub flat : (k : ℕ) → k ≤ p.count → nat_abs (grade_of p k) ≤ 120000
  pub even : (i : ℕ) → i < p.count → length_of p (suc i) ≡ 2 * (length_of p (suc i) / 2)
  pub least : (i : ℕ) → i < p.count → 1 ≤ length_of p (suc i)
  pub most : (i : ℕ) → i < p.count → length_of p (suc i) ≤ 2000000
  pub after : (i : ℕ) → i < p.count → end_of p i + length_of p (suc i) / 2 ≤ station_of p (suc i)

-- A station that passes 17.
pub record Asked (p : Profile) (station : ℕ) : Type 0 where
  pub from : p.start ≤ station
  pub known : station ≤ 200000000
