-- When two profiles are alike where they are used: the statement of the law in `proofs/Unused.antt`.
use Rattle.std.specs.Prelude.{◌≡◌, ℕ, suc, ◌<◌}
use Rattle.profile.specs.declared.Profile.{Profile}
use Rattle.profile.specs.Vertices.{station_of, grade_of, length_of}

-- The same fields and the same first `count` entries.
pub record AlikeWhereUsed (p q : Profile) : Type 0 where
  pub speed : p.speed ≡ q.speed
  pub start : p.start ≡ q.start
  pub height : p.height ≡ q.height
  pub grade : p.grade ≡ q.grade
  pub count : p.count ≡ q.count
  pub station : (i : ℕ) → i < p.count → station_of p (suc i) ≡ station_of q (suc i)
  pub outgoing : (i : ℕ) → i < p.count → grade_of p (suc i) ≡ grade_of q (suc i)
  pub length : (i : ℕ) → i < p.count → length_of p (suc i) ≡ length_of q (suc i)
