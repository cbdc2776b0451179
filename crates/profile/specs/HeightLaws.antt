-- What heights of a profile that is accepted have, in terms of its grades and curves: the statement of the law in `proofs/HeightLaws.antt`.
use Rattle.std.specs.Prelude.{◌≡◌, ℕ, suc, ◌≤◌, ◌<◌, pos, ◌-ℤ◌, ◌≤ℤ◌}
use Rattle.profile.specs.declared.Profile.{Profile}
use Rattle.profile.specs.Vertices.{grade_of, begin_of, end_of}
use Rattle.profile.specs.HeightAt.{on_grade, in_curve, height_by}

-- On the grade of vertex k from its curve's end to the next curve's beginning, and beyond the last one's end; in the curve of vertex k + 1 from
-- its beginning to its end. Both hold of the station where a curve and a grade meet, so that their formulas agree there. A crest, whose incoming
-- grade is greater by g, lies at most as high as each of its grades prolonged, a sag at least.
pub record HeightLaws (p : Profile) : Type 0 where
  pub on_grade_lem : (k station : ℕ) → k < p.count → end_of p k ≤ station → station ≤ begin_of p (suc k) → height_by p station ≡ on_grade p k station
  pub on_last : (station : ℕ) → end_of p p.count ≤ station → height_by p station ≡ on_grade p p.count station
  pub in_curve_lem : (k station : ℕ) → k < p.count → begin_of p (suc k) ≤ station → station ≤ end_of p (suc k) → height_by p station ≡ in_curve p k station
  pub crest : (k station g : ℕ) → k < p.count → grade_of p k -ℤ grade_of p (suc k) ≡ pos g → begin_of p (suc k) ≤ station → station ≤ end_of p (suc k)
      → (height_by p station ≤ℤ on_grade p k station) × (height_by p station ≤ℤ on_grade p (suc k) station)
  pub sag : (k station g : ℕ) → k < p.count → grade_of p (suc k) -ℤ grade_of p k ≡ pos g → begin_of p (suc k) ≤ station → station ≤ end_of p (suc k)
      → (on_grade p k station ≤ℤ height_by p station) × (on_grade p (suc k) station ≤ℤ height_by p station)
