-- Document 02, N5: the height at a station, in mm.
use Rattle.std.specs.Prelude.{cond, ℕ, zero, suc, ◌-◌, leb, ℤ, Result}
use Rattle.refusals.specs.declared.Refusal.{Refusal}
use Rattle.refusals.specs.Replying.{Reply, reply_by, reply}
use Rattle.grades.specs.Heights.{along_grade, height_on, height_in}
use Rattle.profile.specs.declared.Profile.{Profile}
use Rattle.profile.specs.Vertices.{grade_of, length_of, begin_of, end_of, run_to, height_of}
use Rattle.profile.specs.Checks.{height_checks}

-- On the straight grade that goes out of vertex k, and on it prolonged either way.
unfoldable pub on_grade : Profile → (k station : ℕ) → ℤ
on_grade p k station = height_on (height_of p k) (grade_of p k) (run_to p k station)

-- "the height at its beginning" of the curve at vertex k + 1, in millionths of a mm
unfoldable pub begin_height : Profile → ℕ → ℤ
begin_height p k = along_grade (height_of p k) (grade_of p k) (run_to p k (begin_of p (suc k)))

-- "Inside a curve", that at vertex k + 1.
unfoldable pub in_curve : Profile → (k station : ℕ) → ℤ
in_curve p k station =
    height_in (begin_height p k) (grade_of p k) (grade_of p (suc k)) (length_of p (suc k)) (station - begin_of p (suc k))

-- From vertex k on, with `left` more behind it: its grade up to the next curve's beginning, that curve before its end, else from the next vertex on.
unfoldable pub height_from : Profile → (station left k : ℕ) → ℤ
height_from p station zero k = on_grade p k station
height_from p station (suc left) k =
    cond (leb (end_of p (suc k)) station)
    (height_from p station left (suc k))
    (cond (leb station (begin_of p (suc k))) (on_grade p k station) (in_curve p k station))

-- From the start on.
unfoldable pub height_by : Profile → (station : ℕ) → ℤ
height_by p station = height_from p station p.count 0

-- What each case of the call's answer says.
abbrev pub height_reply_of : Result ℤ Refusal → Reply ℤ
height_reply_of r = reply_by (λ height. height) r

-- What the call answers.
unfoldable pub height_reply : Profile → (station : ℕ) → Reply ℤ
height_reply p station = reply (height_checks p station) (height_by p station)
