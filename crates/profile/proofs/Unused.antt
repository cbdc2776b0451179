-- Unused entries are ignored: profiles that are alike where they are used have the same answers at every station. Assumes nothing.
use mathlib.Core.Path.{◌≡◌, refl, ◌∙◌, ap}
use mathlib.Core.Bool.{◌&&◌}
use Prim.Native.Nat.{ℕ, zero, suc, ◌+◌, ◌≤◌, ◌<◌}
use native.Mathlib.Omega.{arith}
use lib.Dec.{leb}
use lib.IntN.{ℤ, nat_abs}
use Rattle.refusals.specs.Outcomes.{need}
use Rattle.refusals.specs.Order.{Checks, in_turn, outcome}
use Rattle.refusals.proofs.Joining.{join}
use Rattle.refusals.proofs.InTurn.{alike_in_turn}
use Rattle.refusals.proofs.Replied.{same_reply}
use Rattle.line.specs.Checks.{speed_check}
use Rattle.sight.specs.Sight.{sight_serves}
use Rattle.sight.specs.Formulas.{stopping_distance}
use Rattle.profile.specs.declared.Profile.{Profile}
use Rattle.profile.specs.Vertices.{station_of, grade_of, length_of, begin_of, end_of, run_to, height_of}
use Rattle.profile.specs.Checks.{greatest_station, station_check, height_check, grade_check, length_check, sight_check, range_checks, profile_checks, asked_check, height_checks}
use Rattle.profile.specs.HeightAt.{on_grade, begin_height, in_curve, height_from, height_by, height_reply}
use Rattle.profile.specs.Alike.{AlikeWhereUsed}

module _ (p q : Profile) (alike : AlikeWhereUsed p q) where
  stations : (k : ℕ) → k ≤ p.count → station_of p k ≡ station_of q k
  unfolding station_of
  stations zero l = alike.start
  stations (suc k) l = alike.station k l

  grades : (k : ℕ) → k ≤ p.count → grade_of p k ≡ grade_of q k
  unfolding grade_of
  grades zero l = alike.grade
  grades (suc k) l = alike.outgoing k l

  lengths : (k : ℕ) → k ≤ p.count → length_of p k ≡ length_of q k
  unfolding length_of
  lengths zero l = refl
  lengths (suc k) l = alike.length k l

  begins : (k : ℕ) → k ≤ p.count → begin_of p k ≡ begin_of q k
  unfolding begin_of
  begins k l = rw (stations k l, lengths k l)

  ends : (k : ℕ) → k ≤ p.count → end_of p k ≡ end_of q k
  unfolding end_of
  ends k l = rw (stations k l, lengths k l)

  -- ---- the checks

  -- A pass over the vertices, of as many as there are.
  passes : (each : Profile → ℕ → Checks) (many : ℕ → ℕ) → ((k : ℕ) → k < many p.count → outcome (each p k) ≡ outcome (each q k))
      → outcome (in_turn (each p) (many p.count)) ≡ outcome (in_turn (each q) (many q.count))
  passes each many same =
      alike_in_turn (each p) (each q) (many p.count) same ∙ ap (λ (n : ℕ). outcome (in_turn (each q) (many n))) alike.count

  station_checks : (k : ℕ) → k ≤ p.count → outcome (station_check p k) ≡ outcome (station_check q k)
  unfolding station_check
  station_checks k l = rw (stations k l)

  grade_checks : (k : ℕ) → k ≤ p.count → outcome (grade_check p k) ≡ outcome (grade_check q k)
  unfolding grade_check
  grade_checks k l = rw (grades k l)

  length_checks : (i : ℕ) → i < p.count → outcome (length_check p i) ≡ outcome (length_check q i)
  unfolding length_check
  length_checks i l = rw (ends i (omega arith), stations (suc i) l, lengths (suc i) l)

  sight_checks : (i : ℕ) → i < p.count → outcome (sight_check p i) ≡ outcome (sight_check q i)
  unfolding sight_check
  sight_checks i l =
      let incoming = grades i (omega arith) in
      λ j. need (sight_serves (stopping_distance (alike.speed j)) (incoming j) (grades (suc i) l j) (lengths (suc i) l j)) 23 (suc i)

  same_checks : (station : ℕ) → outcome (height_checks p station) ≡ outcome (height_checks q station)
  unfolding height_checks profile_checks range_checks asked_check height_check
  same_checks station =
      join
      (join
      (join (ap (λ (n : ℕ). need (leb n 32) 3 0) alike.count)
      (join (ap (λ (v : ℕ). outcome (speed_check v)) alike.speed)
      (join (passes station_check suc (λ k l. station_checks k (omega arith)))
      (join (ap (λ (h : ℤ). need (leb (nat_abs h) 10000000) 6 0) alike.height)
      (join (passes grade_check suc (λ k l. grade_checks k (omega arith)))
      (passes length_check (λ n. n) length_checks))))))
      (passes sight_check (λ n. n) sight_checks))
      (ap (λ (s : ℕ). need (leb s station && leb station greatest_station) 17 0) alike.start)

  -- ---- the height

  runs : (k station : ℕ) → k ≤ p.count → run_to p k station ≡ run_to q k station
  unfolding run_to
  runs k station l = rw (stations k l)

  heights : (k : ℕ) → k ≤ p.count → height_of p k ≡ height_of q k
  unfolding height_of
  heights zero l = rw alike.height
  heights (suc k) l = rw (heights k (omega arith), grades k (omega arith), runs k (station_of p (suc k)) (omega arith), stations (suc k) l)

  on_grades : (k station : ℕ) → k ≤ p.count → on_grade p k station ≡ on_grade q k station
  unfolding on_grade
  on_grades k station l = rw (heights k l, grades k l, runs k station l)

  in_curves : (k station : ℕ) → k < p.count → in_curve p k station ≡ in_curve q k station
  unfolding in_curve begin_height
  in_curves k station l =
      rw (heights k (omega arith), grades k (omega arith), grades (suc k) l, lengths (suc k) l, runs k (begin_of p (suc k)) (omega arith), begins (suc k) l)

  walked : (station left k : ℕ) → k + left ≡ p.count → height_from p station left k ≡ height_from q station left k
  unfolding height_from
  walked station zero k e = on_grades k station (omega arith)
  walked station (suc left) k e =
      rw (ends (suc k) (omega arith), begins (suc k) (omega arith), walked station left (suc k) (omega arith), on_grades k station (omega arith), in_curves k station (omega arith))

  same_height : (station : ℕ) → height_by p station ≡ height_by q station
  unfolding height_by
  same_height station = walked station p.count 0 (omega arith) ∙ ap (λ (n : ℕ). height_from q station n 0) alike.count

  pub unused_ignored : (station : ℕ) → height_reply p station ≡ height_reply q station
  unfolding height_reply
  unused_ignored station = same_reply (height_checks p station) (height_checks q station) (same_checks station) (λ _. same_height station)
