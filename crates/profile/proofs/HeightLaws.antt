-- Heights of a profile in range by its grades and curves, where they meet, and on which side of the grades a curve lies. Assumes nothing.
use mathlib.Core.Path.{◌≡◌, refl, sym, ◌∙◌, ap, subst}
use Prim.Native.Nat.{ℕ, zero, suc, ◌+◌, ◌-◌, ◌*◌, ◌/◌, ◌≤◌, ◌<◌}
use native.Mathlib.Decide.{dec_lt}
use native.Mathlib.Omega.{arith}
use borrow.Author.Tests.{le-leb, lt-leb}
use lib.IntN.{pos, ◌+ℤ◌, ◌-ℤ◌, ◌*ℤ◌}
use lib.Signed.{◌≤ℤ◌}
use Rattle.refusals.specs.Outcomes.{passed}
use Rattle.refusals.specs.Order.{outcome}
use Rattle.grades.specs.Heights.{height_on, height_in}
use Rattle.grades.proofs.Meeting.{begins, ends}
use Rattle.grades.proofs.Sides.{sag_above, crest_below, sag_above_outgoing, crest_below_outgoing}
use Rattle.profile.specs.declared.Profile.{Profile}
use Rattle.profile.specs.Vertices.{station_of, grade_of, length_of, begin_of, end_of, run_to, height_of}
use Rattle.profile.specs.Checks.{range_checks}
use Rattle.profile.specs.Checked.{ProfileInRange}
use Rattle.profile.specs.HeightAt.{on_grade, begin_height, in_curve, height_from, height_by}
use Rattle.profile.specs.HeightLaws.{HeightLaws}
use Rattle.profile.proofs.InRange.{profile_in_range}
use Rattle.profile.proofs.Bounds.{curve_place}
use Rattle.profile.proofs.Walk.{past, here}
use Rattle.profile.proofs.Prolonged.{incoming, outgoing}

-- Without vertices.
pub no_vertex : (p : Profile) (station : ℕ) → p.count ≡ 0
    → height_by p station ≡ height_on (p.height *ℤ pos 1000000) p.grade (pos station -ℤ pos p.start)
unfolding height_by height_from on_grade height_of grade_of run_to station_of
no_vertex p station none = rw none refl

module _ (p : Profile) (ok : ProfileInRange p) where
  end_is : (k : ℕ) → end_of p k ≡ station_of p k + length_of p k / 2
  unfolding end_of
  end_is k = refl

  -- A curve is 2 mm long or longer, with its vertex in the middle.
  shape : (k : ℕ) → k < p.count → (begin_of p (suc k) < end_of p (suc k)) × (begin_of p (suc k) + 2 * (length_of p (suc k) / 2) ≡ end_of p (suc k)) × (end_of p k ≤ begin_of p (suc k)) × (0 < length_of p (suc k) / 2)
  shape k more =
      let place = curve_place p ok k more in
      let half : 0 < length_of p (suc k) / 2 = omega (arith, ok.even k more, ok.least k more) in
      let end = end_is (suc k) in
      (omega (arith, place.1), omega (arith, place.1), place.0, half)

  module _ (station : ℕ) where
    -- The walk comes to vertex k where its curve ends before the station.
    reached : (k : ℕ) → k ≤ p.count → end_of p k ≤ station → height_by p station ≡ height_from p station (p.count - k) k
    unfolding height_by
    reached zero l h = ap (λ (n : ℕ). height_from p station n 0) (omega arith)
    reached (suc k) l h =
        let s = shape k l in
        reached k (omega arith) (omega (arith, s.0, s.2)) ∙ past p station p.count k l h

    on_grade_lem : (k : ℕ) → k < p.count → end_of p k ≤ station → station ≤ begin_of p (suc k) → height_by p station ≡ on_grade p k station
    on_grade_lem k more from to =
        let s = shape k more in
        reached k (omega arith) from ∙ here p station p.count k more (omega (arith, s.0)) ∙ rw (le-leb station (begin_of p (suc k)) to) refl

    on_last : end_of p p.count ≤ station → height_by p station ≡ on_grade p p.count station
    unfolding height_from
    on_last from = reached p.count (omega arith) from ∙ ap (λ (n : ℕ). height_from p station n p.count) none
      where
        none : p.count - p.count ≡ 0
        none = omega arith

  -- At a curve's end both formulas give the outgoing grade's height,
  at_end : (k : ℕ) → k < p.count → height_by p (end_of p (suc k)) ≡ on_grade p (suc k) (end_of p (suc k))
  at_end k more = go (dec_lt (suc k) p.count)
    where
      go : Dec (suc k < p.count) → height_by p (end_of p (suc k)) ≡ on_grade p (suc k) (end_of p (suc k))
      go (yes next) = on_grade_lem (end_of p (suc k)) (suc k) next (omega arith) (shape (suc k) next).2
      go (no last) =
          let same : suc k ≡ p.count = omega arith in
          subst (λ (n : ℕ). height_by p (end_of p n) ≡ on_grade p n (end_of p n)) (sym same) (on_last (end_of p p.count) (omega arith))

  -- The length of a curve, as twice its half.
  as_twice : (k station : ℕ) → k < p.count
      → in_curve p k station ≡ height_in (begin_height p k) (grade_of p k) (grade_of p (suc k)) (2 * (length_of p (suc k) / 2)) (station - begin_of p (suc k))
  unfolding in_curve
  as_twice k station more =
      ap (λ (n : ℕ). height_in (begin_height p k) (grade_of p k) (grade_of p (suc k)) n (station - begin_of p (suc k))) (ok.even k more)

  module _ (k : ℕ) (more : k < p.count) where
    end_meets : in_curve p k (end_of p (suc k)) ≡ on_grade p (suc k) (end_of p (suc k))
    end_meets =
        let s = shape k more in
        let all : end_of p (suc k) - begin_of p (suc k) ≡ 2 * (length_of p (suc k) / 2) = omega (arith, s.1) in
        as_twice k (end_of p (suc k)) more
        ∙ ap (height_in (begin_height p k) (grade_of p k) (grade_of p (suc k)) (2 * (length_of p (suc k) / 2))) all
        ∙ ends (begin_height p k) (grade_of p k) (grade_of p (suc k)) (length_of p (suc k) / 2) s.3
        ∙ ap (λ (n : ℕ). height_on (begin_height p k +ℤ grade_of p k *ℤ pos (length_of p (suc k) / 2)) (grade_of p (suc k)) (pos n -ℤ pos (length_of p (suc k) / 2))) (sym all)
        ∙ outgoing p ok k (end_of p (suc k)) more (omega (arith, s.0))

    -- and at its beginning the incoming one's.
    begin_meets : in_curve p k (begin_of p (suc k)) ≡ on_grade p k (begin_of p (suc k))
    unfolding in_curve
    begin_meets =
        let none : begin_of p (suc k) - begin_of p (suc k) ≡ 0 = omega arith in
        ap (height_in (begin_height p k) (grade_of p k) (grade_of p (suc k)) (length_of p (suc k))) none
        ∙ begins (begin_height p k) (grade_of p k) (grade_of p (suc k)) (length_of p (suc k)) (ok.least k more)
        ∙ ap (λ (n : ℕ). height_on (begin_height p k) (grade_of p k) (pos n)) (sym none)
        ∙ incoming p ok k (begin_of p (suc k)) more (omega arith)

    in_curve_lem : (station : ℕ) → begin_of p (suc k) ≤ station → station ≤ end_of p (suc k) → height_by p station ≡ in_curve p k station
    in_curve_lem station from to = go (dec_lt station (end_of p (suc k))) (dec_lt (begin_of p (suc k)) station)
      where
        go : Dec (station < end_of p (suc k)) → Dec (begin_of p (suc k) < station) → height_by p station ≡ in_curve p k station
        go (no last) b =
            let same : end_of p (suc k) ≡ station = omega arith in
            subst (λ (n : ℕ). height_by p n ≡ in_curve p k n) same (at_end k more ∙ sym end_meets)
        go (yes before) (no first) =
            let same : begin_of p (suc k) ≡ station = omega arith in
            let s = shape k more in
            subst (λ (n : ℕ). height_by p n ≡ in_curve p k n) same (on_grade_lem (begin_of p (suc k)) k more s.2 (omega arith) ∙ sym begin_meets)
        go (yes before) (yes behind) =
            let s = shape k more in
            reached station k (omega arith) (omega (arith, s.2)) ∙ here p station p.count k more before
            ∙ rw (lt-leb station (begin_of p (suc k)) behind) refl

    module _ (station g : ℕ) (from : begin_of p (suc k) ≤ station) (to : station ≤ end_of p (suc k)) where
      all : station - begin_of p (suc k) + (end_of p (suc k) - station) ≡ 2 * (length_of p (suc k) / 2)
      all = let s = shape k more in omega (arith, s.1)

      crest : grade_of p k -ℤ grade_of p (suc k) ≡ pos g → (height_by p station ≤ℤ on_grade p k station) × (height_by p station ≤ℤ on_grade p (suc k) station)
      unfolding in_curve
      crest e =
          let s = shape k more in
          rw (in_curve_lem station from to, sym (incoming p ok k station more from), sym (outgoing p ok k station more from)) (
            crest_below (begin_height p k) (grade_of p k) (grade_of p (suc k)) (length_of p (suc k)) (station - begin_of p (suc k)) (ok.least k more) g e,
            rw (as_twice k station more)
                (crest_below_outgoing (begin_height p k) (grade_of p k) (grade_of p (suc k)) (length_of p (suc k) / 2) (station - begin_of p (suc k)) (end_of p (suc k) - station) s.3 all g e),
          )

      sag : grade_of p (suc k) -ℤ grade_of p k ≡ pos g → (on_grade p k station ≤ℤ height_by p station) × (on_grade p (suc k) station ≤ℤ height_by p station)
      unfolding in_curve
      sag e =
          let s = shape k more in
          rw (in_curve_lem station from to, sym (incoming p ok k station more from), sym (outgoing p ok k station more from)) (
            sag_above (begin_height p k) (grade_of p k) (grade_of p (suc k)) (length_of p (suc k)) (station - begin_of p (suc k)) (ok.least k more) g e,
            rw (as_twice k station more)
                (sag_above_outgoing (begin_height p k) (grade_of p k) (grade_of p (suc k)) (length_of p (suc k) / 2) (station - begin_of p (suc k)) (end_of p (suc k) - station) s.3 all g e),
          )

pub in_range_laws : (p : Profile) → ProfileInRange p → HeightLaws p
in_range_laws p ok =
    record {
      on_grade_lem = λ k station more from to. on_grade_lem p ok station k more from to;
      on_last = on_last p ok;
      in_curve_lem = λ k station more from to. in_curve_lem p ok k more station from to;
      crest = λ k station g more e from to. crest p ok k more station g from to e;
      sag = λ k station g more e from to. sag p ok k more station g from to e;
    }

-- A profile that passes the checks of its range.
pub height_laws : (p : Profile) → outcome (range_checks p) ≡ passed → HeightLaws p
height_laws p h = in_range_laws p (profile_in_range p h)
