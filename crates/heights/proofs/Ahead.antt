-- The next vertex of a profile in range, as the code reads it, and the heights up to the end of its curve. Assumes nothing.
use mathlib.Core.Path.{◌≡◌, refl, sym, ◌∙◌, ap, subst}
use Prim.Native.Nat.{ℕ, suc, ◌+◌, ◌-◌, ◌/◌, ◌≤◌, ◌<◌}
use native.Mathlib.Omega.{arith}
use lib.IntN.{ℤ, pos, nat_abs}
use lib.ListN.{get_or, take}
use lib.Seq.{get_or-take}
use mir.Syntax.{w64}
use mir.Val.{to_z, of_z}
use Rattle.numbers.specs.Whole.{◌÷◌}
use Rattle.signed.proofs.Sizes.{held}
use Rattle.grades.specs.Heights.{along_grade, height_on, height_in}
use Rattle.profile.specs.declared.Vertex.{Vertex}
use Rattle.profile.specs.declared.Profile.{Profile}
use Rattle.profile.specs.Vertices.{blank_vertex, vertex_at, station_of, grade_of, length_of, begin_of, end_of, run_to, height_of}
use Rattle.profile.specs.Checked.{ProfileInRange}
use Rattle.profile.specs.HeightAt.{on_grade, begin_height, in_curve, height_by}
use Rattle.profile.proofs.Bounds.{run_forward, curve_place, rises}
use Rattle.profile.proofs.HeightLaws.{in_range_laws}

-- Vertex i + 1, behind the curve of vertex i.
pub record Ahead (p : Profile) (i : ℕ) (v : Vertex) : Type 0 where
  pub station : v.station ≡ station_of p (suc i)
  pub grade : to_z w64 (of_z w64 v.grade) ≡ grade_of p (suc i)
  pub length : v.length ≡ length_of p (suc i)
  pub begin : v.station - v.length / 2 ≡ begin_of p (suc i)
  pub end : v.station + v.length / 2 ≡ end_of p (suc i)
  pub near : v.station ≤ 200000000
  pub flat : nat_abs (to_z w64 (of_z w64 v.grade)) ≤ 120000
  pub least : 1 ≤ v.length
  pub most : v.length ≤ 2000000
  pub half : v.length / 2 ≤ v.station
  pub last : station_of p i ≤ end_of p i
  pub behind : end_of p i ≤ begin_of p (suc i)

module _ (p : Profile) (ok : ProfileInRange p) (i : ℕ) (more : i < p.count) where
  known : Ahead p i (vertex_at p i)
  unfolding station_of grade_of length_of begin_of end_of
  known =
      let place = curve_place p ok i more in
      let flat = ok.flat (suc i) more in
      let grade = held (vertex_at p i).grade (omega arith) in
      record {
        station = refl;
        grade = grade;
        length = refl;
        begin = refl;
        end = refl;
        near = ok.near (suc i) more;
        flat = rw grade flat;
        least = ok.least i more;
        most = ok.most i more;
        half = omega (arith, place.1);
        last = place.2;
        behind = place.0;
      }

  pub ahead : Ahead p i (get_or (take p.count p.vertices) i blank_vertex)
  ahead = rw (get_or-take p.count p.vertices i blank_vertex more) known

-- The code's straight grade (station s, height h, grade g) is that out of vertex k.
pub record Out (p : Profile) (k s : ℕ) (h g : ℤ) : Type 0 where
  pub station : s ≡ station_of p k
  pub height : h ≡ height_of p k
  pub grade : g ≡ grade_of p k

module _ (p : Profile) (ok : ProfileInRange p) (k station : ℕ) {s : ℕ} {h g : ℤ} (out : Out p k s h g) where
  along : station_of p k ≤ station → along_grade h g (pos (station - s)) ≡ along_grade (height_of p k) (grade_of p k) (run_to p k station)
  along from = rw (out.station, out.height, out.grade, run_forward p k station from)

  pub next_height : k < p.count → station ≡ station_of p (suc k) → along_grade h g (pos (station - s)) ≡ height_of p (suc k)
  unfolding height_of
  next_height more at = along (omega (arith, rises p ok k more)) ∙ ap (λ (n : ℕ). along_grade (height_of p k) (grade_of p k) (run_to p k n)) at

  module _ (behind : end_of p k ≤ station) where
    on_grade_is : height_on h g (pos (station - s)) ≡ on_grade p k station
    unfolding height_on on_grade end_of
    on_grade_is = ap (λ (z : ℤ). z ÷ pos 1000000) (along (omega arith))

    -- The height behind the last curve,
    pub past_last : k ≡ p.count → height_on h g (pos (station - s)) ≡ height_by p station
    past_last last =
        on_grade_is ∙ ap (λ (n : ℕ). on_grade p n station) last
        ∙ sym ((in_range_laws p ok).on_last station (subst (λ (n : ℕ). end_of p n ≤ station) last behind))

    -- before the next one's beginning,
    pub before_curve : k < p.count → station ≤ begin_of p (suc k) → height_on h g (pos (station - s)) ≡ height_by p station
    before_curve more to = on_grade_is ∙ sym ((in_range_laws p ok).on_grade_lem k station more behind to)

module _ (p : Profile) (ok : ProfileInRange p) (k station : ℕ) {s : ℕ} {h g : ℤ} (out : Out p k s h g) (more : k < p.count) where
  -- and in it.
  pub in_next : begin_of p (suc k) ≤ station → station ≤ end_of p (suc k)
      → height_in (along_grade h g (pos (begin_of p (suc k) - s))) g (grade_of p (suc k)) (length_of p (suc k)) (station - begin_of p (suc k)) ≡ height_by p station
  unfolding in_curve begin_height
  in_next from to =
      let place = curve_place p ok k more in
      let begins = along p ok k (begin_of p (suc k)) out (omega (arith, place.0, place.2)) in
      (λ j. height_in (begins j) (out.grade j) (grade_of p (suc k)) (length_of p (suc k)) (station - begin_of p (suc k)))
      ∙ sym ((in_range_laws p ok).in_curve_lem k station more from to)
