-- The grades of a curve prolonged into it, by the distance x from its beginning. Assumes nothing.
use mathlib.Core.Path.{◌≡◌, sym, ◌∙◌, ap}
use Prim.Native.Nat.{ℕ, suc, ◌+◌, ◌-◌, ◌/◌, ◌≤◌, ◌<◌}
use native.Mathlib.Omega.{arith}
use lib.IntN.{ℤ, pos, neg_ℤ, ◌+ℤ◌, ◌-ℤ◌, ◌*ℤ◌, +ℤ_assoc}
use Rattle.numbers.proofs.Integers.{swap, product_sum}
use Rattle.numbers.proofs.Signs.{moved_difference}
use Rattle.numbers.specs.Whole.{◌÷◌}
use Rattle.grades.specs.Heights.{along_grade, height_on}
use Rattle.profile.specs.declared.Profile.{Profile}
use Rattle.profile.specs.Vertices.{station_of, grade_of, length_of, begin_of, run_to, height_of}
use Rattle.profile.specs.Checked.{ProfileInRange}
use Rattle.profile.specs.HeightAt.{on_grade, begin_height}
use Rattle.profile.proofs.Bounds.{curve_place}

-- Along a grade and on along it.
along_again : (h g a b : ℤ) → along_grade (along_grade h g a) g b ≡ along_grade h g (a +ℤ b)
along_again h g a b = +ℤ_assoc h (g *ℤ a) (g *ℤ b) ∙ ap (λ (z : ℤ). h +ℤ z) (sym (product_sum g a b))

module _ (p : Profile) (k begin x : ℕ) where
  -- From vertex k to x beyond the beginning.
  run_on : run_to p k (begin + x) ≡ run_to p k begin +ℤ pos x
  unfolding run_to
  run_on = swap (pos begin) (pos x) (neg_ℤ (pos (station_of p k)))

  on_from : along_grade (along_grade (height_of p k) (grade_of p k) (run_to p k begin)) (grade_of p k) (pos x)
      ≡ along_grade (height_of p k) (grade_of p k) (run_to p k (begin + x))
  on_from = along_again (height_of p k) (grade_of p k) (run_to p k begin) (pos x) ∙ ap (along_grade (height_of p k) (grade_of p k)) (sym run_on)

module _ (p : Profile) (ok : ProfileInRange p) (k station : ℕ) (more : k < p.count) (from : begin_of p (suc k) ≤ station) where
  station_is : begin_of p (suc k) + (station - begin_of p (suc k)) ≡ station
  station_is = omega arith

  vertex_is : begin_of p (suc k) + length_of p (suc k) / 2 ≡ station_of p (suc k)
  vertex_is = (curve_place p ok k more).1

  -- The incoming grade,
  pub incoming : height_on (begin_height p k) (grade_of p k) (pos (station - begin_of p (suc k))) ≡ on_grade p k station
  unfolding height_on begin_height on_grade
  incoming =
      ap (λ (z : ℤ). z ÷ pos 1000000)
      (on_from p k (begin_of p (suc k)) (station - begin_of p (suc k)) ∙ ap (λ (n : ℕ). along_grade (height_of p k) (grade_of p k) (run_to p k n)) station_is)

  -- the vertex,
  vertex : begin_height p k +ℤ grade_of p k *ℤ pos (length_of p (suc k) / 2) ≡ height_of p (suc k)
  unfolding begin_height height_of
  vertex =
      on_from p k (begin_of p (suc k)) (length_of p (suc k) / 2) ∙ ap (λ (n : ℕ). along_grade (height_of p k) (grade_of p k) (run_to p k n)) vertex_is

  run_back : pos (station - begin_of p (suc k)) -ℤ pos (length_of p (suc k) / 2) ≡ run_to p (suc k) station
  unfolding run_to
  run_back =
      sym (moved_difference (pos (station - begin_of p (suc k))) (pos (length_of p (suc k) / 2)) (pos (begin_of p (suc k))))
      ∙ (λ j. pos (above j) -ℤ pos (vertex_above j))
    where
      above : station - begin_of p (suc k) + begin_of p (suc k) ≡ station
      above = omega arith

      vertex_above : length_of p (suc k) / 2 + begin_of p (suc k) ≡ station_of p (suc k)
      vertex_above = omega (arith, vertex_is)

  -- and the outgoing grade.
  pub outgoing : height_on (begin_height p k +ℤ grade_of p k *ℤ pos (length_of p (suc k) / 2)) (grade_of p (suc k)) (pos (station - begin_of p (suc k)) -ℤ pos (length_of p (suc k) / 2))
      ≡ on_grade p (suc k) station
  unfolding on_grade
  outgoing = λ j. height_on (vertex j) (grade_of p (suc k)) (run_back j)
