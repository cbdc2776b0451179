-- One step of the walk to a station. Assumes nothing.
use mathlib.Core.Path.{◌≡◌, refl, ◌∙◌, ap}
use mathlib.Core.Bool.{cond}
use Prim.Native.Nat.{ℕ, suc, ◌-◌, ◌≤◌, ◌<◌}
use native.Mathlib.Omega.{arith}
use borrow.Author.Tests.{le-leb, lt-leb}
use lib.Dec.{leb}
use Rattle.profile.specs.declared.Profile.{Profile}
use Rattle.profile.specs.Vertices.{begin_of, end_of}
use Rattle.profile.specs.HeightAt.{on_grade, in_curve, height_from}

module _ (p : Profile) (station n k : ℕ) (more : k < n) where
  next : n - k ≡ suc (n - suc k)
  next = omega arith

  pub past : end_of p (suc k) ≤ station → height_from p station (n - k) k ≡ height_from p station (n - suc k) (suc k)
  unfolding height_from
  past h = ap (λ (m : ℕ). height_from p station m k) next ∙ rw (le-leb (end_of p (suc k)) station h) refl

  module _ (h : station < end_of p (suc k)) where
    pub here : height_from p station (n - k) k ≡ cond (leb station (begin_of p (suc k))) (on_grade p k station) (in_curve p k station)
    unfolding height_from
    here = ap (λ (m : ℕ). height_from p station m k) next ∙ rw (lt-leb (end_of p (suc k)) station h) refl
