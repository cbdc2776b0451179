-- Roots beside squares, and a test that no number passes. Assumes nothing.
use mathlib.Core.Path.{◌≡◌, refl}
use mathlib.Core.Bool.{false}
use lib.Dec.{leb}
use Rattle.arithmetic.specs.Largest.{largest, root_of}

pub record Examples : Type 0 where
  pub root_0 : root_of 0 ≡ 0
  pub root_1 : root_of 1 ≡ 1
  pub root_3 : root_of 3 ≡ 1
  pub root_4 : root_of 4 ≡ 2
  pub root_8 : root_of 8 ≡ 2
  pub root_9 : root_of 9 ≡ 3
  pub none_passes : largest (λ _. false) 9 ≡ 0
  pub bound_passes : largest (λ k. leb k 12) 9 ≡ 9

pub examples : Examples
unfolding largest root_of
examples =
    record {
      root_0 = refl;
      root_1 = refl;
      root_3 = refl;
      root_4 = refl;
      root_8 = refl;
      root_9 = refl;
      none_passes = refl;
      bound_passes = refl;
    }
