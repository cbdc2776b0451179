-- Stopping distances, and the least lengths of crests and sags at each speed, by computation. Assumes nothing.
use mathlib.Core.Path.{◌≡◌, refl}
use mathlib.Core.Bool.{Bool, true, not, ◌&&◌}
use mathlib.Core.List.{[], ◌∷◌, map}
use Prim.Native.Nat.{ℕ, ◌-◌}
use lib.IntN.{pos, neg_ℤ}
use Rattle.numbers.specs.Fractions.{whole, ◌⊕◌, ◌⊗◌, ◌⊘◌, ◌↑◌, over, ratio}
use Rattle.line.specs.Speeds.{speeds, under_speed}
use Rattle.sight.specs.Sight.{long_enough, sight_serves}
use Rattle.sight.specs.Formulas.{stopping, rounded_up, stopping_distance}

-- At the design speed v, L is the least even length for a rise of i1 and a fall of i2 millionths, and for a fall and a rise.
abbrev crest : (v i1 i2 L : ℕ) → Bool
crest v i1 i2 L =
    sight_serves (stopping_distance v) (pos i1) (neg_ℤ (pos i2)) L && not (sight_serves (stopping_distance v) (pos i1) (neg_ℤ (pos i2)) (L - 2))

abbrev sag : (v i1 i2 L : ℕ) → Bool
sag v i1 i2 L =
    sight_serves (stopping_distance v) (neg_ℤ (pos i1)) (pos i2) L && not (sight_serves (stopping_distance v) (neg_ℤ (pos i1)) (pos i2) (L - 2))

pub record Examples : Type 0 where
  pub distances : map stopping_distance speeds ≡ 45 ∷ 64 ∷ 85 ∷ 111 ∷ 140 ∷ 173 ∷ 211 ∷ 267 ∷ 310 ∷ []
  pub first_crests :
      crest 40 60000 60000 58982 && crest 50 60000 60000 119302 && crest 60 60000 60000 210438 && crest 70 60000 60000 358866
      && crest 80 60000 60000 570874 && crest 90 60000 60000 871720 && crest 100 60000 60000 1296730 && crest 110 15000 15000 519096
      && crest 120 15000 15000 699758 ≡ true
  pub second_crests :
      crest 60 15000 15000 32668 && crest 70 15000 15000 84668 && crest 90 12000 0 2668 && crest 100 12000 0 78668 && crest 110 12000 0 190668
      && crest 120 12000 0 276668 ≡ true
  pub first_sags :
      sag 40 60000 60000 86942 && sag 50 60000 60000 142058 && sag 60 60000 60000 206676 && sag 70 60000 60000 289622 && sag 80 60000 60000 384314
      && sag 90 60000 60000 493676 && sag 100 60000 60000 620864 && sag 110 60000 60000 809720 && sag 120 60000 60000 955428 ≡ true
  pub second_sags :
      sag 40 20000 20000 20126 && sag 50 20000 20000 41500 && sag 60 20000 20000 65126 && sag 70 20000 20000 94376 && sag 80 20000 20000 127000
      && sag 90 20000 20000 164126 && sag 100 20000 20000 206876 && sag 110 30000 0 181834 && sag 120 30000 0 217668 ≡ true
  -- A length that is exactly the formula's, in either case.
  pub exactly : crest 40 49440 49440 48600 && crest 40 41200 41200 40000 && sag 40 33540 33540 48600 && sag 40 27950 27950 40000 ≡ true
  pub no_change : sight_serves 310 (pos 120000) (pos 120000) 2 ≡ true

pub examples : Examples
unfolding whole ◌⊕◌ ◌⊗◌ ◌⊘◌ ◌↑◌ over ratio under_speed stopping rounded_up stopping_distance long_enough sight_serves
examples =
    record {
      distances = refl;
      first_crests = refl;
      second_crests = refl;
      first_sags = refl;
      second_sags = refl;
      exactly = refl;
      no_change = refl;
    }
