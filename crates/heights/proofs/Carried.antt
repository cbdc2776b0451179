-- Heights that are carried along a grade stay within 34 km, and the rise of a curve fits. Assumes nothing.
use mathlib.Core.Path.{◌≡◌}
use Prim.Native.Nat.{ℕ, ◌+◌, ◌-◌, ◌*◌, ◌^◌, ◌≤◌, ◌<◌}
use native.Mathlib.Nat.{mul-le-mul, mul-le-mul_right}
use native.Mathlib.Omega.{arith}
use lib.IntN.{ℤ, pos, nat_abs, ◌+ℤ◌, ◌-ℤ◌, ◌*ℤ◌}
use mir.Syntax.{w64}
use mir.Val.{SFits, to_z, of_z, hbits}
use Rattle.std.proofs.lemmas.Int.{to_z-of_z, to_z_pos}
use Rattle.signed.proofs.Sizes.{size_sum, size_difference, size_product, small_fits}

-- The height along a grade, as the code has it.
module _ (h g : ℤ) (s t : ℕ) (high : nat_abs h ≤ 10000000000000 + 120000 * s) (flat : nat_abs g ≤ 120000) (from : s ≤ t) (known : t ≤ 200000000) where
  rise_most : nat_abs (g *ℤ pos (t - s)) ≤ 120000 * (t - s)
  rise_most = omega (arith, size_product g (pos (t - s)), mul-le-mul_right (t - s) flat)

  pub carried : nat_abs (h +ℤ g *ℤ pos (t - s)) ≤ 10000000000000 + 120000 * t
  carried = omega (arith, size_sum h (g *ℤ pos (t - s)), rise_most)

  pub carried_is : to_z w64 (of_z w64 h) +ℤ to_z w64 (of_z w64 (to_z w64 (of_z w64 g) *ℤ to_z w64 (t - s))) ≡ h +ℤ g *ℤ pos (t - s)
  carried_is =
      let height : SFits w64 h = small_fits h (omega arith) in
      let grade : SFits w64 g = small_fits g (omega arith) in
      let distance : t - s < 2 ^ hbits w64 = omega arith in
      let rise : SFits w64 (g *ℤ pos (t - s)) = small_fits (g *ℤ pos (t - s)) (omega (arith, rise_most)) in
      simp (to_z-of_z, to_z_pos)

-- The change of grade times the square of a distance in a curve, as the code has it.
module _ (o g : ℤ) (x : ℕ) (out : nat_abs o ≤ 120000) (flat : nat_abs g ≤ 120000) (near : x ≤ 2000000) where
  change_most : nat_abs (o -ℤ g) ≤ 240000
  change_most = omega (arith, size_difference o g)

  square_most : x * x ≤ 4000000000000
  square_most = mul-le-mul near near

  pub bow_most : nat_abs ((o -ℤ g) *ℤ pos (x * x)) ≤ 960000000000000000
  bow_most = omega (arith, size_product (o -ℤ g) (pos (x * x)), mul-le-mul change_most square_most)

  pub bow_is : to_z w64 (of_z w64 (to_z w64 (of_z w64 o) -ℤ to_z w64 (of_z w64 g))) *ℤ to_z w64 (x * x) ≡ (o -ℤ g) *ℤ pos (x * x)
  bow_is =
      let outgoing : SFits w64 o = small_fits o (omega arith) in
      let incoming : SFits w64 g = small_fits g (omega arith) in
      let change : SFits w64 (o -ℤ g) = small_fits (o -ℤ g) (omega (arith, change_most)) in
      let square : x * x < 2 ^ hbits w64 = omega (arith, square_most) in
      simp (to_z-of_z, to_z_pos)
