-- The sizes of products and lengths of legs, which keep them in 64 bits. Assumes nothing.
use mathlib.Core.Path.{◌≡◌, refl}
use Prim.Native.Nat.{ℕ, ◌+◌, ◌*◌, ◌≤◌, ◌<◌}
use native.Mathlib.Nat.{mul-le-mul}
use native.Mathlib.Decide.{dec_lt}
use native.Mathlib.Omega.{arith}
use lib.IntN.{ℤ, nat_abs, ◌-ℤ◌, ◌*ℤ◌}
use mir.Syntax.{w64}
use mir.Val.{SFits, to_z, of_z}
use Rattle.signed.proofs.Sizes.{size_difference, size_product, small_fits, held}

pub product_most : (x y : ℤ) → nat_abs x ≤ 20000000 → nat_abs y ≤ 20000000 → nat_abs (x *ℤ y) ≤ 400000000000000
product_most x y f g = omega (arith, size_product x y, mul-le-mul f g)

-- A difference of two coordinates, as the code takes it.
pub step_held : (x y : ℤ) → nat_abs x ≤ 10000000 → nat_abs y ≤ 10000000
    → to_z w64 (of_z w64 (to_z w64 (of_z w64 x) -ℤ to_z w64 (of_z w64 y))) ≡ x -ℤ y
step_held x y f g =
    rw (held x (omega arith), held y (omega arith)) (held (x -ℤ y) (omega (arith, size_difference x y)))

-- A product of two sides of legs, as the code takes it.
pub product_held : (x y : ℤ) → nat_abs x ≤ 20000000 → nat_abs y ≤ 20000000 → {r : ℤ} → r ≡ to_z w64 (of_z w64 x) *ℤ to_z w64 (of_z w64 y)
    → (to_z w64 (of_z w64 r) ≡ x *ℤ y) × (nat_abs (to_z w64 (of_z w64 r)) ≤ 400000000000000)
product_held x y f g {r} e =
    let is : r ≡ x *ℤ y = rw (held x (omega arith), held y (omega arith)) at e in
    let whole : to_z w64 (of_z w64 r) ≡ x *ℤ y = rw is (held (x *ℤ y) (omega (arith, product_most x y f g))) in
    (whole, rw whole (product_most x y f g))

-- The sum or the difference of two such products.
module _ (op : ℤ → ℤ → ℤ) (sized : (x y : ℤ) → nat_abs (op x y) ≤ nat_abs x + nat_abs y) (a b c d : ℤ)
    (f : nat_abs a ≤ 20000000) (g : nat_abs b ≤ 20000000) (h : nat_abs c ≤ 20000000) (k : nat_abs d ≤ 20000000) where
  abbrev in_code : ℤ
  in_code =
      op
      (to_z w64 (of_z w64 (to_z w64 (of_z w64 a) *ℤ to_z w64 (of_z w64 b))))
      (to_z w64 (of_z w64 (to_z w64 (of_z w64 c) *ℤ to_z w64 (of_z w64 d))))

  joined : in_code ≡ op (a *ℤ b) (c *ℤ d)
  joined = λ j. op ((product_held a b f g refl).0 j) ((product_held c d h k refl).0 j)

  most : nat_abs (op (a *ℤ b) (c *ℤ d)) ≤ 800000000000000
  most = omega (arith, sized (a *ℤ b) (c *ℤ d), product_most a b f g, product_most c d h k)

  pub products_fit : SFits w64 in_code
  products_fit = rw joined (small_fits (op (a *ℤ b) (c *ℤ d)) (omega (arith, most)))

  pub products_value : to_z w64 (of_z w64 in_code) ≡ op (a *ℤ b) (c *ℤ d)
  products_value = rw joined (held (op (a *ℤ b) (c *ℤ d)) (omega (arith, most)))

  pub products_most : nat_abs (to_z w64 (of_z w64 in_code)) ≤ 800000000000000
  products_most = rw products_value most

-- ---- lengths

-- A root of the summed squares has 32 bits.
pub root_fits : (r : ℕ) → r * r ≤ 800000000000000 → r < 4294967296
root_fits r h = go (dec_lt r 4294967296)
  where
    go : Dec (r < 4294967296) → r < 4294967296
    go (yes below) = below
    go (no not_below) =
        absurd (omega (arith, mul-le-mul {n₁ = 4294967296} {m₁ = 4294967296} {n₂ = r} {m₂ = r} (omega arith) (omega arith)))
