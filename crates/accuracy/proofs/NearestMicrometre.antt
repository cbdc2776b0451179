-- The rounding of an element's last division gives the nearest whole number, halves up, and only that: so does each element of a curve and each
-- offset, at all numbers, of the quotient that it rounds. Assumes nothing.
use mathlib.Core.Path.{◌≡◌, sym, subst}
use Prim.Native.Nat.{ℕ, zero, suc, ◌+◌, ◌*◌, ◌≤◌, ◌<◌}
use native.Mathlib.Nat.{mul-one, one-mul, mul-pos, lt_of_mul-lt-mul_right, not-suc-le-zero}
use native.Mathlib.Omega.{arith}
use lib.Dec.{lit<}
use lib.IntN.{ℤ, pos, ◌+ℤ◌, ◌-ℤ◌, ◌*ℤ◌, -ℤ-+ℤ_cancel}
use lib.Signed.{◌≤ℤ◌, ◌<ℤ◌}
use Rattle.numbers.proofs.Products.{products}
use Rattle.elements.specs.WorkingRule.{rounded, spiral_x, spiral_y, centre_of, shift_of, arc_of, tangent_of}
use Rattle.elements.specs.SpiralPoint.{offset_x, offset_y}
use Rattle.numbers.specs.Fractions.{whole, ◌⊖◌, ◌⊘◌}
use Rattle.accuracy.specs.NearestMicrometre.{Nearest, ElementsNearest, OffsetsNearest}
use Rattle.accuracy.proofs.Parts.{plus, minus, plus_times, minus_times, times_plus, times_minus, sum_parts, difference_parts, down_most, down_least, le_parts, lt_parts, parts_le, parts_lt, eq_parts}

-- ---- a number that is the nearest of a quotient, by parts

-- The nearest of z / m lies above it by a half at the most, and below it by less.
pub record ByParts (r z : ℤ) (m : ℕ) : Type 0 where
  pub over : 2 * (plus r * m + minus z) ≤ 2 * (plus z + minus r * m) + m
  pub short : 2 * (plus z + minus r * m) < 2 * (plus r * m + minus z) + m

-- So does what the rule rounds.
pub rounded_by_parts : (z : ℤ) {m : ℕ} → zero < m → ByParts (rounded z m) z m
unfolding rounded
rounded_by_parts z {m} above =
    let n = pos 2 *ℤ z +ℤ pos m in
    let doubled : plus n + 2 * minus z ≡ 2 * plus z + m + minus n =
    omega (arith, sum_parts (pos 2 *ℤ z) (pos m), times_plus 2 z, times_minus 2 z) in
    let two = mul-pos {m = 2} (lit< tt) above in
    record {
      over = omega (arith, doubled, simp products at (down_most n two));
      short = omega (arith, doubled, simp products at (down_least n two));
    }

ruleset parts = (plus_times, minus_times, one-mul, mul-one)

module _ (a b : ℤ) (e : ℕ) where
  twice : plus ((a -ℤ b) *ℤ pos 2) + 2 * (minus a + plus b) ≡ 2 * (plus a + minus b) + minus ((a -ℤ b) *ℤ pos 2)
  twice = omega (arith, plus_times (a -ℤ b) 2, minus_times (a -ℤ b) 2, difference_parts a b)

  half_le : 2 * (plus a + minus b) ≤ 2 * (minus a + plus b) + e → ((a -ℤ b) *ℤ pos 2) ≤ℤ pos e
  half_le h = le_parts ((a -ℤ b) *ℤ pos 2) (pos e) (omega (arith, twice))

  half_lt : 2 * (plus a + minus b) < 2 * (minus a + plus b) + e → ((a -ℤ b) *ℤ pos 2) <ℤ pos e
  half_lt h = lt_parts ((a -ℤ b) *ℤ pos 2) (pos e) (omega (arith, twice))

  le_half : ((a -ℤ b) *ℤ pos 2) ≤ℤ pos e → 2 * (plus a + minus b) ≤ 2 * (minus a + plus b) + e
  le_half h = omega (arith, twice, parts_le ((a -ℤ b) *ℤ pos 2) (pos e) h)

  lt_half : ((a -ℤ b) *ℤ pos 2) <ℤ pos e → 2 * (plus a + minus b) < 2 * (minus a + plus b) + e
  lt_half h = omega (arith, twice, parts_lt ((a -ℤ b) *ℤ pos 2) (pos e) h)

nearest : {r z : ℤ} {m : ℕ} → zero < m → ByParts r z m → Nearest r z m
unfolding ◌⊖◌ ◌⊘◌ whole
nearest {m = zero} above h = absurd (not-suc-le-zero above)
nearest {r} {z} {m = suc k} above h =
    record {
      over = record { cross = half_le (r *ℤ pos (1 * suc k)) (z *ℤ pos 1) (1 * (1 * (1 * suc k))) (simp parts (omega (arith, h.over))) };
      short = record { cross = half_lt (z *ℤ pos 1) (r *ℤ pos (1 * suc k)) (1 * (1 * suc k * 1)) (simp parts (omega (arith, h.short))) };
    }

by_parts : {r z : ℤ} {m : ℕ} → zero < m → Nearest r z m → ByParts r z m
unfolding ◌⊖◌ ◌⊘◌ whole
by_parts {m = zero} above h = absurd (not-suc-le-zero above)
by_parts {r} {z} {m = suc k} above h =
    record {
      over = omega (arith, simp parts at (le_half (r *ℤ pos (1 * suc k)) (z *ℤ pos 1) (1 * (1 * (1 * suc k))) h.over.cross));
      short = omega (arith, simp parts at (lt_half (z *ℤ pos 1) (r *ℤ pos (1 * suc k)) (1 * (1 * suc k * 1)) h.short.cross));
    }

-- ---- the rounding of an element's last division

-- It is the nearest,
pub rounded_nearest : (z : ℤ) {m : ℕ} → zero < m → Nearest (rounded z m) z m
rounded_nearest z above = nearest above (rounded_by_parts z above)

-- and nothing else is.
no_greater : {r s z : ℤ} {m : ℕ} → ByParts r z m → ByParts s z m → plus r + minus s ≤ plus s + minus r
no_greater {r} {s} {m = m} h k =
    let below : (plus r + minus s) * m < suc (plus s + minus r) * m = simp products (omega (arith, h.over, k.short)) in
    omega (arith, lt_of_mul-lt-mul_right m below)

pub nearest_rounded : {r z : ℤ} {m : ℕ} → zero < m → Nearest r z m → r ≡ rounded z m
nearest_rounded {r} {z} {m} above h =
    let p = by_parts above h in
    let q = rounded_by_parts z above in
    eq_parts r (rounded z m) (omega (arith, no_greater p q, no_greater q p))

-- ---- the elements of a curve and the offsets of a point

-- What is taken away, and what is added.
taken : (x y : ℤ) → y ≡ x -ℤ (x -ℤ y)
taken x y = eq_parts y (x -ℤ (x -ℤ y)) (omega (arith, difference_parts x (x -ℤ y), difference_parts x y))

added : (x y : ℤ) → y ≡ (x +ℤ y) -ℤ x
added x y = eq_parts y ((x +ℤ y) -ℤ x) (omega (arith, difference_parts (x +ℤ y) x, sum_parts x y))

same_nearest : {r z : ℤ} {m : ℕ} → zero < m → rounded z m ≡ r → Nearest r z m
same_nearest {z = z} {m = m} above e = subst (λ (r : ℤ). Nearest r z m) e (rounded_nearest z above)

-- Whatever the numbers are.
pub elements_nearest : (A R L : ℕ) → ElementsNearest A R L
unfolding spiral_x spiral_y centre_of shift_of arc_of tangent_of
elements_nearest A R L =
    record {
      X = rounded_nearest _ (lit< tt);
      Y = rounded_nearest _ (lit< tt);
      sine_part = same_nearest (lit< tt) (taken (spiral_x R L) _);
      cosine_part = same_nearest (lit< tt) (taken (spiral_y R L) _);
      arc = same_nearest (lit< tt) (sym (-ℤ-+ℤ_cancel _ (pos (1000 * L))));
      tangent = same_nearest (lit< tt) (added (centre_of R L) _);
    }

pub offsets_nearest : (R L l : ℕ) → OffsetsNearest R L l
unfolding offset_x offset_y
offsets_nearest R L l = record { x = rounded_nearest _ (lit< tt); y = rounded_nearest _ (lit< tt) }
