-- Every entry of the table, which the code's constant is (`entries`), is x or y of its row by the working rule: one computed test over the whole
-- table, and what it says of each entry. Assumes nothing.
use mathlib.Core.Path.{◌≡◌, refl, ◌∙◌, ap}
use mathlib.Core.Bool.{Bool, true, ◌&&◌, cond}
use Prim.Native.Nat.{ℕ, ◌+◌, ◌*◌, ◌/◌, ◌%◌, ◌≤◌, ◌<◌}
use native.Mathlib.Omega.{arith}
use lib.Dec.{eqb}
use lib.IntN.{ℤ, pos, negsuc, nat_abs}
use lib.ListN.{length, get_or}
use lib.Signed.{non_neg}
use borrow.Author.Tests.{eqb-true}
use Rattle.numbers.proofs.Tests.{both_left, both_right}
use Rattle.numbers.proofs.Tables.{everywhere, at_entry}
use Rattle.elements.specs.WorkingRule.{t2, t3, t4, t5, t6, unit_x, unit_y}
use Rattle.spiral_table.specs.UnitSpiralTable.{row_angle, rows_from, unit_spiral_table}

-- What entry k should be: x of row k / 2 where k is even, else y.
abbrev pub ratio_at : ℕ → ℤ
ratio_at k = cond (eqb (k % 2) 0) (unit_x (row_angle (k / 2))) (unit_y (row_angle (k / 2)))

-- The test of an entry: it is that number, which is not below zero.
abbrev follows : ℕ → ℕ → Bool
follows k n = eqb n (nat_abs (ratio_at k)) && non_neg (ratio_at k)

pub table_follows : everywhere follows 0 unit_spiral_table ≡ true
unfolding unit_spiral_table rows_from row_angle unit_x unit_y t2 t3 t4 t5 t6
table_follows = refl

pub table_length : length unit_spiral_table ≡ 1002
unfolding unit_spiral_table rows_from
table_length = refl

itself : (z : ℤ) → non_neg z ≡ true → pos (nat_abs z) ≡ z
itself (pos n) e = refl
itself (negsuc n) e =
    let never : ◌≡◌ {A = ℕ} 0 1 = ap (λ (b : Bool). cond b 1 0) e in
    absurd (omega arith)

pub each_entry : (k : ℕ) → k < 1002 → pos (get_or unit_spiral_table k 0) ≡ ratio_at k
each_entry k h =
    let n = get_or unit_spiral_table k 0 in
    let passes = at_entry follows unit_spiral_table table_follows k (omega (arith, h, table_length)) in
    ap pos (eqb-true n _ (both_left (eqb n (nat_abs (ratio_at k))) (non_neg (ratio_at k)) passes))
    ∙ itself (ratio_at k) (both_right (eqb n (nat_abs (ratio_at k))) (non_neg (ratio_at k)) passes)

module _ (r : ℕ) (h : r ≤ 500) where
  pub x_of_row : pos (get_or unit_spiral_table (2 * r) 0) ≡ unit_x (row_angle r)
  x_of_row =
      let even : (2 * r) % 2 ≡ 0 = omega arith in
      let row : (2 * r) / 2 ≡ r = omega arith in
      rw (even, row) at (each_entry (2 * r) (omega arith))

  pub y_of_row : pos (get_or unit_spiral_table (2 * r + 1) 0) ≡ unit_y (row_angle r)
  y_of_row =
      let odd : (2 * r + 1) % 2 ≡ 1 = omega arith in
      let row : (2 * r + 1) / 2 ≡ r = omega arith in
      rw (odd, row) at (each_entry (2 * r + 1) (omega arith))
