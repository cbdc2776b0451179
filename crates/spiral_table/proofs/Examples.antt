-- Rows of the table, and look-ups, by computation: both ends, rows where one rounding of the rule tells, the sums of both columns; where a last
-- division leaves one half and just less; refusals; the caller's numbers. Assumes nothing.
use mathlib.Core.Path.{◌≡◌, refl, sym}
use mathlib.Core.List.{List, [], ◌∷◌}
use Prim.Native.Nat.{ℕ, ◌+◌, ◌*◌}
use lib.IntN.{pos}
use Rattle.std.specs.Prelude.{Result}
use Rattle.refusals.specs.declared.Refusal.{Refusal}
use lib.ListN.{get_or, drop, replicate}
use Rattle.refusals.specs.Filling.{filled, unfilled, with_room, fill}
use Rattle.refusals.specs.Replying.{Reply, answered, declined, reply}
use Rattle.elements.specs.declared.SpiralPoint.{SpiralPoint}
use Rattle.elements.specs.WorkingRule.{rounded, spiral_angle, t2, t3, t4, t5, t6, unit_x, unit_y}
use Rattle.elements.specs.SpiralPoint.{Offsets, point_reply_of}
use Rattle.elements.proofs.Examples as curves
use Rattle.spiral_table.specs.UnitSpiralTable.{row_angle, rows_from, unit_spiral_table, table_in}
use Rattle.spiral_table.specs.LookUp.{end_by, look_up_checks, look_up_reply}
use Rattle.spiral_table.proofs.AsElements.{look_up_as_elements}

-- Row r as the table holds it.
abbrev row_of : ℕ → List ℕ
row_of r = get_or unit_spiral_table (2 * r) 0 ∷ get_or unit_spiral_table (2 * r + 1) 0 ∷ []

-- The sum of every second number.
abbrev column_sum : List ℕ → ℕ
column_sum [] = 0
column_sum (x ∷ []) = x
column_sum (x ∷ y ∷ rest) = x + column_sum rest

-- An answer of X and Y in µm.
abbrev found : (X Y : ℕ) → Reply Offsets
found X Y = answered (record { x = pos X; y = pos Y })

pub record Examples : Type 0 where
  pub first_row : row_of 0 ≡ 1000000000 ∷ 0 ∷ []
  pub second_row : row_of 1 ≡ 999999900 ∷ 333333 ∷ []
  pub fifth_power_lem : row_of 218 ≡ 995258045 ∷ 72420366 ∷ []
  pub middle_row : row_of 250 ≡ 993768058 ∷ 82962049 ∷ []
  pub fourth_power_lem : row_of 281 ≡ 992132712 ∷ 93139707 ∷ []
  pub sixth_part : row_of 431 ≡ 981582971 ∷ 141771672 ∷ []
  pub last_but_one : row_of 499 ≡ 975385294 ∷ 163398402 ∷ []
  pub last_row : row_of 500 ≡ 975287682 ∷ 163714150 ∷ []
  pub sum_of_x : column_sum unit_spiral_table ≡ 496849784921
  pub sum_of_y : column_sum (drop 1 unit_spiral_table) ≡ 41378471162
  -- ---- the look-up
  pub straight : look_up_reply 0 1000 ≡ found 1000000 0
  pub no_length : look_up_reply 500 0 ≡ found 0 0
  pub greatest : look_up_reply 500 500000 ≡ found 487643841 81857075
  pub ramp : look_up_reply 500 48000 ≡ found 46813809 7858279
  pub halves_up : look_up_reply 432 500000 ≡ found 490749075 71045919
  pub X-below-half : look_up_reply 431 25069 ≡ found 24607303 3554074
  pub Y-below-half : look_up_reply 424 9503 ≡ found 9333575 1325942
  pub no_such_row : look_up_reply 501 0 ≡ declined 25 0
  pub too_long : look_up_reply 500 500001 ≡ declined 11 0
  pub row_first : look_up_reply 501 500001 ≡ declined 25 0
  -- ---- the table in lent numbers
  pub counted : (table_in (replicate 1003 7)).reply ≡ filled 1002
  pub remainder : drop 1000 (table_in (replicate 1003 7)).buffer ≡ 975287682 ∷ 163714150 ∷ 7 ∷ []
  pub too_small : (table_in (replicate 1001 7)).reply ≡ unfilled 16 0
  pub as_lent : (table_in (7 ∷ [])).buffer ≡ 7 ∷ []

pub examples : Examples
unfolding rounded t2 t3 t4 t5 t6 unit_x unit_y row_angle rows_from unit_spiral_table end_by look_up_checks look_up_reply reply table_in with_room fill
examples =
    record {
      first_row = refl;
      second_row = refl;
      fifth_power_lem = refl;
      middle_row = refl;
      fourth_power_lem = refl;
      sixth_part = refl;
      last_but_one = refl;
      last_row = refl;
      sum_of_x = refl;
      sum_of_y = refl;
      straight = refl;
      no_length = refl;
      greatest = refl;
      ramp = refl;
      halves_up = refl;
      X-below-half = refl;
      Y-below-half = refl;
      no_such_row = refl;
      too_long = refl;
      row_first = refl;
      counted = refl;
      remainder = refl;
      too_small = refl;
      as_lent = refl;
    }

-- The longest spiral that a curve can have, R = L = 500,000 mm: X and Y of its element call, by the law.
pub widest_spiral : (a : Result SpiralPoint Refusal) → point_reply_of a ≡ look_up_reply 500 500000 → point_reply_of a ≡ found 487643841 81857075
unfolding spiral_angle row_angle
widest_spiral a looked =
    look_up_as_elements 432000 500000 500000 500 refl
    (record { x = 487643841; y = 81857075; centre = 247931072; shift = 20648355; arc = 547197551; tangent = 1149720476 }) a
    (sym (curves.examples).widest_spiral) looked
