-- The points of a spiral: the ranges of what is computed for one, and its two ends: at the outer end both offsets are 0, at the inner end they
-- are X and Y of the element call. Assumes nothing.
use mathlib.Core.Path.{◌≡◌, sym, ◌∙◌, ap}
use Prim.Native.Nat.{ℕ, zero, suc, ◌+◌, ◌*◌, ◌/◌, ◌≤◌, ◌<◌}
use native.Mathlib.Nat.{mul-le-mul, mul-div_cancel, mul-div_cancel_left, mul-div-mul_left, div-le_of_le-mul, mul_assoc}
use native.Mathlib.Omega.{arith}
use lib.Dec.{lit<}
use lib.IntN.{ℤ, pos, ◌*ℤ◌, zero-*ℤ}
use Rattle.std.specs.Prelude.{Ok, Err}
use Rattle.numbers.specs.Whole.{Between}
use Rattle.numbers.proofs.Ranges.{at_most, natural, product_between}
use borrow.Author.Tests.{le-leb}
use Rattle.refusals.specs.declared.Refusal.{Refusal}
use Rattle.refusals.specs.Table.{number_of, place_of}
use Rattle.refusals.specs.Outcomes.{passed}
use Rattle.refusals.specs.Order.{outcome}
use Rattle.refusals.proofs.Joining.{never}
use Rattle.refusals.proofs.Replied.{replied, unreplied}
use Rattle.line.specs.Ranges.{CurveInRange}
use Rattle.line.proofs.InRange.{curve_passes}
use Rattle.elements.specs.declared.SpiralPoint.{SpiralPoint}
use Rattle.elements.specs.WorkingRule.{scale, rounded, spiral_angle, unit_x, unit_y, spiral_x, spiral_y}
use Rattle.elements.specs.SpiralPoint.{part_to, angle_to, offset_x, offset_y, Offsets, offsets_by, point_reply_of, inside_check, point_checks, point_reply}
use Rattle.elements.proofs.Rounding.{rounded_between}
use Rattle.elements.proofs.Bounds.{spiral_angle_most}
use Rattle.elements.proofs.UnitSpiral.{greatest_spiral_angle, unit_x_between, unit_y_between}

-- ---- the part of the spiral and the angle

pub part_most : (L l : ℕ) → l ≤ 1000 * L → part_to L l ≤ scale
unfolding part_to
part_most L l h = div-le_of_le-mul L (omega arith)

-- Of a part that is no greater than one.
pub square_most : (u : ℕ) → u ≤ scale → u * u / scale ≤ scale
square_most u h = div-le_of_le-mul scale (mul-le-mul h h)

pub angle_most : (R L l : ℕ) → L ≤ R → l ≤ 1000 * L → angle_to R L l ≤ greatest_spiral_angle
unfolding angle_to
angle_most R L l r h =
    div-le_of_le-mul scale (mul-le-mul (square_most (part_to L l) (part_most L l h)) (spiral_angle_most R L r))

module _ (R L l : ℕ) (r : L ≤ R) (h : l ≤ 1000 * L) (most : L ≤ 500000) where
  -- The offsets are not below zero, and a spiral is 500 m at the most.
  pub x_between : Between (offset_x R L l) 0 500000000
  unfolding offset_x
  x_between =
      rounded_between scale 500000000 (omega arith)
      (product_between (natural l {least = 0} {most = 500000000} (omega arith) (omega arith)) (unit_x_between (angle_to R L l) (angle_most R L l r h)))
      (omega arith)

  pub y_between : Between (offset_y R L l) 0 83333333
  unfolding offset_y
  y_between =
      rounded_between scale 83333333 (omega arith)
      (product_between (natural l {least = 0} {most = 500000000} (omega arith) (omega arith)) (unit_y_between (angle_to R L l) (angle_most R L l r h)))
      (omega arith)

-- ---- the outer end

nothing : (z : ℤ) (m : ℕ) → zero < m → rounded (pos 0 *ℤ z) m ≡ pos 0
nothing z m above =
    let b = rounded_between m 0 above (natural 0 {least = 0} {most = 0} (omega arith) (omega arith)) (omega arith) in
    let none : b.value ≡ 0 = omega (arith, b.high) in
    ap (λ (n : ℤ). rounded n m) (zero-*ℤ z) ∙ b.same ∙ ap pos none

pub at_outer_end : (R L : ℕ) → offsets_by R L 0 ≡ record { x = pos 0; y = pos 0 }
unfolding offsets_by offset_x offset_y
at_outer_end R L = rw (nothing (unit_x (angle_to R L 0)) scale (lit< tt), nothing (unit_y (angle_to R L 0)) scale (lit< tt))

-- ---- the inner end

whole_angle : (R L : ℕ) → zero < L → angle_to R L (1000 * L) ≡ spiral_angle R L
unfolding angle_to part_to
whole_angle R L above =
    let whole : 1000 * L * 1000000 / L ≡ scale = ap (λ (n : ℕ). n / L) (let e : 1000 * L * 1000000 ≡ scale * L = omega arith in e) ∙ mul-div_cancel scale above in
    rw whole (mul-div_cancel_left (spiral_angle R L) (omega arith))

-- A length in µm over 10⁹ is one in mm over 10⁶.
same_rounding : {z : ℤ} {least most : ℕ} (L : ℕ) → Between z least most → rounded (pos (1000 * L) *ℤ z) scale ≡ rounded (pos L *ℤ z) 1000000
unfolding rounded
same_rounding L b =
    let n = L * b.value in
    let whole : 2 * (1000 * L * b.value) + scale ≡ 1000 * (2 * n + 1000000) = omega (arith, mul_assoc 1000 L b.value) in
    rw b.same (ap pos (rw whole (mul-div-mul_left (2 * n + 1000000) 2000000 (omega arith))))

pub at_inner_end : (R L : ℕ) → L ≤ R → offsets_by R L (1000 * L) ≡ record { x = spiral_x R L; y = spiral_y R L }
unfolding offsets_by offset_x offset_y spiral_x spiral_y
at_inner_end R zero h =
    at_outer_end R 0 ∙ sym (rw (nothing (unit_x (spiral_angle R 0)) 1000000 (lit< tt), nothing (unit_y (spiral_angle R 0)) 1000000 (lit< tt)))
at_inner_end R (suc L) h =
    let most = spiral_angle_most R (suc L) h in
    rw (whole_angle R (suc L) (omega arith), same_rounding (suc L) (unit_x_between (spiral_angle R (suc L)) most), same_rounding (suc L) (unit_y_between (spiral_angle R (suc L)) most))

-- ---- what a caller learns from the answer for a point of a curve's spiral

module _ (A R L l : ℕ) (ok : CurveInRange A R L) (h : l ≤ 1000 * L) where
  passes : outcome (point_checks R L l) ≡ passed
  unfolding point_checks inside_check
  passes =
      let in_range : CurveInRange 1 R L =
      record {
        A-least = omega arith;
        A-most = omega arith;
        R-least = ok.R-least;
        R-most = ok.R-most;
        L-most = ok.L-most;
        L-to-R = ok.L-to-R;
      } in
      rw (curve_passes 1 R L 0 in_range, le-leb l (1000 * L) h)

  -- It is not refused.
  pub never_refused : {B : Type 0} (r : Refusal) → point_reply_of (Err r) ≡ point_reply R L l → B
  unfolding point_reply
  never_refused r e =
      never (number_of r) (place_of r) (sym passes ∙ unreplied (point_checks R L l) (offsets_by R L l) e)

  -- The offsets are the rule's, and y fits.
  pub found_offsets : (p : SpiralPoint) → point_reply_of (Ok p) ≡ point_reply R L l
      → (pos p.x ≡ offset_x R L l) × (pos p.y ≡ offset_y R L l) × (p.y ≤ 83333333)
  unfolding point_reply offsets_by
  found_offsets p e =
      let same = (replied (point_checks R L l) (offsets_by R L l) e).1 in
      let y = ap (λ (o : Offsets). o.y) same in
      (ap (λ (o : Offsets). o.x) same, y, at_most y (y_between R L l ok.L-to-R h ok.L-most))
