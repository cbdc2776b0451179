-- X and Y that the unit spiral table's look-up answers lie within 3 µm of the exact ones. Assumes nothing.
use mathlib.Core.Path.{◌≡◌, sym, ap, subst}
use Prim.Native.Nat.{ℕ, ◌≤◌}
use native.Mathlib.Omega.{arith}
use lib.Dec.{lit<, lit≤}
use lib.IntN.{ℤ}
use borrow.Author.Tests.{leb-true}
use Rattle.refusals.specs.Outcomes.{passed}
use Rattle.refusals.specs.Order.{outcome}
use Rattle.refusals.specs.Replying.{answered}
use Rattle.refusals.proofs.InOrder.{all_hold}
use Rattle.refusals.proofs.Replied.{replied}
use Rattle.elements.specs.SpiralPoint.{Offsets}
use Rattle.numbers.specs.Fractions.{whole, nat}
use Rattle.spiral_table.specs.UnitSpiralTable.{row_angle}
use Rattle.spiral_table.specs.LookUp.{end_by, look_up_checks, look_up_reply}
use Rattle.accuracy.specs.Accuracy.{Within, spiral_tolerance}
use Rattle.accuracy.specs.ExactLookUp.{exact_row_angle, exact_end_x, exact_end_y, EndWithin}
use Rattle.accuracy.proofs.Parts.{minus}
use Rattle.accuracy.proofs.Nearness.{near_nat, near_part}
use Rattle.accuracy.proofs.Powers.{part_top}
use Rattle.accuracy.proofs.Terms.{Bound, Term}
use Rattle.accuracy.proofs.UnitSpiral.{near_unit_x, near_unit_y}
use Rattle.accuracy.proofs.NearElements.{near_length}
use Rattle.accuracy.proofs.ElementsWithin.{within}

-- The angle of a row is exact.
abbrev row_bound : Bound
row_bound = record { most = 500000000; short = 0; over = 0 }

row_angle_lem : (r : ℕ) → r ≤ 500 → Term (row_angle r) (exact_row_angle r) row_bound
unfolding row_angle exact_row_angle whole
row_angle_lem r h =
    record {
      sign = ap minus (part_top (nat r) (lit< tt));
      fits = omega (arith, h);
      near = near_part 1000 (lit< tt) (near_nat 1000000 r);
    }

pub look_up_within : (r L : ℕ) → outcome (look_up_checks r L) ≡ passed → EndWithin r L
unfolding look_up_checks end_by exact_end_x exact_end_y
look_up_within r L e =
    let checked = all_hold (look_up_checks r L) e in
    let angle = row_angle_lem r (leb-true r 500 checked.0) in
    let short = leb-true L 500000 checked.1 in
    record {
      X = within spiral_tolerance (near_length L 1004 1551 (omega (arith, short)) (omega (arith, short)) (near_unit_x (exact_row_angle r) angle)) (lit≤ tt) (lit≤ tt);
      Y = within spiral_tolerance (near_length L 1501 1018 (omega (arith, short)) (omega (arith, short)) (near_unit_y (exact_row_angle r) angle)) (lit≤ tt) (lit≤ tt);
    }

-- The same for a caller of `look_up`, of X and Y that he got.
pub look_ups_accurate : (r L : ℕ) (o : Offsets) → answered o ≡ look_up_reply r L
    → Within spiral_tolerance o.x (exact_end_x r L) × Within spiral_tolerance o.y (exact_end_y r L)
unfolding look_up_reply
look_ups_accurate r L o e =
    let told = replied (look_up_checks r L) (end_by r L) e in
    let near = look_up_within r L told.0 in
    let same = sym told.1 in (
      subst (λ (z : ℤ). Within spiral_tolerance z (exact_end_x r L)) (ap (λ (p : Offsets). p.x) same) near.X,
      subst (λ (z : ℤ). Within spiral_tolerance z (exact_end_y r L)) (ap (λ (p : Offsets). p.y) same) near.Y,
    )
