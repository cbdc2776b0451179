-- The offsets of a spiral's points lie within 4 µm of the exact ones, for every curve in range and every length from 0 to L. Assumes nothing.
use mathlib.Core.Path.{◌≡◌, refl, sym, ◌∙◌, ap, subst}
use Prim.Native.Nat.{ℕ, zero, ◌+◌, ◌*◌, ◌/◌, ◌^◌, ◌≤◌, ◌<◌}
use native.Mathlib.Nat.{mul-pos, mul_comm, one-mul, pow-zero, pow-suc}
use native.Mathlib.Decide.{dec_lt}
use native.Mathlib.Omega.{arith}
use lib.Dec.{lit<, lit≤, leb}
use lib.IntN.{ℤ, pos, ◌*ℤ◌, zero-*ℤ}
use borrow.Author.Tests.{leb-true}
use Rattle.numbers.proofs.Products.{products}
use Rattle.refusals.specs.Order.{outcome}
use Rattle.refusals.specs.Replying.{answered}
use Rattle.refusals.proofs.Joining.{passed_left, passed_right, need_holds}
use Rattle.refusals.proofs.Replied.{replied}
use Rattle.line.specs.Checks.{curve_checks}
use Rattle.line.specs.Ranges.{CurveInRange}
use Rattle.line.proofs.InRange.{curve_in_range}
use Rattle.elements.specs.WorkingRule.{scale, rounded}
use Rattle.elements.specs.SpiralPoint.{part_to, angle_to, offset_x, offset_y, Offsets, offsets_by, inside_check, point_checks, point_reply}
use Rattle.elements.proofs.SpiralPoints.{part_most, at_outer_end}
use Rattle.numbers.specs.Fractions.{Fraction, whole, nat, ◌⊗◌, ◌↑◌, ◌⊘◌}
use Rattle.accuracy.specs.ExactElements.{exact_spiral_angle, exact_unit_x, exact_unit_y}
use Rattle.accuracy.specs.Accuracy.{Within}
use Rattle.accuracy.specs.ExactOffsets.{exact_angle_to, exact_offset_x, exact_offset_y, offset_tolerance, OffsetsWithin}
use Rattle.accuracy.proofs.Parts.{plus, minus}
use Rattle.accuracy.proofs.Nearness.{Near, Same, near_of, loosen, near_nat, near_multiple, near_part, near_down}
use Rattle.accuracy.proofs.Powers.{part_top, part_under, same_naturals, power_top, power_under}
use Rattle.accuracy.proofs.Terms.{Bound, Term, term_same, term_next}
use Rattle.accuracy.proofs.Angles.{R-above, spiral}
use Rattle.accuracy.proofs.UnitSpiral.{near_unit_x, near_unit_y}
use Rattle.accuracy.proofs.NearElements.{near_rounded}
use Rattle.accuracy.proofs.ElementsWithin.{within}

-- More than any offset differs either way, in thousandths of a µm.
abbrev pub offset_error : ℕ
offset_error = 2085

-- Both offsets are that near.
pub record OffsetsNear (R L l : ℕ) : Type 0 where
  pub x : Near 1000 (offset_x R L l) (exact_offset_x R L l) offset_error offset_error
  pub y : Near 1000 (offset_y R L l) (exact_offset_y R L l) offset_error offset_error

-- What is known of the part of the spiral up to a point, and of the angle there.
abbrev part_bound : Bound
part_bound = record { most = 1000000000; short = 1000; over = 0 }

abbrev angle_bound : Bound
angle_bound = record { most = 500000000; short = 3501; over = 0 }

squared : (n : ℕ) → n ^ 2 ≡ n * n
squared n = rw (pow-suc n 1, pow-suc n 0, pow-zero n, one-mul n)

crossed : (l L R : ℕ) → l * l * L * (1000000 * (2 * R * L)) ≡ l * l * (1000 * L * (1000 * L) * 1 * (1 * (2 * R)) * 1)
crossed l L R = simp products (omega arith)

thousand : (n : ℕ) → (nat n).under * 1000 ≡ 1000
unfolding whole
thousand n = refl

whole_top : (n : ℕ) → (nat n).top ≡ pos n
unfolding whole
whole_top n = refl

module _ (A R L l : ℕ) (ok : CurveInRange A R L) (above : zero < L) (on : l ≤ 1000 * L) where
  -- ---- the part of the spiral up to the point

  ρ : Fraction
  ρ = nat l ⊘ 1000 ⊘ L

  ρ_top : ρ.top ≡ pos l
  unfolding ρ whole
  ρ_top = part_top (nat l ⊘ 1000) above ∙ part_top (nat l) (lit< tt)

  ρ_under : ρ.under ≡ 1000 * L
  unfolding ρ whole
  ρ_under = part_under (nat l ⊘ 1000) above ∙ ap (λ (n : ℕ). n * L) (part_under (nat l) (lit< tt))

  part : Term (part_to L l) ρ part_bound
  unfolding part_to ρ
  part =
      record {
        sign = ap minus ρ_top;
        fits = part_most L l on;
        near =
            subst (λ (n : ℕ). Near scale (pos (n / L)) (nat l ⊘ 1000 ⊘ L) 1000 0) (mul_comm 1000000 l)
            (near_down L 1000 0 above (omega arith) (omega arith) (near_part L above (near_part 1000 (lit< tt) (near_nat 1000000 l))));
      }

  -- ---- the angle at the point

  s : Fraction
  s = exact_spiral_angle R L

  twice : zero < 2 * R
  twice = mul-pos (lit< tt) (R-above A R L ok)

  s_top : s.top ≡ pos L
  unfolding s exact_spiral_angle whole
  s_top = part_top (nat L) twice

  s_under : s.under ≡ 1 * (2 * R)
  unfolding s exact_spiral_angle whole
  s_under = part_under (nat L) twice

  lengths : zero < 2 * R * L
  lengths = mul-pos twice above

  -- The square of the part times the whole angle is l² / (2RL).
  same_angle : Same (ρ ⊗ ρ ⊘ 1 ⊗ s ⊘ 1) (exact_angle_to R L l)
  unfolding exact_angle_to ◌⊗◌
  same_angle =
      let v = nat l ⊘ 1000 in
      let v_top : v.top ≡ pos l = part_top (nat l) (lit< tt) ∙ whole_top l in
      let rule_top : (ρ ⊗ ρ ⊘ 1 ⊗ s ⊘ 1).top ≡ pos (l * l * L) =
      part_top (ρ ⊗ ρ ⊘ 1 ⊗ s) (lit< tt) ∙ (λ j. part_top (ρ ⊗ ρ) {n = 1} (lit< tt) j *ℤ s.top) ∙ rw (ρ_top, s_top) in
      let exact_top : (v ↑ 2 ⊘ (2 * R * L)).top ≡ pos (l ^ 2) =
      part_top (v ↑ 2) lengths ∙ power_top v (ap minus v_top) 2 ∙ rw v_top in
      let rule_under : (ρ ⊗ ρ ⊘ 1 ⊗ s ⊘ 1).under ≡ 1000 * L * (1000 * L) * 1 * (1 * (2 * R)) * 1 =
      part_under (ρ ⊗ ρ ⊘ 1 ⊗ s) (lit< tt) ∙ (λ j. part_under (ρ ⊗ ρ) {n = 1} (lit< tt) j * s.under * 1) ∙ rw (ρ_under, s_under) in
      let exact_under : (v ↑ 2 ⊘ (2 * R * L)).under ≡ 1000 ^ 2 * (2 * R * L) =
      part_under (v ↑ 2) lengths ∙ ap (λ (n : ℕ). n * (2 * R * L)) (power_under v (ap minus v_top) 2 ∙ ap (λ (n : ℕ). n ^ 2) (part_under (nat l) (lit< tt) ∙ thousand l)) in
      same_naturals (l * l * L) (l ^ 2) rule_top exact_top (rw (rule_under, exact_under, squared l) (crossed l L R))

  angle : Term (angle_to R L l) (exact_angle_to R L l) angle_bound
  unfolding angle_to s
  angle = term_same same_angle (term_next 1 (lit< tt) (term_next 1 (lit< tt) part part) (spiral A R L ok))

  -- ---- the offsets

  -- A ratio at scale 10⁹ times a length in µm, over 10⁹, against the exact one in mm.
  near_times : {q : ℤ} {v : Fraction} {x y : ℕ} (x' y' : ℕ) → l * x + 500 * scale ≤ x' * scale → l * y + 500 * scale ≤ y' * scale → Near scale q v x y
      → Near 1000 (rounded (pos l *ℤ q) scale) (nat l ⊗ v ⊘ 1000) x' y'
  near_times x' y' e f h = near_part 1000 (lit< tt) (near_rounded {s = 1} scale x' y' (lit< tt) e f (near_multiple l h))

  short : l ≤ 500000000
  short = omega (arith, ok.L-most)

  near_offset_x : Near 1000 (offset_x R L l) (exact_offset_x R L l) 1008 1726
  unfolding offset_x exact_offset_x
  near_offset_x = near_times 1008 1726 (omega (arith, short)) (omega (arith, short)) (near_unit_x (exact_angle_to R L l) angle)

  near_offset_y : Near 1000 (offset_y R L l) (exact_offset_y R L l) 2085 1050
  unfolding offset_y exact_offset_y
  near_offset_y = near_times 2085 1050 (omega (arith, short)) (omega (arith, short)) (near_unit_y (exact_angle_to R L l) angle)

-- At the outer end, which is all that an empty spiral has, both are 0.
near_nothing : (v : Fraction) → Near 1000 (pos 0) (nat 0 ⊗ v ⊘ 1000) 0 0
unfolding ◌⊗◌ whole
near_nothing v =
    let top : (nat 0 ⊗ v ⊘ 1000).top ≡ pos 0 = part_top (nat 0 ⊗ v) (lit< tt) ∙ zero-*ℤ v.top in
    near_of (ap plus top) (ap minus top) refl (record { holds = omega arith }) (record { holds = omega arith })

at_the_outer_end : (R L : ℕ) → OffsetsNear R L 0
unfolding exact_offset_x exact_offset_y offsets_by
at_the_outer_end R L =
    let none = at_outer_end R L in
    let x : pos 0 ≡ offset_x R L 0 = sym (ap (λ (o : Offsets). o.x) none) in
    let y : pos 0 ≡ offset_y R L 0 = sym (ap (λ (o : Offsets). o.y) none) in
    record {
      x = loosen (lit≤ tt) (lit≤ tt) (subst (λ (z : ℤ). Near 1000 z (exact_offset_x R L 0) 0 0) x (near_nothing (exact_unit_x (exact_angle_to R L 0))));
      y = loosen (lit≤ tt) (lit≤ tt) (subst (λ (z : ℤ). Near 1000 z (exact_offset_y R L 0) 0 0) y (near_nothing (exact_unit_y (exact_angle_to R L 0))));
    }

pub offsets_near : (A R L l : ℕ) → CurveInRange A R L → l ≤ 1000 * L → OffsetsNear R L l
offsets_near A R L l ok on = go (dec_lt 0 L)
  where
    go : Dec (zero < L) → OffsetsNear R L l
    go (yes above) =
        record {
          x = loosen (lit≤ tt) (lit≤ tt) (near_offset_x A R L l ok above on);
          y = loosen (lit≤ tt) (lit≤ tt) (near_offset_y A R L l ok above on);
        }
    go (no none) = subst (OffsetsNear R L) (let e : 0 ≡ l = omega arith in e) (at_the_outer_end R L)

pub offsets_within : (A R L l : ℕ) → CurveInRange A R L → l ≤ 1000 * L → OffsetsWithin R L l
offsets_within A R L l ok on =
    let near = offsets_near A R L l ok on in
    record {
      x = within offset_tolerance near.x (lit≤ tt) (lit≤ tt);
      y = within offset_tolerance near.y (lit≤ tt) (lit≤ tt);
    }

-- The same for a caller of `spiral_point`, of the offsets that he got.
pub points_accurate : (R L l : ℕ) (o : Offsets) → answered o ≡ point_reply R L l
    → Within offset_tolerance o.x (exact_offset_x R L l) × Within offset_tolerance o.y (exact_offset_y R L l)
unfolding point_reply point_checks inside_check offsets_by
points_accurate R L l o e =
    let told = replied (point_checks R L l) (offsets_by R L l) e in
    let ok = curve_in_range 1 R L 0 (passed_left (outcome (curve_checks 1 R L 0)) _ told.0) in
    let on : l ≤ 1000 * L = leb-true l (1000 * L) (need_holds (leb l (1000 * L)) 17 0 (passed_right (outcome (curve_checks 1 R L 0)) _ told.0)) in
    let near = offsets_within 1 R L l ok on in
    let same = sym told.1 in (
      subst (λ (z : ℤ). Within offset_tolerance z (exact_offset_x R L l)) (ap (λ (p : Offsets). p.x) same) near.x,
      subst (λ (z : ℤ). Within offset_tolerance z (exact_offset_y R L l)) (ap (λ (p : Offsets). p.y) same) near.y,
    )
