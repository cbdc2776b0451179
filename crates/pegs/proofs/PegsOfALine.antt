-- Every peg on an accepted line is one on a straight, an arc or a spiral, so that its numbers are small. The law goes over the distances as the
-- call does. Assumes nothing.
use mathlib.Core.Path.{◌≡◌, refl, sym, ◌∙◌, ap, subst}
use mathlib.Core.Bool.{Bool, true, false, ◌&&◌}
use Prim.Native.Nat.{ℕ, zero, suc, ◌+◌, ◌-◌, ◌*◌, ◌≤◌, ◌<◌}
use native.Mathlib.Decide.{dec_lt}
use native.Mathlib.Omega.{arith}
use lib.IntN.{ℤ, pos, negsuc, nat_abs}
use lib.Signed.{le_z}
use borrow.Author.Tests.{lt-ltb, le-ltb}
use Rattle.numbers.specs.Whole.{Between}
use Rattle.numbers.proofs.Ranges.{natural}
use Rattle.numbers.proofs.Tests.{both_left, both_right, clash}
use Rattle.refusals.specs.Outcomes.{passed}
use Rattle.refusals.specs.Order.{outcome}
use Rattle.refusals.specs.Replying.{answered}
use Rattle.refusals.proofs.Joining.{passed_left, passed_right, need_holds}
use Rattle.refusals.proofs.Replied.{replied}
use Rattle.line.specs.declared.Curve.{Curve}
use Rattle.line.specs.declared.Line.{Line}
use Rattle.line.specs.Checks.{curve_at}
use Rattle.line.specs.Ranges.{CurveInRange}
use Rattle.elements.proofs.SpiralPoints.{x_between, y_between}
use Rattle.stationing.specs.declared.ElementKind.{ElementKind}
use Rattle.stationing.specs.declared.ElementKind.TheVariants.{Straight, SpiralIn, Arc, SpiralOut}
use Rattle.stationing.specs.Stations.{arc_at, straight_at}
use Rattle.stationing.specs.LineElements.{line_length}
use Rattle.stationing.specs.Answer.{alignment_checks}
use Rattle.stationing.proofs.Accepted.{Accepted, accepted}
use Rattle.pegs.specs.Pegs.{along_line, sided, PegValues, peg_by, station_check, peg_checks, peg_reply}
use Rattle.pegs.specs.Steps.{plain_peg, spiral_peg, peg_in_curve}
use Rattle.numbers.proofs.Signs.{size_negative}
use Rattle.pegs.proofs.Walking.{Reached, PegFound, from_start, on_straight, in_curve_lem, next_distance, on_last, beyond}

-- The pegs that a line has: on the straight of a distance, or on a curve's arc or one of its spirals, no farther than these can be long.
pub data PegOf (line : Line) : PegValues → Type 0 where
  on_a_straight : (i l : ℕ) → i ≤ line.count → l ≤ 20000000000 → PegOf line (plain_peg Straight i l)
  on_an_arc : (i l : ℕ) → i < line.count → l ≤ 10471975510 → PegOf line (plain_peg Arc (suc i) l)
  on_a_spiral_in : (i l : ℕ) → i < line.count → l ≤ 1000 * (curve_at line i).spiral → PegOf line (spiral_peg SpiralIn (suc i) (curve_at line i) l)
  on_a_spiral_out : (i l : ℕ) → i < line.count → l ≤ 1000 * (curve_at line i).spiral → PegOf line (spiral_peg SpiralOut (suc i) (curve_at line i) l)

module _ (line : Line) (i : ℕ) (here : i < line.count) where
  peg_in_curve_lem : (d inside : ℕ) → d ≤ 10471975510 → inside < 2000 * (curve_at line i).spiral + d → PegOf line (peg_in_curve (suc i) (curve_at line i) d inside)
  unfolding peg_in_curve
  peg_in_curve_lem d inside m h = by_part (dec_lt inside L) (dec_lt inside (L + d))
    where
      L : ℕ
      L = 1000 * (curve_at line i).spiral

      by_part : Dec (inside < L) → Dec (inside < L + d) → PegOf line (peg_in_curve (suc i) (curve_at line i) d inside)
      by_part (yes p) q = rw (lt-ltb inside L p) (on_a_spiral_in i inside here (omega arith))
      by_part (no p) (yes q) =
          rw (le-ltb inside L (omega arith), lt-ltb inside (L + d) q) (on_an_arc i (inside - L) here (omega arith))
      by_part (no p) (no q) =
          rw (le-ltb inside L (omega arith), le-ltb inside (L + d) (omega arith)) (on_a_spiral_out i (L + d + L - inside) here (omega arith))

module _ (line : Line) (ok : Accepted line) (along : ℕ) (inside : le_z (pos along) (line_length line) ≡ true) where
  found : {peg : PegValues} → PegFound line along peg → PegOf line peg → PegOf line (peg_by line (pos along))
  found f s = subst (PegOf line) f.same s

  peg_from : (k i b : ℕ) → Reached line along i k b → b ≤ along → PegOf line (peg_by line (pos along))
  peg_from zero i b r h = at_the_end (dec_lt (b + s.value) along)
    where
      s : Between (straight_at line line.count) 1000 20000000000
      s = ok.straight line.count (omega arith)

      last : Reached line along line.count 0 b
      last = subst (λ (n : ℕ). Reached line along n 0 b) (omega (arith, r.all)) r

      at_the_end : Dec (b + s.value < along) → PegOf line (peg_by line (pos along))
      at_the_end (yes p) = clash inside (beyond line ok along b s.value (sym s.same) last p)
      at_the_end (no p) =
          found (on_last line ok along b s.value (sym s.same) last h (omega arith))
          (on_a_straight line.count (along - b) (omega arith) (omega (arith, s.high)))
  peg_from (suc k) i b r h =
      by_part (dec_lt along (b + s.value)) (dec_lt along (b + s.value + whole)) (λ p. peg_from k (suc i) (b + s.value + whole) (next_distance line ok along i b s.value (sym s.same) k d.value (sym d.same) r p) p)
    where
      s : Between (straight_at line i) 1000 20000000000
      s = ok.straight i (omega (arith, r.all))

      d : Between (arc_at line i) 1000 10471975510
      d = ok.arc i (omega (arith, r.all))

      whole : ℕ
      whole = 2000 * (curve_at line i).spiral + d.value

      by_part : Dec (along < b + s.value) → Dec (along < b + s.value + whole)
          → (b + s.value + whole ≤ along → PegOf line (peg_by line (pos along))) → PegOf line (peg_by line (pos along))
      by_part (yes p) q later =
          found (on_straight line ok along i b s.value (sym s.same) (suc k) r h p) (on_a_straight i (along - b) (omega (arith, r.all)) (omega (arith, s.high)))
      by_part (no p) (yes q) later =
          found
          (in_curve_lem line ok along i b s.value (sym s.same) k d.value (sym d.same) r (omega arith) (omega arith))
          (peg_in_curve_lem line i (omega (arith, r.all)) d.value (along - (b + s.value)) d.high (omega arith))
      by_part (no p) (no q) later = later (omega arith)

  pub peg_of : PegOf line (peg_by line (pos along))
  peg_of = peg_from line.count 0 0 (from_start line ok along) (omega arith)

-- ---- how large its numbers are

pub record Small (peg : PegValues) : Type 0 where
  pub length : Between peg.length 0 20000000000
  pub x : Between peg.offsets.x 0 500000000
  pub y : nat_abs peg.offsets.y ≤ 83333333

-- Either side.
sided_size : {z : ℤ} {most : ℕ} (left : Bool) → Between z 0 most → nat_abs (sided left z) ≤ most
sided_size false b = rw b.same b.high
sided_size {z} true b = rw (size_negative z, b.same) b.high

small_plain : (kind : ElementKind) (number l : ℕ) → l ≤ 20000000000 → Small (plain_peg kind number l)
small_plain kind number l h = record { length = natural l (omega arith) h; x = natural 0 (omega arith) (omega arith); y = omega arith }

small_spiral : (kind : ElementKind) (number : ℕ) (curve : Curve) (l : ℕ) → CurveInRange curve.deflection curve.radius curve.spiral
    → l ≤ 1000 * curve.spiral → Small (spiral_peg kind number curve l)
small_spiral kind number curve l ok h =
    record {
      length = natural l (omega arith) (omega (arith, ok.L-most));
      x = x_between curve.radius curve.spiral l ok.L-to-R h ok.L-most;
      y = sided_size curve.left (y_between curve.radius curve.spiral l ok.L-to-R h ok.L-most);
    }

small_peg : (line : Line) → Accepted line → {peg : PegValues} → PegOf line peg → Small peg
small_peg line ok (on_a_straight i l h m) = small_plain Straight i l m
small_peg line ok (on_an_arc i l h m) = small_plain Arc (suc i) l (omega arith)
small_peg line ok (on_a_spiral_in i l h m) = small_spiral SpiralIn (suc i) (curve_at line i) l (ok.in_range.curve i h) m
small_peg line ok (on_a_spiral_out i l h m) = small_spiral SpiralOut (suc i) (curve_at line i) l (ok.in_range.curve i h) m

-- ---- what a caller learns from an answer

-- A whole number that is not below zero.
not_below : (z : ℤ) → le_z (pos 0) z ≡ true → z ≡ pos (nat_abs z)
not_below (pos n) e = refl
not_below (negsuc n) e =
    let z : ◌≡◌ {A = ℕ} 0 1 = cc in
    absurd (omega arith)

module _ (line : Line) (station : ℕ) where
  -- A peg that is answered is the rule's, its line is accepted, and it is one of the line's, so small.
  pub record FoundPeg (peg : PegValues) : Type 0 where
    pub accepted : outcome (peg_checks line station) ≡ passed
    pub same : peg ≡ peg_by line (along_line line station)
    pub of_line : PegOf line peg
    pub small : Small peg

  pub found_peg : (peg : PegValues) → answered peg ≡ peg_reply line station → FoundPeg peg
  unfolding peg_reply peg_checks station_check
  found_peg peg e = record { accepted = told.0; same = told.1; of_line = of_line; small = small_peg line ok of_line }
    where
      along : ℤ
      along = along_line line station

      told : (outcome (peg_checks line station) ≡ passed) × (peg ≡ peg_by line (along_line line station))
      told = replied (peg_checks line station) (peg_by line (along_line line station)) e

      checked : outcome (alignment_checks line) ≡ passed
      checked = passed_left (outcome (alignment_checks line)) _ told.0

      on_line : (le_z (pos 0) along && le_z along (line_length line)) ≡ true
      on_line = need_holds _ 17 0 (passed_right (outcome (alignment_checks line)) _ told.0)

      natural_along : along ≡ pos (nat_abs along)
      natural_along = not_below along (both_left (le_z (pos 0) along) (le_z along (line_length line)) on_line)

      inside : le_z (pos (nat_abs along)) (line_length line) ≡ true
      inside =
          ap (λ (z : ℤ). le_z z (line_length line)) (sym natural_along) ∙ both_right (le_z (pos 0) along) (le_z along (line_length line)) on_line

      ok : Accepted line
      ok = accepted line checked

      of_line : PegOf line peg
      of_line = subst (PegOf line) (sym told.1) (subst (λ (z : ℤ). PegOf line (peg_by line z)) (sym natural_along) (peg_of line ok (nat_abs along) inside))
