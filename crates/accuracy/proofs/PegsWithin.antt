-- Every peg that the call answers has offsets within 4 µm of the exact ones, on the element and at the length that it names. Assumes nothing.
use mathlib.Core.Path.{◌≡◌, subst}
use mathlib.Core.Bool.{Bool, true, false}
use Prim.Native.Nat.{ℕ, suc, ◌+◌, ◌-◌, ◌*◌, ◌≤◌, ◌<◌}
use native.Mathlib.Omega.{arith}
use lib.Dec.{lit≤}
use lib.IntN.{ℤ, pos, neg_ℤ, +ℤ_idl}
use Rattle.refusals.specs.Order.{outcome}
use Rattle.refusals.specs.Replying.{answered}
use Rattle.refusals.proofs.Joining.{passed_left}
use Rattle.line.specs.declared.Line.{Line}
use Rattle.line.specs.Checks.{curve_at}
use Rattle.stationing.specs.Answer.{alignment_checks}
use Rattle.stationing.proofs.Accepted.{Accepted, accepted}
use Rattle.pegs.specs.Pegs.{sided, PegValues, peg_checks, peg_reply}
use Rattle.pegs.proofs.PegsOfALine.{PegOf, on_a_straight, on_an_arc, on_a_spiral_in, on_a_spiral_out, found_peg}
use Rattle.numbers.specs.Fractions.{Fraction, nat}
use Rattle.accuracy.specs.Accuracy.{Within}
use Rattle.accuracy.specs.ExactOffsets.{offset_tolerance, exact_sided, PegWithin}
use Rattle.accuracy.proofs.OffsetsWithin.{offset_error, OffsetsNear, offsets_near}
use Rattle.accuracy.proofs.ElementsWithin.{within}
use Rattle.accuracy.proofs.Nearness.{Near, near_nat, near_difference}

-- Nothing is nothing.
none_within : Within offset_tolerance (pos 0) (nat 0)
none_within = within offset_tolerance (near_nat 1000 0) (lit≤ tt) (lit≤ tt)

-- Either side.
sided_within : {q : ℤ} {v : Fraction} (left : Bool) → Near 1000 q v offset_error offset_error → Within offset_tolerance (sided left q) (exact_sided left v)
sided_within false h = within offset_tolerance h (lit≤ tt) (lit≤ tt)
sided_within {q} {v} true h =
    within offset_tolerance (subst (λ (z : ℤ). Near 1000 z (exact_sided true v) (0 + offset_error) (0 + offset_error)) (+ℤ_idl (neg_ℤ q)) (near_difference (near_nat 1000 0) h)) (lit≤ tt) (lit≤ tt)

module _ (line : Line) (ok : Accepted line) where
  spiral_offsets : (i l : ℕ) → i < line.count → l ≤ 1000 * (curve_at line i).spiral → OffsetsNear (curve_at line i).radius (curve_at line i).spiral l
  spiral_offsets i l h m = offsets_near (curve_at line i).deflection (curve_at line i).radius (curve_at line i).spiral l (ok.in_range.curve i h) m

  peg_within : {peg : PegValues} → PegOf line peg → PegWithin line peg
  peg_within (on_a_straight i l h m) = record { x = none_within; y = none_within }
  peg_within (on_an_arc i l h m) = record { x = none_within; y = none_within }
  peg_within (on_a_spiral_in i l h m) =
      let o = spiral_offsets i l h m in
      let entry : suc i - 1 ≡ i = omega arith in
      record { x = rw entry (within offset_tolerance o.x (lit≤ tt) (lit≤ tt)); y = rw entry (sided_within (curve_at line i).left o.y) }
  peg_within (on_a_spiral_out i l h m) =
      let o = spiral_offsets i l h m in
      let entry : suc i - 1 ≡ i = omega arith in
      record { x = rw entry (within offset_tolerance o.x (lit≤ tt) (lit≤ tt)); y = rw entry (sided_within (curve_at line i).left o.y) }

pub pegs_accurate : (line : Line) (station : ℕ) (peg : PegValues) → answered peg ≡ peg_reply line station → PegWithin line peg
unfolding peg_checks
pegs_accurate line station peg e =
    let found = found_peg line station peg e in
    peg_within line (accepted line (passed_left (outcome (alignment_checks line)) _ found.accepted)) found.of_line
