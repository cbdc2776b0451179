-- Exchanging north and south changes the side of every curve, and nothing else. Assumes nothing.
use mathlib.Core.Path.{◌≡◌, refl, sym, ◌∙◌, ap}
use mathlib.Core.Bool.{not, ◌&&◌}
use mathlib.Core.List.{List, [], ◌∷◌}
use Prim.Native.Nat.{ℕ, zero, suc, ◌+◌, ◌*◌, ◌<◌}
use native.Mathlib.Omega.{arith}
use lib.Dec.{leb, ltb}
use lib.IntN.{ℤ, pos, neg_ℤ, nat_abs, ◌+ℤ◌, ◌-ℤ◌, ◌*ℤ◌, neg_ℤ-neg_ℤ}
use lib.ListN.{length}
use lib.Signed.{lt_z}
use borrow.Author.Tests.{ltb-true}
use Rattle.numbers.proofs.Tests.{both_left}
use Rattle.numbers.proofs.Signs.{above_zero, size_negative, times_negative, negative_times, negative_difference, other_side_lem}
use Rattle.refusals.specs.Outcomes.{passed, need}
use Rattle.refusals.specs.Order.{in_turn, outcome}
use Rattle.refusals.specs.Replying.{reply}
use Rattle.refusals.proofs.Joining.{passed_left, passed_right, need_holds}
use Rattle.refusals.proofs.InTurn.{alike_in_turn, each_passes}
use Rattle.line.specs.Checks.{curve_at}
use Rattle.turns.specs.Turn.{reached, deflection_of}
use Rattle.turns.proofs.OneTurn.{no_cross}
use Rattle.coordinates.specs.declared.Leg.{Leg}
use Rattle.coordinates.specs.Legs.{curve_count, coordinate_at, leg_at, length_of, cross_of, dot_of, cross_at, dot_at}
use Rattle.coordinates.specs.FromPoints.{deflection_from, curve_from, line_from, coordinate_check, turn_checks, from_points_checks}
use Rattle.coordinates.specs.Moves.{changed, mirrored, other_side, other_sides}
use Rattle.coordinates.proofs.Accepted.{turns_pass}
use Rattle.coordinates.proofs.Changed.{same_length, east_step, north_step}
use Rattle.coordinates.proofs.Counts.{Counted}
use Rattle.coordinates.proofs.SameShape.{curve_is}
use Rattle.coordinates.proofs.ChangedLegs.{Keeps, product, curve_with, line_with_lem, answer_with}

-- ---- legs with north and south exchanged

abbrev turned : Leg → Leg
turned leg = record { east = leg.east; north = neg_ℤ leg.north }

turned_length : (leg : Leg) → length_of (turned leg) ≡ length_of leg
unfolding length_of
turned_length leg = rw (size_negative leg.north) refl

turned_cross : (into out : Leg) → cross_of (turned into) (turned out) ≡ neg_ℤ (cross_of into out)
unfolding cross_of
turned_cross into out =
    (λ j. times_negative into.east out.north j -ℤ negative_times into.north out.east j)
    ∙ negative_difference (into.east *ℤ out.north) (into.north *ℤ out.east)

turned_dot : (into out : Leg) → dot_of (turned into) (turned out) ≡ dot_of into out
unfolding dot_of
turned_dot into out =
    ap (λ (z : ℤ). into.east *ℤ out.east +ℤ z)
    (negative_times into.north (neg_ℤ out.north) ∙ ap neg_ℤ (times_negative into.north out.north) ∙ neg_ℤ-neg_ℤ (into.north *ℤ out.north))

-- ---- the points

same_size : (points : List ℤ) (k : ℕ) → nat_abs (coordinate_at (mirrored points) k) ≡ nat_abs (coordinate_at points k)
unfolding changed
same_size [] k = refl
same_size (east ∷ []) zero = refl
same_size (east ∷ []) (suc k) = refl
same_size (east ∷ north ∷ rest) zero = refl
same_size (east ∷ north ∷ rest) (suc zero) = size_negative north
same_size (east ∷ north ∷ rest) (suc (suc k)) = same_size rest k

-- Legs that turn have a cross product: without one they go straight on, and 19 refuses.
no_turn_without_cross : (points : List ℤ) (i : ℕ) → outcome (turn_checks points i) ≡ passed → nat_abs (cross_at points i) ≡ 0 → ⊥
unfolding turn_checks deflection_from
no_turn_without_cross points i e none =
    let cross = nat_abs (cross_at points i) in
    let dot = dot_at points i in
    let narrow = not (reached cross dot 216001) in
    let first = need (lt_z (pos 0) dot && narrow) 20 (suc i) in
    let second = need (ltb 0 (deflection_of cross dot)) 19 (suc i) in
    let ahead = above_zero dot (both_left (lt_z (pos 0) dot) narrow (need_holds (lt_z (pos 0) dot && narrow) 20 (suc i) (passed_left first second e))) in
    let turns = ltb-true 0 (deflection_of cross dot) (need_holds (ltb 0 (deflection_of cross dot)) 19 (suc i) (passed_right first second e)) in
    let straight = ap (λ (c : ℕ). deflection_of c dot) none ∙ ap (deflection_of 0) (sym ahead.0) ∙ no_cross (nat_abs dot) ahead.1 in
    absurd (omega (arith, turns, straight))

turned_keeps : Keeps turned
turned_keeps =
    record {
      length = turned_length;
      cross = λ into out. ap nat_abs (turned_cross into out) ∙ size_negative (cross_of into out);
      dot = turned_dot;
    }

module _ (points : List ℤ) where
  lengths : length (mirrored points) ≡ length points
  lengths = same_length (λ x. x) neg_ℤ points

  turned_leg : (i : ℕ) → 2 * i + 3 < length points → leg_at (mirrored points) i ≡ turned (leg_at points i)
  turned_leg i h =
      let e = east_step (λ x. x) neg_ℤ points i h in
      let n = north_step (λ x. x) neg_ℤ points i h ∙ negative_difference (coordinate_at points (2 * i + 1 + 2)) (coordinate_at points (2 * i + 1)) in
      λ j. record { east = e j; north = n j }

  -- No coordinate changes its size.
  same_ranges : outcome (in_turn (coordinate_check (mirrored points)) (length (mirrored points))) ≡ outcome (in_turn (coordinate_check points) (length points))
  unfolding coordinate_check
  same_ranges =
      alike_in_turn (coordinate_check (mirrored points)) (coordinate_check points) (length (mirrored points)) (λ k h. ap (λ (s : ℕ). need (leb s 10000000) 18 0) (same_size points k))
      ∙ ap (λ (n : ℕ). outcome (in_turn (coordinate_check points) n)) lengths

  -- Where no turn is refused, each curve turns to the other side.
  other_curve : (curves : List ℕ) → Counted points curves → outcome (in_turn (turn_checks points) (curve_count points)) ≡ passed
      → (i : ℕ) → i < curve_count points → curve_from (mirrored points) curves i ≡ other_side (curve_from points curves i)
  unfolding curve_from
  other_curve curves counted turns i h =
      let crosses = no_turn_without_cross points i (each_passes (turn_checks points) (curve_count points) turns i h) in
      let across = product turned turned_keeps points (mirrored points) lengths turned_leg curves counted cross_of i h ∙ turned_cross (leg_at points i) (leg_at points (suc i)) in
      curve_with turned turned_keeps points (mirrored points) lengths turned_leg curves counted i h
      (ap (lt_z (pos 0)) across ∙ other_side_lem (cross_at points i) crosses)

  -- The same refusal, or the same line with the side of every curve exchanged.
  pub mirrored_changes_sides : (v e start : ℕ) (curves : List ℕ)
      → reply (from_points_checks v e start (mirrored points) curves) (line_from v e start (mirrored points) curves)
      ≡ reply (from_points_checks v e start points curves) (other_sides (line_from v e start points curves))
  unfolding line_from other_sides
  mirrored_changes_sides v e start curves =
      let line = line_from v e start points curves in
      let with_line = line_with_lem turned turned_keeps points (mirrored points) lengths turned_leg curves in
      answer_with turned turned_keeps points (mirrored points) lengths turned_leg curves v e start (other_sides line) same_ranges
      (λ counted accepted.
      with_line counted v e start (λ i. other_side (curve_at line i))
      (λ i h. other_curve curves counted (turns_pass v e start points curves accepted) i h ∙ sym (ap other_side (curve_is v e start points curves counted.few i h))))
