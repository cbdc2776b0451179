-- What holds of a line that is answered: it passes the calculator's checks, its unused entries are zero, each distance is the one whole number
-- whose square is not above the sum of the squares while the next one's is, and each deflection is the one whole second that the legs reach
-- while they do not reach the next. Assumes nothing.
use mathlib.Core.Path.{◌≡◌, refl, sym, ap, subst}
use mathlib.Core.Bool.{not, ◌&&◌}
use mathlib.Core.List.{List}
use Prim.Native.Nat.{ℕ, suc, ◌+◌, ◌*◌, ◌<◌, ◌≤◌}
use native.Mathlib.Omega.{arith}
use lib.Dec.{ltb}
use lib.IntN.{ℤ, pos, nat_abs}
use lib.Signed.{lt_z}
use borrow.Author.Tests.{ltb-true, not-true}
use Rattle.numbers.proofs.Signs.{above_zero}
use Rattle.numbers.proofs.Tests.{both_left, both_right}
use Rattle.refusals.specs.Outcomes.{passed, need}
use Rattle.refusals.specs.Order.{outcome}
use Rattle.refusals.proofs.Joining.{passed_left, passed_right, need_holds}
use Rattle.refusals.proofs.InTurn.{each_passes}
use Rattle.line.specs.declared.Curve.{Curve}
use Rattle.line.specs.Checks.{blank_curve, curve_at, distance_at}
use Rattle.line.specs.Entries.{cleared}
use Rattle.line.proofs.Entries.{entries_same}
use Rattle.arithmetic.proofs.Largest.{root_within}
use Rattle.turns.specs.Turn.{reached, deflection_of, LastReached}
use Rattle.turns.proofs.OneTurn.{turn_most, turn_is_last, last_is_turn}
use Rattle.coordinates.specs.Legs.{curve_count, leg_at, squares, length_of, cross_at, dot_at}
use Rattle.coordinates.specs.FromPoints.{distance_from, deflection_from, curve_from, line_from, turn_checks, from_points_checks}
use Rattle.coordinates.specs.AnsweredLine.{Turning, Answered}
use Rattle.coordinates.proofs.Accepted.{turns_pass, line_accepted, counts_accepted}
use Rattle.coordinates.proofs.Counts.{counts_pass}
use Rattle.coordinates.proofs.SameShape.{distance_is, curve_is}

-- ---- a turn that passes 20 and 19

pub passed_turn : (points : List ℤ) (i : ℕ) → outcome (turn_checks points i) ≡ passed
    → Turning (cross_at points i) (dot_at points i) (lt_z (pos 0) (cross_at points i)) (deflection_from points i)
unfolding turn_checks deflection_from
passed_turn points i e =
    let cross = nat_abs (cross_at points i) in
    let dot = dot_at points i in
    let narrow = not (reached cross dot 216001) in
    let first = need (lt_z (pos 0) dot && narrow) 20 (suc i) in
    let second = need (ltb 0 (deflection_of cross dot)) 19 (suc i) in
    let both = need_holds (lt_z (pos 0) dot && narrow) 20 (suc i) (passed_left first second e) in
    let ahead = both_left (lt_z (pos 0) dot) narrow both in
    let size = (above_zero dot ahead).0 in
    let not_wide = not-true (reached cross dot 216001) (both_right (lt_z (pos 0) dot) narrow both) in
    record {
      side = refl;
      ahead = ahead;
      least = ltb-true 0 (deflection_of cross dot) (need_holds (ltb 0 (deflection_of cross dot)) 19 (suc i) (passed_right first second e));
      most = turn_most cross dot;
      last = subst (λ (d : ℤ). LastReached cross d (deflection_of cross d)) size (turn_is_last cross (nat_abs dot) (rw size not_wide));
      only = λ s h l. subst (λ (d : ℤ). LastReached cross d s → s ≡ deflection_of cross d) size (last_is_turn cross (nat_abs dot) s h) l;
    }

pub answered : (v e start : ℕ) (points : List ℤ) (curves : List ℕ) → outcome (from_points_checks v e start points curves) ≡ passed
    → Answered v e start points curves (line_from v e start points curves)
unfolding line_from curve_from cleared length_of
answered v e start points curves accepted =
    let n = curve_count points in
    let few = (counts_pass points curves (counts_accepted v e start points curves accepted)).few in
    let line = line_from v e start points curves in
    let distances = entries_same 65 (suc n) (distance_at line) (distance_from points) 0 (λ i h. distance_is v e start points curves few i (omega arith)) in
    let bends = entries_same 64 n (curve_at line) (curve_from points curves) blank_curve (λ i h. curve_is v e start points curves few i h) in
    record {
      speed = refl;
      crossfall = refl;
      start_station_lem = refl;
      count = refl;
      checked = line_accepted v e start points curves accepted;
      unused = λ j. record { speed = v; crossfall = e; start = start; count = n; distances = distances j; curves = bends j };
      distance = λ i h.
          subst (λ (d : ℕ). (d * d ≤ squares (leg_at points i)) × (squares (leg_at points i) < (d + 1) * (d + 1))) (sym (distance_is v e start points curves few i h))
          (root_within (squares (leg_at points i)));
      curve = λ i h.
          subst (λ (c : Curve). Turning (cross_at points i) (dot_at points i) c.left c.deflection) (sym (curve_is v e start points curves few i h))
          (passed_turn points i (each_passes (turn_checks points) n (turns_pass v e start points curves accepted) i h));
      design = λ i h.
          let same = curve_is v e start points curves few i h in
          (ap (λ (c : Curve). c.radius) same, ap (λ (c : Curve). c.spiral) same);
    }
