-- A line that is answered passes the checks of counts and of turns, and the calculator's checks 3 to 15. Assumes nothing.
use mathlib.Core.Path.{◌≡◌}
use mathlib.Core.List.{List}
use Prim.Native.Nat.{ℕ, suc}
use lib.IntN.{ℤ}
use lib.ListN.{length}
use Rattle.refusals.specs.Outcomes.{passed}
use Rattle.refusals.specs.Order.{◌⨾◌, in_turn, outcome}
use Rattle.refusals.proofs.Joining.{passed_left, passed_right}
use Rattle.stationing.specs.Answer.{alignment_checks}
use Rattle.coordinates.specs.Legs.{curve_count}
use Rattle.coordinates.specs.FromPoints.{line_from, count_checks, coordinate_check, length_check, turn_checks, from_points_checks}

module _ (v e start : ℕ) (points : List ℤ) (curves : List ℕ) (accepted : outcome (from_points_checks v e start points curves) ≡ passed) where
  pub counts_accepted : outcome (count_checks points curves) ≡ passed
  unfolding from_points_checks
  counts_accepted = passed_left (outcome (count_checks points curves)) _ accepted

  after_lengths : outcome (in_turn (turn_checks points) (curve_count points) ⨾ alignment_checks (line_from v e start points curves)) ≡ passed
  unfolding from_points_checks
  after_lengths =
      passed_right (outcome (in_turn (length_check points) (suc (curve_count points)))) _
      (passed_right (outcome (in_turn (coordinate_check points) (length points))) _ (passed_right (outcome (count_checks points curves)) _ accepted))

  pub turns_pass : outcome (in_turn (turn_checks points) (curve_count points)) ≡ passed
  turns_pass = passed_left _ (outcome (alignment_checks (line_from v e start points curves))) after_lengths

  pub line_accepted : outcome (alignment_checks (line_from v e start points curves)) ≡ passed
  line_accepted = passed_right (outcome (in_turn (turn_checks points) (curve_count points))) _ after_lengths
