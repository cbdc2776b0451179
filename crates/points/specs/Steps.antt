-- What the private steps of the call for a line from points promise.
use Rattle.std.specs.Prelude.{◌≡◌, cond, List, ℕ, suc, ◌+◌, ◌*◌, ◌≤◌, ℤ, pos, nat_abs, length, Result, IfOk}
use Rattle.std.specs.Int.Signed.{le_z}
use Rattle.refusals.specs.declared.Refusal.{Refusal}
use Rattle.refusals.specs.Outcomes.{outcome_of}
use Rattle.refusals.specs.Order.{Checks, ◌⨾◌, in_turn, outcome}
use Rattle.line.specs.declared.Line.{Line}
use Rattle.turns.specs.Turn.{turn_or_wide}
use Rattle.stationing.specs.Answer.{alignment_checks}
use Rattle.coordinates.specs.Legs.{curve_count}
use Rattle.coordinates.specs.FromPoints.{line_from, length_check, turn_checks}
use Rattle.points.specs.Reach.{InReach}

-- Points and designs that pass 3 and 18.
pub record Usable (points : List ℤ) (designs : List ℕ) : Type 0 where
  pub few : curve_count points ≤ 64
  pub numbers : length points ≡ 2 * curve_count points + 4
  pub pairs : length designs ≡ 2 * curve_count points
  pub in_reach : InReach points

-- The turn of two legs by their cross and their dot product; 216,001 where 20 refuses.
unfoldable pub seconds_of : (cross dot : ℤ) → ℕ
seconds_of cross dot = cond (le_z dot (pos 0)) 216001 (turn_or_wide (nat_abs cross) dot)

-- These checks, and the line where they pass.
pub record Made (checks : Checks) (whole : Line) (made : Result Line Refusal) : Type 0 where
  pub checked : outcome_of made ≡ outcome checks
  pub line : IfOk made (λ line. line ≡ whole)

-- The checks after 3 and 18: 8, then 20 and 19, then the calculator's.
abbrev pub leg_checks : (v e start : ℕ) → List ℤ → List ℕ → Checks
leg_checks v e start points designs =
    in_turn (length_check points) (suc (curve_count points))
    ⨾ in_turn (turn_checks points) (curve_count points)
    ⨾ alignment_checks (line_from v e start points designs)
