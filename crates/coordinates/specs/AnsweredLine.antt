-- What a line that is answered has, in terms of its points: the statement of the law in `proofs/AnsweredLine.antt`.
use Rattle.std.specs.Prelude.{◌≡◌, Bool, true, List, ℕ, ◌+◌, ◌*◌, ◌<◌, ◌≤◌, ℤ, pos, nat_abs, get_or}
use Rattle.std.specs.Int.Signed.{lt_z}
use Rattle.refusals.specs.Outcomes.{passed}
use Rattle.refusals.specs.Order.{outcome}
use Rattle.line.specs.declared.Line.{Line}
use Rattle.line.specs.Checks.{curve_at, distance_at}
use Rattle.line.specs.Entries.{cleared}
use Rattle.turns.specs.Turn.{LastReached}
use Rattle.stationing.specs.Answer.{alignment_checks}
use Rattle.coordinates.specs.Legs.{curve_count, leg_at, squares, cross_at, dot_at}

-- The curve at a PI, from the cross and the dot product there: the side is the sign of the first, the second is above zero, and the deflection
-- is reached, with no other second in its place.
pub record Turning (cross dot : ℤ) (left : Bool) (A : ℕ) : Type 0 where
  pub side : left ≡ lt_z (pos 0) cross
  pub ahead : lt_z (pos 0) dot ≡ true
  pub least : 1 ≤ A
  pub most : A ≤ 216000
  pub last : LastReached (nat_abs cross) dot A
  pub only : (s : ℕ) → s ≤ 216000 → LastReached (nat_abs cross) dot s → s ≡ A

-- The line has the given fields and as many curves as there are PIs, passes the calculator's checks, and its unused entries are zero. A distance is
-- the one whole number whose square is the summed squares of its leg or less, while the next one's is more; a curve turns as its legs do, and has the
-- radius and the spiral of its PI.
pub record Answered (v e start : ℕ) (points : List ℤ) (curves : List ℕ) (line : Line) : Type 0 where
  pub speed : line.speed ≡ v
  pub crossfall : line.crossfall ≡ e
  pub start_station_lem : line.start ≡ start
  pub count : line.count ≡ curve_count points
  pub checked : outcome (alignment_checks line) ≡ passed
  pub unused : cleared line ≡ line
  pub distance : (i : ℕ) → i ≤ curve_count points
      → (distance_at line i * distance_at line i ≤ squares (leg_at points i))
      × (squares (leg_at points i) < (distance_at line i + 1) * (distance_at line i + 1))
  pub curve : (i : ℕ) → i < curve_count points → Turning (cross_at points i) (dot_at points i) (curve_at line i).left (curve_at line i).deflection
  pub design : (i : ℕ) → i < curve_count points → ((curve_at line i).radius ≡ get_or curves (2 * i) 0) × ((curve_at line i).spiral ≡ get_or curves (2 * i + 1) 0)
