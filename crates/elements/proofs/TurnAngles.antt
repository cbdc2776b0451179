-- The angle of a turn is its full angle up to the greatest turn, which is 60° and a second at the most. Assumes nothing.
use mathlib.Core.Path.{◌≡◌}
use Prim.Native.Nat.{ℕ, ◌≤◌}
use native.Mathlib.Omega.{arith}
use borrow.Author.Tests.{le-leb}
use Rattle.elements.specs.WorkingRule.{full_angle}
use Rattle.elements.specs.TurnAngle.{greatest_turn, turn_angle}
use Rattle.elements.proofs.SineAndCosine.{greatest_turn_angle}

pub turn_within : (s : ℕ) → s ≤ greatest_turn → turn_angle s ≡ full_angle s
unfolding turn_angle
turn_within s h = rw (le-leb s greatest_turn h)

pub turn_angle_most : (s : ℕ) → s ≤ greatest_turn → full_angle s ≤ greatest_turn_angle
unfolding full_angle
turn_angle_most s h = omega arith
