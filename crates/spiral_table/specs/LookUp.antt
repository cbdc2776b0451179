-- Document 02, N8: "A look-up takes a thousandth and a length and gives X and Y as the rule would." The length L is in mm, X and Y are in µm.
use Rattle.std.specs.Prelude.{ℕ, leb}
use Rattle.refusals.specs.Order.{Checks, check, ◌⨾◌}
use Rattle.refusals.specs.Replying.{Reply, reply}
use Rattle.elements.specs.WorkingRule.{unit_x, unit_y, scaled_length}
use Rattle.elements.specs.SpiralPoint.{Offsets}
use Rattle.spiral_table.specs.UnitSpiralTable.{row_angle}

-- X and Y: the end of a spiral of the length L and of the angle of row r
unfoldable pub end_by : (r L : ℕ) → Offsets
end_by r L = record { x = scaled_length L (unit_x (row_angle r)); y = scaled_length L (unit_y (row_angle r)) }

-- "It refuses with 25 a thousandth above 500, then with 11 a length above 500,000."
unfoldable pub look_up_checks : (r L : ℕ) → Checks
look_up_checks r L = check (leb r 500) 25 0 ⨾ check (leb L 500000) 11 0

-- What the look-up answers.
unfoldable pub look_up_reply : (r L : ℕ) → Reply Offsets
look_up_reply r L = reply (look_up_checks r L) (end_by r L)
