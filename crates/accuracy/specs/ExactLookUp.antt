-- The exact end of a spiral that document 02's N8 looks up: of the length L at r thousandths of a radian, in mm.
use Rattle.std.specs.Prelude.{ℕ}
use Rattle.numbers.specs.Fractions.{Fraction, nat, ◌⊗◌, ◌⊘◌}
use Rattle.spiral_table.specs.LookUp.{end_by}
use Rattle.accuracy.specs.ExactElements.{exact_unit_x, exact_unit_y}
use Rattle.accuracy.specs.Accuracy.{Within, spiral_tolerance}

-- "thousandths of a radian"
unfoldable pub exact_row_angle : ℕ → Fraction
exact_row_angle r = nat r ⊘ 1000

-- "X = L(1 − s²/10 + s⁴/216)" and "Y = L(s/3 − s³/42)" with N7's terms, at that angle
unfoldable pub exact_end_x : (r L : ℕ) → Fraction
exact_end_x r L = nat L ⊗ exact_unit_x (exact_row_angle r)

unfoldable pub exact_end_y : (r L : ℕ) → Fraction
exact_end_y r L = nat L ⊗ exact_unit_y (exact_row_angle r)

-- X and Y that are looked up lie as near as the rule's: "Bounds for X and Y become 3 µm" (N7)
pub record EndWithin (r L : ℕ) : Type 0 where
  pub X : Within spiral_tolerance (end_by r L).x (exact_end_x r L)
  pub Y : Within spiral_tolerance (end_by r L).y (exact_end_y r L)
