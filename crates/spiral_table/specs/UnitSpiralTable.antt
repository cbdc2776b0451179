-- Document 02, N8: the table of the spiral of length one. Ratios are whole numbers at scale 10⁹.
use Rattle.std.specs.Prelude.{List, [], ◌∷◌, ℕ, zero, suc, ◌*◌, nat_abs}
use Rattle.refusals.specs.Order.{unchecked}
use Rattle.refusals.specs.Filling.{Fill, fill}
use Rattle.elements.specs.WorkingRule.{unit_x, unit_y}

-- "spiral angle 0 to 500 thousandths of a radian": of row r
unfoldable pub row_angle : ℕ → ℕ
row_angle r = 1000000 * r

-- "each with x and y as the rule gives them": `count` rows from r on; none of these numbers is below zero (`proofs/EachEntry.antt`)
unfoldable pub rows_from : (r count : ℕ) → List ℕ
rows_from r zero = []
rows_from r (suc count) = nat_abs (unit_x (row_angle r)) ∷ nat_abs (unit_y (row_angle r)) ∷ rows_from (suc r) count

-- "501 rows": 1,002 numbers
unfoldable pub unit_spiral_table : List ℕ
unit_spiral_table = rows_from 0 501

-- What the call that is lent numbers for the table does to them.
unfoldable pub table_in : List ℕ → Fill ℕ
table_in lent = fill unchecked unit_spiral_table lent
