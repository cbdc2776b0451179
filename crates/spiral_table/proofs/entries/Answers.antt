-- `entries`: the table in the code is the rule's, all 1,002 numbers in one computation. Assumes nothing.
use mathlib.Core.Path.{refl}
use Rattle.elements.specs.WorkingRule.{t2, t3, t4, t5, t6, unit_x, unit_y}
use Rattle.spiral_table.specs.UnitSpiralTable.{row_angle, rows_from, unit_spiral_table}
use Rattle.spiral_table.proofs.entries.Goals as goal

pub returns : goal.returns
unfolding unit_spiral_table rows_from row_angle unit_x unit_y t2 t3 t4 t5 t6
returns c = refl
