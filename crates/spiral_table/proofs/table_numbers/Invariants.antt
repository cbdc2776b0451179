-- `table_numbers`: the first k numbers are the table's, the others as lent. Assumes nothing.
use mathlib.Core.Path.{◌≡◌}
use mathlib.Core.List.{◌++◌}
use lib.ListN.{take, drop}
use Rattle.spiral_table.specs.UnitSpiralTable.{unit_spiral_table}
use Rattle.spiral_table.proofs.table_numbers.Given as goal

abbrev pub invariant-loop-k : goal.invariant-loop-k
invariant-loop-k l = l.ratios ≡ take l.k unit_spiral_table ++ drop l.k l.initial.ratios
