-- `printed`: the table fills its numbers, and their text its bytes. Assumes nothing.
use mathlib.Core.Path.{◌∙◌, ap}
use mathlib.Core.List.{List}
use Prim.Native.Nat.{ℕ}
use lib.ListN.{replicate}
use Rattle.refusals.specs.Order.{unchecked}
use Rattle.refusals.specs.Filling.{fill}
use Rattle.refusals.proofs.FillWays.{exact_fill}
use Rattle.report.specs.Text.{table_text}
use Rattle.spiral_table.specs.UnitSpiralTable.{unit_spiral_table, table_in}
use Rattle.spiral_table.proofs.EachEntry.{table_length}
use Rattle.unit_spiral.proofs.PrintedText.{printed_text}
use Rattle.unit_spiral.proofs.printed.Goals as goal

pub returns : goal.returns
unfolding table_in
returns c =
    let numbers = c.table_numbers.ensures.memory ∙ exact_fill unit_spiral_table (replicate 1002 0) table_length in
    c.table_text.ensures.memory
    ∙ ap (λ (table : List ℕ). (fill unchecked (table_text table) (replicate 11574 0)).buffer) numbers
    ∙ exact_fill (table_text unit_spiral_table) (replicate 11574 0) printed_text.size
