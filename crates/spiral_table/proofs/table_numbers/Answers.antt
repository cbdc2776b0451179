-- `table_numbers`: one number more of the table, up to its last. Assumes nothing.
use mathlib.Core.Path.{sym, ◌∙◌, ap}
use mathlib.Core.List.{List, ◌++◌}
use Prim.Native.Nat.{ℕ}
use native.Mathlib.Numerals.{add-one}
use native.Mathlib.Omega.{arith}
use lib.ListN.{take, drop, get_or, set}
use Rattle.numbers.proofs.Stores.{one_stored}
use Rattle.spiral_table.specs.UnitSpiralTable.{unit_spiral_table}
use Rattle.spiral_table.proofs.EachEntry.{table_length}
use Rattle.spiral_table.proofs.table_numbers.Goals as goal

pub loop-k-preserved : goal.loop-k-preserved
loop-k-preserved c =
    let k = c.loop-k.k in
    let lent = c.args.ratios.now in
    let stored = one_stored unit_spiral_table lent k (omega (arith, table_length)) (omega arith) in
    let entry = c.from.ensures ∙ ap (λ (table : List ℕ). get_or table k 0) c.entries-table.ensures in
    (λ j. set (c.loop-k.invariant j) k (entry j))
    ∙ stored
    ∙ ap (λ (n : ℕ). take n unit_spiral_table ++ drop n lent) (sym (add-one k))
