-- `put_line` of a table: row, x and y are its three words. Assumes nothing.
use Prim.Native.Nat.{◌≤◌}
use native.Mathlib.Omega.{arith}
use lib.ListN.{length}
use Rattle.report.specs.Numbers.{ascii}
use Rattle.report.specs.Text.{row_line}
use Rattle.report.proofs.Pieces.{wrote_words}
use Rattle.report.proofs.table.RowsLines.put_line.Goals as goal

pub returns : goal.returns
unfolding row_line ascii
returns c =
    let inside : c.args.at ≤ length c.args.text.now = omega arith in
    wrote_words _ _ _ inside c.put_decimal-at.ensures c.put_decimal-at-2.ensures c.put_decimal.ensures
