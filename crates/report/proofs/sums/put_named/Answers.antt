-- `put_named`: name, space and number after one another are the line. Assumes nothing.
use mathlib.Core.Path.{sym}
use mathlib.Core.List.{◌++◌, append_assoc}
use Prim.Native.Nat.{◌≤◌}
use native.Mathlib.Omega.{arith}
use lib.ListN.{length}
use Rattle.report.specs.Numbers.{ascii, decimal}
use Rattle.report.specs.Text.{named_line}
use Rattle.report.proofs.Pieces.{wrote_both, wrote_as}
use Rattle.report.proofs.sums.put_named.Goals as goal

pub returns-clause-line : goal.returns-clause-line
unfolding named_line ascii
returns-clause-line c =
    let inside : c.args.at ≤ length c.args.text.now = omega arith in
    let spaced = wrote_both inside c.put-at.ensures c.put-at-2.ensures in
    wrote_as (wrote_both inside spaced c.put_decimal.ensures) (sym (append_assoc (c.args.name.now ++ ascii " ") (decimal c.args.n) (ascii "\n")))
