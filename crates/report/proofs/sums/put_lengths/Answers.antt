-- `put_lengths`: the four lines after one another are the text. Assumes nothing.
use Prim.Native.Nat.{◌≤◌}
use native.Mathlib.Omega.{arith}
use lib.ListN.{length}
use Rattle.report.specs.Numbers.{ascii}
use Rattle.report.specs.Text.{length_list}
use Rattle.report.proofs.Pieces.{wrote_both}
use Rattle.report.proofs.sums.put_lengths.Goals as goal

pub returns-clause-lines : goal.returns-clause-lines
unfolding length_list ascii
returns-clause-lines c =
    let inside : 0 ≤ length c.args.text.now = omega arith in
    let two = wrote_both inside c.put_named-at.ensures.line c.put_named-at-2.ensures.line in
    let three = wrote_both inside two c.put_named-at-3.ensures.line in
    wrote_both inside three c.put_named.ensures.line
