-- `put_metres`: whole metres and point, the six decimals, and what stands after them. Assumes nothing.
use Prim.Native.Nat.{◌%◌, ◌≤◌}
use native.Mathlib.Omega.{arith}
use lib.ListN.{length}
use Rattle.report.specs.Numbers.{ascii, metres}
use Rattle.report.proofs.Digits.{six_decimals}
use Rattle.report.proofs.Pieces.{wrote_both, wrote_as}
use Rattle.report.proofs.numbers.put_metres.Goals as goal

pub returns : goal.returns
unfolding metres ascii
returns c =
    let inside : c.args.at ≤ length c.args.text.now = omega arith in
    let made = c.decimal.ensures in
    let decimals = six_decimals (c.args.station % 1000000) _ _ (omega arith) made.len made.digits in
    wrote_both inside (wrote_both inside c.put_decimal-at.ensures (wrote_as c.put-at.ensures decimals)) c.put.ensures
