-- `put_decimal`: the digits and what stands after them. Assumes nothing.
use mathlib.Core.Path.{◌∙◌}
use Prim.Native.Nat.{◌≤◌}
use native.Mathlib.Omega.{arith}
use lib.ListN.{length}
use Rattle.report.proofs.Digits.{decimal_digits}
use Rattle.report.proofs.Pieces.{wrote_both, wrote_as}
use Rattle.report.proofs.numbers.put_decimal.Goals as goal

pub returns : goal.returns
returns c =
    let inside : c.args.at ≤ length c.args.text.now = omega arith in
    let digits = c.decimal-count.ensures in
    wrote_both inside (wrote_as c.put-at.ensures (digits.digits ∙ decimal_digits _ _ digits.len)) c.put.ensures
