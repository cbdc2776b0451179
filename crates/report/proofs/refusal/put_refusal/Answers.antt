-- `put_refusal`: `REFUSED`, number and place are its three words. Assumes nothing.
use Prim.Native.Nat.{◌≤◌}
use native.Mathlib.Omega.{arith}
use lib.ListN.{length}
use Rattle.report.specs.Numbers.{ascii}
use Rattle.report.specs.Text.{refusal_line}
use Rattle.report.proofs.Pieces.{wrote_words}
use Rattle.report.proofs.refusal.put_refusal.Goals as goal

pub returns-clause-line : goal.returns-clause-line
unfolding refusal_line ascii
returns-clause-line c =
    let inside : 0 ≤ length c.args.text.now = omega arith in
    wrote_words (ascii "REFUSED") _ _ inside c.put-at.ensures c.put_decimal-at.ensures c.put_decimal.ensures
