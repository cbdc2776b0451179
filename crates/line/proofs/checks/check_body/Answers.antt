-- `check_body`: a refusal ends the loop, whatever comes after it. Assumes nothing.
use Prim.Native.Nat.{◌+◌}
use native.Mathlib.Omega.{arith}
use borrow.Author.Rules.{rules}
use Rattle.line.specs.Checks.{body_checks}
use Rattle.line.proofs.Walk.{body_step, body_refused}
use Rattle.line.proofs.checks.check_body.Goals as goal

pub returns-in_err-check_distance : goal.returns-in_err-check_distance
unfolding body_checks
returns-in_err-check_distance c =
    let first = body_refused c.args.line 0 c.args.line.count (omega arith) c.in_err-check_distance.ensures in
    search rules

pub returns-in_err-check_entry : goal.returns-in_err-check_entry
unfolding body_checks
returns-in_err-check_entry c =
    let loop = c.loop-i in
    let entry = body_step c.args.line loop.i loop.invariant c.in_err-check_entry.ensures in
    let whole = body_refused c.args.line (loop.i + 1) c.args.line.count (omega arith) entry in
    search rules
