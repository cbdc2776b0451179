-- `put_lines`: each line stands behind the earlier ones. Assumes nothing.
use mathlib.Core.Path.{sym, ap}
use Prim.Native.Nat.{◌≤◌}
use native.Mathlib.Numerals.{add-one}
use native.Mathlib.Omega.{arith}
use lib.ListN.{length}
use Rattle.report.specs.Text.{lines_of}
use Rattle.report.proofs.Lengths.{lines_before}
use Rattle.report.proofs.Pieces.{wrote_both, wrote_as}
use Rattle.report.proofs.lines.put_lines.Goals as goal

pub put_line-at-requires-clause-line_in_bounds : goal.put_line-at-requires-clause-line_in_bounds
put_line-at-requires-clause-line_in_bounds g c =
    let lines = c.args.lines.now in
    let before = lines_before (g.L.Lines.line lines) c.loop-i.i (g.L.Lines.count lines) (omega arith) in
    omega arith

pub loop-i-preserved : goal.loop-i-preserved
unfolding lines_of
loop-i-preserved g c =
    let inside : c.args.start ≤ length c.args.text.now = omega arith in
    let more = ap (lines_of (g.L.Lines.line c.args.lines.now)) (sym (add-one c.loop-i.i)) in
    wrote_as (wrote_both inside c.loop-i.invariant c.put_line-at.ensures) more
