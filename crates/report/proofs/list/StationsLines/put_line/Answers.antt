-- `put_line` of a row of stations: name, curve and station are its three words. Assumes nothing.
use mathlib.Core.Path.{ap}
use mathlib.Core.List.{◌++◌}
use Prim.Native.Nat.{◌≤◌}
use native.Mathlib.Omega.{arith}
use lib.ListN.{length}
use Rattle.report.specs.Numbers.{ascii, decimal}
use Rattle.report.specs.Text.{point_line}
use Rattle.report.proofs.Pieces.{wrote_both, wrote_as, wrote_words}
use Rattle.report.proofs.list.StationsLines.put_line.Goals as goal

pub returns : goal.returns
unfolding point_line ascii
returns c =
    let inside : c.args.at ≤ length c.args.text.now = omega arith in
    let name = wrote_as (wrote_both inside c.put-at.ensures c.put-at-2.ensures) (ap (λ name. name ++ ascii " ") c.point_name.ensures.name) in
    let curve = wrote_as c.put_decimal-at.ensures (ap (λ n. decimal n ++ ascii " ") c.curve_at.ensures) in
    wrote_words _ _ _ inside name curve c.put_metres.ensures
