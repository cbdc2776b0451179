-- `fill_lines`: heading and lines after one another are the text. Assumes nothing.
use mathlib.Core.Path.{refl, sym}
use mathlib.Core.List.{◌++◌}
use Prim.Native.Nat.{◌≤◌}
use native.Mathlib.Omega.{arith}
use borrow.Author.Tests.{leb-true, leb-false}
use lib.ListN.{length, length-append}
use Rattle.refusals.specs.Order.{unchecked}
use Rattle.refusals.proofs.FillWays.{small_fill}
use Rattle.report.specs.Text.{lines_of}
use Rattle.report.proofs.Pieces.{wrote_both}
use Rattle.report.proofs.WaysOut.{text_whole}
use Rattle.report.proofs.lines.fill_lines.Goals as goal

pub returns-then-not-lines_fit : goal.returns-then-not-lines_fit
returns-then-not-lines_fit g c =
    let heading = c.args.heading.now in
    let lines = lines_of (g.L.Lines.line c.args.lines.now) (g.L.Lines.count c.args.lines.now) in
    let more = leb-false _ _ (sym c.if-not-lines_fit.ensures) in
    let met = small_fill unchecked (heading ++ lines) c.args.text.now refl refl (omega (arith, length-append heading lines, more)) in
    record { answer = met.0; memory = met.1 }

pub returns : goal.returns
returns g c =
    let text = c.args.text.now in
    let heading = c.args.heading.now in
    let lines = lines_of (g.L.Lines.line c.args.lines.now) (g.L.Lines.count c.args.lines.now) in
    let room = leb-true _ _ (sym c.if-not-lines_fit.ensures) in
    let inside : 0 ≤ length text = omega arith in
    let met = text_whole (heading ++ lines) text (omega (arith, length-append heading lines, room)) (wrote_both inside c.put-at.ensures c.put_lines.ensures) in
    record { answer = met.0; memory = met.1 }
