-- `point_numbers`: the refusal of the points, or the numbers of their line. Assumes nothing.
use mathlib.Core.Path.{sym}
use borrow.Author.Rules.{rules}
use Rattle.refusals.proofs.FillWays.{refused_fill}
use Rattle.pokyandi.specs.Calls.{point_numbers}
use Rattle.pokyandi.proofs.Replies.{points_reply}
use Rattle.pokyandi.proofs.lines.point_numbers.Goals as goal

pub returns-in_err-line : goal.returns-in_err-line
returns-in_err-line c =
    let met = refused_fill _ (point_numbers c.args.speed c.args.crossfall c.args.start c.args.points.now c.args.curves.now) c.args.numbers.now (sym c.in_err-line.ensures.answer) in
    record { result_value = search rules; numbers_after = met.1 }

pub returns : goal.returns
returns c =
    let met = points_reply c.args.speed c.args.crossfall c.args.start c.args.points.now c.args.curves.now (sym c.in_ok-line.ensures.answer) c.in_ok-line.ensures.line c.args.numbers.now (c.write.ensures.answer, c.write.ensures.memory) in
    record { result_value = met.0; numbers_after = met.1 }
