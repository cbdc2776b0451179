-- `check_fields`: where the head passes, there are 64 curves or fewer. Assumes nothing.
use borrow.Author.Rules.{rules}
use Rattle.line.proofs.InRange.{few_curves}
use Rattle.line.proofs.checks.check_fields.Goals as goal

pub check_body-requires : goal.check_body-requires
check_body-requires c = few_curves c.args.greatest c.args.line.count c.args.line.speed c.args.line.crossfall c.args.line.start (search rules)
