-- `check_counts`: the tests are those of the definition. Assumes nothing.
use borrow.Author.Rules.{rules}
use Rattle.coordinates.proofs.Counts.{counts_tested}
use Rattle.points.proofs.checks.check_counts.Goals as goal

pub returns : goal.returns
returns c = rw (counts_tested c.args.points.now c.args.designs.now) (search rules)
