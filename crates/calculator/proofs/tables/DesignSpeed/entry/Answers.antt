-- `entry`: the place of a design speed in a table. Assumes nothing.
use mathlib.Core.Path.{refl}
use borrow.Author.Rules.{rules}
use Rattle.calculator.proofs.DesignSpeeds.{at_speed}
use Rattle.calculator.proofs.tables.DesignSpeed.entry.Goals as goal

pub returns : goal.returns
returns c =
    let known = c.args.self.tabled in
    (at_speed c.args.table.now _ _ known.0 known.1 known.2 refl, search rules)
