-- `join`: the field fits into the bits that the shift leaves free. Assumes nothing.
use Rattle.sheet.proofs.Pens.{joined_lt}
use Rattle.sheet.proofs.pen.join.Goals as goal

pub overflow_add-result : goal.overflow_add-result
overflow_add-result c = record { fits = joined_lt c.args.before c.args.width c.args.value c.requires.0 c.requires.1 }
