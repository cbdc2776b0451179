-- `store_line`: the numbers of the head and the first i entries stand in front, with the rest as it was. Assumes nothing.
use mathlib.Core.Path.{◌≡◌}
use mathlib.Core.List.{◌++◌}
use lib.ListN.{drop}
use Rattle.line_numbers.specs.Numbers.{number_count, numbers_to}
use Rattle.line_numbers.proofs.writer.store_line.Given as goal

abbrev pub invariant-loop-i : goal.invariant-loop-i
invariant-loop-i l = l.numbers ≡ numbers_to l.line l.i ++ drop (number_count l.i) l.fn.numbers
