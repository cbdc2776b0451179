-- `peg_numbers`: a peg that is answered is the rule's, and small. Assumes nothing.
use mathlib.Core.Path.{refl, sym, ◌∙◌, ap}
use Rattle.numbers.proofs.Ranges.{at_most}
use Rattle.refusals.specs.Order.{unchecked}
use Rattle.refusals.proofs.FillWays.{refill}
use Rattle.pegs.specs.Pegs.{peg_checks}
use Rattle.pegs.specs.Numbers.{peg_numbers, station_numbers}
use Rattle.pegs.proofs.PegsOfALine.{found_peg}
use Rattle.pegs.proofs.stored.peg_numbers.Goals as goal

pub numbers_of-requires : goal.numbers_of-requires
numbers_of-requires c =
    let small = (found_peg c.args.line c.args.station _ c.in_ok-peg.ensures.answer).small in
    (at_most refl small.length, at_most refl small.x, small.y)

pub returns : goal.returns
unfolding station_numbers
returns c =
    let line = c.args.line in
    let station = c.args.station in
    let found = found_peg line station _ c.in_ok-peg.ensures.answer in
    let stored = c.fill_front.ensures in
    let given = refill unchecked (peg_checks line station) c.numbers_of.result (station_numbers line station) c.args.numbers.now (sym found.accepted) (c.numbers_of.ensures ∙ ap peg_numbers found.same) (stored.answer, stored.memory) in
    record { answer = given.0; memory = given.1 }
