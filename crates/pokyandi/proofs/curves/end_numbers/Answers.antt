-- `end_numbers`: the refusal of the look-up, or its end. Assumes nothing.
use borrow.Author.Rules.{rules}
use Rattle.pokyandi.proofs.Replies.{found_end, refused_end}
use Rattle.pokyandi.proofs.curves.end_numbers.Goals as goal

pub returns-in_err-end : goal.returns-in_err-end
returns-in_err-end c =
    let met = refused_end c.args.thousandth c.args.length c.args.offsets.now c.in_err-end.ensures in
    record { result_value = search rules; offsets_after = met.1 }

pub returns : goal.returns
returns c =
    let met = found_end c.args.thousandth c.args.length c.in_ok-end.«end» c.args.offsets.now c.in_ok-end.ensures (c.fill_front.ensures.answer, c.fill_front.ensures.memory) in
    record { result_value = met.0; offsets_after = met.1 }
