-- `curve_numbers`: the refusal of the curve, or its elements. Assumes nothing.
use borrow.Author.Rules.{rules}
use Rattle.elements.proofs.Replies.{found_elements, refused_elements}
use Rattle.refusals.proofs.FillWays.{refused_fill}
use Rattle.pokyandi.specs.Calls.{element_numbers}
use Rattle.pokyandi.proofs.Replies.{found_reply}
use Rattle.pokyandi.proofs.curves.curve_numbers.Goals as goal

pub returns-in_err-e : goal.returns-in_err-e
returns-in_err-e c =
    let met = refused_fill _ (element_numbers c.args.deflection c.args.radius c.args.spiral) c.args.numbers.now (refused_elements c.args.deflection c.args.radius c.args.spiral c.in_err-e.field-0.0 c.in_err-e.ensures) in
    record { result_value = search rules; numbers_after = met.1 }

pub returns : goal.returns
returns c =
    let met = found_reply c.args.deflection c.args.radius c.args.spiral c.in_ok-e.e c.args.numbers.now (found_elements _ _ _ c.in_ok-e.e c.in_ok-e.ensures) (c.fill_front.ensures.answer, c.fill_front.ensures.memory) in
    record { result_value = met.0; numbers_after = met.1 }
