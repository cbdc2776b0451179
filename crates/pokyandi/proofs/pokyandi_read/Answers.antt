-- `pokyandi_read`: what it counts spells the sheet. Assumes nothing.
use mathlib.Core.Path.{◌∙◌, ap}
use Rattle.pokyandi.specs.Answers.{answer_number}
use Rattle.pokyandi.proofs.ReadAndWrite.{counted_again}
use Rattle.pokyandi.proofs.pokyandi_read.Goals as goal

pub returns-clause-again : goal.returns-clause-again
returns-clause-again c =
    let told = c.sheet_numbers.ensures in
    counted_again _ _ _ _ (c.answer_number.ensures ∙ ap answer_number told.result_value) told.numbers_after told.sheet_value
