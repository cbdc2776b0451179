-- `pokyandi_convert`: what it counts is converted back to the sheet. Assumes nothing.
use Rattle.pokyandi.proofs.ConvertedBack.{counted_back}
use Rattle.pokyandi.proofs.pokyandi_convert.Goals as goal

pub returns-clause-back : goal.returns-clause-back
returns-clause-back c =
    let told = c.convert.ensures in
    counted_back _ _ _ _ _ _ told.answer c.answer_number.ensures told.back
