-- `bits_at` meets its contract. Assumes nothing.
use native.Mathlib.Omega.{arith}
use Rattle.bits.proofs.Words.{word_field, power}
use Rattle.sheet.proofs.fields.bits_at.Goals as goal

pub returns : goal.returns
returns c =
    let a = c.args in
    rw (power 32 {w = c.args.width} (omega arith))
    (word_field a.sheet.now a.from a.width c.word_at.result (λ i. (c.type_inv.sheet i).fits) (omega arith) (omega arith) c.word_at.ensures)
