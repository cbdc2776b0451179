-- `last_bits` meets its contract. Assumes nothing.
use native.Mathlib.Omega.{arith}
use Rattle.bits.proofs.Words.{last_field, power}
use Rattle.sheet.proofs.fields.last_bits.Goals as goal

pub returns : goal.returns
returns c =
    let a = c.args in
    rw (power 32 {w = c.args.width} (omega arith))
    (last_field a.sheet.now a.width c.from.result (λ i. (c.type_inv.sheet i).fits) (omega arith) (omega arith) c.from.ensures)
