-- `word_at` meets its contract. Assumes nothing.
use mathlib.Core.Path.{refl}
use native.Mathlib.Omega.{arith}
use Rattle.bits.proofs.Bytes.{four_more}
use Rattle.sheet.proofs.fields.word_at.Goals as goal

pub returns : goal.returns
returns c =
    let more = four_more c.args.sheet.now c.args.first _ _ _ _ c.requires refl refl refl refl in
    omega (arith, more, c.from_be_bytes.ensures)
