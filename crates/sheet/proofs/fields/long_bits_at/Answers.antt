-- `long_bits_at` meets its contract. Assumes nothing.
use mathlib.Core.Path.{◌≡◌, ◌∙◌, ap}
use Prim.Native.Nat.{ℕ, ◌+◌, ◌-◌, ◌*◌, ◌<◌}
use native.Mathlib.Nat.{lt_of_lt_of_le}
use native.Mathlib.Omega.{arith}
use lib.Pow.{pow_mono}
use Rattle.bits.specs.Bits.{bits_at}
use Rattle.bits.proofs.Fields.{bits_lt}
use Rattle.bits.proofs.Words.{two_parts}
use Rattle.sheet.proofs.fields.long_bits_at.Goals.{After-bits_at-low}
use Rattle.sheet.proofs.fields.long_bits_at.Goals as goal

module _ (c : After-bits_at-low) where
  high : c.bits_at-high.result < 128
  high = rw c.bits_at-high.ensures (lt_of_lt_of_le (bits_lt _ _ _) (pow_mono {j = 7} (omega arith)))

  low : c.bits_at-low.result < 33554432
  low = rw c.bits_at-low.ensures (bits_lt _ _ 25)

pub overflow_mul-result : goal.overflow_mul-result
overflow_mul-result c = omega (arith, high c)

pub overflow_add-result : goal.overflow_add-result
overflow_add-result c = omega (arith, high c, low c)

pub returns : goal.returns
returns c =
    let a = c.args in
    let s = a.sheet.now in
    let w : a.width - 25 + 25 ≡ a.width = omega arith in
    let at : a.from + a.width - 25 ≡ a.from + (a.width - 25) = omega arith in
    let parts = two_parts s a.from (a.width - 25) 25 (omega arith) in
    (λ j. c.bits_at-high.ensures j * 33554432 + c.bits_at-low.ensures j)
    ∙ ap (λ (n : ℕ). bits_at s a.from (a.width - 25) * 33554432 + bits_at s n 25) at
    ∙ parts
    ∙ ap (bits_at s a.from) w
