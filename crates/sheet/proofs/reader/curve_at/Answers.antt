-- `curve_at` meets its contract. Assumes nothing.
use mathlib.Core.Path.{◌≡◌, ◌∙◌, ap}
use Prim.Native.Nat.{ℕ, ◌+◌, ◌/◌, ◌%◌}
use native.Mathlib.Omega.{arith}
use lib.Dec.{eqb}
use Rattle.bits.specs.Bits.{bits_at, values_at}
use Rattle.bits.proofs.Words.{first_part, second_part}
use Rattle.sheet.proofs.reader.curve_at.Goals as goal

pub returns : goal.returns
unfolding values_at
returns c =
    let s = c.args.sheet.now in
    let at = c.args.at in
    let turn = c.bits_at-turn.ensures in
    let side : c.bits_at-turn.result / 524288 ≡ bits_at s at 1 = ap (λ (n : ℕ). n / 524288) turn ∙ first_part s at 1 19 (omega arith) in
    let deflection : c.bits_at-turn.result % 524288 ≡ bits_at s (at + 1) 19 =
    ap (λ (n : ℕ). n % 524288) turn ∙ second_part s at 1 19 (omega arith) in
    λ j. record {
      left = eqb (side j) 1;
      deflection = deflection j;
      radius = c.bits_at.ensures j;
      spiral = c.bits_at-2.ensures j;
    }
