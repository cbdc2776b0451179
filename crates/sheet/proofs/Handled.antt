-- The code is proved for both editions. Assumes nothing.
use mathlib.Core.List.{List}
use Prim.Native.Nat.{ℕ}
use native.Mathlib.Omega.{arith}
use Rattle.packed_sheet.specs.Layout.{numbered}
use Rattle.packed_sheet.specs.Reading.{edition_of}
use Rattle.packed_sheet.proofs.Editions.{of_both, numbered_holds}
use Rattle.sheet.specs.Handled.{Handled}

pub numbered_handled : (number : ℕ) → Handled (numbered number)
unfolding numbered
numbered_handled =
    of_both Handled
    (record { holds = numbered_holds 1; wide = omega arith; narrow = omega arith })
    (record { holds = numbered_holds 2; wide = omega arith; narrow = omega arith })

pub edition_handled : (sheet : List ℕ) → Handled (edition_of sheet)
unfolding edition_of
edition_handled sheet = numbered_handled _
