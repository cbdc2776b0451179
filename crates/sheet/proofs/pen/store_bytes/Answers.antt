-- `store_bytes`: before the first turn nothing more is stored. Assumes nothing.
use native.Mathlib.Nat.{add-zero}
use Rattle.packed_sheet.specs.EachStore.{none}
use Rattle.sheet.proofs.pen.store_bytes.Goals as goal

pub loop-i-init : goal.loop-i-init
loop-i-init c = record { begun = rw add-zero c.requires.begun; stores = rw add-zero none }
