-- `store_bytes`: after i turns i bytes more of the sheet are stored. Assumes nothing.
use Prim.Native.Nat.{◌+◌}
use Rattle.packed_sheet.specs.EachStore.{Stores}
use Rattle.sheet.specs.Pens.{Begun}
use Rattle.sheet.proofs.pen.store_bytes.Given as goal

abbrev pub invariant-loop-i : goal.invariant-loop-i
invariant-loop-i l = record {
  begun : Begun l.edition l.line l.bytes (l.at + l.i);
  stores : Stores l.edition l.line l.at l.initial.bytes (l.at + l.i) l.bytes;
}
