-- `write_sheet`: after i turns the pen has come to entry i, and what is stored of the sheet was stored byte by byte. Assumes nothing.
use mathlib.Core.Path.{◌≡◌}
use Rattle.packed_sheet.specs.Layout.{entry_at}
use Rattle.packed_sheet.specs.EachStore.{Stores}
use Rattle.sheet.specs.Pens.{told, position, Come}
use Rattle.sheet.proofs.writer.write_sheet.Given as goal

abbrev pub invariant-loop-i : goal.invariant-loop-i
invariant-loop-i l = record {
  at : position l.pen ≡ entry_at l.passed.edition l.i;
  come : Come (told l.passed.edition l.passed.line.now) l.bytes l.pen;
  stores : Stores l.passed.edition l.passed.line.now 0 l.initial.bytes l.pen.at l.bytes;
}
