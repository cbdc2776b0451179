-- `put_end` meets its contract: the last distance with the fill behind it ends at the sheet's last byte. Assumes nothing.
use mathlib.Core.Path.{◌≡◌, refl}
use Prim.Native.Nat.{ℕ, ◌+◌, ◌-◌, ◌*◌, ◌/◌}
use native.Mathlib.Omega.{arith}
use Rattle.line.specs.declared.Line.{Line}
use Rattle.packed_sheet.specs.declared.Edition.{Edition}
use Rattle.packed_sheet.specs.Layout.{bit_count, byte_count, fill_width}
use Rattle.packed_sheet.proofs.SoFar.{stores_then}
use Rattle.sheet.specs.Pens.{Told, told}
use Rattle.sheet.proofs.Putting.{end_next}
use Rattle.sheet.proofs.writer.put_end.Goals as goal

fill_told : (told : Told) (E : Edition) (line : Line) {bytes bits : ℕ} → told ≡ record { edition = E; line = line } → bytes ≡ byte_count E line.count
    → bits ≡ bit_count E line.count → 8 * bytes - bits ≡ fill_width told.edition told.line.count
fill_told told E line same b c = rw same (omega (arith, b, c))

pub put-last-requires : goal.put-last-requires
put-last-requires c =
    let passed = c.args.passed.now in
    let width = fill_told (told passed.edition passed.line.now) passed.edition passed.line.now refl c.byte_count.ensures c.bit_count.ensures in
    let bits = rw c.from.ensures at (c.join-end.ensures.whole (omega arith) (omega (arith, width))) in
    record { come = c.requires.come.0; next = end_next (told passed.edition passed.line.now) passed.edition passed.line.now refl passed.is_handled passed.in_range c.args.pen c.requires.come.1 width bits }

pub returns : goal.returns
returns c =
    let passed = c.args.passed.now in
    let width = fill_told (told passed.edition passed.line.now) passed.edition passed.line.now refl c.byte_count.ensures c.bit_count.ensures in
    let last = c.put-last in
    let all : last.result.at + last.result.held / 8 ≡ byte_count passed.edition passed.line.now.count = omega (arith, last.ensures.moved, width, c.requires.come.1) in
    rw (← all) (stores_then passed.edition passed.line.now last.ensures.stores c.store_rest.ensures)
