-- `write_sheet` meets its contract: what it puts is the sheet's next. Assumes nothing.
use mathlib.Core.Path.{refl}
use native.Mathlib.Omega.{arith}
use Rattle.packed_sheet.specs.EachStore.{none}
use Rattle.packed_sheet.proofs.SoFar.{stores_then}
use Rattle.packed_sheet.proofs.EachStore.{each_store}
use Rattle.sheet.specs.Pens.{told}
use Rattle.sheet.proofs.Putting.{head_waits, turn_next, size_next}
use Rattle.sheet.proofs.writer.write_sheet.Goals as goal

pub loop-i-init : goal.loop-i-init
loop-i-init c =
    let passed = c.args.passed.now in
    record {
      at = omega arith;
      come = head_waits (told passed.edition passed.line.now) passed.edition passed.line.now refl passed.is_handled passed.in_range c.args.bytes.now c.requires.room c.head_bits.ensures;
      stores = none;
    }

pub put-turned-requires : goal.put-turned-requires
put-turned-requires c =
    let passed = c.args.passed.now in
    let loop = c.loop-i in
    record { come = loop.invariant.come; next = turn_next (told passed.edition passed.line.now) passed.edition passed.line.now refl passed.is_handled passed.in_range loop.i loop.pen c.loop-i-test.true loop.invariant.at c.turn_bits-turn.ensures }

pub put-pen-requires : goal.put-pen-requires
put-pen-requires c =
    let passed = c.args.passed.now in
    let loop = c.loop-i in
    let turned = c.put-turned in
    record { come = turned.ensures.come; next = size_next (told passed.edition passed.line.now) passed.edition passed.line.now refl passed.is_handled passed.in_range loop.i turned.result c.loop-i-test.true (omega (arith, turned.ensures.moved, loop.invariant.at)) c.size_bits.ensures }

pub returns-clause-each : goal.returns-clause-each
returns-clause-each c =
    each_store c.args.passed.now.edition c.args.passed.now.line.now c.args.bytes.now (stores_then c.args.passed.now.edition c.args.passed.now.line.now c.loop-i.invariant.stores c.put_end.ensures)
