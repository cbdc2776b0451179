-- `store_part` meets its contract: what waits is parted, and the first part stored. Assumes nothing.
use mathlib.Core.Path.{◌≡◌, refl, ◌∙◌, ap}
use Prim.Native.Nat.{ℕ, ◌+◌, ◌-◌, ◌*◌, ◌/◌}
use native.Mathlib.Omega.{arith}
use Rattle.bits.specs.Bits.{bits_at}
use Rattle.sheet.specs.Pens.{told, sheet}
use Rattle.sheet.proofs.Pens.{waits_parted, more_wait, part_stored}
use Rattle.sheet.proofs.pen.store_part.Goals as goal

pub returns-then-pen-size : goal.returns-then-pen-size
returns-then-pen-size c =
    let p = c.args.pen in
    let come = c.requires.come in
    (more_wait (told c.args.edition c.args.line.now) c.args.bytes.now p p 0 come refl (omega arith) come.waits.few (omega (arith, come.within)) come.waits.next, c.if-pen-size.true)

pub store_bytes-requires : goal.store_bytes-requires
store_bytes-requires c =
    let a = c.args in
    let p = a.pen in
    let come = c.requires.come in
    let parts = waits_parted (sheet (told c.args.edition c.args.line.now)) p.at p.pending p.held a.size (omega arith) come.within come.waits.next in
    record { begun = come.begun; next = (c.requires.size_bound.0, omega (arith, come.within), parts.0) }

pub returns : goal.returns
returns c =
    let a = c.args in
    let p = a.pen in
    let s = sheet (told c.args.edition c.args.line.now) in
    let come = c.requires.come in
    let parts = waits_parted s p.at p.pending p.held a.size (omega arith) come.within come.waits.next in
    let behind : 8 * p.at + a.size ≡ 8 * (p.at + a.size / 8) = omega (arith, c.requires.size_bound.1) in
    let next = parts.1 ∙ ap (λ (n : ℕ). bits_at s n (p.held - a.size)) behind in
    (part_stored (told c.args.edition c.args.line.now) a.bytes.now _ p _ 0 come c.store_bytes.ensures c.store_bytes.auto.bytes (omega (arith, behind)) (omega (arith, come.within)) (omega (arith, come.waits.few)) next, omega (arith, c.requires.size_bound.2))
