-- `put` meets its contract: the field waits, or fills a word that is stored. Assumes nothing.
use mathlib.Core.Path.{◌≡◌, refl, ◌∙◌, ap}
use Prim.Native.Nat.{ℕ, ◌+◌, ◌-◌, ◌*◌}
use native.Mathlib.Omega.{arith}
use Rattle.bits.specs.Bits.{bits_at}
use Rattle.sheet.specs.Pens.{told, sheet, position}
use Rattle.sheet.proofs.Pens.{field_lt, joined_next, first_bits, last_bits, more_wait, part_stored}
use Rattle.sheet.proofs.pen.put.Goals as goal

pub join-requires : goal.join-requires
join-requires c =
    let a = c.args in
    (c.requires.next.narrow, field_lt (sheet (told c.args.edition c.args.line.now)) (position a.pen) a.width a.value c.requires.next.within c.requires.next.bits)

pub returns-then-held-lt64 : goal.returns-then-held-lt64
returns-then-held-lt64 c =
    let a = c.args in
    let p = a.pen in
    let joined = c.join.ensures.last p.held (omega arith) in
    let next = joined_next (sheet (told c.args.edition c.args.line.now)) (position p) a.width a.value c.requires.next.within c.requires.next.bits p.at p.pending p.held c.join.result (omega arith) c.requires.come.waits.next joined in
    more_wait (told c.args.edition c.args.line.now) a.bytes.now p _ a.width c.requires.come refl refl (omega arith) c.requires.next.within next

pub join-word-requires : goal.join-word-requires
join-word-requires c =
    let a = c.args in
    let s = sheet (told c.args.edition c.args.line.now) in
    let left : ℕ = a.pen.held + a.width - 64 in
    (omega arith, field_lt s (position a.pen) (a.width - left) _ (omega arith) (first_bits s (position a.pen) a.width a.value c.requires.next.within c.requires.next.bits left (omega arith)))

pub store_bytes-requires : goal.store_bytes-requires
store_bytes-requires c =
    let a = c.args in
    let p = a.pen in
    let s = sheet (told c.args.edition c.args.line.now) in
    let left : ℕ = p.held + a.width - 64 in
    let full : p.held + (a.width - left) ≡ 64 = omega arith in
    let first = first_bits s (position p) a.width a.value c.requires.next.within c.requires.next.bits left (omega arith) in
    let word = joined_next s (position p) (a.width - left) _ (omega arith) first p.at p.pending p.held c.join-word.result (omega arith) c.requires.come.waits.next (c.join-word.ensures.last p.held (omega arith)) in
    record { begun = c.requires.come.begun; next = (omega arith, omega arith, rw full at word) }

pub returns : goal.returns
returns c =
    let a = c.args in
    let p = a.pen in
    let s = sheet (told c.args.edition c.args.line.now) in
    let left : ℕ = p.held + a.width - 64 in
    let behind : position p + (a.width - left) ≡ 8 * (p.at + 8) = omega arith in
    let next = last_bits s (position p) a.width a.value c.requires.next.within c.requires.next.bits left (omega arith) ∙ ap (λ (n : ℕ). bits_at s n left) behind in
    part_stored (told c.args.edition c.args.line.now) a.bytes.now _ p _ a.width c.requires.come c.store_bytes.ensures c.store_bytes.auto.bytes (omega arith) c.requires.next.within (omega arith) next
