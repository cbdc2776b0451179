-- `rise`: the product fits, and its quotient. Assumes nothing.
use mathlib.Core.Path.{ap}
use Prim.Native.Nat.{◌*◌, ◌^◌, ◌<◌}
use native.Mathlib.Omega.{arith}
use lib.IntN.{pos, nat_abs, ◌-ℤ◌, ◌*ℤ◌}
use mir.Syntax.{w64}
use mir.Val.{hbits}
use Rattle.std.proofs.lemmas.Int.{to_z_pos}
use Rattle.signed.proofs.Sizes.{small_fits, held, kept, size_down}
use Rattle.signed.proofs.Quotients.{euclid_is}
use Rattle.heights.proofs.Carried.{bow_most, bow_is}
use Rattle.heights.proofs.curve.Curve.rise.Goals as goal

pub overflow_mul-self : goal.overflow_mul-self
overflow_mul-self c =
    let s = c.args.self in
    let most = bow_most s.outgoing s.incoming.grade c.args.x s.flat s.incoming.flat (omega arith) in
    rw (bow_is s.outgoing s.incoming.grade c.args.x s.flat s.incoming.flat (omega arith)) (small_fits _ (omega arith))

pub returns : goal.returns
returns c =
    let s = c.args.self in
    let x = c.args.x in
    let bow = (s.outgoing -ℤ s.incoming.grade) *ℤ pos (x * x) in
    let most = bow_most s.outgoing s.incoming.grade x s.flat s.incoming.flat (omega arith) in
    let length : s.length < 2 ^ hbits w64 = omega arith in
    let quotient = rw (bow_is s.outgoing s.incoming.grade x s.flat s.incoming.flat (omega arith)) at c.div_euclid.ensures in
    let value = rw (held bow (omega arith), to_z_pos w64 s.length length, held (pos (2 * s.length)) (omega arith), euclid_is) at quotient in
    rw (kept c.div_euclid.type_inv)
    (record { value = value; bound = omega (arith, ap nat_abs value, size_down bow (2 * s.length)) })
