-- `carried_height`: the height stays within what is carried. Assumes nothing.
use mathlib.Core.Path.{refl}
use native.Mathlib.Omega.{arith}
use lib.IntN.{pos, ◌+ℤ◌, ◌*ℤ◌}
use Prim.Native.Nat.{◌-◌}
use Rattle.signed.proofs.Sizes.{small_fits, held}
use Rattle.heights.proofs.Carried.{carried, carried_is}
use Rattle.heights.proofs.straight.Straight.carried_height.Goals as goal

pub overflow_add-result : goal.overflow_add-result
overflow_add-result c =
    let s = c.args.self in
    let most = carried s.height s.grade s.station c.args.station s.high s.flat c.requires.from c.requires.known in
    rw (carried_is s.height s.grade s.station c.args.station s.high s.flat c.requires.from c.requires.known) (small_fits _ (omega arith))

pub returns : goal.returns
returns c =
    let s = c.args.self in
    let most = carried s.height s.grade s.station c.args.station s.high s.flat c.requires.from c.requires.known in
    let is = held (s.height +ℤ s.grade *ℤ pos (c.args.station - s.station)) (omega arith) in
    rw (carried_is s.height s.grade s.station c.args.station s.high s.flat c.requires.from c.requires.known, is) (record { height = refl; high = most })
