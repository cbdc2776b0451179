-- `check_range`: what passes is in range. Assumes nothing.
use mathlib.Core.Path.{sym}
use Prim.Native.Nat.{suc}
use native.Mathlib.Omega.{arith}
use borrow.Author.Rules.{rules}
use borrow.Author.Tests.{leb-true}
use Rattle.refusals.specs.Order.{in_turn}
use Rattle.refusals.proofs.InOrder.{all_hold}
use Rattle.profile.specs.Vertices.{station_of}
use Rattle.profile.specs.Checks.{greatest_station, station_check, height_check, range_checks}
use Rattle.profile.proofs.InRange.{profile_in_range}
use Rattle.heights.proofs.checks.check_range.Goals as goal

pub check_lengths-requires-clause-near : goal.check_lengths-requires-clause-near
unfolding station_check
check_lengths-requires-clause-near c = λ k l.
    let p = c.args.profile.now in
    leb-true (station_of p k) greatest_station (all_hold (in_turn (station_check p) (suc p.count)) (sym c.in_ok-check_stations.ensures) k (omega arith))

pub invariant_of-result : goal.invariant_of-result
unfolding range_checks height_check
invariant_of-result c = record { in_range = profile_in_range c.args.profile.now (search rules) }
