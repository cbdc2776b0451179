-- `check_stations`: the first station beyond its range is refused. Assumes nothing.
use Prim.Native.Nat.{suc, ◌<◌}
use native.Mathlib.Numerals.{add-one}
use native.Mathlib.Omega.{arith}
use borrow.Author.Rules.{rules}
use lib.Seq.{get_or-take}
use Rattle.profile.specs.Vertices.{station_of}
use Rattle.profile.specs.Checks.{station_check}
use Rattle.heights.proofs.Passes.{none, passes, fails}
use Rattle.heights.proofs.checks.check_stations.Goals as goal

pub returns-in_err-check_station : goal.returns-in_err-check_station
unfolding station_check station_of
returns-in_err-check_station c =
    let p = c.args.profile.now in
    let e = fails (station_check p) 0 (suc p.count) (omega arith) (none (station_check p)) c.in_err-check_station.ensures in
    search rules

pub loop-vertex-init : goal.loop-vertex-init
unfolding station_check station_of
loop-vertex-init c =
    let p = c.args.profile.now in
    passes (station_check p) 0 (none (station_check p)) c.in_ok-check_station.ensures

pub returns-in_err-check_station-2 : goal.returns-in_err-check_station-2
unfolding station_check station_of
returns-in_err-check_station-2 c =
    let p = c.args.profile.now in
    let i = c.loop-vertex.vertex-index in
    let more : i < p.count = omega arith in
    let here = rw get_or-take at c.in_err-check_station-2.ensures in
    let e = fails (station_check p) (suc i) (suc p.count) (omega arith) c.loop-vertex.invariant here in
    search rules

pub loop-vertex-preserved : goal.loop-vertex-preserved
unfolding station_check station_of
loop-vertex-preserved c =
    let p = c.args.profile.now in
    let i = c.loop-vertex.vertex-index in
    let more : i < p.count = omega arith in
    let here = rw get_or-take at c.in_ok-check_station-2.ensures in
    rw add-one (passes (station_check p) (suc i) c.loop-vertex.invariant here)
