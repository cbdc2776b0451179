-- `check_lengths`: the first curve that does not fit is refused. Assumes nothing.
use mathlib.Core.Path.{refl, sym}
use Prim.Native.Nat.{suc, ◌<◌}
use native.Mathlib.Numerals.{add-one}
use native.Mathlib.Omega.{arith}
use borrow.Author.Rules.{rules}
use lib.Seq.{get_or-take}
use Rattle.refusals.proofs.Joining.{need_holds}
use Rattle.profile.specs.Vertices.{blank_vertex, vertex_at, station_of, length_of, end_of}
use Rattle.profile.specs.Checks.{curve_fits, length_check}
use Rattle.profile.proofs.InRange.{curve_fits_lem}
use Rattle.heights.proofs.Passes.{none, passes, fails}
use Rattle.heights.proofs.checks.check_lengths.Goals as goal

pub loop-i-init : goal.loop-i-init
unfolding end_of station_of length_of
loop-i-init c =
    record {
      at_end = omega arith;
      near = omega (arith, c.requires.near 0);
      passed_before = none (length_check c.args.profile.now);
    }

pub returns-in_err-must : goal.returns-in_err-must
unfolding length_check length_of station_of
returns-in_err-must c =
    let p = c.args.profile.now in
    let at = c.loop-i in
    let more : at.i < p.count = omega arith in
    let used = get_or-take p.count p.vertices at.i blank_vertex more in
    let here = simp (c.curve_fits.ensures, at.invariant.at_end, used, add-one) at c.in_err-must.ensures in
    let e = fails (length_check p) at.i p.count more at.invariant.passed_before here in
    search rules

pub overflow_add-end : goal.overflow_add-end
unfolding station_of
overflow_add-end c =
    let p = c.args.profile.now in
    let at = c.loop-i in
    let more : at.i < p.count = omega arith in
    let used = get_or-take p.count p.vertices at.i blank_vertex more in
    let here = simp (c.curve_fits.ensures, used, add-one) at c.in_ok-must.ensures in
    let v = vertex_at p at.i in
    let fits = curve_fits_lem at.end v.station v.length (need_holds (curve_fits at.end v.station v.length) 21 (suc at.i) (sym here)) in
    simp used (record { fits = omega (arith, fits.most, c.requires.near (suc at.i) more) })

pub loop-i-preserved : goal.loop-i-preserved
unfolding length_check end_of length_of station_of
loop-i-preserved c =
    let p = c.args.profile.now in
    let at = c.loop-i in
    let more : at.i < p.count = omega arith in
    let used = get_or-take p.count p.vertices at.i blank_vertex more in
    let here = simp (c.curve_fits.ensures, at.invariant.at_end, used, add-one) at c.in_ok-must.ensures in
    let v = vertex_at p at.i in
    let fits = curve_fits_lem (end_of p at.i) v.station v.length (need_holds (curve_fits (end_of p at.i) v.station v.length) 21 (suc at.i) (sym here)) in
    simp (used, add-one) (record {
      at_end = refl;
      near = omega (arith, fits.most, c.requires.near (suc at.i) more);
      passed_before = passes (length_check p) at.i at.invariant.passed_before here;
    })
