-- Stations of a profile in range ascend, and heights at vertices stay within 34 km. Assumes nothing.
use mathlib.Core.Path.{◌≡◌}
use Prim.Native.Nat.{ℕ, zero, suc, ◌+◌, ◌-◌, ◌*◌, ◌/◌, ◌≤◌, ◌<◌}
use native.Mathlib.Nat.{mul-le-mul_right}
use native.Mathlib.Omega.{arith}
use lib.IntN.{pos, nat_abs, ◌*ℤ◌}
use Rattle.numbers.proofs.Differences.{minus_le}
use Rattle.signed.proofs.Sizes.{size_sum, size_product}
use Rattle.profile.specs.declared.Profile.{Profile}
use Rattle.profile.specs.Vertices.{station_of, grade_of, length_of, begin_of, end_of, run_to, height_of}
use Rattle.profile.specs.Checked.{ProfileInRange}

-- A station at a vertex or behind it is a natural number of mm away.
pub run_forward : (p : Profile) (k station : ℕ) → station_of p k ≤ station → run_to p k station ≡ pos (station - station_of p k)
unfolding run_to
run_forward p k station h = minus_le h

module _ (p : Profile) (ok : ProfileInRange p) where
  -- The curves lie one behind the other, each around its vertex.
  pub curve_place : (i : ℕ) → i < p.count
      → (end_of p i ≤ begin_of p (suc i)) × (begin_of p (suc i) + length_of p (suc i) / 2 ≡ station_of p (suc i)) × (station_of p i ≤ end_of p i)
  unfolding begin_of end_of
  curve_place i h =
      let a : station_of p i + length_of p i / 2 + length_of p (suc i) / 2 ≤ station_of p (suc i) = ok.after i h in
      (omega arith, omega arith, omega arith)

  pub rises : (i : ℕ) → i < p.count → station_of p i ≤ station_of p (suc i)
  rises i h = let c = curve_place i h in omega (arith, c.0, c.1, c.2)

  height_most : (k : ℕ) → k ≤ p.count → nat_abs (height_of p k) ≤ 10000000000000 + 120000 * station_of p k
  unfolding height_of
  height_most zero l = omega (arith, size_product p.height (pos 1000000), ok.high)
  height_most (suc k) l =
      let d = station_of p (suc k) - station_of p k in
      let g = grade_of p k in
      rw (run_forward p k (station_of p (suc k)) (rises k l))
      (omega (
        arith,
        height_most k (omega arith),
        rises k l,
        size_sum (height_of p k) (g *ℤ pos d),
        size_product g (pos d),
        mul-le-mul_right d (ok.flat k (omega arith)),
      ))

  -- So within what the code carries.
  pub height_carried : (k : ℕ) → k ≤ p.count → nat_abs (height_of p k) ≤ 34000000000000
  height_carried k l = omega (arith, height_most k l, ok.near k l)
