-- `root`: the guess is at least the root, so where its square is not above n it is the root; it has 32 bits, so that its square fits, and
-- falls. Assumes nothing.
use mathlib.Core.Path.{◌≡◌, refl, sym, subst, ◌∙◌}
use Prim.Native.Nat.{ℕ, ◌+◌, ◌-◌, ◌*◌, ◌/◌, ◌%◌, ◌^◌, ◌≤◌, ◌<◌}
use native.Mathlib.Nat.{lt_of_lt_of_le, one-mul}
use native.Mathlib.Omega.{arith}
use lib.Dec.{lit<}
use lib.Pow.{pow_pos, pow_mono, shr_lt, shl_exact}
use lib.Count.{count_leading_zeros, leading_length}
use Rattle.arithmetic.proofs.Largest.{root_is}
use Rattle.arithmetic.proofs.Newton.{newton_above, newton_below, sq_pos}
use Rattle.arithmetic.proofs.square_root.root.Invariants.{Near}
use Rattle.arithmetic.proofs.square_root.root.Goals as goal

-- half of n's length in bits, from the count of its leading zeros
abbrev half : ℕ → ℕ
half z = (64 - z) / 2

half_most : (n : ℕ) → half (count_leading_zeros 64 n) ≤ 32
half_most n = omega arith

one_shl : (h : ℕ) → h ≤ 32 → 1 * 2 ^ h % 2 ^ 64 ≡ 2 ^ h
one_shl h b = shl_exact {a = 1} 1 h 64 (lit< tt) (omega arith) ∙ one-mul (2 ^ h)

shr_most : (n h : ℕ) → n < 2 ^ 64 → h ≡ half (count_leading_zeros 64 n) → n / 2 ^ h < 4294967296
shr_most n h b e =
    let l = leading_length 64 n b in
    shr_lt 32 h (lt_of_lt_of_le l.2 (pow_mono (omega (arith, l.1))))

first : (n : ℕ) → n < 2 ^ 64 → Near n ((1 * 2 ^ half (count_leading_zeros 64 n) % 2 ^ 64 + n / 2 ^ half (count_leading_zeros 64 n)) / 2)
first n b =
    let h = half (count_leading_zeros 64 n) in
    let p : 2 ^ h ≤ 2 ^ 32 = pow_mono (half_most n) in
    let s = shr_most n h b refl in
    subst (λ (x : ℕ). Near n ((x + n / 2 ^ h) / 2)) (sym (one_shl h (half_most n)))
    (newton_above n (2 ^ h) (pow_pos h), omega arith)

sum_most : (n : ℕ) → n < 2 ^ 64 → 1 * 2 ^ half (count_leading_zeros 64 n) % 2 ^ 64 + n / 2 ^ half (count_leading_zeros 64 n) ≤ 8589934592
sum_most n b =
    let h = half (count_leading_zeros 64 n) in
    let p : 2 ^ h ≤ 2 ^ 32 = pow_mono (half_most n) in
    let s = shr_most n h b refl in
    omega (arith, one_shl h (half_most n))

pub overflow_add-r : goal.overflow_add-r
overflow_add-r c = omega (arith, sum_most c.args.n c.ranges.n.fits)

pub loop-r-init : goal.loop-r-init
loop-r-init c = first c.args.n c.ranges.n.fits

pub loop-r-preserved : goal.loop-r-preserved
loop-r-preserved c =
    let n = c.args.n in
    let r = c.loop-r.r in
    let above = c.loop-r-test.true in
    (newton_above n r (sq_pos n r above), omega (arith, newton_below n r above))

pub returns : goal.returns
returns c =
    let low = c.loop-r-test.false in
    let high = c.loop-r.invariant.0 in
    (root_is c.args.n c.loop-r.r low high, low, high)
