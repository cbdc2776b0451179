-- `root`: the guess is at least the root, so where its square is not above n it is the root; it has 32 bits, so that its square fits, and
-- falls. Assumes nothing.
use Prim.Native.Nat.{ℕ, ◌+◌, ◌*◌, ◌<◌}
use Rattle.arithmetic.proofs.square_root.root.Given as goal

-- n is below the square of one more than the guess, which has 32 bits.
abbrev pub Near : ℕ → ℕ → Type 0
Near n r = (n < (r + 1) * (r + 1)) × (r < 4294967296)

abbrev pub invariant-loop-r : goal.invariant-loop-r
invariant-loop-r l = Near l.n l.r

abbrev pub decreases-loop-r : goal.decreases-loop-r
decreases-loop-r l = l.r
