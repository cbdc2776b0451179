-- What document 02's lines from coordinates (N2) take of whole numbers: the largest that passes a test, and the root.
use Rattle.std.specs.Prelude.{Bool, cond, ℕ, zero, suc, ◌*◌, leb}

-- "the largest whole number .., 0 to .., for which" a test holds: the first that passes, counting down from `most`, and 0 at the last
unfoldable pub largest : (ℕ → Bool) → ℕ → ℕ
largest test zero = zero
largest test (suc most) = cond (test (suc most)) (suc most) (largest test most)

-- "the root of .., rounded down": the largest number whose square is n or less
unfoldable pub root_of : ℕ → ℕ
root_of n = largest (λ r. leb (r * r) n) n
