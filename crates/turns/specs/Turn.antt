-- Document 02's deflection at a PI (N2), sentence by sentence: from the size of the cross product of the legs into and out of the PI, and
-- from their dot product.
use Rattle.std.specs.Prelude.{◌≡◌, ℕ, suc, Bool, true, false, cond, ℤ, pos, ◌*ℤ◌, int_le}
use Rattle.arithmetic.specs.Largest.{largest}
use Rattle.elements.specs.WorkingRule.{full_angle, sine_of, cosine_of}

-- "the cross product's size times cosine(s) is at least the dot product times sine(s), both by the working rule of the full angle"
unfoldable pub reached : (cross : ℕ) (dot : ℤ) → ℕ → Bool
reached cross dot s = int_le (dot *ℤ sine_of (full_angle s)) (pos cross *ℤ cosine_of (full_angle s))

-- "The deflection is the largest whole number of seconds s, 0 to 216,000, for which" that holds.
unfoldable pub deflection_of : (cross : ℕ) (dot : ℤ) → ℕ
deflection_of cross dot = largest (reached cross dot) 216000

-- The deflection, or 216,001 for "a turn where 216,001 also holds".
unfoldable pub turn_or_wide : (cross : ℕ) (dot : ℤ) → ℕ
turn_or_wide cross dot = cond (reached cross dot 216001) 216001 (deflection_of cross dot)

-- s is reached, and the next second is not.
pub record LastReached (cross : ℕ) (dot : ℤ) (s : ℕ) : Type 0 where
  pub here : reached cross dot s ≡ true
  pub not_next : reached cross dot (suc s) ≡ false
