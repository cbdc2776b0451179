-- The deflection is the one whole second that is reached while the next is not. From the laws of
-- the largest number that passes a test, and from what is reached being reached at each earlier second. Assumes nothing.
use Rattle.std.proofs.Common.{◌≡◌, ℕ, suc, ◌*◌, ◌≤◌, false, ℤ, pos, sym, refl, ◌∙◌, zero-mul, arith}
use borrow.Author.Tests.{lt-leb}
use Rattle.arithmetic.proofs.Largest.{largest_most, largest_passes, largest_next, largest_is}
use Rattle.elements.specs.WorkingRule.{scale, full_angle, term, alternating, sine_of, cosine_of}
use Rattle.turns.specs.Turn.{reached, deflection_of, LastReached}
use Rattle.turns.proofs.Seconds.{reached_by, not_reached_later, reached_0}

pub turn_most : (cross : ℕ) (dot : ℤ) → deflection_of cross dot ≤ 216000
unfolding deflection_of
turn_most cross dot = largest_most (reached cross dot) 216000

module _ (cross dot : ℕ) where
  -- Where 216,001 is not reached, the deflection is such a second,
  pub turn_is_last : reached cross (pos dot) 216001 ≡ false → LastReached cross (pos dot) (deflection_of cross (pos dot))
  unfolding deflection_of
  turn_is_last none =
      record {
        here = largest_passes (reached cross (pos dot)) 216000 (reached_0 cross dot);
        not_next = largest_next (reached cross (pos dot)) 216000 none;
      }

  -- and there is no other.
  pub last_is_turn : (s : ℕ) → s ≤ 216000 → LastReached cross (pos dot) s → s ≡ deflection_of cross (pos dot)
  unfolding deflection_of
  last_is_turn s h last =
      sym
      (largest_is (reached cross (pos dot)) 216000 s h
      (λ above. last.here)
      (λ k above most. not_reached_later cross dot (suc s) k (omega arith) (omega arith) last.not_next))

-- ---- legs in one direction

module _ (dot : ℕ) (above : 1 ≤ dot) where
  second_not_reached : reached 0 (pos dot) 1 ≡ false
  unfolding full_angle term alternating sine_of cosine_of
  second_not_reached =
      sym (reached_by 0 dot 1 {u = 4848} {v = scale} refl refl) ∙ rw (zero-mul scale) (lt-leb (dot * 4848) 0 (omega arith))

  pub no_cross : deflection_of 0 (pos dot) ≡ 0
  no_cross = sym (last_is_turn 0 dot 0 (omega arith) (record { here = reached_0 0 dot; not_next = second_not_reached }))

  pub no_cross_not_wide : reached 0 (pos dot) 216001 ≡ false
  no_cross_not_wide = not_reached_later 0 dot 1 216001 (omega arith) (omega arith) second_not_reached
