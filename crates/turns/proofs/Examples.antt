-- What is reached on both sides of a second, and the turns that follow: 0, 1 second, 45° and 60°. Assumes nothing.
use Rattle.std.proofs.Common.{◌≡◌, true, false, pos, sym, refl, arith}
use Rattle.elements.specs.WorkingRule.{full_angle, term, alternating, sine_of, cosine_of}
use Rattle.turns.specs.Turn.{reached, deflection_of, LastReached}
use Rattle.turns.proofs.OneTurn.{last_is_turn, no_cross}

pub record Examples : Type 0 where
  pub one_second : LastReached 4848 (pos 1000000000) 1
  pub below_one_second : LastReached 4847 (pos 1000000000) 0
  pub equal_products : LastReached 1 (pos 1) 162000
  pub sixty_degrees : LastReached 866025404 (pos 500000000) 216000
  pub wide : reached 866027828 (pos 499995800) 216001 ≡ true
  pub not_wide : reached 866027827 (pos 499995800) 216001 ≡ false
  pub square : reached 1 (pos 0) 216001 ≡ true
  pub no_legs : reached 0 (pos 0) 216001 ≡ true

pub examples : Examples
unfolding full_angle term alternating sine_of cosine_of reached
examples =
    record {
      one_second = record { here = refl; not_next = refl };
      below_one_second = record { here = refl; not_next = refl };
      equal_products = record { here = refl; not_next = refl };
      sixty_degrees = record { here = refl; not_next = refl };
      wide = refl;
      not_wide = refl;
      square = refl;
      no_legs = refl;
    }

-- The deflections of those products.
pub record Turns : Type 0 where
  pub none : deflection_of 0 (pos 1) ≡ 0
  pub below_one_second : deflection_of 4847 (pos 1000000000) ≡ 0
  pub one_second : deflection_of 4848 (pos 1000000000) ≡ 1
  pub equal_products : deflection_of 1 (pos 1) ≡ 162000
  pub sixty_degrees : deflection_of 866025404 (pos 500000000) ≡ 216000

pub turns : Turns
turns =
    record {
      none = no_cross 1 (omega arith);
      below_one_second = sym (last_is_turn 4847 1000000000 0 (omega arith) examples.below_one_second);
      one_second = sym (last_is_turn 4848 1000000000 1 (omega arith) examples.one_second);
      equal_products = sym (last_is_turn 1 1 162000 (omega arith) examples.equal_products);
      sixty_degrees = sym (last_is_turn 866025404 500000000 216000 (omega arith) examples.sixty_degrees);
    }
