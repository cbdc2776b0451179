-- The rule's sine and cosine of an angle against the exact ones of seven terms and more. Assumes nothing.
use mathlib.Core.Path.{◌≡◌, refl}
use Prim.Native.Nat.{ℕ, ◌+◌, ◌*◌, ◌/◌, ◌≤◌}
use native.Mathlib.Omega.{arith}
use lib.Dec.{lit≤}
use Rattle.elements.specs.WorkingRule.{scale, sine_divisor, cosine_divisor, sine_of, cosine_of}
use Rattle.numbers.specs.Fractions.{Fraction, whole, nat, ◌↑◌}
use Rattle.accuracy.specs.ExactElements.{factorial, exact_sine, exact_cosine}
use Rattle.accuracy.proofs.Nearness.{Near, near_nat}
use Rattle.accuracy.proofs.Powers.{over_one, power_one}
use Rattle.accuracy.proofs.Terms.{Bound, Term, reach, next, term_same, term_power}
use Rattle.accuracy.proofs.Series.{Errors, errors}
use Rattle.accuracy.proofs.PowerSeries.{bound_at, exact, near_series}

-- One, at scale 10⁹.
abbrev one : Bound
one = record { most = scale; short = 0; over = 0 }

-- What is known of term j, and the errors of the seven terms, computed from what is known of the angle.
abbrev pub sine_term : Bound → ℕ → Bound
sine_term b = bound_at sine_divisor b (next b b 1)

abbrev pub cosine_term : Bound → ℕ → Bound
cosine_term b = bound_at cosine_divisor one (next b b 1)

abbrev pub sine_errors : Bound → Errors
sine_errors b = errors (sine_term b) 6

abbrev pub cosine_errors : Bound → Errors
cosine_errors b = errors (cosine_term b) 6

equal_products : {a b c d : ℕ} → a ≡ c → b ≡ d → a * b ≡ c * d
equal_products p q = λ i. p i * q i

-- T is room for further exact terms.
module _ {q : ℕ} {v : Fraction} (b : Bound) (angle : Term q v b) (n T : ℕ) (seven : 7 ≤ n) (low : reach (next b b 1) ≤ 1100000000) where
  first : Term q (v ↑ 1) b
  first = term_same (power_one v angle.sign) angle

  square : Term (q * q / scale) (v ↑ 2) (next b b 1)
  square = term_power v 1 1 angle.sign first first

  pub near_sine : 2000 * reach (sine_term b 6) ≤ T * 160 → Near scale (sine_of q) (exact_sine n v) ((sine_errors b).short + T) ((sine_errors b).over + T)
  unfolding sine_of exact_sine exact factorial
  near_sine small =
      near_series sine_divisor (λ j. 2 * j + 1) (λ j. omega arith) (λ j. equal_products (omega arith) (omega arith)) v b (next b b 1) angle.sign (term_same (over_one (v ↑ 1)) first) square n T seven (omega (arith, low)) (omega (arith, low)) small

  pub near_cosine : 2000 * reach (cosine_term b 6) ≤ T * 160 → Near scale (cosine_of q) (exact_cosine n v) ((cosine_errors b).short + T) ((cosine_errors b).over + T)
  unfolding cosine_of exact_cosine exact factorial ◌↑◌ whole
  near_cosine small =
      let one = term_same (over_one (nat 1)) (record { sign = refl; fits = lit≤ tt; near = near_nat scale 1 }) in
      near_series cosine_divisor (λ j. 2 * j) (λ j. omega arith) (λ j. equal_products (omega arith) (omega arith)) v _ (next b b 1) angle.sign one square n T seven (omega (arith, low)) (omega (arith, low)) small
