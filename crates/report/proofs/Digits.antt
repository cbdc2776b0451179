-- The digits that `io` makes of a number are those of the definitions. Assumes nothing.
use mathlib.Core.Path.{◌≡◌, refl, sym, ◌∙◌, ap, subst}
use mathlib.Core.Bool.{Bool, true, false}
use mathlib.Core.List.{List, [], ◌∷◌, ◌++◌}
use Prim.Native.Nat.{ℕ, zero, suc, ◌+◌, ◌-◌, ◌*◌, ◌/◌, ◌%◌, ◌^◌, ◌≤◌, ◌<◌}
use native.Mathlib.Nat.{mul_assoc, mul-add-div_right, mul-add-mod_self_right, pow-suc}
use native.Mathlib.Omega.{arith}
use lib.Dec.{ltb}
use lib.ListN.{length, take, drop, length-append}
use lib.Seq.{drop-append-le}
use borrow.Author.Tests.{ltb-true, lt-ltb, le-ltb}
use Rattle.io.specs.Digits.{hex_digit_ascii, last_digits as digits, IsDigitCount}
use Rattle.report.specs.Numbers.{one_or_more, digits_within, decimal}

pub digits_length : (b k n : ℕ) → length (digits b k n) ≡ k
digits_length b zero n = refl
digits_length b (suc k) n = length-append (digits b k (n / b)) (hex_digit_ascii (n % b) ∷ []) ∙ omega (arith, digits_length b k (n / b))

-- Without the first digit: the last k.
less_first : (b k n : ℕ) → drop 1 (digits b (suc k) n) ≡ digits b k n
less_first b zero n = refl
less_first b (suc k) n =
    drop-append-le 1 (digits b (suc k) (n / b)) (hex_digit_ascii (n % b) ∷ []) (omega (arith, digits_length b (suc k) (n / b)))
    ∙ ap (λ (front : List ℕ). front ++ (hex_digit_ascii (n % b) ∷ [])) (less_first b k (n / b))

-- Digits in front of the last k change nothing.
last_digits : (b k q n : ℕ) → 0 < b → digits b k (q * b ^ k + n) ≡ digits b k n
last_digits b zero q n p = refl
last_digits b (suc k) q n p =
    let e : q * b ^ suc k + n ≡ q * b ^ k * b + n = simp (pow-suc, ← mul_assoc) in
    let front : (q * b ^ k * b + n) / b ≡ q * b ^ k + n / b = mul-add-div_right p (q * b ^ k) n in
    let last : (q * b ^ k * b + n) % b ≡ n % b = mul-add-mod_self_right (q * b ^ k) b n in
    ap (digits b (suc k)) e
    ∙ (λ j. digits b k (front j) ++ (hex_digit_ascii (last j) ∷ []))
    ∙ ap (λ (f : List ℕ). f ++ (hex_digit_ascii (n % b) ∷ [])) (last_digits b k q (n / b) p)

pub power_pos : (k : ℕ) → 0 < 10 ^ k
power_pos zero = omega arith
power_pos (suc k) = omega (arith, power_pos k, pow-suc 10 k)

-- The fewest digits that hold a number are as many as the definition counts.
fewest_digits : (fuel n k : ℕ) → n ≤ fuel → IsDigitCount 10 1 n k → digits_within fuel n ≡ k
unfolding digits_within
fewest_digits fuel n zero h few = absurd (omega (arith, few.0))
fewest_digits zero n (suc zero) h few = refl
fewest_digits (suc fuel) n (suc zero) h few = rw (lt-ltb n 10 few.1) refl
fewest_digits zero n (suc (suc j)) h few =
    absurd (omega (arith, few.2 (omega arith), power_pos (suc (suc j) - 1)))
fewest_digits (suc fuel) n (suc (suc j)) h few =
    let one : suc (suc j) - 1 ≡ suc j = omega arith in
    let least : 10 ^ suc j ≤ n = subst (λ (m : ℕ). 10 ^ m ≤ n) one (few.2 (omega arith)) in
    let tenth : 1 < suc j → 10 ^ (suc j - 1) ≤ n / 10 =
    λ l. let less : suc (suc j - 1) ≡ suc j = omega arith in
    let e : 10 ^ suc j ≡ 10 ^ (suc j - 1) * 10 = ap (λ (m : ℕ). 10 ^ m) (sym less) ∙ pow-suc 10 (suc j - 1) in
    omega (arith, e, least) in
    rw (le-ltb n 10 (omega (arith, least, pow-suc 10 j, power_pos j)))
    (ap suc (fewest_digits fuel (n / 10) (suc j) (omega (arith, least, power_pos (suc j))) (omega arith, omega (arith, few.1, pow-suc 10 (suc j)), tenth)))

-- So the digits that `io` makes are the decimal text.
pub decimal_digits : (n k : ℕ) → IsDigitCount 10 1 n k → digits 10 k n ≡ decimal n
unfolding decimal
decimal_digits n k few = ap (λ (m : ℕ). digits 10 m n) (sym (fewest_digits n n k (omega arith) few))

pub decimal_length : (n k : ℕ) → IsDigitCount 10 1 n k → k ≡ length (decimal n)
decimal_length n k few = sym (digits_length 10 k n) ∙ ap length (decimal_digits n k few)

either_holds : (b : Bool) (f : ℕ → ℕ) (n : ℕ) → ltb n 10 ≡ b → n / 10 < 10 ^ f (n / 10) → n < 10 ^ one_or_more b f n
either_holds true f n e h = ltb-true n 10 e
either_holds false f n e h = omega (arith, h, pow-suc 10 (f (n / 10)))

-- The digits that are counted hold the number.
pub digits_hold : (fuel n : ℕ) → n ≤ fuel → n < 10 ^ digits_within fuel n
unfolding digits_within
digits_hold zero n h = omega arith
digits_hold (suc fuel) n h = either_holds (ltb n 10) (digits_within fuel) n refl (digits_hold fuel (n / 10) (omega arith))

either_way : (b : Bool) (f : ℕ → ℕ) (n : ℕ) {most : ℕ} → f (n / 10) ≤ most → one_or_more b f n ≤ suc most
either_way true f n h = omega arith
either_way false f n h = omega arith

-- A number below a power of ten has no more digits than its exponent.
few_digits : (fuel n k : ℕ) → n < 10 ^ suc k → digits_within fuel n ≤ suc k
unfolding digits_within
few_digits zero n k h = omega arith
few_digits (suc fuel) n zero h = rw (lt-ltb n 10 h) (omega arith)
few_digits (suc fuel) n (suc k) h =
    either_way (ltb n 10) (digits_within fuel) n (few_digits fuel (n / 10) k (omega (arith, pow-suc 10 (suc k))))

pub decimal_short : (n k : ℕ) → n < 10 ^ suc k → length (decimal n) ≤ suc k
unfolding decimal
decimal_short n k h = omega (arith, digits_length 10 (digits_within n n) n, few_digits n n k h)

-- A number of 64 bits has at most 20.
pub decimal_most : (n : ℕ) → n < 2 ^ 64 → length (decimal n) ≤ 20
decimal_most n h = decimal_short n 19 (omega arith)

-- 1,000,000 + n has seven digits; without the first they are the six decimals.
pub seven_digits : (n k : ℕ) → n < 1000000 → IsDigitCount 10 1 (1000000 + n) k → k ≡ 7
seven_digits n k h few =
    let seven : IsDigitCount 10 1 (1000000 + n) 7 = (omega arith, omega arith, λ l. omega arith) in
    sym (fewest_digits (1000000 + n) (1000000 + n) k (omega arith) few) ∙ fewest_digits (1000000 + n) (1000000 + n) 7 (omega arith) seven

pub six_decimals : (n k : ℕ) (out : List ℕ) → n < 1000000 → IsDigitCount 10 1 (1000000 + n) k → take k out ≡ digits 10 k (1000000 + n)
    → take 6 (drop 1 out) ≡ digits 10 6 n
six_decimals n k out h few e =
    let whole : take 7 out ≡ digits 10 7 (1000000 + n) = subst (λ (m : ℕ). take m out ≡ digits 10 m (1000000 + n)) (seven_digits n k h few) e in
    without_first out ∙ ap (drop 1) whole ∙ less_first 10 6 (1000000 + n) ∙ last_digits 10 6 1 n (omega arith)
  where
    without_first : (xs : List ℕ) → take 6 (drop 1 xs) ≡ drop 1 (take 7 xs)
    without_first [] = refl
    without_first (x ∷ xs) = refl
