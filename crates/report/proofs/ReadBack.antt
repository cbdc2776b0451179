-- What is printed tells the numbers: the text of a station, read without the point, is the number of µm, and the text of four lengths, read
-- line by line, is the four. Assumes nothing.
use mathlib.Core.Path.{◌≡◌, refl, sym, ◌∙◌, ap}
use mathlib.Core.Bool.{false, cond}
use mathlib.Core.List.{List, [], ◌∷◌, ◌++◌, append_assoc}
use Prim.Native.Nat.{ℕ, zero, suc, ◌+◌, ◌-◌, ◌*◌, ◌/◌, ◌%◌, ◌^◌, ◌<◌}
use native.Mathlib.Nat.{pow-suc, mul_assoc, zero-mul, mod-one, mod-lt, mod-eq_of_lt}
use native.Mathlib.Omega.{arith}
use lib.Dec.{eqb}
use lib.Arith.{mod-mul}
use borrow.Author.Tests.{lt-ltb, ne_eqb}
use Rattle.io.specs.Digits.{hex_digit_ascii, last_digits}
use Rattle.report.proofs.Digits.{power_pos, digits_hold}
use Rattle.report.specs.Numbers.{ascii, digits_within, decimal, metres}
use Rattle.report.specs.Text.{named_line, length_list}

-- The number that codes of digits spell behind the number n; the point is passed over.
unfoldable pub read_on : ℕ → List ℕ → ℕ
read_on n [] = n
read_on n (c ∷ codes) = read_on (cond (eqb c 46) n (n * 10 + (c - 48))) codes

read_append : (n : ℕ) (xs ys : List ℕ) → read_on n (xs ++ ys) ≡ read_on (read_on n xs) ys
unfolding read_on
read_append n [] ys = refl
read_append n (x ∷ xs) ys = read_append (cond (eqb x 46) n (n * 10 + (x - 48))) xs ys

digit_code : (d : ℕ) → d < 10 → hex_digit_ascii d ≡ 48 + d
digit_code d h = rw (lt-ltb d 10 h) refl

read_digit : (n d : ℕ) → d < 10 → read_on n (hex_digit_ascii d ∷ []) ≡ n * 10 + d
unfolding read_on
read_digit n d h =
    let code = digit_code d h in
    let digit : eqb (hex_digit_ascii d) 46 ≡ false = ne_eqb (hex_digit_ascii d) 46 (λ e. omega (arith, code, e)) in
    rw digit (omega (arith, code))

-- The last k digits of a number.
read_digits : (n k m : ℕ) → read_on n (last_digits 10 k m) ≡ n * 10 ^ k + m % 10 ^ k
unfolding read_on
read_digits n zero m = omega (arith, mod-one m)
read_digits n (suc k) m =
    let front = read_digits n k (m / 10) in
    let last = read_digit (read_on n (last_digits 10 k (m / 10))) (m % 10) (mod-lt m (omega arith)) in
    let split : m % 10 ^ suc k ≡ (m / 10 % 10 ^ k) * 10 + m % 10 = ap (λ (x : ℕ). m % x) (pow-suc 10 k) ∙ mod-mul m (power_pos k) (omega arith) in
    let whole : n * 10 ^ suc k ≡ n * 10 ^ k * 10 = simp (pow-suc, ← mul_assoc) in
    read_append n (last_digits 10 k (m / 10)) (hex_digit_ascii (m % 10) ∷ []) ∙ last ∙ omega (arith, front, split, whole)

read_decimal : (n : ℕ) → read_on 0 (decimal n) ≡ n
unfolding decimal
read_decimal n = read_digits 0 (digits_within n n) n ∙ omega (arith, mod-eq_of_lt (digits_hold n n (omega arith)), zero-mul (10 ^ digits_within n n))

pub read_metres : (station : ℕ) → read_on 0 (metres station) ≡ station
unfolding metres ascii read_on
read_metres station =
    let whole = decimal (station / 1000000) in
    let before : read_on 0 (whole ++ ascii ".") ≡ station / 1000000 = read_append 0 whole (ascii ".") ∙ read_decimal (station / 1000000) in
    read_append 0 (whole ++ ascii ".") (last_digits 10 6 (station % 1000000))
    ∙ read_digits (read_on 0 (whole ++ ascii ".")) 6 (station % 1000000)
    ∙ omega (arith, before)

-- So no two stations have the same text.
pub metres_apart : (a b : ℕ) → metres a ≡ metres b → a ≡ b
metres_apart a b e = sym (read_metres a) ∙ ap (read_on 0) e ∙ read_metres b

-- The numbers that stand at the ends of lines, each behind a space; n is what the line has spelt so far.
unfoldable pub numbers_in : ℕ → List ℕ → List ℕ
numbers_in n [] = []
numbers_in n (c ∷ codes) = cond (eqb c 32) (numbers_in 0 codes) (cond (eqb c 10) (n ∷ numbers_in 0 codes) (numbers_in (read_on n (c ∷ [])) codes))

-- A digit is no space and no end of a line.
numbers_digit : (n d : ℕ) (rest : List ℕ) → d < 10 → numbers_in n (hex_digit_ascii d ∷ rest) ≡ numbers_in (read_on n (hex_digit_ascii d ∷ [])) rest
unfolding numbers_in
numbers_digit n d rest h =
    let code = digit_code d h in
    let no_space : eqb (hex_digit_ascii d) 32 ≡ false = ne_eqb (hex_digit_ascii d) 32 (λ e. omega (arith, code, e)) in
    let no_end : eqb (hex_digit_ascii d) 10 ≡ false = ne_eqb (hex_digit_ascii d) 10 (λ e. omega (arith, code, e)) in
    rw (no_space, no_end) refl

numbers_digits : (n k m : ℕ) (rest : List ℕ) → numbers_in n (last_digits 10 k m ++ rest) ≡ numbers_in (read_on n (last_digits 10 k m)) rest
unfolding read_on
numbers_digits n zero m rest = refl
numbers_digits n (suc k) m rest =
    let front = last_digits 10 k (m / 10) in
    let last = hex_digit_ascii (m % 10) in
    ap (numbers_in n) (append_assoc front (last ∷ []) rest)
    ∙ numbers_digits n k (m / 10) (last ∷ rest)
    ∙ numbers_digit (read_on n front) (m % 10) rest (mod-lt m (omega arith))
    ∙ ap (λ (v : ℕ). numbers_in v rest) (sym (read_append n front (last ∷ [])))

numbers_decimal : (n : ℕ) (rest : List ℕ) → numbers_in 0 (decimal n ++ rest) ≡ numbers_in n rest
unfolding decimal
numbers_decimal n rest =
    numbers_digits 0 (digits_within n n) n rest ∙ ap (λ (v : ℕ). numbers_in v rest) (read_decimal n)

-- A number and the end of its line, and then the numbers of the other lines.
numbers_line : (n : ℕ) (rest : List ℕ) → numbers_in 0 (decimal n ++ ascii "\n" ++ rest) ≡ n ∷ numbers_in 0 rest
unfolding ascii numbers_in
numbers_line n rest = ap (numbers_in 0) (append_assoc (decimal n) (ascii "\n") rest) ∙ numbers_decimal n (ascii "\n" ++ rest)

regrouped : (a b c d : List ℕ) → a ++ b ++ c ++ d ≡ a ++ (b ++ (c ++ d))
regrouped a b c d = simp append_assoc

-- The text of four lengths tells the four.
pub read_lengths : (straights spirals arcs sum : ℕ) → numbers_in 0 (length_list straights spirals arcs sum) ≡ straights ∷ spirals ∷ arcs ∷ sum ∷ []
unfolding length_list named_line ascii numbers_in read_on
read_lengths straights spirals arcs sum =
    let second = named_line (ascii "SPIRALS") spirals in
    let third = named_line (ascii "ARCS") arcs in
    let last = named_line (ascii "SUM") sum in
    ap (numbers_in 0) (regrouped (named_line (ascii "STRAIGHTS") straights) second third last)
    ∙ numbers_line straights (second ++ (third ++ last))
    ∙ ap (λ (more : List ℕ). straights ∷ more) (numbers_line spirals (third ++ last))
    ∙ ap (λ (more : List ℕ). straights ∷ spirals ∷ more) (numbers_line arcs last)
    ∙ ap (λ (more : List ℕ). straights ∷ spirals ∷ arcs ∷ more) (numbers_decimal sum (ascii "\n"))
