-- Whole numbers by their two parts: z is `plus z` less `minus z`, of which one is 0. The laws are sums and products of natural numbers.
-- Assumes nothing.
use mathlib.Core.Path.{◌≡◌, refl, sym, ◌∙◌, ap}
use mathlib.Core.Bool.{Bool, true, false, not, cond}
use Prim.Native.Nat.{ℕ, zero, suc, ◌+◌, ◌*◌, ◌-◌, ◌/◌, ◌≤◌, ◌<◌}
use native.Mathlib.Nat.{zero-mul, mul-zero, suc-mul, suc-ne-zero, div-mul-le_self, lt-div-mul-add}
use native.Mathlib.Omega.{arith}
use lib.Dec.{T, ltb, ltb→lt, nltb→le, leb→le, le→leb, lt→ltb}
use lib.IntN.{ℤ, pos, negsuc, neg_ℤ, sub_ℕ, ◌+ℤ◌, ◌-ℤ◌, ◌*ℤ◌}
use lib.Signed.{◌≤ℤ◌, ◌<ℤ◌, le_z_yes, lt_z_yes}
use Rattle.numbers.specs.Whole.{down}

abbrev pub plus : ℤ → ℕ
plus (pos n) = n
plus (negsuc n) = zero

abbrev pub minus : ℤ → ℕ
minus (pos n) = zero
minus (negsuc n) = suc n

-- ---- the opposite, a product by a natural number, a sum, a difference

plus_neg : (z : ℤ) → plus (neg_ℤ z) ≡ minus z
plus_neg (pos zero) = refl
plus_neg (pos (suc n)) = refl
plus_neg (negsuc n) = refl

minus_neg : (z : ℤ) → minus (neg_ℤ z) ≡ plus z
minus_neg (pos zero) = refl
minus_neg (pos (suc n)) = refl
minus_neg (negsuc n) = refl

pub plus_times : (z : ℤ) (k : ℕ) → plus (z *ℤ pos k) ≡ plus z * k
plus_times (pos n) k = refl
plus_times (negsuc n) k = plus_neg (pos (suc n * k)) ∙ sym (zero-mul k)

pub minus_times : (z : ℤ) (k : ℕ) → minus (z *ℤ pos k) ≡ minus z * k
minus_times (pos n) k = sym (zero-mul k)
minus_times (negsuc n) k = minus_neg (pos (suc n * k))

pub times_plus : (k : ℕ) (z : ℤ) → plus (pos k *ℤ z) ≡ k * plus z
times_plus k (pos n) = refl
times_plus k (negsuc n) = plus_neg (pos (k * suc n)) ∙ sym (mul-zero k)

pub times_minus : (k : ℕ) (z : ℤ) → minus (pos k *ℤ z) ≡ k * minus z
times_minus k (pos n) = sym (mul-zero k)
times_minus k (negsuc n) = minus_neg (pos (k * suc n))

sub_parts : (a b : ℕ) → plus (sub_ℕ a b) + b ≡ a + minus (sub_ℕ a b)
sub_parts a b = go (ltb a b) (λ t. ltb→lt a b t) (λ t. nltb→le a b t)
  where
    go : (t : Bool) → (T t → a < b) → (T (not t) → b ≤ a)
        → plus (cond t (negsuc (b - suc a)) (pos (a - b))) + b ≡ a + minus (cond t (negsuc (b - suc a)) (pos (a - b)))
    go true f g = let h = f tt in omega arith
    go false f g = let h = g tt in omega arith

pub sum_parts : (a b : ℤ) → plus (a +ℤ b) + (minus a + minus b) ≡ plus a + plus b + minus (a +ℤ b)
sum_parts (pos a) (pos b) = omega arith
sum_parts (pos a) (negsuc b) = omega (arith, sub_parts a (suc b))
sum_parts (negsuc a) (pos b) = omega (arith, sub_parts b (suc a))
sum_parts (negsuc a) (negsuc b) = omega arith

pub difference_parts : (a b : ℤ) → plus (a -ℤ b) + (minus a + plus b) ≡ plus a + minus b + minus (a -ℤ b)
difference_parts a b = omega (arith, sum_parts a (neg_ℤ b), plus_neg b, minus_neg b)

-- ---- the quotient rounded down

pub down_most : (z : ℤ) {m : ℕ} → zero < m → plus (down z m) * m + minus z ≤ plus z + minus (down z m) * m
down_most (pos a) {m} h = omega (arith, div-mul-le_self a m, zero-mul m)
down_most (negsuc a) {m} h = omega (arith, lt-div-mul-add {a = a} h, zero-mul m, suc-mul (a / m) m)

pub down_least : (z : ℤ) {m : ℕ} → zero < m → plus z + minus (down z m) * m < plus (down z m) * m + minus z + m
down_least (pos a) {m} h = omega (arith, lt-div-mul-add {a = a} h, zero-mul m)
down_least (negsuc a) {m} h = omega (arith, div-mul-le_self a m, zero-mul m, suc-mul (a / m) m)

-- ---- sign and order

pub as_pos : (z : ℤ) → minus z ≡ zero → z ≡ pos (plus z)
as_pos (pos n) h = refl
as_pos (negsuc n) h = absurd (suc-ne-zero n h)

pub no_minus : (z : ℤ) → zero < plus z → minus z ≡ zero
no_minus (pos n) h = refl
no_minus (negsuc n) h = omega arith

pub le_parts : (a b : ℤ) → plus a + minus b ≤ plus b + minus a → a ≤ℤ b
le_parts (pos a) (pos b) h = le_z_yes (le→leb a b (omega arith))
le_parts (pos a) (negsuc b) h = let n : suc b ≤ zero = omega arith in absurd (omega (arith, n))
le_parts (negsuc a) (pos b) h = le_z_yes tt
le_parts (negsuc a) (negsuc b) h = le_z_yes (le→leb b a (omega arith))

pub parts_le : (a b : ℤ) → a ≤ℤ b → plus a + minus b ≤ plus b + minus a
parts_le (pos a) (pos b) h = let n = leb→le a b h.le in omega arith
parts_le (pos a) (negsuc b) h = absurd h.le
parts_le (negsuc a) (pos b) h = omega arith
parts_le (negsuc a) (negsuc b) h = let n = leb→le b a h.le in omega arith

pub lt_parts : (a b : ℤ) → plus a + minus b < plus b + minus a → a <ℤ b
lt_parts (pos a) (pos b) h = lt_z_yes (lt→ltb a b (omega arith))
lt_parts (pos a) (negsuc b) h = let n : suc b ≤ zero = omega arith in absurd (omega (arith, n))
lt_parts (negsuc a) (pos b) h = lt_z_yes tt
lt_parts (negsuc a) (negsuc b) h = lt_z_yes (lt→ltb b a (omega arith))

pub parts_lt : (a b : ℤ) → a <ℤ b → plus a + minus b < plus b + minus a
parts_lt (pos a) (pos b) h = let n = ltb→lt a b h.lt in omega arith
parts_lt (pos a) (negsuc b) h = absurd h.lt
parts_lt (negsuc a) (pos b) h = omega arith
parts_lt (negsuc a) (negsuc b) h = let n = ltb→lt b a h.lt in omega arith

pub eq_parts : (a b : ℤ) → plus a + minus b ≡ plus b + minus a → a ≡ b
eq_parts (pos a) (pos b) h = ap pos (omega arith)
eq_parts (pos a) (negsuc b) h = let n : suc b ≡ zero = omega arith in absurd (omega (arith, n))
eq_parts (negsuc a) (pos b) h = let n : suc a ≡ zero = omega arith in absurd (omega (arith, n))
eq_parts (negsuc a) (negsuc b) h = ap negsuc (omega arith)
