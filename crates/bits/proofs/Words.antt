-- A field out of the bytes that hold it: in a word of four bytes, in two parts, at the end of the last byte. Assumes nothing.
use mathlib.Core.Path.{◌≡◌, sym, ◌∙◌, ap}
use mathlib.Core.List.{List, [], ◌∷◌}
use Prim.Native.Nat.{ℕ, ◌+◌, ◌-◌, ◌*◌, ◌/◌, ◌%◌, ◌^◌, ◌≤◌, ◌<◌}
use native.Mathlib.Nat.{add-zero, add_assoc, add-mul, mul-one, mul_assoc, one-mul, div-one, mod-one, mod-eq_of_lt, mul-add-div_right, mul-add-mod_self_right}
use native.Mathlib.Omega.{arith}
use lib.Arith.{digits_div, digits_mod}
use lib.ListN.{length, take, get_or}
use lib.Pow.{pow-add, pow_pos, shr-shr, shl_exact, field, mod-pow-add, mod-mod-pow}
use Rattle.bits.specs.Bits.{Bytes, value_of, bits_at, values_at, packed, total}
use Rattle.bits.proofs.Bytes.{value_step, value_take}
use Rattle.bits.proofs.Fields.{bits_lt}

-- `number` is that of the bytes from `first` up to `last`, and the field lies within them.
pub field_found : (s : List ℕ) (from width first last number front : ℕ) → Bytes s → last ≤ length s
    → 8 * first ≤ from → from + width ≤ 8 * last
    → value_of (take last s) ≡ front * 2 ^ (8 * (last - first)) + number
    → number / 2 ^ (8 * last - (from + width)) % 2 ^ width ≡ bits_at s from width
unfolding bits_at
field_found s from width first last number front b l lo up e =
    let q : ℕ = 8 * last - (from + width) in
    let x : ℕ = from - 8 * first in
    let e₁ : 8 * length s - (from + width) ≡ 8 * (length s - last) + q = omega arith in
    let e₂ : 8 * (last - first) ≡ x + width + q = omega arith in
    let e₃ : value_of s / 2 ^ (8 * length s - (from + width)) ≡ (front * 2 ^ x * 2 ^ width * 2 ^ q + number) / 2 ^ q =
    rw e₁ (sym (shr-shr (value_of s) (8 * (length s - last)) q)
    ∙ ap (λ (n : ℕ). n / 2 ^ q) (value_take s last b l ∙ e ∙ rw e₂ (simp (pow-add, mul_assoc)))) in
    rw (e₃, mul-add-div_right (pow_pos q), mul-add-mod_self_right)

-- A field in two parts.
pub two_parts : (s : List ℕ) (from w w' : ℕ) → from + w + w' ≤ 8 * length s
    → bits_at s from w * 2 ^ w' + bits_at s (from + w) w' ≡ bits_at s from (w + w')
unfolding bits_at
two_parts s from w w' h =
    let e : 8 * length s - (from + w) ≡ 8 * length s - (from + w + w') + w' = omega arith in
    rw (e, ← add_assoc from w w', ← shr-shr (value_of s) (8 * length s - (from + w + w')) w')
    (sym (mod-pow-add (value_of s / 2 ^ (8 * length s - (from + w + w'))) w w'))

-- The parts of a field that was read as one.
module _ (s : List ℕ) (from w w' : ℕ) (h : from + w + w' ≤ 8 * length s) where
  pub first_part : bits_at s from (w + w') / 2 ^ w' ≡ bits_at s from w
  first_part = ap (λ (n : ℕ). n / 2 ^ w') (sym (two_parts s from w w' h)) ∙ digits_div (bits_at s from w) (bits_lt s (from + w) w')

  pub second_part : bits_at s from (w + w') % 2 ^ w' ≡ bits_at s (from + w) w'
  second_part = ap (λ (n : ℕ). n % 2 ^ w') (sym (two_parts s from w w' h)) ∙ digits_mod (bits_at s from w) (bits_lt s (from + w) w')

-- Bits that hold a field in their last w + w', parted: the first w, and those behind.
pub parted : (s : List ℕ) (from bits w w' : ℕ) → from + w + w' ≤ 8 * length s → bits % 2 ^ (w + w') ≡ bits_at s from (w + w')
    → (bits / 2 ^ w' % 2 ^ w ≡ bits_at s from w) × (bits % 2 ^ w' ≡ bits_at s (from + w) w')
parted s from bits w w' h e =
    (sym (field bits w w') ∙ ap (λ (n : ℕ). n / 2 ^ w') e ∙ first_part s from w w' h, sym (mod-mod-pow bits w w') ∙ ap (λ (n : ℕ). n % 2 ^ w') e ∙ second_part s from w w' h)

no_width : (s : List ℕ) (from : ℕ) → bits_at s from 0 ≡ 0
unfolding bits_at
no_width s from = mod-one _

-- Fields of any widths, one after the other behind the bits of x, are one field of all their bits.
pub as_one : (s : List ℕ) (x from : ℕ) (ws : List ℕ) → from + total ws ≤ 8 * length s
    → packed x ws (values_at s from ws) ≡ x * 2 ^ total ws + bits_at s from (total ws)
unfolding values_at packed
as_one s x from [] h = sym (rw (no_width, mul-one) (add-zero x))
as_one s x from (w ∷ ws) h =
    as_one s (x * 2 ^ w + bits_at s from w) (from + w) ws (omega arith)
    ∙ rw (← two_parts s from w (total ws) (omega arith), pow-add) (simp (add-mul, mul_assoc, add_assoc))

-- A byte is a field of eight bits.
pub byte_field : (s : List ℕ) (i : ℕ) → Bytes s → i < length s → bits_at s (8 * i) 8 ≡ get_or s i 0
byte_field s i b h =
    let bits : 8 * (i + 1 - i) ≡ 8 = omega arith in
    let none : 8 * (i + 1) - (8 * i + 8) ≡ 0 = omega arith in
    sym (field_found s (8 * i) 8 i (i + 1) (get_or s i 0) (value_of (take i s)) b (omega arith) (omega arith) (omega arith) (rw bits (value_step s i h)))
    ∙ rw none (rw div-one (mod-eq_of_lt (b i)))

-- The code's `1 << w`.
pub power : (bits : ℕ) {w : ℕ} → w < bits → 1 * 2 ^ w % 2 ^ bits ≡ 2 ^ w
power bits {w} h = shl_exact {a = 1} 1 w bits (omega arith) (omega arith) ∙ one-mul (2 ^ w)

-- A field in the word of four bytes where it begins.
pub word_field : (s : List ℕ) (from width word : ℕ) → Bytes s → from / 8 + 4 ≤ length s → width ≤ 25
    → value_of (take (from / 8 + 4) s) ≡ value_of (take (from / 8) s) * 2 ^ 32 + word
    → word / 2 ^ (32 - from % 8 - width) % 2 ^ width ≡ bits_at s from width
word_field s from width word b l w e =
    let first : ℕ = from / 8 in
    let shift : 32 - from % 8 - width ≡ 8 * (first + 4) - (from + width) = omega arith in
    let bits : 8 * (first + 4 - first) ≡ 32 = omega arith in
    rw shift (field_found s from width first (first + 4) word (value_of (take first s)) b l (omega arith) (omega arith) (rw bits e))

-- A field at the end of the last byte.
pub last_field : (s : List ℕ) (width byte : ℕ) → Bytes s → 1 ≤ length s → width < 8 → byte ≡ get_or s (length s - 1) 0
    → byte % 2 ^ width ≡ bits_at s (8 * length s - width) width
last_field s width byte b h w e =
    let n : ℕ = length s - 1 in
    let bits : 8 * (n + 1 - n) ≡ 8 = omega arith in
    let none : 8 * (n + 1) - (8 * length s - width + width) ≡ 0 = omega arith in
    ap (λ (x : ℕ). x % 2 ^ width) (sym (div-one byte) ∙ ap (λ (k : ℕ). byte / 2 ^ k) (sym none))
    ∙ field_found s (8 * length s - width) width n (n + 1) byte (value_of (take n s)) b (omega arith) (omega arith) (omega arith)
    (rw (bits, e) (value_step s n (omega arith)))
