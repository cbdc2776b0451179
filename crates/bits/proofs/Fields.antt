-- Fields after one another, over any list of widths: what is read is packed again, and what is packed is read again. Assumes nothing.
use mathlib.Core.Path.{◌≡◌, refl, sym, ◌∙◌, ap}
use mathlib.Core.List.{List, [], ◌∷◌}
use Prim.Native.Nat.{ℕ, ◌+◌, ◌-◌, ◌*◌, ◌/◌, ◌%◌, ◌^◌, ◌≤◌, ◌<◌}
use native.Mathlib.Nat.{add-zero, add_assoc, div-one, div-eq_of_lt, sub_self, sub-zero, mod-lt}
use native.Mathlib.Omega.{arith}
use lib.Arith.{digits_lt, digits_div, digits_mod}
use lib.ListN.{length}
use lib.Pow.{pow-add, pow_pos, shr-shr, split}
use Rattle.bits.specs.Bits.{Bytes, value_of, bits_at, values_at, packed, total, Fit}
use Rattle.bits.proofs.Bytes.{value_lt}

-- The number in the first b bits.
abbrev pub up_to : List ℕ → ℕ → ℕ
up_to s b = value_of s / 2 ^ (8 * length s - b)

pub bits_lt : (s : List ℕ) (from width : ℕ) → bits_at s from width < 2 ^ width
unfolding bits_at
bits_lt s from width = mod-lt _ (pow_pos width)

-- All bits of a list of bytes are its number, and no bits are none.
pub all_bits : (s : List ℕ) {b : ℕ} → b ≡ 8 * length s → up_to s b ≡ value_of s
all_bits s e =
    ap (up_to s) e ∙ ap (λ (n : ℕ). value_of s / 2 ^ n) (sub_self (8 * length s)) ∙ div-one (value_of s)

pub no_bits : (s : List ℕ) → Bytes s → up_to s 0 ≡ 0
no_bits s bytes = div-eq_of_lt (rw sub-zero (value_lt s bytes))

module _ (s : List ℕ) where
  fewer : (b w : ℕ) → b + w ≤ 8 * length s → up_to s b ≡ up_to s (b + w) / 2 ^ w
  fewer b w h =
      let e : 8 * length s - b ≡ 8 * length s - (b + w) + w = omega arith in
      rw e (sym (shr-shr (value_of s) (8 * length s - (b + w)) w))

  -- One field more behind the first b bits.
  one_read : (b w : ℕ) → b + w ≤ 8 * length s → up_to s (b + w) ≡ up_to s b * 2 ^ w + bits_at s b w
  unfolding bits_at
  one_read b w h = rw (fewer b w h) (sym (split (up_to s (b + w)) w))

  one_back : (b w x v : ℕ) → b + w ≤ 8 * length s → v < 2 ^ w → up_to s (b + w) ≡ x * 2 ^ w + v
      → (up_to s b ≡ x) × (bits_at s b w ≡ v)
  unfolding bits_at
  one_back b w x v h l e =
      (fewer b w h ∙ ap (λ (m : ℕ). m / 2 ^ w) e ∙ digits_div x l, ap (λ (m : ℕ). m % 2 ^ w) e ∙ digits_mod x l)

  -- The fields read behind the first b bits, packed again, are the bits that were read.
  pub read_packed : (b : ℕ) (ws : List ℕ) → b + total ws ≤ 8 * length s
      → up_to s (b + total ws) ≡ packed (up_to s b) ws (values_at s b ws)
  unfolding values_at packed
  read_packed b [] h = ap (up_to s) (add-zero b)
  read_packed b (w ∷ ws) h =
      ap (up_to s) (sym (add_assoc b w (total ws)))
      ∙ read_packed (b + w) ws (omega arith)
      ∙ ap (λ (x : ℕ). packed x ws (values_at s (b + w) ws)) (one_read b w (omega arith))

  -- Fields packed behind x, where they are read: what stands before them is x, and the fields read are those packed.
  pub packed_read : (b x : ℕ) (ws vs : List ℕ) → Fit ws vs → b + total ws ≤ 8 * length s → up_to s (b + total ws) ≡ packed x ws vs
      → (up_to s b ≡ x) × (values_at s b ws ≡ vs)
  unfolding values_at packed
  packed_read b x [] [] f h e = (ap (up_to s) (sym (add-zero b)) ∙ e, refl)
  packed_read b x [] (v ∷ vs) f h e = absurd f
  packed_read b x (w ∷ ws) [] f h e = absurd f
  packed_read b x (w ∷ ws) (v ∷ vs) f h e =
      let later = packed_read (b + w) (x * 2 ^ w + v) ws vs f.1 (omega arith) (ap (up_to s) (add_assoc b w (total ws)) ∙ e) in
      let here = one_back b w x v (omega arith) f.0 later.0 in
      (here.0, λ i. here.1 i ∷ later.1 i)

-- Packed fields have as many bits as their widths say.
pub packed_lt : (b x : ℕ) (ws vs : List ℕ) → Fit ws vs → x < 2 ^ b → packed x ws vs < 2 ^ (b + total ws)
unfolding packed
packed_lt b x [] vs f h = rw (add-zero b) h
packed_lt b x (w ∷ ws) [] f h = absurd f
packed_lt b x (w ∷ ws) (v ∷ vs) f h =
    rw (← add_assoc b w (total ws)) (packed_lt (b + w) (x * 2 ^ w + v) ws vs f.1 (rw pow-add (digits_lt h f.0)))
