-- The number that bytes spell, and the bytes of a number: each gives back the other. Assumes nothing.
use mathlib.Core.Path.{◌≡◌, refl, sym, ◌∙◌, ap}
use mathlib.Core.List.{List, [], ◌∷◌, ◌++◌}
use Prim.Native.Nat.{ℕ, zero, suc, ◌+◌, ◌-◌, ◌*◌, ◌/◌, ◌%◌, ◌^◌, ◌≤◌, ◌<◌}
use native.Mathlib.Nat.{zero-mul, zero-add, add-zero, add-mul, mul_assoc, add_assoc, mul-add-div_right, mul-add-mod_self_right, mul-one, mod-lt, mod-eq_of_lt, mod-one}
use native.Mathlib.Numerals.{add-one}
use native.Mathlib.Omega.{arith}
use lib.Arith.{digits_lt}
use lib.ListN.{length, take, drop, get_or, length-append, length-drop, take-append-drop}
use lib.Pow.{pow-add, pow_pos, high, mod-pow-add}
use lib.Seq.{take-suc, get_or-drop}
use Rattle.bits.specs.Bits.{Bytes, value_of, bytes_of}

-- ---- the number that bytes spell

value_append : (xs ys : List ℕ) → value_of (xs ++ ys) ≡ value_of xs * 2 ^ (8 * length ys) + value_of ys
unfolding value_of
value_append [] ys = simp (zero-mul, zero-add)
value_append (x ∷ xs) ys =
    let e : 8 * length (xs ++ ys) ≡ 8 * length xs + 8 * length ys = omega (arith, length-append xs ys) in
    rw (value_append xs ys, e) (simp (pow-add, add-mul, mul_assoc, add_assoc))

value_snoc : (xs : List ℕ) (b : ℕ) → value_of (xs ++ (b ∷ [])) ≡ value_of xs * 256 + b
unfolding value_of
value_snoc xs b = value_append xs (b ∷ []) ∙ simp (mul-one, add-zero)

-- One byte more.
pub value_step : (s : List ℕ) (i : ℕ) → i < length s → value_of (take (i + 1) s) ≡ value_of (take i s) * 256 + get_or s i 0
value_step s i h = rw (add-one, take-suc s i 0 h) (value_snoc (take i s) (get_or s i 0))

-- Four bytes more, as one number.
pub four_more : (s : List ℕ) (i a b c d : ℕ) → i + 4 ≤ length s → a ≡ get_or s i 0 → b ≡ get_or s (i + 1) 0 → c ≡ get_or s (i + 2) 0 → d ≡ get_or s (i + 3) 0
    → value_of (take (i + 4) s) ≡ value_of (take i s) * 2 ^ 32 + (((a * 256 + b) * 256 + c) * 256 + d)
four_more s i a b c d h p q r t =
    let step : (j k : ℕ) → k ≡ j + 1 → j < length s → value_of (take k s) ≡ value_of (take j s) * 256 + get_or s j 0 =
    λ j k e l. ap (λ (n : ℕ). value_of (take n s)) e ∙ value_step s j l in
    omega (
      arith,
      step i (i + 1) refl (omega arith),
      step (i + 1) (i + 2) (omega arith) (omega arith),
      step (i + 2) (i + 3) (omega arith) (omega arith),
      step (i + 3) (i + 4) (omega arith) (omega arith),
      p,
      q,
      r,
      t,
    )

pub value_lt : (xs : List ℕ) → Bytes xs → value_of xs < 2 ^ (8 * length xs)
unfolding value_of
value_lt [] h = omega arith
value_lt (x ∷ xs) h =
    let e : 8 * suc (length xs) ≡ 8 + 8 * length xs = omega arith in
    rw (e, pow-add) (digits_lt (h 0) (value_lt xs (λ i. h (suc i))))

-- The first k bytes.
pub value_take : (s : List ℕ) (k : ℕ) → Bytes s → k ≤ length s → value_of s / 2 ^ (8 * (length s - k)) ≡ value_of (take k s)
value_take s k b h =
    let e : value_of s ≡ value_of (take k s) * 2 ^ (8 * (length s - k)) + value_of (drop k s) =
    ap value_of (sym (take-append-drop k s)) ∙ value_append (take k s) (drop k s) ∙ simp length-drop in
    let l : value_of (drop k s) < 2 ^ (8 * (length s - k)) =
    rw length-drop at (value_lt (drop k s) (λ i. rw get_or-drop (b (k + i)))) in
    ap (λ (n : ℕ). n / 2 ^ (8 * (length s - k))) e ∙ high _ _ l

-- ---- the bytes of a number

pub length_bytes : (k x : ℕ) → length (bytes_of k x) ≡ k
unfolding bytes_of
length_bytes zero x = refl
length_bytes (suc k) x = ap suc (length_bytes k x)

pub bytes_bytes : (k x : ℕ) → Bytes (bytes_of k x)
unfolding bytes_of
bytes_bytes zero x i = omega arith
bytes_bytes (suc k) x zero = mod-lt (x / 2 ^ (8 * k)) (omega arith)
bytes_bytes (suc k) x (suc i) = bytes_bytes k x i

pub value_bytes : (k x : ℕ) → value_of (bytes_of k x) ≡ x % 2 ^ (8 * k)
unfolding bytes_of value_of
value_bytes zero x = sym (mod-one x)
value_bytes (suc k) x =
    let e : 8 * suc k ≡ 8 + 8 * k = omega arith in
    rw (e, length_bytes k x, value_bytes k x) (sym (mod-pow-add x 8 (8 * k)))

-- The low bytes are those of the low bits.
bytes_low : (k h v : ℕ) → bytes_of k (h * 2 ^ (8 * k) + v) ≡ bytes_of k v
unfolding bytes_of
bytes_low zero h v = refl
bytes_low (suc k) h v =
    let e : 8 * suc k ≡ 8 + 8 * k = omega arith in
    let p : h * 2 ^ (8 * suc k) + v ≡ h * 256 * 2 ^ (8 * k) + v = rw (e, pow-add) (simp mul_assoc) in
    rw (p, bytes_low k (h * 256) v, mul-add-div_right (pow_pos (8 * k)), mul-add-mod_self_right)

pub bytes_value : (s : List ℕ) → Bytes s → bytes_of (length s) (value_of s) ≡ s
unfolding bytes_of value_of
bytes_value [] b = refl
bytes_value (x ∷ s) b =
    rw (
      bytes_low (length s) x (value_of s),
      bytes_value s (λ i. b (suc i)),
      high x (8 * length s) (value_lt s (λ i. b (suc i))),
      mod-eq_of_lt (b 0),
    )
