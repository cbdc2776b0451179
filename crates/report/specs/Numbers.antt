-- Document 01's "The station program": numbers as text, in ASCII codes.
use Rattle.std.specs.Prelude.{Bool, true, false, List, [], ◌∷◌, ◌++◌, ℕ, zero, suc, ◌/◌, ◌%◌, ltb}
use Prim.Native.Char.{code}
use Prim.Native.String.{String, [] as no_text, ◌∷◌ as ◌∷ₜ◌}
use Rattle.io.specs.Digits.{last_digits}

-- The codes of a text.
unfoldable pub ascii : String → List ℕ
ascii no_text = []
ascii (c ∷ₜ text) = code c ∷ ascii text

-- How many decimal digits n has: one where it is below ten, else one more than its tenth part. The first number is how often that
-- may be asked; n itself is enough.
abbrev pub one_or_more : Bool → (ℕ → ℕ) → ℕ → ℕ
one_or_more true digits_of n = 1
one_or_more false digits_of n = suc (digits_of (n / 10))

unfoldable pub digits_within : ℕ → ℕ → ℕ
digits_within zero n = 1
digits_within (suc steps) n = one_or_more (ltb n 10) (digits_within steps) n

-- A number in decimal digits, without zeros in front.
unfoldable pub decimal : ℕ → List ℕ
decimal n = last_digits 10 (digits_within n n) n

-- "station in metres with six decimals", of a station in µm
unfoldable pub metres : ℕ → List ℕ
metres station = decimal (station / 1000000) ++ ascii "." ++ last_digits 10 6 (station % 1000000)
