-- Bytes as one number, and the fields in its bits (document 01, "Packed sheet": "Bits, most significant first, no gaps").
use Rattle.std.specs.Prelude.{List, [], ◌∷◌, ℕ, zero, suc, ◌+◌, ◌-◌, ◌*◌, ◌/◌, ◌%◌, ◌^◌, ◌<◌, length, get_or}

-- A list of bytes.
abbrev pub Bytes : List ℕ → Type 0
Bytes bytes = (i : ℕ) → get_or bytes i 0 < 256

-- The number that bytes spell, "most significant first".
unfoldable pub value_of : List ℕ → ℕ
value_of [] = 0
value_of (b ∷ bs) = b * 2 ^ (8 * length bs) + value_of bs

-- The `count` low bytes of a number, most significant first.
unfoldable pub bytes_of : ℕ → ℕ → List ℕ
bytes_of zero x = []
bytes_of (suc count) x = x / 2 ^ (8 * count) % 256 ∷ bytes_of count x

-- The number in the `width` bits from bit `from` on.
unfoldable pub bits_at : List ℕ → ℕ → ℕ → ℕ
bits_at bytes from width = value_of bytes / 2 ^ (8 * length bytes - (from + width)) % 2 ^ width

-- The numbers in fields of those widths, one after the other from bit `from` on: "no gaps".
unfoldable pub values_at : List ℕ → ℕ → List ℕ → List ℕ
values_at bytes from [] = []
values_at bytes from (width ∷ widths) = bits_at bytes from width ∷ values_at bytes (from + width) widths

-- Fields of those widths and values, one after the other behind the bits of `before`, as one number.
unfoldable pub packed : ℕ → List ℕ → List ℕ → ℕ
packed before [] values = before
packed before (width ∷ widths) [] = before
packed before (width ∷ widths) (value ∷ values) = packed (before * 2 ^ width + value) widths values

-- How many bits fields of those widths have together.
abbrev pub total : List ℕ → ℕ
total [] = 0
total (width ∷ widths) = width + total widths

-- There are as many values as widths, and each fits its width.
abbrev pub Fit : List ℕ → List ℕ → Type 0
Fit [] [] = Unit {0}
Fit [] (value ∷ values) = ⊥
Fit (width ∷ widths) [] = ⊥
Fit (width ∷ widths) (value ∷ values) = (value < 2 ^ width) × Fit widths values
