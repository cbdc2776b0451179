-- The editions of the sheet and its layout (document 01, "Packed sheet", and document 02, N6): the widths of its fields, in order. Reader and
-- writer are stated over it, for every edition at once.
use Rattle.std.specs.Prelude.{cond, List, [], ◌∷◌, ℕ, ◌+◌, ◌-◌, ◌*◌, ◌/◌, ◌^◌, ◌≤◌, ◌<◌, eqb}
use Rattle.refusals.specs.Order.{Checks, check}
use Rattle.packed_sheet.specs.declared.Edition.{Edition}
use Rattle.bits.specs.Bits.{total}

-- "edition 4 (value 1)", "start 28", "start station, 0 to 200,000,000 mm"
abbrev pub first_edition : Edition
first_edition = record { number = 1; width = 28; greatest = 200000000 }

-- "edition 2, where the start has 32 bits and may reach 4,000,000,000 mm; the rest follows, no width changed" (document 02, N6)
abbrev pub second_edition : Edition
second_edition = record { number = 2; width = 32; greatest = 4000000000 }

-- The edition of a number. A number but 1 and 2 has none; it gets edition 1, whose number it is not.
unfoldable pub numbered : ℕ → Edition
numbered number = cond (eqb number 2) second_edition first_edition

-- 2: "any but 1 and 2 has refusal 2"
unfoldable pub edition_check : ℕ → Checks
edition_check number = check (eqb number (numbered number).number) 2 0

-- An edition whose number and greatest start have room in the head's bits, whose head has room in seven bytes, and whose sheets have as many.
pub record Holds (E : Edition) : Type 0 where
  pub number : E.number < 2 ^ 4
  pub start : E.greatest < 2 ^ E.width
  pub wide : 2 ≤ E.width
  pub narrow : E.width ≤ 34

-- "edition 4"
abbrev pub edition_width : ℕ
edition_width = 4

-- "edition 4 .., n 7, V 7, e 4, start 28"; in edition 2 "the start has 32 bits"
abbrev pub head_widths : Edition → List ℕ
head_widths E = edition_width ∷ 7 ∷ 7 ∷ 4 ∷ E.width ∷ []

-- "A distance has 25 bits."
abbrev pub distance_width : ℕ
distance_width = 25

-- "A curve has side 1, A 19, R 23, L 19."
abbrev pub curve_widths : List ℕ
curve_widths = 1 ∷ 19 ∷ 23 ∷ 19 ∷ []

-- "then distance 0, curve 1, distance 1, ..": entry i is distance i and the curve after it
abbrev pub entry_widths : List ℕ
entry_widths = distance_width ∷ curve_widths

-- The bit where entry i begins.
abbrev pub entry_at : Edition → ℕ → ℕ
entry_at E i = total (head_widths E) + total entry_widths * i

-- "The sheet has 75 + 87 × n bits", in edition 2 four more: n entries, and the last distance
abbrev pub bit_count : Edition → ℕ → ℕ
bit_count E n = entry_at E n + distance_width

-- "filled with zero bits to a whole byte"
abbrev pub byte_count : Edition → ℕ → ℕ
byte_count E n = (bit_count E n + 7) / 8

-- The zero bits of the last byte.
abbrev pub fill_width : Edition → ℕ → ℕ
fill_width E n = 8 * byte_count E n - bit_count E n
