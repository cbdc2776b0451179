-- Single fields by computation: which bits are meant, and which byte comes first. Assumes nothing.
use mathlib.Core.Path.{◌≡◌, refl}
use mathlib.Core.List.{List, [], ◌∷◌}
use Prim.Native.Nat.{ℕ}
use Rattle.bits.specs.Bits.{value_of, bytes_of, bits_at, values_at, packed}

-- 0001 0010 0011 0100
abbrev two_bytes : List ℕ
two_bytes = 0x12 ∷ 0x34 ∷ []

pub record Examples : Type 0 where
  pub number : value_of two_bytes ≡ 0x1234
  pub bytes : bytes_of 3 0x1234 ≡ 0x00 ∷ 0x12 ∷ 0x34 ∷ []
  pub first_field : bits_at two_bytes 0 4 ≡ 1
  pub last_field : bits_at two_bytes 12 4 ≡ 4
  pub across_bytes : bits_at two_bytes 6 5 ≡ 17
  pub no_gaps : values_at two_bytes 0 (4 ∷ 2 ∷ 5 ∷ 5 ∷ []) ≡ 1 ∷ 0 ∷ 17 ∷ 20 ∷ []
  pub in_order : packed 0 (4 ∷ 2 ∷ 5 ∷ 5 ∷ []) (1 ∷ 0 ∷ 17 ∷ 20 ∷ []) ≡ 0x1234

pub examples : Examples
unfolding value_of bytes_of bits_at values_at packed
examples =
    record {
      number = refl;
      bytes = refl;
      first_field = refl;
      last_field = refl;
      across_bytes = refl;
      no_gaps = refl;
      in_order = refl;
    }
