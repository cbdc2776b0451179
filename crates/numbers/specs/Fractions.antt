-- Fractions as document 01 has them: "a fraction is a whole number over a whole number above zero, and two are compared by their cross
-- products". Nothing is rounded or reduced.
use Rattle.std.specs.Prelude.{ℕ, zero, suc, ◌*◌, ◌<◌, ℤ, pos, negsuc, neg_ℤ, ◌+ℤ◌, ◌-ℤ◌, ◌*ℤ◌, ◌≤ℤ◌, ◌<ℤ◌}
use Rattle.std.proofs.Common.{mul-pos, zero-lt-suc}

-- `top` over `under`
pub record Fraction : Type 0 where
  pub top : ℤ
  pub under : ℕ
  pub above : zero < under

-- A whole number, and a natural number, over one.
unfoldable pub whole : ℤ → Fraction
whole z = record { top = z; under = 1; above = zero-lt-suc zero }

abbrev pub nat : ℕ → Fraction
nat n = whole (pos n)

-- ---- sum, difference, product, and the power `v ↑ n`

infixl 6 ◌⊕◌ ◌⊖◌
infixl 7 ◌⊗◌ ◌⊘◌
infixr 8 ◌↑◌
unfoldable pub ◌⊕◌ : Fraction → Fraction → Fraction
u ⊕ v =
    record {
      top = u.top *ℤ pos v.under +ℤ v.top *ℤ pos u.under;
      under = u.under * v.under;
      above = mul-pos u.above v.above;
    }

unfoldable pub ◌⊖◌ : Fraction → Fraction → Fraction
u ⊖ v =
    record {
      top = u.top *ℤ pos v.under -ℤ v.top *ℤ pos u.under;
      under = u.under * v.under;
      above = mul-pos u.above v.above;
    }

unfoldable pub ◌⊗◌ : Fraction → Fraction → Fraction
u ⊗ v = record { top = u.top *ℤ v.top; under = u.under * v.under; above = mul-pos u.above v.above }

unfoldable pub ◌↑◌ : Fraction → ℕ → Fraction
v ↑ zero = nat 1
v ↑ suc n = v ↑ n ⊗ v

-- ---- quotients, by a natural number and by a fraction; one by zero means nothing, and the laws show that none is taken

unfoldable pub ◌⊘◌ : Fraction → ℕ → Fraction
u ⊘ zero = nat 0
u ⊘ suc n = record { top = u.top; under = u.under * suc n; above = mul-pos u.above (zero-lt-suc n) }

-- u over a fraction with the whole number `top` over `under`: the sign stays on top.
unfoldable pub over : Fraction → (top : ℤ) → (under : ℕ) → Fraction
over u (pos n) under = u ⊗ nat under ⊘ n
over u (negsuc n) under = u ⊗ whole (neg_ℤ (pos under)) ⊘ suc n

unfoldable pub ratio : Fraction → Fraction → Fraction
ratio u v = over u v.top v.under

-- ---- order, by cross products

infix 4 ◌≼◌ ◌≺◌ ◌≈◌
pub record ◌≼◌ (u v : Fraction) : Type 0 where
  pub cross : (u.top *ℤ pos v.under) ≤ℤ (v.top *ℤ pos u.under)

pub record ◌≺◌ (u v : Fraction) : Type 0 where
  pub cross : (u.top *ℤ pos v.under) <ℤ (v.top *ℤ pos u.under)

-- Of the same value: neither is above the other.
pub record ◌≈◌ (u v : Fraction) : Type 0 where
  pub at_most : u ≼ v
  pub at_least : v ≼ u
