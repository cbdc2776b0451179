-- Terms at scale 10⁹: what is known of a term of the rule, held against an exact one, is computed from what is known of its factors. Assumes
-- nothing.
use mathlib.Core.Path.{◌≡◌, refl}
use Prim.Native.Nat.{ℕ, zero, ◌+◌, ◌*◌, ◌-◌, ◌/◌, ◌≤◌, ◌<◌}
use native.Mathlib.Nat.{add-mul, mul_assoc, mul-le-mul, mul-le-mul_right, mul-pos, zero-lt-suc, lt-div-mul-add, div-mul-le_self, le-div_iff_mul-le, le_trans}
use native.Mathlib.Omega.{arith}
use lib.Dec.{lit<}
use lib.IntN.{ℤ, pos, negsuc}
use Rattle.numbers.proofs.Products.{products}
use Rattle.elements.specs.WorkingRule.{scale}
use Rattle.numbers.specs.Fractions.{Fraction, ◌⊗◌, ◌↑◌, ◌⊘◌}
use Rattle.accuracy.proofs.Parts.{plus, minus, as_pos}
use Rattle.accuracy.proofs.Nearness.{Near, Same, near_same, near_part, near_down, near_product}
use Rattle.accuracy.proofs.Powers.{part_top, power_sum}

-- The most that a term of the rule can be, and its errors in thousandths of a unit.
pub record Bound : Type 0 where
  pub most : ℕ
  pub short : ℕ
  pub over : ℕ

-- The exact term, scaled, is at most this.
abbrev pub reach : Bound → ℕ
reach b = b.most + b.short / 1000 + 1

-- A quotient rounded up.
abbrev pub up : ℕ → ℕ → ℕ
up x m = (x + (m - 1)) / m

-- Of a product over 10⁹ × c, rounded down.
abbrev pub next : Bound → Bound → ℕ → Bound
next a b c =
    record {
      most = a.most * b.most / (scale * c);
      short = up (a.most * b.short + reach b * a.short) (scale * c) + 1000;
      over = up (a.most * b.over + reach b * a.over) (scale * c);
    }

pub record Term (q : ℕ) (v : Fraction) (b : Bound) : Type 0 where
  pub sign : minus v.top ≡ zero
  pub fits : q ≤ b.most
  pub near : Near scale (pos q) v b.short b.over

pub reaches : {q : ℕ} {v : Fraction} {b : Bound} → Term q v b → scale * plus v.top ≤ reach b * v.under
reaches {q} {v} {b} h =
    simp products
    (omega (
      arith,
      simp products at h.near.least.holds,
      h.sign,
      mul-le-mul_right v.under h.fits,
      simp products at (mul-le-mul_right v.under (below b.short)),
    ))
  where
    below : (x : ℕ) → x ≤ 1000 * (x / 1000 + 1)
    below x = omega arith

-- ---- another fraction of the same value

same_sign : {u v : Fraction} → Same u v → minus u.top ≡ zero → minus v.top ≡ zero
same_sign {u} {v} s z =
    none v.top (plus u.top * v.under) u.under v.under u.above (rw z at s.cross)
  where
    none : (t : ℤ) (a d e : ℕ) → zero < d → a + minus t * d ≡ plus t * d + zero * e → minus t ≡ zero
    none (pos n) a d e p h = refl
    none (negsuc n) a d e p h = absurd (omega (arith, mul-pos (zero-lt-suc n) p))

pub term_same : {q : ℕ} {u v : Fraction} {b : Bound} → Same u v → Term q u b → Term q v b
term_same s h = record { sign = same_sign s h.sign; fits = h.fits; near = near_same s h.near }

-- ---- products

up_enough : (x m : ℕ) → zero < m → x ≤ up x m * m
up_enough x m p = omega (arith, lt-div-mul-add {a = x + (m - 1)} p)

up_rounded : (x m : ℕ) → zero < m → x + 1000 * m ≤ (up x m + 1000) * m
up_rounded x m p = rw (add-mul (up x m) 1000 m) (omega (arith, up_enough x m p))

module _ {p q : ℕ} {u v : Fraction} {a b : Bound} (c : ℕ) (above : zero < c) (h : Term p u a) (k : Term q v b) where
  m : ℕ
  m = scale * c

  m_above : zero < m
  unfolding m
  m_above = mul-pos (lit< tt) above

  product_sign : minus (u ⊗ v ⊘ c).top ≡ zero
  unfolding ◌⊗◌
  product_sign = rw (part_top (u ⊗ v) above, as_pos u.top h.sign, as_pos v.top k.sign)

  -- A product over 10⁹ × c, rounded down, against the exact product over c.
  pub term_next : Term (p * q / (scale * c)) (u ⊗ v ⊘ c) (next a b c)
  unfolding m
  term_next =
      record {
        sign = product_sign;
        fits = (le-div_iff_mul-le m_above).1 (le_trans (div-mul-le_self (p * q) m) (mul-le-mul h.fits k.fits));
        near =
            near_down m _ _ m_above
            (up_rounded (a.most * b.short + reach b * a.short) m m_above)
            (up_enough (a.most * b.over + reach b * a.over) m m_above)
            (rw mul_assoc at (near_part c above (near_product a.most (reach b) h.near k.near k.sign h.fits (reaches k))));
      }

-- A term over a constant, rounded down.
abbrev pub over_constant : Bound → ℕ → Bound
over_constant b c = record { most = b.most / c; short = up b.short c + 1000; over = up b.over c }

pub near_quotient : {q : ℕ} {v : Fraction} {b : Bound} (c : ℕ) → zero < c → Term q v b
    → Near scale (pos (q / c)) (v ⊘ c) (over_constant b c).short (over_constant b c).over
near_quotient {b = b} c above h =
    near_down c _ _ above (up_rounded b.short c above) (up_enough b.over c above) (near_part c above h.near)

-- Powers of the same angle.
pub term_power : {p q : ℕ} (v : Fraction) {a b : Bound} (i j : ℕ) → minus v.top ≡ zero → Term p (v ↑ i) a → Term q (v ↑ j) b
    → Term (p * q / scale) (v ↑ (i + j)) (next a b 1)
term_power v i j sign h k = term_same (power_sum v sign i j) (term_next 1 (lit< tt) h k)
