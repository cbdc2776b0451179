-- Document 01's bounds between rule and exact values, element by element. Assumes nothing.
use mathlib.Core.Path.{◌≡◌}
use Prim.Native.Nat.{ℕ, ◌+◌, ◌*◌, ◌≤◌}
use native.Mathlib.Nat.{mul-one, one-mul, mul_assoc}
use native.Mathlib.Omega.{arith}
use lib.Dec.{lit≤}
use lib.IntN.{ℤ, pos, ◌-ℤ◌, ◌*ℤ◌}
use lib.Signed.{◌≤ℤ◌}
use Rattle.line.specs.Ranges.{CurveInRange}
use Rattle.numbers.specs.Fractions.{Fraction, whole, ◌⊖◌, ◌⊗◌}
use Rattle.accuracy.specs.ExactElements.{document_terms}
use Rattle.accuracy.specs.Accuracy.{Within, spiral_tolerance, ElementsWithin}
use Rattle.accuracy.proofs.Parts.{plus, minus, plus_times, minus_times, times_plus, times_minus, difference_parts, le_parts}
use Rattle.accuracy.proofs.Nearness.{Near, loosen}
use Rattle.accuracy.proofs.NearElements.{near_x, near_y, near_k, near_p, near_d}
use Rattle.accuracy.proofs.Tangent.{near_tt}

ruleset parts = (plus_times, minus_times, times_plus, times_minus, one-mul, mul-one)

-- ---- from nearness in thousandths of a µm to a bound in µm

less_le : (a b : ℤ) (e : ℕ) → plus a + minus b ≤ minus a + plus b + e → ((a -ℤ b) *ℤ pos 1) ≤ℤ pos e
less_le a b e h =
    le_parts ((a -ℤ b) *ℤ pos 1) (pos e) (omega (arith, plus_times (a -ℤ b) 1, minus_times (a -ℤ b) 1, difference_parts a b))

pub within : {q : ℤ} {v : Fraction} {x y : ℕ} (e : ℕ) → Near 1000 q v x y → x ≤ 1000 * e → y ≤ 1000 * e → Within e q v
unfolding ◌⊖◌ ◌⊗◌ whole
within {q} {v} e n f g =
    record {
      over =
          record { cross = less_le (q *ℤ pos (1 * d)) (pos 1000 *ℤ v.top *ℤ pos 1) (e * (1 * (1 * d))) (simp parts (omega (arith, h.most, rate))) };
      short =
          record { cross = less_le (pos 1000 *ℤ v.top *ℤ pos 1) (q *ℤ pos (1 * d)) (e * (1 * d * 1)) (simp parts (omega (arith, h.least, rate))) };
    }
  where
    d : ℕ
    d = v.under

    h : Near 1000 q v (1000 * e) (1000 * e)
    h = loosen f g n

    rate : 1000 * e * d ≡ 1000 * (e * d)
    rate = mul_assoc 1000 e d

-- ---- the elements

-- With seven terms of the series or more.
pub elements_within : (n A R L : ℕ) → 7 ≤ n → CurveInRange A R L → ElementsWithin n A R L
elements_within n A R L seven ok =
    record {
      X = within spiral_tolerance (near_x A R L ok) (lit≤ tt) (lit≤ tt);
      Y = within spiral_tolerance (near_y A R L ok) (lit≤ tt) (lit≤ tt);
      k = within 30 (near_k A R L ok n seven) (lit≤ tt) (lit≤ tt);
      p = within 30 (near_p A R L ok n seven) (lit≤ tt) (lit≤ tt);
      D = within 6 (near_d A R L ok) (lit≤ tt) (lit≤ tt);
      TT = within 300 (near_tt A R L ok n seven) (lit≤ tt) (lit≤ tt);
    }

-- With document 01's.
pub document_elements_within : (A R L : ℕ) → CurveInRange A R L → ElementsWithin document_terms A R L
document_elements_within A R L ok = elements_within document_terms A R L (lit≤ tt) ok
