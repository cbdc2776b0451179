-- Alternating sums: the errors of a sum are computed from those of its terms, and whatever number of further terms the exact sum has adds
-- next to nothing, since each is at most half of the one before. Assumes nothing.
use mathlib.Core.Path.{◌≡◌}
use mathlib.Core.Bool.{Bool, true, false, cond}
use Prim.Native.Nat.{ℕ, zero, suc, ◌+◌, ◌*◌, ◌%◌, ◌≤◌, ◌<◌}
use native.Mathlib.Nat.{mul-le-mul_left, zero-add, add-zero, add-suc, le_of_mul-le-mul_right}
use native.Mathlib.Omega.{arith}
use lib.Dec.{eqb}
use lib.IntN.{ℤ, pos, ◌+ℤ◌, ◌-ℤ◌}
use Rattle.numbers.proofs.Products.{products}
use Rattle.elements.specs.WorkingRule.{scale, alternating}
use Rattle.numbers.specs.Fractions.{Fraction, ◌⊕◌, ◌⊖◌}
use Rattle.accuracy.specs.ExactElements.{alternating_sum}
use Rattle.accuracy.proofs.Parts.{plus, minus}
use Rattle.accuracy.proofs.Nearness.{Side, Near, difference_top, sum_top, near_nat, near_sum, near_difference}
use Rattle.accuracy.proofs.Terms.{Bound, Term}

-- ---- the terms that the rule has

-- Errors of a sum, in thousandths of a unit.
pub record Errors : Type 0 where
  pub short : ℕ
  pub over : ℕ

-- With one term more: a term that is taken away is short where the sum is over.
abbrev with_term : Bool → Errors → Bound → Errors
with_term true e b = record { short = e.short + b.over; over = e.over + b.short }
with_term false e b = record { short = e.short + b.short; over = e.over + b.over }

-- Of the terms 0 to j.
abbrev pub errors : (ℕ → Bound) → ℕ → Errors
errors b zero = record { short = (b 0).short; over = (b 0).over }
errors b (suc j) = with_term (eqb (suc j % 2) 1) (errors b j) (b (suc j))

near_term : (away : Bool) {a : ℤ} {q : ℕ} {u v : Fraction} (e : Errors) (b : Bound) → Near scale a u e.short e.over → Term q v b
    → Near scale (cond away (a -ℤ pos q) (a +ℤ pos q)) (cond away (u ⊖ v) (u ⊕ v)) (with_term away e b).short (with_term away e b).over
near_term true e b h t = near_difference h t.near
near_term false e b h t = near_sum h t.near

pub near_alternating : (q : ℕ → ℕ) (v : ℕ → Fraction) (b : ℕ → Bound) → ((j : ℕ) → Term (q j) (v j) (b j)) → (j : ℕ)
    → Near scale (alternating q j) (alternating_sum v (suc j)) (errors b j).short (errors b j).over
unfolding alternating alternating_sum
near_alternating q v b terms zero = simp zero-add at (near_sum (near_nat scale 0) (terms 0).near)
near_alternating q v b terms (suc j) =
    near_term (eqb (suc j % 2) 1) (errors b j) (b (suc j)) (near_alternating q v b terms j) (terms (suc j))

-- ---- further exact terms

-- One side of nearness at scale 10⁹, with room for twice the term t over e.
record RoomySide (a1 a2 v1 v2 d t e x : ℕ) : Type 0 where
  holds : 1000 * (a1 * d + scale * v2) * e + 2000 * (scale * t * d) ≤ (1000 * (a2 * d + scale * v1) + x * d) * e

-- q is near v, and still is where v moves by twice t, either way.
record Roomy (q : ℤ) (v t : Fraction) (short over : ℕ) : Type 0 where
  least : RoomySide (minus q) (plus q) (minus v.top) (plus v.top) v.under (plus t.top) t.under short
  most : RoomySide (plus q) (minus q) (plus v.top) (minus v.top) v.under (plus t.top) t.under over

-- One fraction is at most the g-th part of another, neither below zero.
pub record Smaller (g : ℕ) (u v : Fraction) : Type 0 where
  pub part : g * plus u.top * v.under ≤ plus v.top * u.under

-- The next sum, w over d × e, differs by t at the most; so there is room for twice t', at most half of t.
next_side : {a1 a2 v1 v2 d t e w1 w2 t' e' x : ℕ} → w2 + v1 * e ≤ v2 * e + t * d + w1 → 2 * t' * e ≤ t * e'
    → RoomySide a1 a2 v1 v2 d t e x → RoomySide a1 a2 w1 w2 (d * e) t' e' x
next_side {d = d} {e' = e'} w f h =
    record {
      holds =
          simp products
          (omega (
            arith,
            simp products at (mul-le-mul_left e' h.holds),
            simp products at (mul-le-mul_left (scale * e') w),
            simp products at (mul-le-mul_left (scale * d) f),
          ));
    }

-- The next sum has room for the next term, whether this one is added or taken away.
roomy_next : {q : ℤ} {v t t' : Fraction} {x y : ℕ} → minus t.top ≡ zero → Smaller 2 t' t → Roomy q v t x y → (away : Bool)
    → Roomy q (cond away (v ⊖ t) (v ⊕ t)) t' x y
unfolding ◌⊖◌ ◌⊕◌
roomy_next {v = v} {t = t} sign half h true =
    let tops = rw sign at (difference_top v t) in
    record {
      least = next_side (omega (arith, tops)) half.part h.least;
      most = next_side (omega (arith, tops)) half.part h.most;
    }
roomy_next {v = v} {t = t} sign half h false =
    let tops = rw sign at (sum_top v t) in
    record {
      least = next_side (omega (arith, tops)) half.part h.least;
      most = next_side (omega (arith, tops)) half.part h.most;
    }

first_side : {a1 a2 v1 v2 d t e x : ℕ} (T : ℕ) → 2000 * (scale * t) ≤ T * e → Side scale a1 a2 v1 v2 d x → RoomySide a1 a2 v1 v2 d t e (x + T)
first_side {d = d} {e = e} T k h =
    record {
      holds = simp products (omega (arith, simp products at (mul-le-mul_left e h.holds), simp products at (mul-le-mul_left d k)));
    }

last_side : {a1 a2 v1 v2 d t e x : ℕ} → zero < e → RoomySide a1 a2 v1 v2 d t e x → Side scale a1 a2 v1 v2 d x
last_side above h = record { holds = le_of_mul-le-mul_right (omega (arith, h)) above }

-- A sum that is near stays so with m further terms, if each term from the next on is at most half of the one before. The errors grow by T,
-- which is at least twice the next term, in thousandths of a unit.
pub near_further : (q : ℤ) (v : ℕ → Fraction) {x y : ℕ} (j T : ℕ) → ((i : ℕ) → minus (v i).top ≡ zero) → ((i : ℕ) → j ≤ i → Smaller 2 (v (suc i)) (v i))
    → 2000 * (scale * plus (v j).top) ≤ T * (v j).under → Near scale q (alternating_sum v j) x y
    → (m : ℕ) → Near scale q (alternating_sum v (j + m)) (x + T) (y + T)
unfolding alternating_sum
near_further q v {x} {y} j T signs halves small h m =
    let r = further m in
    record { least = last_side (v (j + m)).above r.least; most = last_side (v (j + m)).above r.most }
  where
    further : (m : ℕ) → Roomy q (alternating_sum v (j + m)) (v (j + m)) (x + T) (y + T)
    further zero = rw (add-zero j) (record { least = first_side T small h.least; most = first_side T small h.most })
    further (suc m) =
        rw (add-suc j m) (roomy_next (signs (j + m)) (halves (j + m) (omega arith)) (further m) (eqb ((j + m) % 2) 1))
