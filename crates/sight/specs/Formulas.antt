-- Source document 001's formulas, in fractions: the stopping distance Dp, and the least length of a vertical curve, in m, with A in percent.
use Rattle.std.specs.Prelude.{◌≡◌, Bool, true, List, [], ◌∷◌, ℕ, ◌*◌, ◌≤◌, ◌<◌, nat_abs, neg_ℤ}
use Rattle.numbers.specs.Whole.{down}
use Rattle.numbers.specs.Fractions.{Fraction, nat, ◌⊕◌, ◌⊖◌, ◌⊗◌, ◌⊘◌, ◌↑◌, ratio, ◌≼◌}
use Rattle.line.specs.Speeds.{speeds, under_speed}

-- "Coeficiente de atrito longitudinal", in hundredths, 40 to 120 km/h; document 02: "Speed 110, not in its table, takes 0.25."
abbrev pub frictions_along : List ℕ
frictions_along = 37 ∷ 35 ∷ 33 ∷ 31 ∷ 30 ∷ 29 ∷ 28 ∷ 25 ∷ 25 ∷ []

-- Dp = 0,7 V + V² / (255 (f + i)), "at level grade": i is 0
unfoldable pub stopping : ℕ → Fraction
stopping v = nat 7 ⊗ nat v ⊘ 10 ⊕ ratio (nat v ↑ 2) (nat 255 ⊗ nat (under_speed v speeds frictions_along) ⊘ 100)

-- The least whole number that is not below a fraction, itself not below zero: minus the quotient of minus its top, rounded down.
unfoldable pub rounded_up : Fraction → ℕ
rounded_up u = nat_abs (neg_ℤ (down (neg_ℤ u.top) u.under))

-- "rounded up to a metre"
unfoldable pub stopping_distance : ℕ → ℕ
stopping_distance v = rounded_up (stopping v)

-- "1º Caso", Dp ≤ L: Lmin = Dp² / K × A
unfoldable pub first_case : (D : ℕ) (A K : Fraction) → Fraction
first_case D A K = ratio (nat D ↑ 2) K ⊗ A

-- "2º Caso", Dp > L: Lmin = 2 Dp − K / A
unfoldable pub second_case : (D : ℕ) (A K : Fraction) → Fraction
second_case D A K = nat 2 ⊗ nat D ⊖ ratio K A

-- K is 412 on a crest, 122 + 3,5 Dp in a sag.
abbrev pub on_crest : Fraction
on_crest = nat 412

unfoldable pub in_sag : ℕ → Fraction
in_sag D = nat 122 ⊕ nat 35 ⊘ 10 ⊗ nat D

-- "L_min = comprimento mínimo da curva vertical (m)", of mm; "A = diferença algébrica de rampas (%)", of millionths
abbrev pub metres : ℕ → Fraction
metres L = nat L ⊘ 1000

abbrev pub percent : ℕ → Fraction
percent g = nat g ⊘ 10000

-- A test of a curve's length passes exactly where the curve has the least length of the formula, by the case that its length calls for.
pub record Published (test : Bool) (D L change : ℕ) (K : Fraction) : Type 0 where
  pub first : 1000 * D ≤ L
      → (test ≡ true → first_case D (percent change) K ≼ metres L) × (first_case D (percent change) K ≼ metres L → test ≡ true)
  pub second : L < 1000 * D
      → (test ≡ true → second_case D (percent change) K ≼ metres L) × (second_case D (percent change) K ≼ metres L → test ≡ true)
