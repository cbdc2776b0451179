-- Document 01's "Clerk's sums" for one curve, sentence by sentence, with the terms of document 02's N7: the exact values, in fractions. The
-- deflection A is in seconds of arc, the radius R and the spiral length L in mm, and so are the elements. n is the number of terms of each series.
use Rattle.std.specs.Prelude.{cond, ℕ, zero, suc, ◌+◌, ◌*◌, ◌%◌, eqb}
use Rattle.numbers.specs.Fractions.{Fraction, nat, ◌⊕◌, ◌⊖◌, ◌⊗◌, ◌↑◌, ◌⊘◌, ratio}

-- "π is 3,141,592,653,589,793 / 10¹⁵"
unfoldable pub exact_pi : Fraction
exact_pi = nat 3141592653589793 ⊘ 1000000000000000

-- "an angle is A × π / 648,000"
unfoldable pub exact_angle : ℕ → Fraction
exact_angle A = nat A ⊗ exact_pi ⊘ 648000

-- "the half angle A × π / 1,296,000"
unfoldable pub exact_half_angle : ℕ → Fraction
exact_half_angle A = nat A ⊗ exact_pi ⊘ 1296000

-- "the spiral angle s is L / 2R"
unfoldable pub exact_spiral_angle : ℕ → ℕ → Fraction
exact_spiral_angle R L = nat L ⊘ (2 * R)

-- The first n terms, with alternating signs, first plus: those of odd index are taken away.
unfoldable pub alternating_sum : (ℕ → Fraction) → ℕ → Fraction
alternating_sum terms zero = nat 0
alternating_sum terms (suc j) = cond (eqb (j % 2) 1) (alternating_sum terms j ⊖ terms j) (alternating_sum terms j ⊕ terms j)

-- n!
unfoldable pub factorial : ℕ → ℕ
factorial zero = 1
factorial (suc n) = suc n * factorial n

-- "sine and cosine are their power series": v − v³/3! + v⁵/5! − ..
unfoldable pub exact_sine : ℕ → Fraction → Fraction
exact_sine n v = alternating_sum (λ j. v ↑ (2 * j + 1) ⊘ factorial (2 * j + 1)) n

-- 1 − v²/2! + v⁴/4! − ..
unfoldable pub exact_cosine : ℕ → Fraction → Fraction
exact_cosine n v = alternating_sum (λ j. v ↑ (2 * j) ⊘ factorial (2 * j)) n

-- "through powers 15 and 14": eight terms of each
abbrev pub document_terms : ℕ
document_terms = 8

-- "1 − s²/10 + s⁴/216" and "s/3 − s³/42", N7: less "s⁶/9360" and with "s⁵/1320": the end of the spiral of length one
abbrev pub exact_unit_x : Fraction → Fraction
exact_unit_x s = nat 1 ⊖ s ↑ 2 ⊘ 10 ⊕ s ↑ 4 ⊘ 216 ⊖ s ↑ 6 ⊘ 9360

abbrev pub exact_unit_y : Fraction → Fraction
exact_unit_y s = s ⊘ 3 ⊖ s ↑ 3 ⊘ 42 ⊕ s ↑ 5 ⊘ 1320

-- "X = L(1 − s²/10 + s⁴/216)", N7: "X now loses L × s⁶/9360"
unfoldable pub exact_x : ℕ → ℕ → Fraction
exact_x R L = nat L ⊗ exact_unit_x (exact_spiral_angle R L)

-- "Y = L(s/3 − s³/42)", N7: "and Y gains L × s⁵/1320"
unfoldable pub exact_y : ℕ → ℕ → Fraction
exact_y R L = nat L ⊗ exact_unit_y (exact_spiral_angle R L)

-- "k = X − R × sine(s)"
unfoldable pub exact_centre : ℕ → ℕ → ℕ → Fraction
exact_centre n R L = exact_x R L ⊖ nat R ⊗ exact_sine n (exact_spiral_angle R L)

-- "p = Y − R × (1 − cosine(s))"
unfoldable pub exact_shift : ℕ → ℕ → ℕ → Fraction
exact_shift n R L = exact_y R L ⊖ nat R ⊗ (nat 1 ⊖ exact_cosine n (exact_spiral_angle R L))

-- "D = R × A × π / 648,000 − L"
unfoldable pub exact_arc : ℕ → ℕ → ℕ → Fraction
exact_arc A R L = nat R ⊗ exact_angle A ⊖ nat L

-- "sine / cosine of the half angle"
unfoldable pub exact_tan : ℕ → ℕ → Fraction
exact_tan n A = ratio (exact_sine n (exact_half_angle A)) (exact_cosine n (exact_half_angle A))

-- "TT = k + (R + p) × sine / cosine of the half angle"
unfoldable pub exact_tangent : ℕ → ℕ → ℕ → ℕ → Fraction
exact_tangent n A R L = exact_centre n R L ⊕ (nat R ⊕ exact_shift n R L) ⊗ exact_tan n A
