-- Document 01's "Clerk's sums", "Straights and stations are as above, with start, distances and L as they stand, all in mm": the exact
-- stations of a line. Entry i of a line holds curve i + 1; n is the number of terms of each series.
use Rattle.std.specs.Prelude.{cond, ℕ, zero, suc, ltb}
use Rattle.line.specs.declared.Line.{Line}
use Rattle.line.specs.Checks.{distance_at, curve_at}
use Rattle.numbers.specs.Fractions.{Fraction, nat, ◌⊕◌, ◌⊖◌}
use Rattle.accuracy.specs.ExactElements.{exact_arc, exact_tangent}

-- L, D and TT of the curve at entry i.
unfoldable pub exact_spiral_at : Line → ℕ → Fraction
exact_spiral_at line i = nat (curve_at line i).spiral

unfoldable pub exact_arc_at : Line → ℕ → Fraction
exact_arc_at line i = exact_arc (curve_at line i).deflection (curve_at line i).radius (curve_at line i).spiral

unfoldable pub exact_tangent_at : ℕ → Line → ℕ → Fraction
exact_tangent_at n line i = exact_tangent n (curve_at line i).deflection (curve_at line i).radius (curve_at line i).spiral

-- "the TT of the curves at its ends": there is none before distance 0, and none after the last.
unfoldable pub exact_tangent_before : ℕ → Line → ℕ → Fraction
exact_tangent_before n line zero = nat 0
exact_tangent_before n line (suc i) = exact_tangent_at n line i

unfoldable pub exact_tangent_after : ℕ → Line → ℕ → Fraction
exact_tangent_after n line i = cond (ltb i line.count) (exact_tangent_at n line i) (nat 0)

-- "A straight is its distance less the TT of the curves at its ends."
unfoldable pub exact_straight_at : ℕ → Line → ℕ → Fraction
exact_straight_at n line i = nat (distance_at line i) ⊖ exact_tangent_before n line i ⊖ exact_tangent_after n line i

-- The stations of a curve's four points.
pub record ExactPoints : Type 0 where
  pub TS : Fraction
  pub SC : Fraction
  pub CS : Fraction
  pub ST : Fraction

-- "TS = former ST .. + the straight; SC = TS + L; CS = SC + D; ST = CS + L"
abbrev pub exact_points_from : Fraction → Fraction → Fraction → Fraction → ExactPoints
exact_points_from former straight L D =
    let TS = former ⊕ straight in
    let SC = TS ⊕ L in
    let CS = SC ⊕ D in
    let ST = CS ⊕ L in
    record { TS = TS; SC = SC; CS = CS; ST = ST }

-- The ST before distance i, "at first the start".
unfoldable pub exact_former_st : ℕ → Line → ℕ → Fraction
exact_former_st n line zero = nat line.start
exact_former_st n line (suc i) =
    (exact_points_from (exact_former_st n line i) (exact_straight_at n line i) (exact_spiral_at line i) (exact_arc_at line i)).ST

-- The points of the curve at entry i.
unfoldable pub exact_points_at : ℕ → Line → ℕ → ExactPoints
exact_points_at n line i =
    exact_points_from (exact_former_st n line i) (exact_straight_at n line i) (exact_spiral_at line i) (exact_arc_at line i)

-- "end = last ST + last straight"
unfoldable pub exact_end : ℕ → Line → Fraction
exact_end n line = exact_former_st n line line.count ⊕ exact_straight_at n line line.count
