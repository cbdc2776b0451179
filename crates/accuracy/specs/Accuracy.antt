-- Demand 3: what is claimed of the calculator's answer and row, held against the exact values with n terms of each series.
use Rattle.std.specs.Prelude.{◌≡◌, List, ℕ, suc, ◌+◌, ◌*◌, ◌≤◌, ◌<◌, ℤ, pos, get_or}
use Rattle.refusals.specs.Filling.{filled, unfilled, Fill}
use Rattle.line.specs.declared.Line.{Line}
use Rattle.elements.specs.WorkingRule.{spiral_x, spiral_y, centre_of, shift_of, arc_of, tangent_of}
use Rattle.numbers.specs.Fractions.{Fraction, whole, nat, ◌⊖◌, ◌⊗◌, ◌⊘◌, ◌≼◌, ◌≺◌}
use Rattle.accuracy.specs.ExactElements.{exact_x, exact_y, exact_centre, exact_shift, exact_arc, exact_tangent}
use Rattle.accuracy.specs.ExactStations.{exact_arc_at, exact_straight_at, exact_former_st, exact_points_at, exact_end}

-- "Each number .. is held against 1,000 times the clerk's": q µm and v mm differ by at most e µm, either way.
pub record Within (e : ℕ) (q : ℤ) (v : Fraction) : Type 0 where
  pub over : whole q ⊖ nat 1000 ⊗ v ≼ nat e
  pub short : nat 1000 ⊗ v ⊖ whole q ≼ nat e

-- ---- one curve

-- "Bounds for X and Y become 3 µm" (document 02, N7)
abbrev pub spiral_tolerance : ℕ
spiral_tolerance = 3

-- "Bounds between rule and clerk: .. k, p 30; D 6; TT 300."
pub record ElementsWithin (n A R L : ℕ) : Type 0 where
  pub X : Within spiral_tolerance (spiral_x R L) (exact_x R L)
  pub Y : Within spiral_tolerance (spiral_y R L) (exact_y R L)
  pub k : Within 30 (centre_of R L) (exact_centre n R L)
  pub p : Within 30 (shift_of R L) (exact_shift n R L)
  pub D : Within 6 (arc_of A R L) (exact_arc A R L)
  pub TT : Within 300 (tangent_of A R L) (exact_tangent n A R L)

-- ---- an accepted line

-- "those of curve i lie within 700 × i µm either way, the end within 700 × n"
abbrev pub tolerance : ℕ → ℕ
tolerance i = 700 * i

-- The four numbers that a row holds of the curve at entry i, which is curve i + 1.
pub record CurveWithin (n : ℕ) (line : Line) (row : List ℕ) (i : ℕ) : Type 0 where
  pub TS : Within (tolerance (suc i)) (pos (get_or row (4 * i) 0)) (exact_points_at n line i).TS
  pub SC : Within (tolerance (suc i)) (pos (get_or row (4 * i + 1) 0)) (exact_points_at n line i).SC
  pub CS : Within (tolerance (suc i)) (pos (get_or row (4 * i + 2) 0)) (exact_points_at n line i).CS
  pub ST : Within (tolerance (suc i)) (pos (get_or row (4 * i + 3) 0)) (exact_points_at n line i).ST

-- Those of every curve, and the end.
pub record RowWithin (n : ℕ) (line : Line) (row : List ℕ) : Type 0 where
  pub curve : (i : ℕ) → i < line.count → CurveWithin n line row i
  pub end : Within (tolerance line.count) (pos (get_or row (4 * line.count) 0)) (exact_end n line)

-- Tenths of a mm.
abbrev pub tenths : ℕ → Fraction
tenths k = nat k ⊘ 10

-- "the clerk's straights are longer than 0.4 mm and his arcs than 0.9 mm"
abbrev pub least_straight : ℕ
least_straight = 4

abbrev pub least_arc : ℕ
least_arc = 9

-- From the ST before distance i over the points of the next curve, the exact stations never go back.
pub record Forward (n : ℕ) (line : Line) (i : ℕ) : Type 0 where
  pub TS : exact_former_st n line i ≼ (exact_points_at n line i).TS
  pub SC : (exact_points_at n line i).TS ≼ (exact_points_at n line i).SC
  pub CS : (exact_points_at n line i).SC ≼ (exact_points_at n line i).CS
  pub ST : (exact_points_at n line i).CS ≼ (exact_points_at n line i).ST

-- Straights and arcs are that long; the stations go on from the start to the end; and no two curves overlap: each ST comes before the next TS.
pub record InExactOrder (n : ℕ) (line : Line) : Type 0 where
  pub straight : (i : ℕ) → i ≤ line.count → tenths least_straight ≺ exact_straight_at n line i
  pub arc : (i : ℕ) → i < line.count → tenths least_arc ≺ exact_arc_at line i
  pub curve : (i : ℕ) → i < line.count → Forward n line i
  pub end : exact_former_st n line line.count ≼ exact_end n line
  pub apart : (i : ℕ) → suc i < line.count → (exact_points_at n line i).ST ≺ (exact_points_at n line (suc i)).TS

-- ---- a refused line

-- "lines refused 15 or 14 have by the clerk a straight below 1.6 mm, an arc below 1.1 mm, at the place named"
abbrev pub refused_straight : ℕ
refused_straight = 16

abbrev pub refused_arc : ℕ
refused_arc = 11

-- The place is the index of the distance,
pub record ShortStraight (n : ℕ) (line : Line) (place : ℕ) : Type 0 where
  pub inside : place ≤ line.count
  pub short : exact_straight_at n line place ≺ tenths refused_straight

-- or the number of the curve, which stands at the entry before.
pub record ShortArc (line : Line) (place : ℕ) : Type 0 where
  pub entry : ℕ
  pub named : place ≡ suc entry
  pub inside : entry < line.count
  pub short : exact_arc_at line entry ≺ tenths refused_arc

-- ---- demand 3, for a line and a call of the calculator: its reply, and what the row then holds

-- Where it replies its count, the numbers in the row are near the exact stations, and these are in order; where it refuses with 15 or 14, the
-- straight or arc at the place it names is short by the exact values too.
pub record Accurate (n : ℕ) (line : Line) (call : Fill ℕ) : Type 0 where
  pub stations : {count : ℕ} → call.reply ≡ filled count → RowWithin n line call.buffer
  pub order : {count : ℕ} → call.reply ≡ filled count → InExactOrder n line
  pub short_straight : {place : ℕ} → call.reply ≡ unfilled 15 place → ShortStraight n line place
  pub short_arc_lem : {place : ℕ} → call.reply ≡ unfilled 14 place → ShortArc line place
