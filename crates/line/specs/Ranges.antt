-- The ranges of a line's fields as facts (document 01, "The line"), and when two lines are alike where they are used.
use Rattle.std.specs.Prelude.{◌≡◌, ℕ, ◌%◌, ◌≤◌, ◌<◌}
use Rattle.line.specs.declared.Line.{Line}
use Rattle.line.specs.Checks.{greatest_start, distance_at, curve_at}

-- A deflection A, a radius R and a spiral length L that pass 9 to 11.
pub record CurveInRange (A R L : ℕ) : Type 0 where
  pub A-least : 1 ≤ A
  pub A-most : A ≤ 432000
  pub R-least : 20000 ≤ R
  pub R-most : R ≤ 5000000
  pub L-most : L ≤ 500000
  pub L-to-R : L ≤ R

-- A line whose fields pass 3 to 6 and 8 to 11, its start up to the greatest.
pub record FieldsInRange (greatest : ℕ) (line : Line) : Type 0 where
  pub few : line.count ≤ 64
  pub speed_least : 40 ≤ line.speed
  pub speed_most : line.speed ≤ 120
  pub speed_tens : line.speed % 10 ≡ 0
  pub crossfall_least : 2 ≤ line.crossfall
  pub crossfall_most : line.crossfall ≤ 12
  pub start_most : line.start ≤ greatest
  pub distance_least : (i : ℕ) → i ≤ line.count → 1 ≤ distance_at line i
  pub distance_most : (i : ℕ) → i ≤ line.count → distance_at line i ≤ 20000000
  pub curve : (i : ℕ) → i < line.count → CurveInRange (curve_at line i).deflection (curve_at line i).radius (curve_at line i).spiral

-- A line that passes them where lines are worked on.
abbrev pub LineInRange : Line → Type 0
LineInRange line = FieldsInRange greatest_start line

-- Two lines with the same fields and the same used entries, the sides of the curves apart.
pub record AlikeWhereUsed (l m : Line) : Type 0 where
  pub speed : l.speed ≡ m.speed
  pub crossfall : l.crossfall ≡ m.crossfall
  pub start : l.start ≡ m.start
  pub count : l.count ≡ m.count
  pub distance : (i : ℕ) → i ≤ l.count → distance_at l i ≡ distance_at m i
  pub deflection : (i : ℕ) → i < l.count → (curve_at l i).deflection ≡ (curve_at m i).deflection
  pub radius : (i : ℕ) → i < l.count → (curve_at l i).radius ≡ (curve_at m i).radius
  pub spiral : (i : ℕ) → i < l.count → (curve_at l i).spiral ≡ (curve_at m i).spiral
