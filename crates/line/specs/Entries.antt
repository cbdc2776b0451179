-- The used and the unused entries of a line, and a side as a number (document 01, "The line" and "Packed sheet").
use Rattle.std.specs.Prelude.{Bool, true, false, List, [], ◌∷◌, ℕ, zero, suc, replicate}
use Rattle.refusals.specs.Outcomes.{Outcome, passed, refused}
use Rattle.line.specs.declared.Curve.{Curve}
use Rattle.line.specs.declared.Line.{Line}
use Rattle.line.specs.Checks.{distance_at, blank_curve, curve_at}

-- "side (0 right, 1 left ..)"
abbrev pub side_bit : Bool → ℕ
side_bit false = 0
side_bit true = 1

-- `size` entries: the first `used` are f 0, f 1, .., the others `blank`.
unfoldable pub entries : {A : Type 0} → ℕ → ℕ → (ℕ → A) → A → List A
entries size zero f blank = replicate size blank
entries zero (suc used) f blank = []
entries (suc size) (suc used) f blank = f 0 ∷ entries size used (λ i. f (suc i)) blank

-- A line without curves whose fields are all zero.
abbrev pub blank_line : Line
blank_line =
    record { speed = 0; crossfall = 0; start = 0; count = 0; distances = replicate 65 0; curves = replicate 64 blank_curve }

-- The line beside the outcome of the checks: after a refusal all its fields are zero (docs/DECISIONS.md).
abbrev pub line_after : Outcome → Line → Line
line_after passed line = line
line_after (refused number place) line = blank_line

-- The line with other distances and curves in its entries.
abbrev pub entered : Line → List ℕ → List Curve → Line
entered line distances curves =
    record {
      speed = line.speed;
      crossfall = line.crossfall;
      start = line.start;
      count = line.count;
      distances = distances;
      curves = curves;
    }

-- "comes back with its unused entries zero": the line with the used entries alone
unfoldable pub cleared : Line → Line
cleared line =
    entered line (entries 65 (suc line.count) (distance_at line) 0) (entries 64 line.count (curve_at line) blank_curve)
