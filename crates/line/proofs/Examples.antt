-- The order and the places of a line's first refusal, at full length: each example has faults that come later beside the one that counts.
-- Assumes nothing.
use mathlib.Core.Path.{◌≡◌, refl}
use mathlib.Core.Bool.{false}
use mathlib.Core.List.{List, [], ◌∷◌, ◌++◌}
use Prim.Native.Nat.{ℕ}
use lib.ListN.{replicate}
use Rattle.refusals.specs.Outcomes.{passed, refused}
use Rattle.refusals.specs.Order.{◌⨾◌, outcome}
use Rattle.line.specs.declared.Curve.{Curve}
use Rattle.line.specs.declared.Line.{Line}
use Rattle.line.specs.Entries.{line_after}
use Rattle.line.specs.Checks.{start_check, head_checks, distance_check, curve_checks, body_checks, field_checks, line_checks}

-- A curve with radius R and spiral length L.
abbrev curve : ℕ → ℕ → ℕ → Curve
curve A R L = record { left = false; deflection = A; radius = R; spiral = L }

-- A line of n curves at 70 km/h.
abbrev line_of : ℕ → ℕ → List ℕ → List Curve → Line
line_of n start distances curves =
    record { speed = 70; crossfall = 8; start = start; count = n; distances = distances; curves = curves }

abbrev good : Curve
good = curve 177764 350000 40000

abbrev bad : Curve
bad = curve 0 0 1

pub record Examples : Type 0 where
  pub full_line_lem : outcome (line_checks (line_of 64 0 (replicate 65 500000) (replicate 64 good))) ≡ passed
  pub distance_64 : outcome (line_checks (line_of 64 0 (replicate 64 500000 ++ (0 ∷ [])) (replicate 64 good))) ≡ refused 8 64
  pub curve_64 : outcome (line_checks (line_of 64 0 (replicate 64 500000 ++ (0 ∷ [])) (replicate 63 good ++ (curve 1 350000 350001 ∷ [])))) ≡ refused 11 64
  pub distance_before_curve : outcome (line_checks (line_of 64 0 (replicate 65 0) (replicate 64 bad))) ≡ refused 8 0
  pub deflection_before_radius : outcome (line_checks (line_of 64 0 (replicate 65 500000) (replicate 64 bad))) ≡ refused 9 1
  pub start_before_distance : outcome (line_checks (line_of 64 4000000001 (replicate 65 0) (replicate 64 bad))) ≡ refused 6 0
  pub count_before_start : outcome (line_checks (line_of 65 4000000001 (replicate 65 0) (replicate 64 bad))) ≡ refused 3 0
  pub after_a_refusal : line_after (refused 8 0) (line_of 1 0 (1 ∷ replicate 64 0) (replicate 64 good))
      ≡ record { speed = 0; crossfall = 0; start = 0; count = 0; distances = replicate 65 0; curves = replicate 64 (curve 0 0 0) }
  pub greatest_start_lem : outcome (line_checks (line_of 64 4000000000 (replicate 65 500000) (replicate 64 good))) ≡ passed
  pub other_greatest : outcome (field_checks 200000000 (line_of 64 200000001 (replicate 65 0) (replicate 64 bad))) ≡ refused 6 0
  pub greatest_fields : outcome (head_checks 200000000 64 120 12 200000000 ⨾ distance_check 20000000 64 ⨾ curve_checks 432000 5000000 500000 64) ≡ passed
  pub least_fields : outcome (head_checks 0 0 40 2 0 ⨾ distance_check 1 0 ⨾ curve_checks 1 20000 20000 1) ≡ passed
  pub radius_before_spiral : outcome (curve_checks 1 19999 500001 7) ≡ refused 10 7
  pub unused_entries : outcome (line_checks (line_of 0 0 (1 ∷ replicate 64 0) (replicate 64 bad))) ≡ passed

pub examples : Examples
unfolding start_check head_checks distance_check curve_checks body_checks field_checks
examples =
    record {
      full_line_lem = refl;
      distance_64 = refl;
      curve_64 = refl;
      distance_before_curve = refl;
      deflection_before_radius = refl;
      start_before_distance = refl;
      count_before_start = refl;
      after_a_refusal = refl;
      greatest_start_lem = refl;
      other_greatest = refl;
      greatest_fields = refl;
      least_fields = refl;
      radius_before_spiral = refl;
      unused_entries = refl;
    }
