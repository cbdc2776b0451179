-- Lines and their numbers by computation: what they spell, and the order of refusals. Assumes nothing.
use mathlib.Core.Path.{◌≡◌, refl}
use mathlib.Core.Bool.{true, false}
use mathlib.Core.List.{List, [], ◌∷◌, ◌++◌}
use Prim.Native.Nat.{ℕ}
use lib.ListN.{replicate}
use Rattle.refusals.specs.Outcomes.{passed, refused}
use Rattle.refusals.specs.Order.{outcome}
use Rattle.line.specs.declared.Curve.{Curve}
use Rattle.line.specs.declared.Line.{Line}
use Rattle.line.specs.Checks.{start_check, head_checks, distance_check, curve_checks, body_checks, field_checks, blank_curve}
use Rattle.line.specs.Entries.{entries}
use Rattle.line_numbers.specs.Numbers.{numbers_to, line_numbers, few_check, turn_of, curve_of, line_of, count_check, numbers_checks}

-- n, V, e, start, distance 0
abbrev head : ℕ → ℕ → List ℕ
head n distance = n ∷ 70 ∷ 8 ∷ 5 ∷ distance ∷ []

-- Side, A, R, L, distance: of the first curve, and of the second.
abbrev entry : ℕ → List ℕ
entry side = side ∷ 177764 ∷ 350000 ∷ 40000 ∷ 400000 ∷ []

abbrev other : ℕ → List ℕ
other side = side ∷ 36000 ∷ 500000 ∷ 0 ∷ 300000 ∷ []

-- The first curve, to the right, and the second, to the left.
abbrev curves : List Curve
curves =
    record { left = false; deflection = 177764; radius = 350000; spiral = 40000 }
    ∷ record { left = true; deflection = 36000; radius = 500000; spiral = 0 }
    ∷ []

abbrev line : ℕ → List ℕ → List Curve → Line
line n distances curves =
    record { speed = 70; crossfall = 8; start = 5; count = n; distances = distances; curves = curves }

pub record Examples : Type 0 where
  -- ---- a line of two curves; unused entries hold anything
  pub numbers : line_numbers (line 2 (500000 ∷ 400000 ∷ 300000 ∷ 7 ∷ []) (curves ++ curves)) ≡ head 2 500000 ++ entry 0 ++ other 1
  pub line_of_them : line_of (head 2 500000 ++ entry 0 ++ other 1)
      ≡ line 2 (500000 ∷ 400000 ∷ 300000 ∷ replicate 62 0) (curves ++ replicate 62 blank_curve)
  pub accepted : outcome (numbers_checks 5 (head 2 500000 ++ entry 0 ++ other 1)) ≡ passed
  pub start_beyond : outcome (numbers_checks 4 (head 2 0 ++ entry 0 ++ other 1)) ≡ refused 6 0
  pub curves_64 : outcome (few_check (line 64 [] [])) ≡ passed
  pub curves_65 : outcome (few_check (line 65 [] [])) ≡ refused 3 0
  -- ---- other than the numbers of n curves
  pub none_at_all : outcome (numbers_checks 200000000 []) ≡ refused 3 0
  pub cut_short : outcome (numbers_checks 200000000 (head 2 0 ++ entry 0 ++ (1 ∷ 36000 ∷ 500000 ∷ 0 ∷ []))) ≡ refused 3 0
  pub one_more : outcome (numbers_checks 200000000 (head 2 0 ++ entry 0 ++ other 1 ++ (0 ∷ []))) ≡ refused 3 0
  pub curve_not_counted : outcome (numbers_checks 200000000 (head 1 500000 ++ entry 0 ++ other 1)) ≡ refused 3 0
  pub over_64 : outcome (count_check (head 65 500000 ++ replicate 325 1)) ≡ refused 3 0
  -- ---- a side other than 0 and 1, in sheet order
  pub side_2 : outcome (numbers_checks 200000000 (head 2 500000 ++ entry 0 ++ other 2)) ≡ refused 9 2
  pub distance_before_side : outcome (numbers_checks 200000000 (head 2 0 ++ entry 2 ++ other 0)) ≡ refused 8 0

pub examples : Examples
unfolding numbers_to line_numbers entries turn_of curve_of line_of count_check numbers_checks start_check head_checks distance_check curve_checks body_checks field_checks
examples =
    record {
      numbers = refl;
      line_of_them = refl;
      accepted = refl;
      start_beyond = refl;
      curves_64 = refl;
      curves_65 = refl;
      none_at_all = refl;
      cut_short = refl;
      one_more = refl;
      curve_not_counted = refl;
      over_64 = refl;
      side_2 = refl;
      distance_before_side = refl;
    }
