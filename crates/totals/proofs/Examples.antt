-- The totals of document 01's cases 1, 3 and 9, of a line from 1 m whose second curve has no spirals, from the greatest start, and of 64 curves,
-- from the definitions. Assumes nothing.
use mathlib.Core.Path.{◌≡◌, refl}
use mathlib.Core.Bool.{true}
use mathlib.Core.List.{[], ◌∷◌}
use Prim.Native.Nat.{ℕ}
use lib.IntN.{pos}
use lib.ListN.{replicate}
use Rattle.refusals.specs.Outcomes.{first_of}
use Rattle.refusals.specs.Replying.{Reply, answered, declined, reply}
use Rattle.line.specs.declared.Curve.{Curve}
use Rattle.line.specs.declared.Line.{Line}
use Rattle.line.specs.Checks.{start_check, head_checks, distance_check, curve_checks, body_checks, field_checks}
use Rattle.elements.specs.WorkingRule.{rounded, full_angle, half_angle, spiral_angle, term, alternating, sine_of, cosine_of, t2, t3, t4, t5, t6, unit_x, unit_y, spiral_x, spiral_y, centre_of, shift_of, arc_of, tan_of, tangent_of}
use Rattle.elements.specs.Answer.{arc_check}
use Rattle.line.specs.Speeds.{under_speed}
use Rattle.stationing.specs.RoadTables.{friction_at, least_spiral_at, radius_serves, spiral_serves}
use Rattle.stationing.specs.Stations.{spiral_at, arc_at, tangent_at, tangent_before, tangent_after, straight_at}
use Rattle.stationing.specs.Answer.{design_checks, design_checks_at, straight_check, alignment_checks}
use Rattle.stationing.specs.LineElements.{elements_from, elements_of, total}
use Rattle.stationing.proofs.Examples.{case_line, no_curve_from, line_of}
use Rattle.totals.specs.Totals.{of_kind, TotalValues, totals_of, totals_by, totals_reply}

-- Totals that are answered.
abbrev found : (straights spirals arcs sum : ℕ) → Reply TotalValues
found straights spirals arcs sum =
    answered (record { straights = pos straights; spirals = pos spirals; arcs = pos arcs; sum = pos sum })

abbrev curve : (A R L : ℕ) → Curve
curve A R L = record { left = true; deflection = A; radius = R; spiral = L }

-- V 70, e 8, start 1,000 mm; case 1's curve, and one without spirals.
abbrev two : Line
two =
    record {
      speed = 70;
      crossfall = 8;
      start = 1000;
      count = 2;
      distances = 500000 ∷ 500000 ∷ 500000 ∷ [];
      curves = curve 177764 350000 40000 ∷ curve 100000 350000 0 ∷ [];
    }

-- As many curves as there can be.
abbrev full : Line
full = line_of 64 (replicate 65 500000) (replicate 64 (curve 100000 350000 40000))

pub record Examples : Type 0 where
  pub case_1 : totals_reply (case_line 500000 350000 40000) ≡ found 538021440 80000000 261638467 879659907
  pub case_3 : totals_reply (case_line 180990 350000 40000) ≡ declined 15 0
  pub case_9 : totals_reply (no_curve_from 0) ≡ found 500000000 0 0 500000000
  pub greatest_start_lem : totals_reply (no_curve_from 4000000000) ≡ found 500000000 0 0 500000000
  pub two_curves_lem : totals_reply two ≡ found 964933010 80000000 431323255 1476256265
  pub full_line_lem : totals_reply full ≡ found 18856590976 5120000000 8299826432 32276417408

pub examples : Examples
unfolding first_of start_check head_checks distance_check curve_checks body_checks field_checks rounded full_angle half_angle spiral_angle term alternating sine_of cosine_of t2 t3 t4 t5 t6 unit_x unit_y spiral_x spiral_y centre_of shift_of arc_of tan_of tangent_of arc_check under_speed friction_at least_spiral_at radius_serves spiral_serves spiral_at arc_at tangent_at tangent_before tangent_after straight_at design_checks design_checks_at straight_check alignment_checks elements_from elements_of total of_kind totals_of totals_by reply totals_reply
examples = record { case_1 = refl; case_3 = refl; case_9 = refl; greatest_start_lem = refl; two_curves_lem = refl; full_line_lem = refl }
