-- The lengths of document 01's case 1, from the definitions. Assumes nothing.
use mathlib.Core.Path.{◌≡◌, refl}
use mathlib.Core.List.{[], ◌∷◌}
use lib.IntN.{pos}
use lib.ListN.{take}
use Rattle.line.specs.Entries.{entries}
use Rattle.elements.specs.WorkingRule.{rounded, full_angle, half_angle, spiral_angle, term, alternating, sine_of, cosine_of, t2, t3, t4, t5, t6, unit_x, unit_y, spiral_x, spiral_y, centre_of, shift_of, arc_of, tan_of, tangent_of}
use Rattle.stationing.specs.Stations.{arc_at, tangent_at, tangent_before, tangent_after, straight_at}
use Rattle.stationing.proofs.Examples.{case_line}
use Rattle.calculator.specs.Lengths.{lengths_by}

pub record Examples : Type 0 where
  pub straights : take 3 (lengths_by (case_line 500000 350000 40000)).straights ≡ pos 319010720 ∷ pos 219010720 ∷ pos 0 ∷ []
  pub arcs : take 2 (lengths_by (case_line 500000 350000 40000)).arcs ≡ pos 261638467 ∷ pos 0 ∷ []

pub examples : Examples
unfolding entries rounded full_angle half_angle spiral_angle term alternating sine_of cosine_of t2 t3 t4 t5 t6 unit_x unit_y spiral_x spiral_y centre_of shift_of arc_of tan_of tangent_of arc_at tangent_at tangent_before tangent_after straight_at lengths_by
examples = record { straights = refl; arcs = refl }
