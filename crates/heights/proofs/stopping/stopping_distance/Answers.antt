-- `stopping_distance`: the table passes the test of its rule, document 001's formula at each speed. Assumes nothing.
use mathlib.Core.Path.{refl}
use mathlib.Core.List.{[], ◌∷◌}
use Rattle.numbers.specs.Fractions.{whole, ◌⊕◌, ◌⊗◌, ◌⊘◌, ◌↑◌, over, ratio}
use Rattle.line.specs.Speeds.{under_speed}
use Rattle.line.proofs.SpeedTables.{tabled}
use Rattle.sight.specs.Formulas.{stopping, rounded_up, stopping_distance}
use Rattle.heights.proofs.stopping.stopping_distance.Goals as goal

pub returns-clause-value : goal.returns-clause-value
unfolding whole ◌⊕◌ ◌⊗◌ ◌⊘◌ ◌↑◌ over ratio under_speed stopping rounded_up stopping_distance
returns-clause-value c =
    (tabled stopping_distance 310 (45 ∷ 64 ∷ 85 ∷ 111 ∷ 140 ∷ 173 ∷ 211 ∷ 267 ∷ 310 ∷ []) refl refl _ _ c.requires.least c.requires.most c.requires.tens refl).0
