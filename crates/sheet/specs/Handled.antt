-- The editions that the code is proved for, both of document 02's among them: what the contracts of its private functions ask.
use Rattle.std.specs.Prelude.{◌≤◌}
use Rattle.packed_sheet.specs.declared.Edition.{Edition}
use Rattle.packed_sheet.specs.Layout.{Holds}

-- The start has more than 25 bits, which are read in two parts, and no more than a number of 32.
pub record Handled (E : Edition) : Type 0 where
  pub holds : Holds E
  pub wide : 26 ≤ E.width
  pub narrow : E.width ≤ 32
