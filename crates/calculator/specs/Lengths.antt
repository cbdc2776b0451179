-- The lengths of a line's straights and arcs, in µm (document 01, "Working rule"), and what the private steps of the call for them promise.
use Rattle.std.specs.Prelude.{List, map, suc, ℤ, pos}
use Rattle.line.specs.declared.Line.{Line}
use Rattle.line.specs.Entries.{entries}
use Rattle.stationing.specs.Stations.{arc_at, straight_at}
use Rattle.stationing.specs.Arrays.{TangentsTo, ArcsTo}
use Rattle.calculator.specs.declared.LineLengths.{LineLengths}
use Rattle.calculator.specs.declared.lengths.CurveLengths.{CurveLengths}

-- Straight 0 to n and the arc of curve 1 to n, each in as many entries as there can be.
pub record Lengths : Type 0 where
  pub straights : List ℤ
  pub arcs : List ℤ

-- Those of an answer.
abbrev pub lengths_of : LineLengths → Lengths
lengths_of l = record { straights = map pos l.straights; arcs = map pos l.arcs }

-- Those by the working rule; unused entries are 0.
unfoldable pub lengths_by : Line → Lengths
lengths_by line =
    record {
      straights = entries 65 (suc line.count) (straight_at line) (pos 0);
      arcs = entries 64 line.count (arc_at line) (pos 0);
    }

-- ---- the private steps

-- The tangents and the arcs of a line's curves.
pub record CurvesOf (line : Line) (c : CurveLengths) : Type 0 where
  pub tangents : TangentsTo line line.count c.tangents
  pub arcs : ArcsTo line line.count c.arcs
