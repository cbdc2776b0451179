-- The lengths of a line are the rule's, and what a caller learns from a measured line. Assumes nothing.
use mathlib.Core.Path.{◌≡◌, ap}
use Prim.Native.Nat.{ℕ, suc, ◌≤◌, ◌<◌}
use native.Mathlib.Omega.{arith}
use lib.IntN.{pos}
use lib.ListN.{get_or}
use Rattle.numbers.proofs.Ranges.{at_most}
use Rattle.line.specs.declared.Line.{Line}
use Rattle.stationing.specs.Stations.{arc_at, straight_at}
use Rattle.stationing.specs.Arrays.{ArcsTo, StraightsTo}
use Rattle.stationing.proofs.Accepted.{Accepted, accepted}
use Rattle.stationing.proofs.Fronts.{front_entries, entry_known}
use Rattle.calculator.specs.declared.LineLengths.{LineLengths}
use Rattle.calculator.specs.declared.measured.MeasuredLine.{MeasuredLine}
use Rattle.calculator.specs.Lengths.{Lengths, lengths_of, lengths_by}

-- All straights and arcs are there.
pub whole_lengths : (line : Line) (l : LineLengths) → line.count ≤ 64 → StraightsTo line (suc line.count) l.straights → ArcsTo line line.count l.arcs
    → lengths_of l ≡ lengths_by line
unfolding lengths_by
whole_lengths line l few s a =
    λ j. record {
      straights = front_entries (straight_at line) 65 (suc line.count) l.straights (omega arith) s j;
      arcs = front_entries (arc_at line) 64 line.count l.arcs few a j;
    }

-- What a caller learns from lengths that are the rule's.
module _ (line : Line) (l : LineLengths) (few : line.count ≤ 64) (known : lengths_of l ≡ lengths_by line) where
  pub known_straight : (i : ℕ) → i ≤ line.count → pos (get_or l.straights i 0) ≡ straight_at line i
  unfolding lengths_by
  known_straight i h =
      entry_known (straight_at line) 65 (suc line.count) l.straights (omega arith) (ap (λ (v : Lengths). v.straights) known) i (omega arith)

  pub known_arc : (i : ℕ) → i < line.count → pos (get_or l.arcs i 0) ≡ arc_at line i
  unfolding lengths_by
  known_arc i h = entry_known (arc_at line) 64 line.count l.arcs few (ap (λ (v : Lengths). v.arcs) known) i h

-- A measured line passes 3 to 15, and each of its lengths is the rule's and in range.
module _ (m : MeasuredLine) where
  pub ranges : Accepted m.line.now
  ranges = accepted m.line.now m.checked

  pub measured_straight : (i : ℕ) → i ≤ m.line.now.count → pos (get_or m.lengths.now.straights i 0) ≡ straight_at m.line.now i
  measured_straight = known_straight m.line.now m.lengths.now ranges.in_range.few m.known

  pub straight_most : (i : ℕ) → i ≤ m.line.now.count → get_or m.lengths.now.straights i 0 ≤ 20000000000
  straight_most i h = at_most (measured_straight i h) (ranges.straight i h)

  pub measured_arc : (i : ℕ) → i < m.line.now.count → pos (get_or m.lengths.now.arcs i 0) ≡ arc_at m.line.now i
  measured_arc = known_arc m.line.now m.lengths.now ranges.in_range.few m.known

  pub arc_most : (i : ℕ) → i < m.line.now.count → get_or m.lengths.now.arcs i 0 ≤ 10471975510
  arc_most i h = at_most (measured_arc i h) (ranges.arc i h)
