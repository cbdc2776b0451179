-- A refusal of the calculator is the first in document 01's order: the check with its number and place does not hold, and each before it
-- holds. Assumes nothing.
use mathlib.Core.Path.{◌≡◌}
use mathlib.Core.List.{List}
use Prim.Native.Nat.{ℕ}
use Rattle.refusals.specs.Order.{First}
use Rattle.refusals.specs.Filling.{unfilled, with_room}
use Rattle.line.specs.declared.Line.{Line}
use Rattle.stationing.specs.Stations.{station_row}
use Rattle.stationing.specs.Answer.{alignment_checks, stations_in}
use Rattle.orders.proofs.Replies.{refused_stations}

pub stations_first : (line : Line) (row : List ℕ) {n p : ℕ} → (stations_in line row).reply ≡ unfilled n p
    → First (with_room (alignment_checks line) (station_row line) row) n p
stations_first line row e = (refused_stations line row e).first
