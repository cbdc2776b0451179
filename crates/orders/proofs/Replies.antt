-- What a caller learns from the calculator's answer. Assumes nothing.
use mathlib.Core.Path.{◌≡◌}
use mathlib.Core.List.{List}
use Prim.Native.Nat.{ℕ}
use Rattle.refusals.specs.Filling.{filled, unfilled}
use Rattle.refusals.proofs.Filled.{Filled, found, Unfilled, unfound}
use Rattle.line.specs.declared.Line.{Line}
use Rattle.stationing.specs.Stations.{station_row}
use Rattle.stationing.specs.Answer.{alignment_checks, stations_in}

module _ (line : Line) (row : List ℕ) where
  -- The count was answered: every check passed, and the row holds the stations and what lay behind them.
  pub counted : {count : ℕ} → (stations_in line row).reply ≡ filled count → Filled (alignment_checks line) (station_row line) row count
  unfolding stations_in
  counted e = found (alignment_checks line) (station_row line) row e

  -- A refusal was answered: it is the first in order, and the row is as it was.
  pub refused_stations : {n p : ℕ} → (stations_in line row).reply ≡ unfilled n p → Unfilled (alignment_checks line) (station_row line) row n p
  unfolding stations_in
  refused_stations e = unfound (alignment_checks line) (station_row line) row e
