-- Which number of the row is which station: number 4 × i + k of the row is point k of the curve at entry i, and the last is the end. Assumes
-- nothing.
use mathlib.Core.Path.{◌≡◌, sym, ◌∙◌, ap, subst}
use mathlib.Core.List.{List, [], ◌∷◌, ◌++◌}
use Prim.Native.Nat.{ℕ, zero, suc, ◌+◌, ◌*◌, ◌<◌}
use native.Mathlib.Nat.{add-zero}
use native.Mathlib.Decide.{dec_lt}
use native.Mathlib.Omega.{arith}
use lib.IntN.{ℤ, pos, nat_abs}
use lib.ListN.{length, drop, get_or, length-map, get_or-append, get_or-map}
use lib.Seq.{get_or-append-add}
use Rattle.refusals.specs.Filling.{filled}
use Rattle.line.specs.declared.Line.{Line}
use Rattle.stationing.specs.Stations.{points_at, end_of, curve_stations, stations_of, station_row}
use Rattle.stationing.specs.Answer.{station_count, stations_in}
use Rattle.stationing.proofs.RowSteps.{numbers_length}
use Rattle.stationing.proofs.RowCount.{row_count}
use Rattle.orders.proofs.InOrder.{four_at, in_order}
use Rattle.orders.proofs.Replies.{counted}

-- The numbers of a row that holds the stations of a line.
pub record RowNumbers (line : Line) (row : List ℕ) : Type 0 where
  pub TS : (i : ℕ) → i < line.count → pos (get_or row (4 * i) 0) ≡ (points_at line i).TS
  pub SC : (i : ℕ) → i < line.count → pos (get_or row (4 * i + 1) 0) ≡ (points_at line i).SC
  pub CS : (i : ℕ) → i < line.count → pos (get_or row (4 * i + 2) 0) ≡ (points_at line i).CS
  pub ST : (i : ℕ) → i < line.count → pos (get_or row (4 * i + 3) 0) ≡ (points_at line i).ST
  pub end : pos (get_or row (4 * line.count) 0) ≡ end_of line

module _ (line : Line) where
  curves_length : (n : ℕ) → length (curve_stations line n) ≡ 4 * n
  curves_length n = sym (length-map (curve_stations line n) nat_abs) ∙ numbers_length line n

  -- What follows the stations of n curves.
  behind : (n k : ℕ) (xs : List ℤ) → get_or (curve_stations line n ++ xs) (4 * n + k) (pos 0) ≡ get_or xs k (pos 0)
  behind n k xs =
      ap (λ (m : ℕ). get_or (curve_stations line n ++ xs) (m + k) (pos 0)) (sym (curves_length n))
      ∙ get_or-append-add (curve_stations line n) xs k (pos 0)

  within_curves : (n i k : ℕ) → i < n → k < 4 → get_or (curve_stations line n) (4 * i + k) (pos 0) ≡ get_or (four_at line i) k (pos 0)
  unfolding curve_stations
  within_curves zero i k h l = elim h [ ]
  within_curves (suc n) i k h l = go (dec_lt i n) (λ m. within_curves n i k m l)
    where
      go : Dec (i < n) → (i < n → get_or (curve_stations line n) (4 * i + k) (pos 0) ≡ get_or (four_at line i) k (pos 0))
          → get_or (curve_stations line (suc n)) (4 * i + k) (pos 0) ≡ get_or (four_at line i) k (pos 0)
      go (yes m) former =
          get_or-append (curve_stations line n) (four_at line n) (pos 0) (4 * i + k) (omega (arith, curves_length n)) ∙ former m
      go (no m) former =
          subst (λ (m : ℕ). get_or (curve_stations line (suc n)) (4 * m + k) (pos 0) ≡ get_or (four_at line m) k (pos 0))
          (omega arith)
          (behind n k (four_at line n))

  -- The numbers of the row after a call that counts.
  module _ (row : List ℕ) {count : ℕ} (e : (stations_in line row).reply ≡ filled count) where
    station_at : (k : ℕ) → k < station_count line → pos (get_or (stations_in line row).buffer k 0) ≡ get_or (stations_of line) k (pos 0)
    unfolding stations_in
    station_at k h =
        ap (λ (r : List ℕ). pos (get_or r k 0)) (counted line row e).holds
        ∙ ap pos (get_or-append (station_row line) (drop (length (station_row line)) row) 0 k (omega (arith, row_count line)))
        ∙ sym (get_or-map pos (station_row line) k 0)
        ∙ ap (λ (s : List ℤ). get_or s k (pos 0)) (in_order line (counted line row e).checked).exact

    point_at : (i k : ℕ) → i < line.count → k < 4 → pos (get_or (stations_in line row).buffer (4 * i + k) 0) ≡ get_or (four_at line i) k (pos 0)
    unfolding stations_of
    point_at i k h l =
        station_at (4 * i + k) (omega arith)
        ∙ get_or-append (curve_stations line line.count) (end_of line ∷ []) (pos 0) (4 * i + k) (omega (arith, curves_length line.count))
        ∙ within_curves line.count i k h l

    pub row_numbers : RowNumbers line (stations_in line row).buffer
    unfolding stations_of
    row_numbers =
        record {
          TS = λ i h. ap (λ (m : ℕ). pos (get_or (stations_in line row).buffer m 0)) (sym (add-zero (4 * i))) ∙ point_at i 0 h (omega arith);
          SC = λ i h. point_at i 1 h (omega arith);
          CS = λ i h. point_at i 2 h (omega arith);
          ST = λ i h. point_at i 3 h (omega arith);
          end =
              ap (λ (m : ℕ). pos (get_or (stations_in line row).buffer m 0)) (sym (add-zero (4 * line.count)))
              ∙ station_at (4 * line.count + 0) (omega arith)
              ∙ behind line.count 0 (end_of line ∷ []);
        }
