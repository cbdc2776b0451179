-- Demand 3, the stations: the numbers of a row that holds a line's stations lie within 700 µm a curve of the exact ones. Assumes nothing.
use mathlib.Core.Path.{◌≡◌, sym, subst}
use mathlib.Core.List.{List}
use Prim.Native.Nat.{ℕ, ◌*◌, ◌≤◌}
use native.Mathlib.Omega.{arith}
use lib.IntN.{ℤ, pos}
use Rattle.line.specs.declared.Line.{Line}
use Rattle.line.specs.Ranges.{LineInRange}
use Rattle.orders.proofs.RowNumbers.{RowNumbers}
use Rattle.numbers.specs.Fractions.{Fraction}
use Rattle.accuracy.specs.Accuracy.{Within, RowWithin}
use Rattle.accuracy.proofs.Nearness.{Near}
use Rattle.accuracy.proofs.ElementsWithin.{within}
use Rattle.accuracy.proofs.NearStations.{near_points, near_end}

-- A number that is a station lies within what the station does.
within_number : {e q x y : ℕ} {z : ℤ} {v : Fraction} → pos q ≡ z → Near 1000 z v x y → x ≤ 1000 * e → y ≤ 1000 * e → Within e (pos q) v
within_number {e} {v = v} same h f g = subst (λ (z : ℤ). Within e z v) (sym same) (within e h f g)

pub row_within : (n : ℕ) → 7 ≤ n → (line : Line) {row : List ℕ} → LineInRange line → RowNumbers line row → RowWithin n line row
row_within n seven line ok r =
    record {
      curve = λ i h. let p = near_points n seven line ok i h in record {
        TS = within_number (r.TS i h) p.TS (omega arith) (omega arith);
        SC = within_number (r.SC i h) p.SC (omega arith) (omega arith);
        CS = within_number (r.CS i h) p.CS (omega arith) (omega arith);
        ST = within_number (r.ST i h) p.ST (omega arith) (omega arith);
      };
      end = within_number r.end (near_end n seven line ok) (omega arith) (omega arith);
    }
