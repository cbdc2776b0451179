-- The fields of a line in range fit their widths, and the head seven bytes. Assumes nothing.
use Prim.Native.Nat.{ℕ, ◌*◌, ◌^◌, ◌≤◌, ◌<◌}
use native.Mathlib.Omega.{arith}
use Rattle.line.specs.declared.Line.{Line}
use Rattle.line.specs.Checks.{distance_at, curve_at}
use Rattle.line.specs.Ranges.{FieldsInRange}
use Rattle.line.proofs.Sides.{side_fits}
use Rattle.bits.specs.Bits.{total, Fit}
use Rattle.packed_sheet.specs.declared.Edition.{Edition}
use Rattle.packed_sheet.specs.Layout.{Holds, head_widths, distance_width, entry_widths, byte_count}
use Rattle.packed_sheet.specs.Writing.{head_values, entry_values}

pub head_fits : (E : Edition) (line : Line) → FieldsInRange E.greatest line → Holds E → Fit (head_widths E) (head_values E line)
head_fits E line ok h =
    (h.number, (omega (arith, ok.few), (omega (arith, ok.speed_most), (omega (arith, ok.crossfall_most), (omega (arith, ok.start_most, h.start), tt)))))

module _ {greatest : ℕ} (line : Line) (ok : FieldsInRange greatest line) where
  pub distance_fits : (i : ℕ) → i ≤ line.count → distance_at line i < 2 ^ distance_width
  distance_fits i h = omega (arith, ok.distance_most i h)

  pub entry_fits : (i : ℕ) → i < line.count → Fit entry_widths (entry_values line i)
  entry_fits i h =
      let c = ok.curve i h in
      (distance_fits i (omega arith), (omega (arith, side_fits (curve_at line i).left), (omega (arith, c.A-most), (omega (arith, c.R-most), (omega (arith, c.L-most), tt)))))

-- "The seven bytes of the first check hold the head", and every sheet has them.
pub head_in_seven : (E : Edition) → Holds E → total (head_widths E) ≤ 8 * 7
head_in_seven E h = omega (arith, h.narrow)

pub seven_bytes : (E : Edition) → Holds E → (n : ℕ) → 7 ≤ byte_count E n
seven_bytes E h n = omega (arith, h.wide)
