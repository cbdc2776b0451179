-- What a count of the converter says: the checks passed, the converted sheet stands at the front, and converted back it is the sheet. Assumes
-- nothing.
use mathlib.Core.Path.{◌≡◌, ◌∙◌, ap}
use mathlib.Core.List.{List}
use Prim.Native.Nat.{ℕ}
use lib.ListN.{take}
use Rattle.refusals.specs.Outcomes.{passed}
use Rattle.refusals.specs.Order.{outcome}
use Rattle.refusals.specs.Filling.{filled}
use Rattle.refusals.proofs.Filled.{found}
use Rattle.bits.specs.Bits.{Bytes}
use Rattle.packed_sheet.specs.Reading.{read_edition}
use Rattle.conversion.specs.Conversion.{convert_checks, converted, conversion}
use Rattle.conversion.proofs.ThereAndBack.{same_bytes}

module _ (sheet lent : List ℕ) (asked : ℕ) {count : ℕ} (counted : (conversion sheet asked lent).reply ≡ filled count) where
  pub taken : outcome (convert_checks sheet asked) ≡ passed
  unfolding conversion
  taken = (found (convert_checks sheet asked) (converted sheet asked) lent counted).checked

  pub written : take count (conversion sheet asked lent).buffer ≡ converted sheet asked
  unfolding conversion
  written = (found (convert_checks sheet asked) (converted sheet asked) lent counted).front

  pub comes_back : Bytes sheet → {bytes : List ℕ} → bytes ≡ (conversion sheet asked lent).buffer → converted (take count bytes) (read_edition sheet) ≡ sheet
  comes_back octets memory =
      ap (λ (s : List ℕ). converted (take count s) (read_edition sheet)) memory
      ∙ ap (λ (s : List ℕ). converted s (read_edition sheet)) written
      ∙ same_bytes sheet asked taken octets
