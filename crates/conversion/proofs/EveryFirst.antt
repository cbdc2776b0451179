-- "A converter brings every edition 1 sheet to edition 2": each that reads is converted, and so is each of edition 2 whose start edition 1
-- holds. Assumes nothing.
use mathlib.Core.Path.{◌≡◌, refl, sym, ap, subst}
use mathlib.Core.List.{List}
use Prim.Native.Nat.{ℕ, ◌≤◌}
use native.Mathlib.Omega.{arith}
use lib.ListN.{length}
use Rattle.refusals.specs.Outcomes.{passed}
use Rattle.refusals.specs.Order.{outcome}
use Rattle.refusals.specs.Filling.{filled}
use Rattle.refusals.proofs.FillWays.{known_fill}
use Rattle.line.proofs.InRange.{line_in_range}
use Rattle.packed_sheet.specs.Layout.{numbered}
use Rattle.packed_sheet.specs.Reading.{read_checks, read_line, read_edition}
use Rattle.packed_sheet.proofs.RoundTrip.{start_held, read_line_passes}
use Rattle.packed_sheet.proofs.Editions.{longest}
use Rattle.packed_sheet.proofs.WaysOut.{sheet_length}
use Rattle.conversion.specs.Conversion.{other_number, convert_checks, converted, conversion}
use Rattle.conversion.proofs.Accepted.{accepts}

module _ (sheet : List ℕ) (reads : outcome (read_checks sheet) ≡ passed) where
  pub every_first_converted : read_edition sheet ≡ 1 → outcome (convert_checks sheet 2) ≡ passed
  unfolding other_number numbered
  every_first_converted is =
      accepts sheet 2 reads (ap other_number (sym is)) (omega (arith, subst (λ (n : ℕ). (read_line sheet).start ≤ (numbered n).greatest) is (start_held sheet reads)))

  -- With as many bytes lent as the longest sheet has, the call counts.
  pub first_always_counted : read_edition sheet ≡ 1 → (lent : List ℕ) → 706 ≤ length lent
      → (conversion sheet 2 lent).reply ≡ filled (length (converted sheet 2))
  unfolding conversion converted
  first_always_counted is lent room =
      let passes = every_first_converted is in
      let few = (line_in_range (read_line sheet) (read_line_passes sheet reads)).few in
      (known_fill (convert_checks sheet 2) (converted sheet 2) (converted sheet 2) lent passes refl
      (omega (arith, sheet_length (numbered 2) (read_line sheet), longest 2 (read_line sheet).count few, room))).0

  pub near_second_converted : read_edition sheet ≡ 2 → (read_line sheet).start ≤ 200000000 → outcome (convert_checks sheet 1) ≡ passed
  unfolding other_number numbered
  near_second_converted is near = accepts sheet 1 reads (ap other_number (sym is)) near
