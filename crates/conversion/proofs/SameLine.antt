-- The converted sheet has the edition that was asked for and the same line. Assumes nothing.
use mathlib.Core.Path.{◌≡◌, ◌∙◌}
use mathlib.Core.List.{List}
use Prim.Native.Nat.{ℕ}
use Rattle.refusals.specs.Outcomes.{passed}
use Rattle.refusals.specs.Order.{outcome}
use Rattle.packed_sheet.specs.Reading.{read_checks, read_line, read_edition}
use Rattle.packed_sheet.proofs.RoundTrip.{written_read, read_cleared}
use Rattle.conversion.specs.Conversion.{convert_checks, converted}
use Rattle.conversion.proofs.Accepted.{reads, writes}

pub record SameLine (sheet : List ℕ) (asked : ℕ) : Type 0 where
  pub reads : outcome (read_checks (converted sheet asked)) ≡ passed
  pub edition : read_edition (converted sheet asked) ≡ asked
  pub line : read_line (converted sheet asked) ≡ read_line sheet

pub same_line : (sheet : List ℕ) (asked : ℕ) → outcome (convert_checks sheet asked) ≡ passed → SameLine sheet asked
unfolding converted
same_line sheet asked e =
    let again = written_read asked (read_line sheet) (writes sheet asked e) in
    record { reads = again.0; edition = again.1; line = again.2 ∙ read_cleared sheet (reads sheet asked e) }
