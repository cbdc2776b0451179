-- A sheet that reads, of either edition, is refused with 12 to 15 alone: the calculator takes every start that a sheet may have. Assumes nothing.
use mathlib.Core.Path.{◌≡◌, sym, ◌∙◌, ap}
use mathlib.Core.List.{List}
use Prim.Native.Nat.{ℕ, ◌≤◌}
use Rattle.refusals.specs.Outcomes.{Outcome, passed, refused, ◌▹◌}
use Rattle.refusals.specs.Order.{outcome}
use Rattle.packed_sheet.specs.Reading.{read_checks, read_line}
use Rattle.packed_sheet.proofs.RoundTrip.{read_line_passes}
use Rattle.stationing.specs.Answer.{alignment_checks}
use Rattle.orders.proofs.Numbers.{fields_passed}
use Rattle.station_report.specs.Report.{sheet_checks}

pub read_then_calculated : (sheet : List ℕ) {n p : ℕ} → outcome (read_checks sheet) ≡ passed → outcome (sheet_checks sheet) ≡ refused n p
    → (12 ≤ n) × (n ≤ 15) × (p ≤ (read_line sheet).count)
unfolding sheet_checks
read_then_calculated sheet reads e =
    fields_passed (read_line sheet) (read_line_passes sheet reads) (ap (λ (o : Outcome). o ▹ outcome (alignment_checks (read_line sheet))) (sym reads) ∙ e)
