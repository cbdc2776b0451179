-- A sheet that does not read has the reader's refusal. One that reads, of either edition, has what the calculator says of its line: it passes, or
-- is refused with 12 to 15 alone, since the calculator takes every start that a sheet may have. Assumes nothing.
use mathlib.Core.Path.{◌≡◌, refl, sym, ◌∙◌, ap}
use mathlib.Core.List.{List}
use Prim.Native.Nat.{ℕ, ◌≤◌}
use Rattle.refusals.specs.Outcomes.{Outcome, passed, refused, ◌▹◌}
use Rattle.refusals.specs.Order.{outcome}
use Rattle.refusals.proofs.Joining.{passed_right}
use Rattle.line.specs.declared.Line.{Line}
use Rattle.packed_sheet.specs.Reading.{read_checks, read_line}
use Rattle.packed_sheet.proofs.RoundTrip.{read_line_passes}
use Rattle.stationing.specs.Answer.{alignment_checks}
use Rattle.orders.proofs.Numbers.{fields_passed}
use Rattle.sheet_checks.specs.SheetChecks.{sheet_checks}

module _ (sheet : List ℕ) where
  pub unread : {n p : ℕ} → outcome (read_checks sheet) ≡ refused n p → outcome (sheet_checks sheet) ≡ refused n p
  unfolding sheet_checks
  unread e = ap (λ (o : Outcome). o ▹ outcome (alignment_checks (read_line sheet))) e

  pub line_passes : outcome (sheet_checks sheet) ≡ passed → outcome (alignment_checks (read_line sheet)) ≡ passed
  unfolding sheet_checks
  line_passes e = passed_right (outcome (read_checks sheet)) (outcome (alignment_checks (read_line sheet))) e

  module _ (reads : outcome (read_checks sheet) ≡ passed) where
    pub read_line_lem : {line : Line} → line ≡ read_line sheet → outcome (alignment_checks line) ≡ outcome (sheet_checks sheet)
    unfolding sheet_checks
    read_line_lem same = λ j. sym reads j ▹ outcome (alignment_checks (same j))

    pub read_then_calculated : {n p : ℕ} → outcome (sheet_checks sheet) ≡ refused n p → (12 ≤ n) × (n ≤ 15) × (p ≤ (read_line sheet).count)
    read_then_calculated e =
        fields_passed (read_line sheet) (read_line_passes sheet reads) (read_line_lem refl ∙ e)
