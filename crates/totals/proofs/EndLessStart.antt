-- The sum of the three totals is the line's length, the end less the start: by the definitions for every line, and in the row that the
-- calculator fills. Assumes nothing.
use mathlib.Core.Path.{◌≡◌, refl, sym, ◌∙◌, ap}
use mathlib.Core.List.{List}
use Prim.Native.Nat.{ℕ, ◌+◌, ◌*◌}
use lib.IntN.{ℤ, pos, ◌+ℤ◌, ◌-ℤ◌, +ℤ_comm, +ℤ-neg_ℤ_cancel}
use lib.ListN.{get_or}
use Rattle.refusals.specs.Filling.{filled}
use Rattle.refusals.specs.Replying.{answered}
use Rattle.refusals.proofs.Replied.{replied, passed_reply}
use Rattle.line.specs.declared.Line.{Line}
use Rattle.stationing.specs.Stations.{end_of}
use Rattle.stationing.specs.LineElements.{elements_of, line_length, start_station}
use Rattle.stationing.specs.Answer.{alignment_checks, stations_in}
use Rattle.stationing.proofs.ElementsAndStations.{length_to_end}
use Rattle.orders.proofs.Replies.{counted}
use Rattle.orders.proofs.RowNumbers.{row_numbers}
use Rattle.totals.specs.declared.Totals.{Totals}
use Rattle.totals.specs.Totals.{TotalValues, totals_of, totals_by, values_of, totals_reply}
use Rattle.totals.proofs.ListTotals.{by_kinds}

module _ (line : Line) where
  pub sum_is_length : (totals_by line).sum ≡ line_length line
  unfolding totals_of totals_by line_length
  sum_is_length = by_kinds (elements_of line)

  start_and_sum : start_station line +ℤ (totals_by line).sum ≡ end_of line
  start_and_sum = ap (λ (z : ℤ). start_station line +ℤ z) sum_is_length ∙ length_to_end line

  -- "the sum equals the end less the start"
  pub end_less_start : (totals_by line).sum ≡ end_of line -ℤ start_station line
  end_less_start =
      sym (+ℤ-neg_ℤ_cancel (totals_by line).sum (start_station line))
      ∙ ap (λ (z : ℤ). z -ℤ start_station line) (+ℤ_comm (totals_by line).sum (start_station line) ∙ start_and_sum)

  -- Where the calculator counts, the totals are answered, and the last number of its row is the start and their sum.
  module _ (row : List ℕ) {count : ℕ} (e : (stations_in line row).reply ≡ filled count) where
    pub totals_answered : answered (totals_by line) ≡ totals_reply line
    unfolding totals_reply
    totals_answered = passed_reply (alignment_checks line) (totals_by line) (counted line row e).checked refl

    pub end_of_row : {t : Totals} → answered (values_of t) ≡ totals_reply line → get_or (stations_in line row).buffer (4 * line.count) 0 ≡ 1000 * line.start + t.sum
    unfolding totals_reply
    end_of_row {t} found =
        let sum : pos t.sum ≡ (totals_by line).sum = ap (λ (v : TotalValues). v.sum) (replied (alignment_checks line) (totals_by line) found).1 in
        let end : pos (get_or (stations_in line row).buffer (4 * line.count) 0) ≡ pos (1000 * line.start + t.sum) =
        (row_numbers line row e).end ∙ sym start_and_sum ∙ ap (λ (z : ℤ). start_station line +ℤ z) (sym sum) in
        cc
