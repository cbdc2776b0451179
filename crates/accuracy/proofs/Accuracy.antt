-- Demand 3, in one theorem about the calculator's answer and row; and the same for a caller of `stations`. Assumes nothing.
use mathlib.Core.Path.{◌≡◌, refl, sym, subst}
use mathlib.Core.List.{List}
use Prim.Native.Nat.{ℕ, ◌≤◌}
use lib.Dec.{lit≤}
use Rattle.std.specs.Prelude.{Result}
use Rattle.refusals.specs.declared.Refusal.{Refusal}
use Rattle.refusals.specs.Filling.{fill_reply_of}
use Rattle.line.specs.declared.Line.{Line}
use Rattle.stationing.specs.Stations.{station_row}
use Rattle.stationing.specs.Answer.{stations_in}
use Rattle.stationing.proofs.Accepted.{accepted}
use Rattle.orders.proofs.FirstRefusal.{stations_first}
use Rattle.orders.proofs.Replies.{counted}
use Rattle.orders.proofs.RowNumbers.{row_numbers}
use Rattle.accuracy.specs.ExactElements.{document_terms}
use Rattle.accuracy.specs.Accuracy.{Accurate}
use Rattle.accuracy.proofs.StationsWithin.{row_within}
use Rattle.accuracy.proofs.ExactOrder.{in_exact_order}
use Rattle.accuracy.proofs.RefusedLengths.{refused_lengths}

-- With seven terms of each series or more.
pub accuracy_with : (n : ℕ) → 7 ≤ n → (line : Line) (row : List ℕ) → Accurate n line (stations_in line row)
accuracy_with n seven line row =
    record {
      stations = λ e. row_within n seven line (accepted line (counted line row e).checked).in_range (row_numbers line row e);
      order = λ e. in_exact_order n seven line (accepted line (counted line row e).checked);
      short_straight = λ e. (refused_lengths n seven line (station_row line) row (stations_first line row e)).straight_short refl;
      short_arc_lem = λ e. (refused_lengths n seven line (station_row line) row (stations_first line row e)).arc_short refl;
    }

-- Demand 3, with document 01's eight terms.
pub accuracy : (line : Line) (row : List ℕ) → Accurate document_terms line (stations_in line row)
accuracy line row = accuracy_with document_terms (lit≤ tt) line row

-- The same for a caller of `stations`, of the answer that he got and the row as he finds it: the premises are the two equations of the contract.
pub call_accurate : (line : Line) (entry exit : List ℕ) (answer : Result ℕ Refusal)
    → fill_reply_of answer ≡ (stations_in line entry).reply → exit ≡ (stations_in line entry).buffer
    → Accurate document_terms line (record { reply = fill_reply_of answer; buffer = exit })
call_accurate line entry exit answer reply memory =
    let call : stations_in line entry ≡ record { reply = fill_reply_of answer; buffer = exit } =
    λ j. record { reply = sym reply j; buffer = sym memory j } in
    subst (Accurate document_terms line) call (accuracy line entry)
