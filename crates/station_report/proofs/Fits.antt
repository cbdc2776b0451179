-- No sheet's text is longer than 5,417 bytes, so that so many lent bytes are never refused. Assumes nothing.
use mathlib.Core.Path.{◌≡◌, refl, sym, ◌∙◌}
use mathlib.Core.List.{List}
use Prim.Native.Nat.{ℕ, ◌≤◌, ◌<◌}
use native.Mathlib.Omega.{arith}
use lib.ListN.{length, replicate}
use Rattle.refusals.specs.Outcomes.{Outcome, passed, refused}
use Rattle.std.specs.Prelude.{Result, Ok, Err}
use Rattle.std.specs.Result.{result_unwrap_or}
use Rattle.refusals.specs.declared.Refusal.{Refusal}
use Rattle.refusals.specs.Filling.{filled, unfilled, fill_reply_of, fill}
use Rattle.refusals.proofs.Filled.{never}
use Rattle.refusals.specs.Order.{Checks, unchecked, outcome}
use Rattle.refusals.proofs.FillWays.{whole_fill}
use Rattle.refusals.proofs.Numbers.{Refuses, refusal_numbers, wider}
use Rattle.refusals.proofs.Joining.{passed_right}
use Rattle.line.specs.declared.Line.{Line}
use Rattle.line.specs.Entries.{line_after}
use Rattle.packed_sheet.specs.Reading.{line_of, read_line_as, edition_of, read_checks, read_line}
use Rattle.packed_sheet.proofs.Frames.{count_below}
use Rattle.round_trips.proofs.Numbers.{read_numbers}
use Rattle.stationing.specs.Stations.{station_row}
use Rattle.stationing.specs.Answer.{alignment_checks}
use Rattle.stationing.proofs.Accepted.{few}
use Rattle.orders.proofs.InOrder.{in_order}
use Rattle.stationing.proofs.RowCount.{row_count}
use Rattle.orders.proofs.Numbers.{alignment_numbers}
use Rattle.report.proofs.Short.{list_short, refusal_short}
use Rattle.station_report.specs.Report.{answer_text, sheet_checks, sheet_text, whole_text}

-- The text of an answer, where a refusal has few digits and a row that passes is one that was accepted.
text_short : (line : Line) (checks : Checks) (o : Outcome) → Refuses 1 15 127 checks → outcome checks ≡ o → (o ≡ passed → outcome (alignment_checks line) ≡ passed)
    → length (answer_text o (station_row line)) ≤ 5417
text_short line checks passed r e a =
    let accepted = a refl in
    list_short (station_row line) (omega (arith, row_count line, few line accepted)) (λ k. omega (arith, (in_order line accepted).most k))
text_short line checks (refused n p) r e a = let told = refusal_numbers 1 15 127 checks r e in omega (arith, refusal_short n p (omega (arith, told.1)) (omega (arith, told.2)))

-- n has seven bits.
count_short : (line : Line) (o : Outcome) → line.count < 128 → (line_after o line).count ≤ 127
count_short line passed h = omega arith
count_short line (refused n p) h = omega arith

-- The refusals of reader and calculator are 1 to 15, and no place has more than seven bits.
pub sheet_numbers_lem : (sheet : List ℕ) → Refuses 1 15 127 (sheet_checks sheet)
unfolding sheet_checks read_line_as line_of
sheet_numbers_lem sheet =
    let E = edition_of sheet in
    let read = read_checks sheet in
    let line = read_line sheet in
    let seven_bits = count_below E sheet refl in (
      wider read (read_numbers sheet) (omega arith) (omega arith) (omega arith),
      λ _. wider (alignment_checks line) (alignment_numbers line) (omega arith) (omega arith) (count_short (line_of E sheet) (outcome read) seven_bits),
    )

pub fits : (sheet : List ℕ) → length (sheet_text sheet) ≤ 5417
unfolding sheet_text sheet_checks
fits sheet =
    let line = read_line sheet in
    text_short line (sheet_checks sheet) (outcome (sheet_checks sheet)) (sheet_numbers_lem sheet) refl
    (passed_right (outcome (read_checks sheet)) (outcome (alignment_checks line)))

-- So many lent bytes are never refused.
pub never_refused : (sheet lent : List ℕ) {n p : ℕ} {A : Type 0} → (fill unchecked (sheet_text sheet) lent).reply ≡ unfilled n p → 5417 ≤ length lent → A
never_refused sheet lent {n} {p} e h =
    let whole = whole_fill unchecked (sheet_text sheet) lent refl refl (omega (arith, fits sheet)) refl in
    never (length (sheet_text sheet)) n p (whole.0 ∙ e)

-- So many zeros hold the whole text, whose length is answered.
module _ (sheet : List ℕ) where
  filled_whole : (filled (length (sheet_text sheet)) ≡ (fill unchecked (sheet_text sheet) (replicate 5417 0)).reply)
      × (whole_text sheet ≡ (fill unchecked (sheet_text sheet) (replicate 5417 0)).buffer)
  unfolding whole_text
  filled_whole = whole_fill unchecked (sheet_text sheet) (replicate 5417 0) refl refl (fits sheet) refl

  pub whole_length : (r : Result ℕ Refusal) → fill_reply_of r ≡ (fill unchecked (sheet_text sheet) (replicate 5417 0)).reply
      → result_unwrap_or r 0 ≡ length (sheet_text sheet)
  whole_length (Ok count) e = cc (filled_whole.0)
  whole_length (Err r) e = never_refused sheet (replicate 5417 0) (sym e) (omega arith)

  pub whole_buffer : (fill unchecked (sheet_text sheet) (replicate 5417 0)).buffer ≡ whole_text sheet
  whole_buffer = sym filled_whole.1
