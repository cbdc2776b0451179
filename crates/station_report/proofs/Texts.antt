-- The text of a line by the calculator's answer, and the text of a sheet by the reader's. Assumes nothing.
use mathlib.Core.Path.{◌≡◌, refl, sym, ◌∙◌, ap}
use mathlib.Core.List.{List}
use Prim.Native.Nat.{ℕ, ◌≤◌}
use native.Mathlib.Omega.{arith}
use lib.Dec.{leb}
use lib.ListN.{length, take}
use borrow.Author.Tests.{le-leb}
use Rattle.refusals.specs.Outcomes.{Outcome, passed, refused, need, ◌▹◌}
use Rattle.refusals.specs.Filling.{filled, unfilled, with_room}
use Rattle.refusals.specs.Order.{outcome}
use Rattle.line.specs.declared.Line.{Line}
use Rattle.packed_sheet.specs.Reading.{read_checks, read_line}
use Rattle.stationing.specs.Stations.{station_row}
use Rattle.stationing.specs.Answer.{alignment_checks, stations_in}
use Rattle.stationing.proofs.Accepted.{few}
use Rattle.stationing.proofs.RowCount.{row_count}
use Rattle.orders.proofs.Replies.{counted, refused_stations}
use Rattle.report.specs.Text.{station_list, refusal_line}
use Rattle.station_report.specs.Report.{answer_text, line_text, sheet_checks, sheet_text}

-- ---- the calculator's answer, and its row

module _ (line : Line) (row : List ℕ) {after : List ℕ} (stored : after ≡ (stations_in line row).buffer) where
  pub counted_within : {count : ℕ} → (stations_in line row).reply ≡ filled count → count ≤ length after
  unfolding stations_in
  counted_within e = omega (arith, ap length stored, (counted line row e).within)

  -- The first numbers of the row are the list.
  pub counted_text : {count : ℕ} → (stations_in line row).reply ≡ filled count → line_text line ≡ station_list (take count after)
  unfolding line_text stations_in
  counted_text {count} e =
      let c = counted line row e in
      ap (λ (o : Outcome). answer_text o (station_row line)) c.checked ∙ ap station_list (sym (ap (take count) stored ∙ c.front))

  -- A row of 257 numbers is never too small.
  room_enough : length row ≡ 257 → (o : Outcome) → outcome (alignment_checks line) ≡ o → o ▹ need (leb (length (station_row line)) (length row)) 16 0 ≡ o
  room_enough wide passed e = rw (le-leb (length (station_row line)) (length row) (omega (arith, wide, row_count line, few line e))) refl
  room_enough wide (refused n p) e = refl

  pub refused_text : length row ≡ 257 → {n p : ℕ} → (stations_in line row).reply ≡ unfilled n p → line_text line ≡ refusal_line n p
  unfolding line_text with_room
  refused_text wide e =
      let checks = room_enough wide (outcome (alignment_checks line)) refl in
      ap (λ (o : Outcome). answer_text o (station_row line)) (sym checks ∙ (refused_stations line row e).refusal)

-- ---- the reader's answer

module _ (sheet : List ℕ) where
  pub read_text : outcome (read_checks sheet) ≡ passed → sheet_text sheet ≡ line_text (read_line sheet)
  unfolding sheet_text sheet_checks line_text
  read_text e = rw e refl

  pub unread_text : {n p : ℕ} → outcome (read_checks sheet) ≡ refused n p → sheet_text sheet ≡ refusal_line n p
  unfolding sheet_text sheet_checks
  unread_text e = rw e refl
