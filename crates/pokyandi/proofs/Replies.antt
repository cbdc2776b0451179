-- What each call replies and leaves in the buffer, from the replies of the calls that it makes. Assumes nothing.
use mathlib.Core.Path.{◌≡◌, refl, sym, ◌∙◌, ap}
use mathlib.Core.Bool.{Bool}
use mathlib.Core.List.{List, [], ◌∷◌, map}
use Prim.Native.Nat.{ℕ, ◌≤◌}
use native.Mathlib.Omega.{arith}
use lib.Dec.{leb}
use lib.IntN.{ℤ, nat_abs}
use lib.ListN.{length}
use borrow.Author.Tests.{le-leb}
use Rattle.std.specs.Prelude.{Ok}
use Rattle.refusals.specs.Outcomes.{Outcome, passed, refused, need, ◌▹◌}
use Rattle.refusals.specs.Order.{Checks, unchecked, ◌⨾◌, outcome}
use Rattle.refusals.specs.Filling.{FillReply, filled, unfilled, count_after, with_room, fill}
use Rattle.refusals.proofs.Joining.{passed_right, regroup}
use Rattle.refusals.specs.Replying.{declined}
use Rattle.refusals.proofs.Replied.{replied, unreplied}
use Rattle.refusals.proofs.FillWays.{refused_fill, refill}
use Rattle.line.specs.declared.Line.{Line}
use Rattle.line.specs.Checks.{field_checks}
use Rattle.line.specs.Entries.{line_after}
use Rattle.line.proofs.InRange.{line_in_range}
use Rattle.line_numbers.specs.Numbers.{line_numbers, few_check, line_of, count_check, numbers_checks}
use Rattle.packed_sheet.specs.Layout.{numbered, edition_check}
use Rattle.packed_sheet.specs.Reading.{edition_of, read_checks, read_line, read_edition}
use Rattle.packed_sheet.specs.Writing.{sheet_of, write_checks, sheet_in}
use Rattle.packed_sheet.proofs.WaysOut.{accepted_line}
use Rattle.packed_sheet.proofs.RoundTrip.{read_passes}
use Rattle.elements.specs.declared.Elements.{Elements}
use Rattle.elements.specs.Answer.{values_by, element_checks}
use Rattle.elements.proofs.Replies.{FoundElements}
use Rattle.elements.specs.declared.SpiralPoint.{SpiralPoint}
use Rattle.elements.specs.SpiralPoint.{Offsets, point_reply_of}
use Rattle.spiral_table.specs.LookUp.{end_by, look_up_checks, look_up_reply}
use Rattle.stationing.specs.Stations.{station_row}
use Rattle.stationing.specs.Answer.{alignment_checks, stations_in}
use Rattle.stationing.proofs.Accepted.{few}
use Rattle.stationing.proofs.RowCount.{row_count}
use Rattle.coordinates.specs.FromPoints.{line_from, from_points_checks}
use Rattle.coordinates.proofs.Accepted.{line_accepted}
use Rattle.pegs.specs.Pegs.{peg_checks}
use Rattle.pegs.specs.Numbers.{station_numbers}
use Rattle.station_report.specs.Report.{sheet_checks}
use Rattle.pokyandi.specs.Calls.{sheet_stations, sheet_peg_checks, sheet_peg, check_reply, sheet_numbers, told_checks, numbers_sheet, edition_reply, point_numbers, element_values, element_numbers, numbers_of, offset_numbers, end_numbers, end_numbers_of, unit_spiral_in}

-- The numbers of a line that passes a call's checks.
line_reply : (checks : Checks) (whole : Line) → outcome checks ≡ passed → whole.count ≤ 64 → {line : Line} → line ≡ whole
    → (buffer : List ℕ) {reply : FillReply} {after : List ℕ}
    → (reply ≡ (fill (few_check line) (line_numbers line) buffer).reply) × (after ≡ (fill (few_check line) (line_numbers line) buffer).buffer)
    → (reply ≡ (fill checks (line_numbers whole) buffer).reply) × (after ≡ (fill checks (line_numbers whole) buffer).buffer)
line_reply checks whole accepted most {line} same buffer told =
    let passes : outcome (few_check line) ≡ outcome checks =
    ap (λ (l : Line). outcome (few_check l)) same ∙ ap (λ (b : Bool). need b 3 0) (le-leb whole.count 64 most) ∙ sym accepted in
    refill (few_check line) checks (line_numbers line) (line_numbers whole) buffer passes (ap line_numbers same) told

-- ---- the calls on a sheet

-- The reader's refusal is the sheet's.
pub refused_sheet : (sheet row : List ℕ) {n p : ℕ} → outcome (read_checks sheet) ≡ refused n p
    → (unfilled n p ≡ (fill (sheet_checks sheet) (sheet_stations sheet) row).reply)
    × (row ≡ (fill (sheet_checks sheet) (sheet_stations sheet) row).buffer)
unfolding sheet_checks
refused_sheet sheet row e =
    refused_fill (sheet_checks sheet) (sheet_stations sheet) row (ap (λ (o : Outcome). o ▹ outcome (alignment_checks (read_line sheet))) e)

pub refused_peg : (sheet : List ℕ) (station : ℕ) (buffer : List ℤ) {n p : ℕ} → outcome (read_checks sheet) ≡ refused n p
    → (unfilled n p ≡ (fill (sheet_peg_checks sheet station) (sheet_peg sheet station) buffer).reply)
    × (buffer ≡ (fill (sheet_peg_checks sheet station) (sheet_peg sheet station) buffer).buffer)
unfolding sheet_peg_checks
refused_peg sheet station buffer e =
    refused_fill (sheet_peg_checks sheet station) (sheet_peg sheet station) buffer
    (ap (λ (o : Outcome). o ▹ outcome (peg_checks (read_line sheet) station)) e)

module _ (sheet : List ℕ) (accepted : outcome (read_checks sheet) ≡ passed) {line : Line} (same : line ≡ read_line sheet) where
  -- The calculator's answer for the sheet's line is the one for the sheet.
  pub stations_reply : (row : List ℕ) {reply : FillReply} {after : List ℕ}
      → (reply ≡ (stations_in line row).reply) × (after ≡ (stations_in line row).buffer)
      → (reply ≡ (fill (sheet_checks sheet) (sheet_stations sheet) row).reply)
      × (after ≡ (fill (sheet_checks sheet) (sheet_stations sheet) row).buffer)
  unfolding stations_in sheet_checks sheet_stations
  stations_reply row told =
      let checks : outcome (alignment_checks line) ≡ outcome (sheet_checks sheet) =
      λ j. sym accepted j ▹ outcome (alignment_checks (same j)) in
      refill (alignment_checks line) (sheet_checks sheet) (station_row line) (sheet_stations sheet) row checks (ap station_row same) told

  -- The peg of the sheet's line is the one of the sheet.
  pub peg_reply_lem : (station : ℕ) (buffer : List ℤ) {reply : FillReply} {after : List ℤ}
      → (reply ≡ (fill (peg_checks line station) (station_numbers line station) buffer).reply)
      × (after ≡ (fill (peg_checks line station) (station_numbers line station) buffer).buffer)
      → (reply ≡ (fill (sheet_peg_checks sheet station) (sheet_peg sheet station) buffer).reply)
      × (after ≡ (fill (sheet_peg_checks sheet station) (sheet_peg sheet station) buffer).buffer)
  unfolding sheet_peg_checks sheet_peg
  peg_reply_lem station buffer told =
      let checks : outcome (peg_checks line station) ≡ outcome (sheet_peg_checks sheet station) =
      λ j. sym accepted j ▹ outcome (peg_checks (same j) station) in
      refill (peg_checks line station) (sheet_peg_checks sheet station) (station_numbers line station) (sheet_peg sheet station) buffer checks
      (ap (λ (l : Line). station_numbers l station) same) told

  -- The writer's is the one for the sheet's own bytes.
  pub rewrite_reply : {number : ℕ} → number ≡ read_edition sheet → sheet_of (numbered number) line ≡ sheet → (bytes : List ℕ) {reply : FillReply} {after : List ℕ}
      → (reply ≡ (sheet_in number line bytes).reply) × (after ≡ (sheet_in number line bytes).buffer)
      → (reply ≡ (fill (read_checks sheet) sheet bytes).reply)
      × (after ≡ (fill (read_checks sheet) sheet bytes).buffer)
  unfolding sheet_in
  rewrite_reply {number} edition again bytes told =
      let checks : outcome (write_checks number line) ≡ outcome (read_checks sheet) =
      (λ j. outcome (write_checks (edition j) (same j))) ∙ read_passes sheet accepted ∙ sym accepted in
      refill (write_checks number line) (read_checks sheet) (sheet_of (numbered number) line) sheet bytes checks again told

  -- The numbers of the sheet's line.
  pub numbers_reply : (buffer : List ℕ) {reply : FillReply} {after : List ℕ}
      → (reply ≡ (fill (few_check line) (line_numbers line) buffer).reply) × (after ≡ (fill (few_check line) (line_numbers line) buffer).buffer)
      → (reply ≡ (fill (read_checks sheet) (sheet_numbers sheet) buffer).reply)
      × (after ≡ (fill (read_checks sheet) (sheet_numbers sheet) buffer).buffer)
  unfolding sheet_numbers
  numbers_reply =
      line_reply (read_checks sheet) (read_line sheet) accepted (line_in_range (read_line sheet) (accepted_line (edition_of sheet) sheet accepted)).few same

-- The numbers of the line of points.
pub points_reply : (v e start : ℕ) (points : List ℤ) (curves : List ℕ) → outcome (from_points_checks v e start points curves) ≡ passed
    → {line : Line} → line ≡ line_from v e start points curves
    → (buffer : List ℕ) {reply : FillReply} {after : List ℕ}
    → (reply ≡ (fill (few_check line) (line_numbers line) buffer).reply) × (after ≡ (fill (few_check line) (line_numbers line) buffer).buffer)
    → (reply ≡ (fill (from_points_checks v e start points curves) (point_numbers v e start points curves) buffer).reply)
    × (after ≡ (fill (from_points_checks v e start points curves) (point_numbers v e start points curves) buffer).buffer)
unfolding point_numbers
points_reply v e start points curves accepted same =
    let whole = line_from v e start points curves in
    line_reply (from_points_checks v e start points curves) whole accepted (few whole (line_accepted v e start points curves accepted)) same

-- The refusal of the edition or of a line's count is that of its numbers, and where there is none the writer's answer for their line is the one
-- for them.
pub refused_told : (number : ℕ) (numbers buffer : List ℕ) {n p : ℕ} → outcome (edition_check number ⨾ count_check numbers) ≡ refused n p
    → (unfilled n p ≡ (fill (told_checks number numbers) (numbers_sheet number numbers) buffer).reply)
    × (buffer ≡ (fill (told_checks number numbers) (numbers_sheet number numbers) buffer).buffer)
unfolding told_checks numbers_checks
refused_told number numbers buffer e =
    refused_fill (told_checks number numbers) (numbers_sheet number numbers) buffer
    (sym (regroup (outcome (edition_check number)) (outcome (count_check numbers)) _) ∙ ap (λ (o : Outcome). o ▹ outcome (field_checks (numbered number).greatest (line_of numbers))) e)

pub write_reply : (number : ℕ) (numbers bytes : List ℕ) {line : Line} {reply : FillReply} {after : List ℕ} → outcome (edition_check number ⨾ count_check numbers) ≡ passed
    → line ≡ line_after (outcome (count_check numbers)) (line_of numbers)
    → (reply ≡ (sheet_in number line bytes).reply) × (after ≡ (sheet_in number line bytes).buffer)
    → (reply ≡ (fill (told_checks number numbers) (numbers_sheet number numbers) bytes).reply)
    × (after ≡ (fill (told_checks number numbers) (numbers_sheet number numbers) bytes).buffer)
unfolding sheet_in write_checks told_checks numbers_checks numbers_sheet
write_reply number numbers bytes {line} both read told =
    let counted = passed_right (outcome (edition_check number)) _ both in
    let same : line ≡ line_of numbers = read ∙ ap (λ (o : Outcome). line_after o (line_of numbers)) counted in
    let checks : outcome (write_checks number line) ≡ outcome (told_checks number numbers) =
    λ j. outcome (edition_check number) ▹ sym counted j ▹ outcome (field_checks (numbered number).greatest (same j)) in
    refill (write_checks number line) (told_checks number numbers) (sheet_of (numbered number) line) (numbers_sheet number numbers) bytes checks (ap (sheet_of (numbered number)) same) told

-- No sheet has more than 257 stations, so that such a row is never too small.
pub check_reply_lem : (sheet row : List ℕ) → 257 ≤ length row → (fill (sheet_checks sheet) (sheet_stations sheet) row).reply ≡ check_reply sheet
unfolding fill with_room check_reply sheet_stations sheet_checks
check_reply_lem sheet row wide = go (outcome (sheet_checks sheet)) refl
  where
    line : Line
    line = read_line sheet

    go : (o : Outcome) → outcome (sheet_checks sheet) ≡ o
        → count_after (o ▹ need (leb (length (station_row line)) (length row)) 16 0) (length (station_row line)) ≡ count_after o (length (station_row line))
    go (refused n p) e = refl
    go passed e =
        let size = few line (passed_right (outcome (read_checks sheet)) (outcome (alignment_checks line)) e) in
        rw (le-leb (length (station_row line)) (length row) (omega (arith, wide, row_count line, size))) refl

-- The number of the edition, which is counted where nothing is refused.
pub edition_reply_lem : (sheet : List ℕ) {number : ℕ} → outcome (read_checks sheet) ≡ passed → number ≡ read_edition sheet → filled number ≡ edition_reply sheet
unfolding edition_reply
edition_reply_lem sheet {number} e n = ap filled n ∙ ap (λ (o : Outcome). count_after o (read_edition sheet)) (sym e)

pub refused_edition : (sheet : List ℕ) {n p : ℕ} → outcome (read_checks sheet) ≡ refused n p → unfilled n p ≡ edition_reply sheet
unfolding edition_reply
refused_edition sheet e = ap (λ (o : Outcome). count_after o (read_edition sheet)) (sym e)

-- ---- the call on one curve

-- The numbers of elements that were answered are the rule's.
pub found_numbers : (A R L : ℕ) (e : Elements) → FoundElements A R L e → numbers_of e ≡ element_numbers A R L
unfolding element_numbers element_values values_by
found_numbers A R L e f =
    λ j. nat_abs (f.X j) ∷ nat_abs (f.Y j) ∷ nat_abs (f.k j) ∷ nat_abs (f.p j) ∷ nat_abs (f.D j) ∷ nat_abs (f.TT j) ∷ []

pub found_reply : (A R L : ℕ) (e : Elements) (buffer : List ℕ) {reply : FillReply} {after : List ℕ} → FoundElements A R L e
    → (reply ≡ (fill unchecked (numbers_of e) buffer).reply) × (after ≡ (fill unchecked (numbers_of e) buffer).buffer)
    → (reply ≡ (fill (element_checks A R L) (element_numbers A R L) buffer).reply)
    × (after ≡ (fill (element_checks A R L) (element_numbers A R L) buffer).buffer)
found_reply A R L e buffer f told =
    refill unchecked (element_checks A R L) (numbers_of e) (element_numbers A R L) buffer (sym f.checked) (found_numbers A R L e f) told

-- ---- the call on one spiral

module _ (r L : ℕ) where
  -- The offsets that were looked up are the rule's,
  pub found_end : (p : SpiralPoint) (buffer : List ℕ) {reply : FillReply} {after : List ℕ} → point_reply_of (Ok p) ≡ look_up_reply r L
      → (reply ≡ (fill unchecked (end_numbers_of p) buffer).reply) × (after ≡ (fill unchecked (end_numbers_of p) buffer).buffer)
      → (reply ≡ (unit_spiral_in r L buffer).reply) × (after ≡ (unit_spiral_in r L buffer).buffer)
  unfolding look_up_reply end_numbers unit_spiral_in
  found_end p buffer looked told =
      let given = replied (look_up_checks r L) (end_by r L) looked in
      refill unchecked (look_up_checks r L) (end_numbers_of p) (end_numbers r L) buffer (sym given.0)
      (ap (λ (o : Offsets). map nat_abs (offset_numbers o)) given.1) told

  -- and so is a refusal.
  pub refused_end : (buffer : List ℕ) {n p : ℕ} → declined n p ≡ look_up_reply r L
      → (unfilled n p ≡ (unit_spiral_in r L buffer).reply) × (buffer ≡ (unit_spiral_in r L buffer).buffer)
  unfolding look_up_reply unit_spiral_in
  refused_end buffer told = refused_fill (look_up_checks r L) (end_numbers r L) buffer (unreplied (look_up_checks r L) (end_by r L) told)
