-- What a caller in C or Rust reads off an answer: the upper 32 bits are 0 after a count and else the refusal's number, 1 to 25; the lower
-- ones are the count or the place. Assumes nothing.
use mathlib.Core.Path.{◌≡◌, refl, ◌∙◌}
use mathlib.Core.Logic.{◌⊎◌, inl, inr, ⊎_elim}
use mathlib.Core.List.{List}
use Prim.Native.Nat.{ℕ, ◌/◌, ◌%◌, ◌^◌, ◌<◌, ◌≤◌}
use native.Mathlib.Omega.{arith}
use lib.IntN.{ℤ}
use lib.ListN.{length}
use Rattle.refusals.specs.Outcomes.{Outcome, passed, refused}
use Rattle.refusals.specs.Filling.{FillReply, filled, unfilled, count_after, with_room, fill}
use Rattle.refusals.specs.Order.{Checks, unchecked, outcome}
use Rattle.refusals.proofs.Numbers.{Refuses, refusal_numbers, wider}
use Rattle.refusals.proofs.Filled.{filled_passed}
use Rattle.refusals.proofs.InOrder.{held}
use Rattle.refusals.proofs.Joining.{passed_left, passed_right}
use Rattle.line.specs.Checks.{curve_checks, field_checks}
use Rattle.line.proofs.InRange.{line_in_range}
use Rattle.line.proofs.Numbers.{curve_numbers, line_numbers_lem}
use Rattle.line_numbers.specs.Numbers.{line_of, count_check, numbers_checks}
use Rattle.line_numbers.proofs.Storing.{line_length_lem}
use Rattle.line_numbers.proofs.LineAndNumbers.{few_counted}
use Rattle.packed_sheet.specs.Layout.{numbered, edition_check}
use Rattle.packed_sheet.specs.Reading.{edition_of, read_checks, read_line, read_edition}
use Rattle.packed_sheet.proofs.Frames.{framed, count_below}
use Rattle.round_trips.proofs.Numbers.{read_numbers}
use Rattle.packed_sheet.proofs.Editions.{numbered_holds, edition_holds, reported, reported_one_or_two}
use Rattle.conversion.specs.Conversion.{convert_checks, converted, conversion}
use Rattle.conversion.proofs.Accepted.{reads}
use Rattle.conversion.proofs.Refusals.{convert_numbers}
use Rattle.packed_sheet.proofs.WaysOut.{frame_passes, accepted_line, sheet_length}
use Rattle.elements.specs.Answer.{arc_check, element_checks}
use Rattle.spiral_table.specs.UnitSpiralTable.{unit_spiral_table, table_in}
use Rattle.spiral_table.specs.LookUp.{look_up_checks}
use Rattle.spiral_table.proofs.EachEntry.{table_length}
use Rattle.stationing.specs.Answer.{alignment_checks}
use Rattle.stationing.proofs.Accepted.{few}
use Rattle.stationing.proofs.RowCount.{row_count}
use Rattle.coordinates.specs.FromPoints.{line_from, from_points_checks}
use Rattle.coordinates.proofs.Accepted.{line_accepted}
use Rattle.coordinates.proofs.Numbers.{from_points_numbers}
use Rattle.pegs.specs.Pegs.{station_check, peg_checks}
use Rattle.pegs.specs.Numbers.{station_numbers}
use Rattle.profile.specs.Checks.{height_checks}
use Rattle.profile.proofs.Numbers.{height_numbers_lem}
use Rattle.profile_numbers.specs.Numbers.{profile_of, height_numbers, count_check as profileCountCheck, numbers_checks as profile_numbers_checks}
use Rattle.station_report.specs.Report.{sheet_checks, sheet_text}
use Rattle.station_report.proofs.Fits.{sheet_numbers_lem, fits}
use Rattle.pokyandi.specs.Answers.{answer_number}
use Rattle.pokyandi.specs.Calls.{sheet_stations, sheet_peg_checks, sheet_peg, check_reply, sheet_numbers, told_checks, numbers_sheet, edition_reply, point_numbers, element_values, element_numbers, end_numbers, unit_spiral_in}

-- The upper and the lower half of an answer tell the reply; the numbers of a call's refusals go up to a greatest one.
abbrev pub Told : (greatest : ℕ) → FillReply → Type 0
Told greatest (filled count) = (answer_number (filled count) / 2 ^ 32 ≡ 0) × (answer_number (filled count) % 2 ^ 32 ≡ count)
Told greatest (unfilled number place) =
    (answer_number (unfilled number place) / 2 ^ 32 ≡ number)
    × (answer_number (unfilled number place) % 2 ^ 32 ≡ place)
    × (1 ≤ number)
    × (number ≤ greatest)

-- A count of at most 32 bits, or a refusal of those numbers, whose place is small.
outcome_told : (most : ℕ) (checks : Checks) (o : Outcome) (count : ℕ) → Refuses 1 most 127 checks → outcome checks ≡ o → (o ≡ passed → count < 2 ^ 32)
    → Told most (count_after o count)
unfolding answer_number
outcome_told most checks passed count r e h = let small = h refl in (omega arith, omega arith)
outcome_told most checks (refused n p) count r e h =
    let told = refusal_numbers 1 most 127 checks r e in
    (omega (arith, told.2), omega (arith, told.2), told.0, told.1)

reply_told : {A : Type 0} (most : ℕ) → 16 ≤ most → (checks : Checks) (content lent : List A) → Refuses 1 most 127 checks
    → (outcome checks ≡ passed → length content < 2 ^ 32) → Told most (fill checks content lent).reply
unfolding fill with_room
reply_told most room checks content lent r h =
    outcome_told most (with_room checks content lent) (outcome (with_room checks content lent)) (length content) (r, λ _. (omega arith, omega arith, omega arith)) refl
    (λ e. h (passed_left (outcome checks) _ e))

-- ---- the calls

module _ (sheet : List ℕ) where
  sheet_few : Refuses 1 16 127 (sheet_checks sheet)
  sheet_few = wider (sheet_checks sheet) (sheet_numbers_lem sheet) (omega arith) (omega arith) (omega arith)

  read_few : Refuses 1 16 127 (read_checks sheet)
  read_few = wider (read_checks sheet) (read_numbers sheet) (omega arith) (omega arith) (omega (arith, count_below (edition_of sheet) sheet refl))

  stations_few : outcome (sheet_checks sheet) ≡ passed → length (sheet_stations sheet) < 2 ^ 32
  unfolding sheet_checks sheet_stations
  stations_few e =
      let line = read_line sheet in
      omega (arith, row_count line, few line (passed_right (outcome (read_checks sheet)) (outcome (alignment_checks line)) e))

  pub stations_told : (lent : List ℕ) → Told 16 (fill (sheet_checks sheet) (sheet_stations sheet) lent).reply
  stations_told lent = reply_told 16 (omega arith) (sheet_checks sheet) (sheet_stations sheet) lent sheet_few stations_few

  pub check_told : Told 15 (check_reply sheet)
  unfolding check_reply
  check_told = outcome_told 15 (sheet_checks sheet) (outcome (sheet_checks sheet)) (length (sheet_stations sheet)) (sheet_numbers_lem sheet) refl stations_few

  -- The sheet's own bytes are as many as n calls for, or there is a refusal.
  pub rewrite_told : (lent : List ℕ) → Told 16 (fill (read_checks sheet) sheet lent).reply
  rewrite_told lent =
      reply_told 16 (omega arith) (read_checks sheet) sheet lent read_few
      (λ e. omega (arith, (framed (edition_of sheet) sheet (frame_passes (edition_of sheet) sheet e)).size, (edition_holds sheet).narrow, count_below (edition_of sheet) sheet refl))

  pub read_told : (lent : List ℕ) → Told 16 (fill (read_checks sheet) (sheet_numbers sheet) lent).reply
  unfolding sheet_numbers
  read_told lent =
      let line = read_line sheet in
      reply_told 16 (omega arith) (read_checks sheet) (sheet_numbers sheet) lent read_few
      (λ e. omega (arith, line_length_lem line, (line_in_range line (accepted_line (edition_of sheet) sheet e)).few))

  -- The edition, 1 or 2, or a refusal of the reader's, 1 to 11.
  pub edition_told : Told 11 (edition_reply sheet)
  unfolding edition_reply
  edition_told =
      outcome_told 11 (read_checks sheet) (outcome (read_checks sheet)) (read_edition sheet)
      (wider (read_checks sheet) (read_numbers sheet) (omega arith) (omega arith) (omega (arith, count_below (edition_of sheet) sheet refl))) refl
      (λ e. omega (arith, reported sheet e, (edition_holds sheet).number))

  pub edition_one_or_two : {n : ℕ} → edition_reply sheet ≡ filled n → (n ≡ 1) ⊎ (n ≡ 2)
  unfolding edition_reply
  edition_one_or_two {n} e =
      let told = filled_passed (outcome (read_checks sheet)) (read_edition sheet) e in
      ⊎_elim (λ one. inl (told.1 ∙ one)) (λ two. inr (told.1 ∙ two)) (reported_one_or_two sheet told.0)

  pub convert_told : (asked : ℕ) (lent : List ℕ) → Told 24 (conversion sheet asked lent).reply
  unfolding conversion converted
  convert_told asked lent =
      let few = convert_numbers sheet asked in
      reply_told 24 (omega arith) (convert_checks sheet asked) (converted sheet asked) lent
      (wider (convert_checks sheet asked) few (omega arith) (omega arith) (omega (arith, count_below (edition_of sheet) sheet refl)))
      (λ e. omega (arith, sheet_length (numbered asked) (read_line sheet), (numbered_holds asked).narrow, (line_in_range (read_line sheet) (accepted_line (edition_of sheet) sheet (reads sheet asked e))).few))

  pub text_told : (lent : List ℕ) → Told 16 (fill unchecked (sheet_text sheet) lent).reply
  text_told lent = reply_told 16 (omega arith) unchecked (sheet_text sheet) lent tt (λ e. omega (arith, fits sheet))

pub peg_told : (sheet : List ℕ) (station : ℕ) (lent : List ℤ) → Told 17 (fill (sheet_peg_checks sheet station) (sheet_peg sheet station) lent).reply
unfolding sheet_peg_checks sheet_peg station_numbers sheet_checks peg_checks station_check
peg_told sheet station lent =
    let few : Refuses 1 17 127 (sheet_checks sheet) = wider (sheet_checks sheet) (sheet_numbers_lem sheet) (omega arith) (omega arith) (omega arith) in
    reply_told 17 (omega arith) (sheet_peg_checks sheet station) (sheet_peg sheet station) lent (few.0, λ h. (few.1 h, λ _. (omega arith, omega arith, omega arith)))
    (λ e. omega arith)

pub from_points_told : (v e start : ℕ) (points : List ℤ) (curves lent : List ℕ)
    → Told 20 (fill (from_points_checks v e start points curves) (point_numbers v e start points curves) lent).reply
unfolding point_numbers
from_points_told v e start points curves lent =
    let checks = from_points_checks v e start points curves in
    let whole = line_from v e start points curves in
    reply_told 20 (omega arith) checks (point_numbers v e start points curves) lent
    (wider checks (from_points_numbers v e start points curves) (omega arith) (omega arith) (omega arith))
    (λ accepted. omega (arith, line_length_lem whole, few whole (line_accepted v e start points curves accepted)))

pub height_told : (profile lent : List ℤ) (station : ℕ) → Told 23 (fill (profile_numbers_checks profile station) (height_numbers profile station) lent).reply
unfolding profile_numbers_checks profileCountCheck height_numbers
height_told profile lent station =
    reply_told 23 (omega arith) (profile_numbers_checks profile station) (height_numbers profile station) lent
    ((omega arith, omega arith, omega arith), λ _. wider (height_checks (profile_of profile) station) (height_numbers_lem (profile_of profile) station) (omega arith) (omega arith) (omega arith))
    (λ e. omega arith)

pub write_told : (number : ℕ) (numbers lent : List ℕ) → Told 16 (fill (told_checks number numbers) (numbers_sheet number numbers) lent).reply
unfolding told_checks edition_check numbers_checks numbers_sheet count_check line_of
write_told number numbers lent =
    let line = line_of numbers in
    reply_told 16 (omega arith) (told_checks number numbers) (numbers_sheet number numbers) lent
    ((omega arith, omega arith, omega arith), λ _. ((omega arith, omega arith, omega arith), λ h. wider (field_checks (numbered number).greatest line) (line_numbers_lem _ line) (omega arith) (omega arith) (omega (arith, few_counted numbers (held (count_check numbers) h)))))
    (λ e. omega (arith, sheet_length (numbered number) line, (numbered_holds number).narrow, few_counted numbers (passed_left (outcome (count_check numbers)) _ (passed_right (outcome (edition_check number)) _ e))))

pub elements_told : (A R L : ℕ) (lent : List ℕ) → Told 16 (fill (element_checks A R L) (element_numbers A R L) lent).reply
unfolding element_checks arc_check element_numbers element_values
elements_told A R L lent =
    reply_told 16 (omega arith) (element_checks A R L) (element_numbers A R L) lent
    (wider (curve_checks A R L 0) (curve_numbers 0 A R L 0 (omega arith)) (omega arith) (omega arith) (omega arith), λ _. (omega arith, omega arith, omega arith))
    (λ e. omega arith)

pub unit_spiral_told : (r L : ℕ) (lent : List ℕ) → Told 25 (unit_spiral_in r L lent).reply
unfolding look_up_checks end_numbers unit_spiral_in
unit_spiral_told r L lent =
    reply_told 25 (omega arith) (look_up_checks r L) (end_numbers r L) lent ((omega arith, omega arith, omega arith), λ _. (omega arith, omega arith, omega arith)) (λ e. omega arith)

pub unit_spiral_table_told : (lent : List ℕ) → Told 16 (table_in lent).reply
unfolding table_in
unit_spiral_table_told lent = reply_told 16 (omega arith) unchecked unit_spiral_table lent tt (λ e. omega (arith, table_length))
