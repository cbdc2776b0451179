-- A converted sheet is converted back, to the same bytes. Assumes nothing.
use mathlib.Core.Path.{◌≡◌, sym, ◌∙◌, ap, subst}
use mathlib.Core.List.{List}
use Prim.Native.Nat.{ℕ, ◌≤◌}
use Rattle.refusals.specs.Outcomes.{passed}
use Rattle.refusals.specs.Order.{outcome}
use Rattle.line.specs.declared.Line.{Line}
use Rattle.bits.specs.Bits.{Bytes}
use Rattle.packed_sheet.specs.declared.Edition.{Edition}
use Rattle.packed_sheet.specs.Layout.{numbered}
use Rattle.packed_sheet.specs.Reading.{edition_of, read_edition}
use Rattle.packed_sheet.specs.Writing.{sheet_of}
use Rattle.packed_sheet.proofs.Editions.{of_both, reported}
use Rattle.packed_sheet.proofs.RoundTrip.{start_held, read_written}
use Rattle.conversion.specs.Conversion.{other_number, convert_checks, converted}
use Rattle.conversion.proofs.Accepted.{accepts, reads, is_other}
use Rattle.conversion.proofs.SameLine.{same_line}

-- The other of the other is the first.
other_other : (number : ℕ) → other_number (other_number (numbered number).number) ≡ (numbered number).number
unfolding other_number
other_other = of_both (λ (E : Edition). other_number (other_number E.number) ≡ E.number) (λ j. 1) (λ j. 2)

module _ (sheet : List ℕ) (asked : ℕ) (accepted : outcome (convert_checks sheet asked) ≡ passed) where
  abbrev own : ℕ
  own = read_edition sheet

  -- The edition that was read is the other of the one that was asked for.
  back : own ≡ other_number asked
  unfolding edition_of
  back =
      let read = reported sheet (reads sheet asked accepted) in
      read ∙ sym (other_other _) ∙ ap (λ (n : ℕ). other_number (other_number n)) (sym read) ∙ ap other_number (sym (is_other sheet asked accepted))

  pub converted_back : outcome (convert_checks (converted sheet asked) own) ≡ passed
  converted_back =
      let same = same_line sheet asked accepted in
      accepts (converted sheet asked) own same.reads (back ∙ ap other_number (sym same.edition))
      (subst (λ (l : Line). l.start ≤ (numbered own).greatest) (sym same.line) (start_held sheet (reads sheet asked accepted)))

  pub same_bytes : Bytes sheet → converted (converted sheet asked) own ≡ sheet
  unfolding converted
  same_bytes bytes = ap (sheet_of (numbered own)) (same_line sheet asked accepted).line ∙ read_written sheet bytes (reads sheet asked accepted)
