-- What the reader answers where 1 to 7 pass; the length of the writer's sheet. Assumes nothing.
use mathlib.Core.Path.{◌≡◌, ◌∙◌, ap}
use mathlib.Core.List.{List}
use Prim.Native.Nat.{ℕ}
use lib.ListN.{length}
use Rattle.refusals.specs.Outcomes.{Outcome, passed}
use Rattle.refusals.specs.Order.{outcome}
use Rattle.refusals.proofs.Joining.{passed_left}
use Rattle.line.specs.declared.Line.{Line}
use Rattle.line.specs.Entries.{line_after}
use Rattle.line.specs.Checks.{field_checks}
use Rattle.packed_sheet.specs.declared.Edition.{Edition}
use Rattle.packed_sheet.specs.Layout.{byte_count}
use Rattle.packed_sheet.specs.Reading.{line_of, frame_checks, read_checks_as, read_line_as}
use Rattle.packed_sheet.specs.Writing.{sheet_number, sheet_of}
use Rattle.bits.specs.Bits.{Bytes}
use Rattle.bits.proofs.Bytes.{length_bytes, bytes_bytes}
use Rattle.packed_sheet.proofs.Frames.{framed}

-- ---- the reader

module _ (E : Edition) (s : List ℕ) where
  -- Once 1 to 7 pass, the check of the line decides.
  pub line_decides : outcome (frame_checks E s) ≡ passed → outcome (field_checks E.greatest (line_of E s)) ≡ outcome (read_checks_as E s)
  unfolding read_checks_as field_checks line_of
  line_decides e =
      rw (e, (framed E s e).head)

  -- Where nothing is refused, 1 to 7 pass, and so does the line that is read.
  pub frame_passes : outcome (read_checks_as E s) ≡ passed → outcome (frame_checks E s) ≡ passed
  unfolding read_checks_as
  frame_passes e = passed_left (outcome (frame_checks E s)) _ e

  pub accepted_line : outcome (read_checks_as E s) ≡ passed → outcome (field_checks E.greatest (read_line_as E s)) ≡ passed
  unfolding read_line_as
  accepted_line e = ap (λ (o : Outcome). outcome (field_checks E.greatest (line_after o (line_of E s)))) e ∙ line_decides (frame_passes e) ∙ e

-- ---- the writer

pub sheet_length : (E : Edition) (line : Line) → length (sheet_of E line) ≡ byte_count E line.count
unfolding sheet_of
sheet_length E line = length_bytes (byte_count E line.count) (sheet_number E line)

pub sheet_bytes : (E : Edition) (line : Line) → Bytes (sheet_of E line)
unfolding sheet_of
sheet_bytes E line = bytes_bytes (byte_count E line.count) (sheet_number E line)
