-- The converter (document 02, N6): "brings every edition 1 sheet to edition 2 with the same line, and back".
use Rattle.std.specs.Prelude.{cond, List, ℕ, leb, eqb}
use Rattle.refusals.specs.Order.{Checks, check, ◌⨾◌}
use Rattle.refusals.specs.Filling.{Fill, fill}
use Rattle.packed_sheet.specs.Layout.{numbered}
use Rattle.packed_sheet.specs.Reading.{read_checks, read_line, read_edition}
use Rattle.packed_sheet.specs.Writing.{sheet_of}

-- The number of "the other one".
unfoldable pub other_number : ℕ → ℕ
other_number number = cond (eqb number 2) 1 2

-- "with 2 any edition asked for but the other one, with 24 the way back for a start over 200,000,000": over the greatest of the edition asked
-- for, which on the way there no start is (`every_first_converted`)
unfoldable pub asked_checks : (number start asked : ℕ) → Checks
asked_checks number start asked =
    check (eqb asked (other_number number)) 2 0
    ⨾ check (leb start (numbered asked).greatest) 24 0

-- "after all reading checks"
unfoldable pub convert_checks : List ℕ → ℕ → Checks
convert_checks sheet asked = read_checks sheet ⨾ asked_checks (read_edition sheet) (read_line sheet).start asked

-- The sheet of "the same line" in the edition asked for.
unfoldable pub converted : List ℕ → ℕ → List ℕ
converted sheet asked = sheet_of (numbered asked) (read_line sheet)

-- The converter, with bytes lent: its checks, "then .. 16"
unfoldable pub conversion : List ℕ → ℕ → List ℕ → Fill ℕ
conversion sheet asked = fill (convert_checks sheet asked) (converted sheet asked)
