-- What a sheet means (document 01, "Packed sheet" and "Order", and document 02, N6): its edition and its line, or the first refusal, for any
-- list of bytes.
use Rattle.std.specs.Prelude.{◌&&◌, List, ℕ, suc, ◌+◌, leb, eqb, length, get_or}
use Rattle.refusals.specs.Outcomes.{Outcome, passed, refused}
use Rattle.refusals.specs.Order.{Checks, check, ◌⨾◌, outcome}
use Rattle.line.specs.declared.Curve.{Curve}
use Rattle.line.specs.declared.Line.{Line}
use Rattle.line.specs.Checks.{head_checks, body_checks, blank_curve}
use Rattle.line.specs.Entries.{entries, line_after}
use Rattle.packed_sheet.specs.declared.Edition.{Edition}
use Rattle.packed_sheet.specs.declared.Head.{Head}
use Rattle.bits.specs.Bits.{bits_at, values_at}
use Rattle.packed_sheet.specs.Layout.{numbered, edition_width, head_widths, distance_width, curve_widths, entry_at, bit_count, byte_count, fill_width}

-- The head of its fields, in order: edition, n, V, e, start.
abbrev pub head_from : List ℕ → Head
head_from fields =
    record {
      edition = get_or fields 0 0;
      count = get_or fields 1 0;
      speed = get_or fields 2 0;
      crossfall = get_or fields 3 0;
      start = get_or fields 4 0;
    }

-- The curve of its fields, in order: "side (0 right, 1 left ..)", A, R, L.
abbrev pub curve_from : List ℕ → Curve
curve_from fields =
    record { left = eqb (get_or fields 0 0) 1; deflection = get_or fields 1 0; radius = get_or fields 2 0; spiral = get_or fields 3 0 }

-- The head of a sheet.
unfoldable pub head_of : Edition → List ℕ → Head
head_of E sheet = head_from (values_at sheet 0 (head_widths E))

-- n
abbrev pub count_of : Edition → List ℕ → ℕ
count_of E sheet = (head_of E sheet).count

-- Distance i, and the curve after it.
unfoldable pub distance_of : Edition → List ℕ → ℕ → ℕ
distance_of E sheet i = bits_at sheet (entry_at E i) distance_width

unfoldable pub curve_of : Edition → List ℕ → ℕ → Curve
curve_of E sheet i = curve_from (values_at sheet (entry_at E i + distance_width) curve_widths)

-- The line of a sheet: n + 1 distances and n curves; "The reader fills the unused entries of the line with zero."
unfoldable pub line_of : Edition → List ℕ → Line
line_of E sheet =
    record {
      speed = (head_of E sheet).speed;
      crossfall = (head_of E sheet).crossfall;
      start = (head_of E sheet).start;
      count = count_of E sheet;
      distances = entries 65 (suc (count_of E sheet)) (distance_of E sheet) 0;
      curves = entries 64 (count_of E sheet) (curve_of E sheet) blank_curve;
    }

-- 1: "fewer bytes than n calls for"; 7: "more bytes than n calls for, or a fill bit set"
unfoldable pub size_checks : Edition → List ℕ → ℕ → Checks
size_checks E sheet n =
    check (leb (byte_count E n) (length sheet)) 1 0
    ⨾ check (leb (length sheet) (byte_count E n) && eqb (bits_at sheet (bit_count E n) (fill_width E n)) 0) 7 0

-- "1 (seven bytes), 2, 3, 4, 5, 6, 1 (full length), 7"; "the reader's .. refusal 6 follows the edition"
unfoldable pub frame_checks : Edition → List ℕ → Checks
frame_checks E sheet =
    check (leb 7 (length sheet)) 1 0
    ⨾ check (eqb (head_of E sheet).edition E.number) 2 0
    ⨾ head_checks E.greatest (count_of E sheet) (head_of E sheet).speed (head_of E sheet).crossfall (head_of E sheet).start
    ⨾ size_checks E sheet (count_of E sheet)

-- "then 8 to 11 in sheet order"
unfoldable pub read_checks_as : Edition → List ℕ → Checks
read_checks_as E sheet = frame_checks E sheet ⨾ body_checks (line_of E sheet) (count_of E sheet)

-- The line that is answered for a sheet that is read as one of this edition.
unfoldable pub read_line_as : Edition → List ℕ → Line
read_line_as E sheet = line_after (outcome (read_checks_as E sheet)) (line_of E sheet)

-- The edition whose number the first four bits have.
unfoldable pub edition_of : List ℕ → Edition
edition_of sheet = numbered (bits_at sheet 0 edition_width)

-- The reader takes a sheet as one of the edition that it names: its checks, and the line that it answers.
abbrev pub read_checks : List ℕ → Checks
read_checks sheet = read_checks_as (edition_of sheet) sheet

abbrev pub read_line : List ℕ → Line
read_line sheet = read_line_as (edition_of sheet) sheet

-- A number beside the outcome of the checks: 0 after a refusal.
abbrev pub number_after : Outcome → ℕ → ℕ
number_after passed number = number
number_after (refused _ _) number = 0

-- "The reader reports the edition": its number
unfoldable pub read_edition : List ℕ → ℕ
read_edition sheet = number_after (outcome (read_checks sheet)) (edition_of sheet).number
