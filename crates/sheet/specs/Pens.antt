-- How far the writer has come in the caller's bytes: what the contracts of its private functions say.
use Rattle.std.specs.Prelude.{◌≡◌, List, ℕ, ◌+◌, ◌*◌, ◌%◌, ◌^◌, ◌≤◌, ◌<◌, length}
use Rattle.line.specs.declared.Line.{Line}
use Rattle.sheet.specs.declared.pen.Pen.{Pen}
use Rattle.bits.specs.Bits.{bits_at}
use Rattle.packed_sheet.specs.declared.Edition.{Edition}
use Rattle.packed_sheet.specs.Writing.{sheet_of}
use Rattle.packed_sheet.specs.EachStore.{so_far, Stores}

-- The line whose sheet is written, and the edition that the writer is told.
pub record Told : Type 0 where
  pub edition : Edition
  pub line : Line

-- Those of a function that is given both.
abbrev pub told : Edition → Line → Told
told E line = record { edition = E; line = line }

-- The sheet's bytes.
abbrev pub sheet : Told → List ℕ
sheet told = sheet_of told.edition told.line

-- How many bits are stored or wait.
abbrev pub position : Pen → ℕ
position p = 8 * p.at + p.held

-- The caller's bytes have room for the sheet, and the first k are the sheet's.
pub record Begun (E : Edition) (line : Line) (bytes : List ℕ) (k : ℕ) : Type 0 where
  pub room : length (sheet_of E line) ≤ length bytes
  pub stored : bytes ≡ so_far E line bytes k

-- The bits that wait, less than a word of 64, are the sheet's next.
pub record Waits (E : Edition) (line : Line) (p : Pen) : Type 0 where
  pub few : p.held < 64
  pub next : p.pending % 2 ^ p.held ≡ bits_at (sheet_of E line) (8 * p.at) p.held

-- As far as a pen has come, within the sheet, what is stored and what waits is the sheet's.
pub record Come (told : Told) (bytes : List ℕ) (p : Pen) : Type 0 where
  pub begun : Begun told.edition told.line bytes p.at
  pub waits : Waits told.edition told.line p
  pub within : position p ≤ 8 * length (sheet told)

-- A field that a pen puts: the sheet's next bits.
pub record Next (told : Told) (p : Pen) (width value : ℕ) : Type 0 where
  pub narrow : width < 64
  pub within : position p + width ≤ 8 * length (sheet told)
  pub bits : value ≡ bits_at (sheet told) (position p) width

-- `width` bits more of the sheet were taken: the whole words among them are stored, byte by byte, and the others wait.
pub record Put (told : Told) (before after : List ℕ) (p q : Pen) (width : ℕ) : Type 0 where
  pub moved : position q ≡ position p + width
  pub come : Come told after q
  pub stores : Stores told.edition told.line p.at before q.at after
