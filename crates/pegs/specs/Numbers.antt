-- A peg as five numbers, for callers in other languages: "kind, number, length, x, y".
use Rattle.std.specs.Prelude.{List, [], ◌∷◌, ℕ, ℤ, pos}
use Rattle.line.specs.declared.Line.{Line}
use Rattle.stationing.specs.declared.ElementKind.{ElementKind}
use Rattle.stationing.specs.declared.ElementKind.TheVariants.{Straight, SpiralIn, Arc, SpiralOut}
use Rattle.pegs.specs.Pegs.{along_line, PegValues, peg_by}

-- "0 straight, 1 spiral in, 2 arc, 3 spiral out"
abbrev pub kind_number : ElementKind → ℕ
kind_number Straight = 0
kind_number SpiralIn = 1
kind_number Arc = 2
kind_number SpiralOut = 3

abbrev pub peg_numbers : PegValues → List ℤ
peg_numbers v = pos (kind_number v.kind) ∷ pos v.number ∷ v.length ∷ v.offsets.x ∷ v.offsets.y ∷ []

-- Those at a station of a line.
unfoldable pub station_numbers : Line → ℕ → List ℤ
station_numbers line station = peg_numbers (peg_by line (along_line line station))
