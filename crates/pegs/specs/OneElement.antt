-- Where a length from the line's start lies (document 02, N1), as a relation to the line's elements in order: index 0 is the first straight.
use Rattle.std.specs.Prelude.{◌≡◌, true, ◌⊎◌, ℕ, suc, ◌<◌, ℤ, length, get_or}
use Rattle.line.specs.declared.Line.{Line}
use Rattle.stationing.specs.LineElements.{line_length, Placed, placed_elements}
use Rattle.pegs.specs.Pegs.{holds, last_straight, element_under}

-- How many elements a line has, and the element at an index.
abbrev pub element_count : Line → ℕ
element_count line = length (placed_elements line)

abbrev pub element_at : Line → ℕ → Placed
element_at line j = get_or (placed_elements line) j (last_straight line)

-- A length lies on the element that begins at or before it and ends after it, and the line's whole length on the last one.
pub record LiesOn (line : Line) (along : ℤ) (j : ℕ) : Type 0 where
  pub inside : j < element_count line
  pub lies : (holds along (element_at line j) ≡ true) ⊎ ((along ≡ line_length line) × (suc j ≡ element_count line))

-- It lies on one element and on no other, and that is the element under it.
pub record OnOneElement (line : Line) (along : ℤ) : Type 0 where
  pub index : ℕ
  pub here : LiesOn line along index
  pub only : (j : ℕ) → LiesOn line along j → j ≡ index
  pub under : element_under line along ≡ element_at line index
