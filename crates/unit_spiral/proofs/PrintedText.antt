-- The text that the program prints: its length, and its first and last lines, by computation. Assumes nothing.
use mathlib.Core.Path.{◌≡◌, refl}
use lib.ListN.{length, take, drop}
use Rattle.report.specs.Numbers.{ascii, digits_within, decimal}
use Rattle.report.specs.Text.{words, lines_of, row_line, table_text}
use Rattle.elements.specs.WorkingRule.{t2, t3, t4, t5, t6, unit_x, unit_y}
use Rattle.spiral_table.specs.UnitSpiralTable.{row_angle, rows_from, unit_spiral_table}

pub record PrintedText : Type 0 where
  pub size : length (table_text unit_spiral_table) ≡ 11574
  pub first_lines : take 34 (table_text unit_spiral_table) ≡ ascii "0 1000000000 0\n1 999999900 333333\n"
  pub last_line : drop 11550 (table_text unit_spiral_table) ≡ ascii "500 975287682 163714150\n"

pub printed_text : PrintedText
unfolding ascii digits_within decimal words lines_of row_line table_text t2 t3 t4 t5 t6 unit_x unit_y row_angle rows_from unit_spiral_table
printed_text = record { size = refl; first_lines = refl; last_line = refl }
