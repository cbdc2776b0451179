-- The converter refuses with 1 to 11, 24 and 16 alone, at places up to n; and a refusal is the first in order. Assumes nothing.
use mathlib.Core.Path.{◌≡◌, refl, ap}
use mathlib.Core.Bool.{Bool, true, ◌||◌}
use mathlib.Core.Logic.{⊎_elim}
use mathlib.Core.List.{List}
use Prim.Native.Nat.{ℕ, ◌≤◌}
use native.Mathlib.Omega.{arith}
use lib.Dec.{leb, eqb}
use borrow.Author.Tests.{le-leb}
use Rattle.refusals.specs.Outcomes.{refused, need}
use Rattle.refusals.specs.Order.{outcome, First}
use Rattle.refusals.specs.Filling.{unfilled, with_room}
use Rattle.refusals.proofs.Filled.{unfound}
use Rattle.refusals.proofs.Joining.{refused_by, need_refused}
use Rattle.refusals.proofs.Numbers.{Refuses, refusal_numbers, wider}
use Rattle.line.specs.Checks.{within}
use Rattle.packed_sheet.specs.Layout.{numbered}
use Rattle.packed_sheet.specs.Reading.{count_of, edition_of, read_checks, read_line, read_edition}
use Rattle.round_trips.proofs.Numbers.{read_numbers}
use Rattle.conversion.specs.Conversion.{other_number, asked_checks, convert_checks, converted, conversion}

pub convert_numbers : (sheet : List ℕ) (asked : ℕ) → Refuses 1 24 (count_of (edition_of sheet) sheet) (convert_checks sheet asked)
unfolding convert_checks asked_checks
convert_numbers sheet asked =
    (wider (read_checks sheet) (read_numbers sheet) (omega arith) (omega arith) (omega arith), λ _. ((omega arith, omega arith, omega arith), λ _. (omega arith, omega arith, omega arith)))

-- The numbers that its checks can have.
abbrev pub answerable : ℕ → Bool
answerable n = within 1 11 n || eqb n 24

from_reader : {n : ℕ} → 1 ≤ n → n ≤ 11 → answerable n ≡ true
from_reader {n} l h = rw (le-leb 1 n l, le-leb n 11 h) refl

pub convert_answerable : (sheet : List ℕ) (asked : ℕ) {n p : ℕ} → outcome (convert_checks sheet asked) ≡ refused n p → answerable n ≡ true
unfolding convert_checks asked_checks
convert_answerable sheet asked e =
    ⊎_elim
    (λ read. let told = refusal_numbers 1 11 (count_of (edition_of sheet) sheet) (read_checks sheet) (read_numbers sheet) read in from_reader told.0 told.1)
    (λ then. ⊎_elim
    (λ other. ap answerable (need_refused (eqb asked (other_number (read_edition sheet))) 2 0 other).1)
    (λ far. ap answerable (need_refused (leb (read_line sheet).start (numbered asked).greatest) 24 0 far.1).1)
    (refused_by (need (eqb asked (other_number (read_edition sheet))) 2 0) _ then.1))
    (refused_by (outcome (read_checks sheet)) _ e)

pub convert_first : (sheet : List ℕ) (asked : ℕ) (bytes : List ℕ) {n p : ℕ} → (conversion sheet asked bytes).reply ≡ unfilled n p
    → First (with_room (convert_checks sheet asked) (converted sheet asked) bytes) n p
unfolding conversion
convert_first sheet asked bytes e = (unfound (convert_checks sheet asked) (converted sheet asked) bytes e).first
