-- The line of numbers, filled entry by entry. Assumes nothing.
use mathlib.Core.Path.{◌≡◌, refl}
use mathlib.Core.List.{List}
use Prim.Native.Nat.{ℕ, ◌+◌, ◌<◌}
use native.Mathlib.Numerals.{add-one}
use native.Mathlib.Omega.{arith}
use lib.ListN.{set}
use Rattle.line.specs.declared.Curve.{Curve}
use Rattle.line.specs.declared.Line.{Line}
use Rattle.line.specs.Checks.{blank_curve}
use Rattle.line.specs.Entries.{entries, entered, blank_line}
use Rattle.line.proofs.Entries.{entries_set}
use Rattle.line_numbers.specs.Numbers.{number_at, distance_of, curve_of, line_of}

-- The line with the first i curves and the distances before and after them.
unfoldable pub line_to : List ℕ → ℕ → Line
line_to numbers i =
    record {
      speed = number_at numbers 1;
      crossfall = number_at numbers 2;
      start = number_at numbers 3;
      count = number_at numbers 0;
      distances = entries 65 (i + 1) (distance_of numbers) 0;
      curves = entries 64 i (curve_of numbers) blank_curve;
    }

-- The head and distance 0 in a blank line.
pub line_begun : (numbers : List ℕ) {blank : Line} → blank ≡ blank_line
    → ◌≡◌ {A = Line}
    (record {
      speed = number_at numbers 1;
      crossfall = number_at numbers 2;
      start = number_at numbers 3;
      count = number_at numbers 0;
      distances = set blank.distances 0 (number_at numbers 4);
      curves = blank.curves;
    })
    (line_to numbers 0)
unfolding line_to entries
line_begun numbers e = rw e

-- One curve more, and the distance after it, at the code's `i + 1`.
pub line_goes_on : (numbers : List ℕ) (i : ℕ) (l : Line) (c : Curve) (d : ℕ) → i < 64 → l ≡ line_to numbers i → c ≡ curve_of numbers i
    → d ≡ distance_of numbers (i + 1)
    → entered l (set l.distances (i + 1) d) (set l.curves i c) ≡ line_to numbers (i + 1)
unfolding line_to
line_goes_on numbers i l c d h e p q =
    rw (e, p, q)
    (λ j. record {
      speed = number_at numbers 1;
      crossfall = number_at numbers 2;
      start = number_at numbers 3;
      count = number_at numbers 0;
      distances = entries_set 65 (i + 1) (distance_of numbers) 0 (omega arith) j;
      curves = entries_set 64 i (curve_of numbers) blank_curve h j;
    })

-- All n curves.
pub line_done : (numbers : List ℕ) (i : ℕ) → number_at numbers 0 ≡ i → line_to numbers i ≡ line_of numbers
unfolding line_to line_of
line_done numbers i e = rw (add-one i, e) refl

-- What the proof of `line_of` cites.
pub ruleset filling = (line_begun, line_goes_on, line_done)
