-- The line of points, filled entry by entry: the distances first, then the curves. Assumes nothing.
use mathlib.Core.Path.{◌≡◌, refl}
use mathlib.Core.List.{List}
use Prim.Native.Nat.{ℕ, suc, ◌+◌, ◌<◌}
use lib.IntN.{ℤ}
use lib.ListN.{set}
use Rattle.line.specs.declared.Curve.{Curve}
use Rattle.line.specs.declared.Line.{Line}
use Rattle.line.specs.Checks.{blank_curve}
use Rattle.line.specs.Entries.{entries, entered, blank_line}
use Rattle.line.proofs.Entries.{entries_set}
use Rattle.coordinates.specs.Legs.{curve_count}
use Rattle.coordinates.specs.FromPoints.{distance_from, curve_from, line_from}

module _ (v e start : ℕ) (points : List ℤ) (designs : List ℕ) where
  -- The line with these fields beside its own.
  abbrev with_entries : List ℕ → List Curve → Line
  with_entries distances curves =
      record { speed = v; crossfall = e; start = start; count = curve_count points; distances = distances; curves = curves }

  -- The line with the first i distances and the first k curves.
  unfoldable pub line_to : (i k : ℕ) → Line
  line_to i k = with_entries (entries 65 i (distance_from points) 0) (entries 64 k (curve_from points designs) blank_curve)

  -- The head in a blank line.
  pub line_begun : {blank : Line} → blank ≡ blank_line → with_entries blank.distances blank.curves ≡ line_to 0 0
  unfolding line_to entries
  line_begun e = rw e refl

  -- One distance more, and one curve more, at the code's `i + 1`.
  pub distance_set : (i mm : ℕ) {l : Line} → i < 65 → l ≡ line_to i 0 → mm ≡ distance_from points i
      → entered l (set l.distances i mm) l.curves ≡ line_to (i + 1) 0
  unfolding line_to
  distance_set i mm h e d =
      rw (e, d) (λ j. with_entries (entries_set 65 i (distance_from points) 0 h j) (entries 64 0 (curve_from points designs) blank_curve))

  pub curve_set : (i k : ℕ) (c : Curve) {l : Line} → k < 64 → l ≡ line_to i k → c ≡ curve_from points designs k
      → entered l l.distances (set l.curves k c) ≡ line_to i (k + 1)
  unfolding line_to
  curve_set i k c h e d =
      rw (e, d) (λ j. with_entries (entries 65 i (distance_from points) 0) (entries_set 64 k (curve_from points designs) blank_curve h j))

  -- All of them.
  pub line_done : line_to (suc (curve_count points)) (curve_count points) ≡ line_from v e start points designs
  unfolding line_to line_from
  line_done = refl
