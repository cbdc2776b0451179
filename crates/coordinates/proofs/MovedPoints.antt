-- Moving all points by the same amount changes nothing, where 18 says the same of both. Assumes nothing.
use mathlib.Core.Path.{◌≡◌, refl, ◌∙◌, ap}
use mathlib.Core.List.{List}
use Prim.Native.Nat.{ℕ, ◌+◌, ◌*◌, ◌<◌}
use lib.IntN.{ℤ, pos, ◌+ℤ◌}
use lib.ListN.{length}
use lib.Signed.{lt_z}
use Rattle.numbers.proofs.Signs.{moved_difference}
use Rattle.refusals.specs.Order.{in_turn, outcome}
use Rattle.refusals.specs.Replying.{reply}
use Rattle.coordinates.specs.declared.Leg.{Leg}
use Rattle.coordinates.specs.Legs.{coordinate_at, leg_at, cross_of}
use Rattle.coordinates.specs.FromPoints.{curve_from, line_from, coordinate_check, from_points_checks}
use Rattle.coordinates.specs.Moves.{moved}
use Rattle.coordinates.proofs.Changed.{same_length, east_step, north_step}
use Rattle.coordinates.proofs.ChangedLegs.{Keeps, product, curve_with, line_with_lem, answer_with}

-- No leg changes.
abbrev unchanged : Leg → Leg
unchanged leg = leg

kept : Keeps unchanged
kept = record { length = λ leg. refl; cross = λ into out. refl; dot = λ into out. refl }

module _ (east north : ℤ) (points : List ℤ) where
  lengths : length (moved east north points) ≡ length points
  lengths = same_length (λ x. x +ℤ east) (λ x. x +ℤ north) points

  same_leg : (i : ℕ) → 2 * i + 3 < length points → leg_at (moved east north points) i ≡ unchanged (leg_at points i)
  same_leg i h =
      let f : ℤ → ℤ = λ x. x +ℤ east in
      let g : ℤ → ℤ = λ x. x +ℤ north in
      let e = east_step f g points i h ∙ moved_difference (coordinate_at points (2 * i + 2)) (coordinate_at points (2 * i)) east in
      let n = north_step f g points i h ∙ moved_difference (coordinate_at points (2 * i + 1 + 2)) (coordinate_at points (2 * i + 1)) north in
      λ j. record { east = e j; north = n j }

  -- The same answer, line or refusal.
  pub moved_changes_nothing : (v e start : ℕ) (curves : List ℕ)
      → outcome (in_turn (coordinate_check (moved east north points)) (length (moved east north points)))
      ≡ outcome (in_turn (coordinate_check points) (length points))
      → reply (from_points_checks v e start (moved east north points) curves) (line_from v e start (moved east north points) curves)
      ≡ reply (from_points_checks v e start points curves) (line_from v e start points curves)
  unfolding line_from curve_from
  moved_changes_nothing v e start curves ranges =
      let other = moved east north points in
      answer_with unchanged kept points other lengths same_leg curves v e start (line_from v e start points curves) ranges
      (λ counted accepted.
      line_with_lem unchanged kept points other lengths same_leg curves counted v e start (curve_from points curves)
      (λ i h.
      curve_with unchanged kept points other lengths same_leg curves counted i h
      (ap (λ (z : ℤ). lt_z (pos 0) z) (product unchanged kept points other lengths same_leg curves counted cross_of i h))))
