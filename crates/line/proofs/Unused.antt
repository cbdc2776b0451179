-- The checks read no unused entry and no side: lines that are alike where they are used have the same first refusal. Assumes nothing.
use mathlib.Core.Path.{◌≡◌, refl, ap}
use Prim.Native.Nat.{ℕ, zero, suc, ◌≤◌, ◌<◌}
use native.Mathlib.Omega.{arith}
use Rattle.refusals.specs.Order.{outcome}
use Rattle.line.specs.declared.Curve.{Curve}
use Rattle.line.specs.declared.Line.{Line}
use Rattle.line.specs.Checks.{distance_at, blank_curve, curve_at, body_checks, field_checks}
use Rattle.line.specs.Entries.{cleared}
use Rattle.line.specs.Ranges.{AlikeWhereUsed}
use Rattle.line.proofs.Entries.{entries_get}

module _ (l m : Line) (alike : AlikeWhereUsed l m) where
  same_body : (i : ℕ) → i ≤ l.count → outcome (body_checks l i) ≡ outcome (body_checks m i)
  unfolding body_checks
  same_body zero h = rw (alike.distance 0 h)
  same_body (suc i) h =
      rw (
        same_body i (omega arith),
        alike.deflection i h,
        alike.radius i h,
        alike.spiral i h,
        alike.distance (suc i) h,
      )

  pub unused_ignored : (g : ℕ) → outcome (field_checks g l) ≡ outcome (field_checks g m)
  unfolding field_checks
  unused_ignored g =
      rw (same_body l.count (omega arith), alike.count, alike.speed, alike.crossfall, alike.start)

-- ---- a line and the same with its unused entries zero

module _ (line : Line) (few : line.count ≤ 64) where
  pub cleared_distance : (i : ℕ) → i ≤ line.count → distance_at (cleared line) i ≡ distance_at line i
  unfolding cleared
  cleared_distance i h = entries_get 65 (suc line.count) i (distance_at line) 0 0 (omega arith) (omega (arith, few))

  pub cleared_curve : (i : ℕ) → i < line.count → curve_at (cleared line) i ≡ curve_at line i
  unfolding cleared
  cleared_curve i h = entries_get 64 line.count i (curve_at line) blank_curve blank_curve h few

  pub cleared_alike : AlikeWhereUsed (cleared line) line
  unfolding cleared
  cleared_alike =
      record {
        speed = refl;
        crossfall = refl;
        start = refl;
        count = refl;
        distance = cleared_distance;
        deflection = λ i h. ap (λ (c : Curve). c.deflection) (cleared_curve i h);
        radius = λ i h. ap (λ (c : Curve). c.radius) (cleared_curve i h);
        spiral = λ i h. ap (λ (c : Curve). c.spiral) (cleared_curve i h);
      }
