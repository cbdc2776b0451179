-- What the private steps of the element call promise.
use Rattle.std.specs.Prelude.{◌≡◌, ℕ, ◌*◌, pos, ◌-ℤ◌}
use Rattle.elements.specs.declared.rule.Offset.{Offset}
use Rattle.elements.specs.declared.rule.Spirals.{Spirals}
use Rattle.elements.specs.WorkingRule.{rounded, spiral_x, spiral_y, centre_of, shift_of}

-- A coordinate of the spiral's end, `spiral` times `ratio`, and what is left of it without `radius` times `part`.
pub record OffsetOf (spiral ratio radius part : ℕ) (o : Offset) : Type 0 where
  pub end : pos o.end ≡ rounded (pos (spiral * ratio)) 1000000
  pub rest : pos o.rest ≡ rounded (pos (spiral * ratio)) 1000000 -ℤ rounded (pos (radius * part)) 1000000

-- What the radius and the spiral give alone: X, Y, k and p.
pub record SpiralsOf (R L : ℕ) (s : Spirals) : Type 0 where
  pub X : pos s.x ≡ spiral_x R L
  pub Y : pos s.y ≡ spiral_y R L
  pub k : pos s.centre ≡ centre_of R L
  pub p : pos s.shift ≡ shift_of R L
