-- What the private steps of the call for a peg promise.
use Rattle.std.specs.Prelude.{cond, ℕ, ◌+◌, ◌-◌, ◌*◌, ltb, pos}
use Rattle.line.specs.declared.Curve.{Curve}
use Rattle.stationing.specs.declared.ElementKind.{ElementKind}
use Rattle.stationing.specs.declared.ElementKind.TheVariants.{SpiralIn, Arc, SpiralOut}
use Rattle.pegs.specs.Pegs.{PegValues, no_offsets, curve_offsets}

-- The peg at the length l of a straight or an arc.
abbrev pub plain_peg : ElementKind → (number l : ℕ) → PegValues
plain_peg kind number l = record { kind = kind; number = number; length = pos l; offsets = no_offsets }

-- The peg at the length l of a curve's spiral.
abbrev pub spiral_peg : ElementKind → (number : ℕ) → Curve → (l : ℕ) → PegValues
spiral_peg kind number curve l =
    record { kind = kind; number = number; length = pos l; offsets = curve_offsets curve l }

-- The peg of a curve at the length `inside` from its TS: on its spiral in, its arc or its spiral out.
unfoldable pub peg_in_curve : (number : ℕ) → Curve → (arc inside : ℕ) → PegValues
peg_in_curve number curve arc inside =
    let L = 1000 * curve.spiral in
    cond (ltb inside L) (spiral_peg SpiralIn number curve inside)
    (cond (ltb inside (L + arc)) (plain_peg Arc number (inside - L)) (spiral_peg SpiralOut number curve (L + arc + L - inside)))
