-- `with_arc`: the product (1,000 R + p) × tan fits 64 bits, and the six values are the rule's. Assumes nothing.
use mathlib.Core.Path.{◌≡◌, refl}
use Prim.Native.Nat.{ℕ, ◌+◌, ◌*◌, ◌≤◌}
use lib.IntN.{pos}
use Rattle.line.specs.Ranges.{CurveInRange}
use Rattle.elements.specs.WorkingRule.{shift_of}
use native.Mathlib.Nat.{mul-le-mul}
use native.Mathlib.Omega.{arith}
use Rattle.numbers.proofs.Ranges.{at_most}
use Rattle.elements.proofs.Bounds.{bounds}
use Rattle.elements.proofs.Computed.{computed_tt, computed_values}
use Rattle.elements.proofs.rule.CheckedCurve.with_arc.Goals as goal

product_most : {A R L p tan : ℕ} → CurveInRange A R L → pos p ≡ shift_of R L → tan ≤ 2318405749 → (1000 * R + p) * tan ≤ 5083333333 * 2318405749
product_most {A} {R} {L} ok e h = mul-le-mul {n₂ = 5083333333} (omega (arith, ok.R-most, at_most e (bounds A R L ok).p)) h

pub overflow_add-self : goal.overflow_add-self
overflow_add-self c = omega (arith, at_most c.spirals-s.ensures.p (bounds _ _ _ c.args.self.in_range).p)

pub overflow_mul-self-2 : goal.overflow_mul-self-2
overflow_mul-self-2 c =
    let ok = c.args.self.in_range in
    omega (arith, product_most ok c.spirals-s.ensures.p c.tan_half.ensures.1)

pub round-beyond-requires : goal.round-beyond-requires
round-beyond-requires c =
    let ok = c.args.self.in_range in
    (omega (arith, product_most ok c.spirals-s.ensures.p c.tan_half.ensures.1), omega arith, omega arith, refl)

pub overflow_add-result : goal.overflow_add-result
overflow_add-result c =
    let s = c.spirals-s.ensures in
    let A = c.args.self.deflection in
    let R = c.args.self.radius in
    let L = c.args.self.spiral in
    omega
    (arith, at_most (computed_tt A R L s.k s.p c.tan_half.ensures.0 c.round-beyond.ensures) (bounds A R L c.args.self.in_range).TT)

pub returns : goal.returns
returns c =
    let s = c.spirals-s.ensures in
    let A = c.args.self.deflection in
    let R = c.args.self.radius in
    let L = c.args.self.spiral in
    computed_values A R L s.X s.Y s.k s.p c.requires
    (computed_tt A R L s.k s.p c.tan_half.ensures.0 c.round-beyond.ensures)
