-- "so exactly on it for n = 0": a difference of at most 0 µm is none, so that without curves the number in the row is the exact end. Assumes
-- nothing.
use mathlib.Core.Path.{◌≡◌, subst}
use mathlib.Core.List.{List}
use Prim.Native.Nat.{ℕ, ◌*◌}
use native.Mathlib.Nat.{zero-mul}
use native.Mathlib.Omega.{arith}
use lib.IntN.{ℤ, pos, ◌*ℤ◌}
use lib.ListN.{get_or}
use Rattle.refusals.specs.Filling.{filled}
use Rattle.line.specs.declared.Line.{Line}
use Rattle.stationing.specs.Answer.{stations_in}
use Rattle.numbers.specs.Fractions.{Fraction, whole, nat, ◌⊖◌, ◌⊗◌, ◌≼◌, ◌≈◌}
use Rattle.accuracy.specs.ExactElements.{document_terms}
use Rattle.accuracy.specs.ExactStations.{exact_end}
use Rattle.accuracy.specs.Accuracy.{Within, tolerance}
use Rattle.accuracy.proofs.Parts.{plus_times, minus_times, difference_parts, le_parts, parts_le}
use Rattle.accuracy.proofs.Accuracy.{accuracy}

-- A difference that is not above zero.
not_above : (u v : Fraction) → u ⊖ v ≼ nat 0 → u ≼ v
unfolding ◌⊖◌ whole
not_above u v h =
    let a = u.top *ℤ pos v.under in
    let b = v.top *ℤ pos u.under in
    record {
      cross =
          le_parts a b
          (omega (
            arith,
            difference_parts a b,
            plus_times (u ⊖ v).top 1,
            minus_times (u ⊖ v).top 1,
            zero-mul (u.under * v.under),
            parts_le _ _ h.cross,
          ));
    }

none : {q : ℤ} {v : Fraction} → Within 0 q v → whole q ≈ nat 1000 ⊗ v
none h = record { at_most = not_above _ _ h.over; at_least = not_above _ _ h.short }

pub exactly_on_the_end : (line : Line) (row : List ℕ) {count : ℕ} → line.count ≡ 0 → (stations_in line row).reply ≡ filled count
    → whole (pos (get_or (stations_in line row).buffer 0 0)) ≈ nat 1000 ⊗ exact_end document_terms line
exactly_on_the_end line row no-curves e =
    none
    (subst (λ (n : ℕ). Within (tolerance n) (pos (get_or (stations_in line row).buffer (4 * n) 0)) (exact_end document_terms line)) no-curves
    ((accuracy line row).stations e).end)
