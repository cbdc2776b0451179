-- The calculator's checks before 16 refuse with 3 to 15 alone, at places up to n, and with 12 to 15 alone a line whose fields pass. Assumes
-- nothing.
use mathlib.Core.Path.{◌≡◌, sym, ◌∙◌, ap}
use Prim.Native.Nat.{ℕ, suc, ◌≤◌}
use native.Mathlib.Omega.{arith}
use Rattle.refusals.specs.Outcomes.{Outcome, passed, refused, ◌▹◌}
use Rattle.refusals.specs.Order.{Checks, ◌⨾◌, in_turn, outcome}
use Rattle.refusals.proofs.Numbers.{Refuses, refusal_numbers, wider}
use Rattle.line.specs.declared.Line.{Line}
use Rattle.line.specs.Checks.{line_checks}
use Rattle.line.proofs.Numbers.{line_numbers_lem}
use Rattle.elements.specs.Answer.{arc_check}
use Rattle.stationing.specs.Answer.{design_checks, design_checks_at, straight_check, alignment_checks}

design_numbers : (line : Line) (i far : ℕ) → suc i ≤ far → Refuses 12 15 far (design_checks_at line i)
unfolding design_checks_at design_checks arc_check
design_numbers line i far h = ((omega arith, omega arith, h), λ _. ((omega arith, omega arith, h), λ _. (omega arith, omega arith, h)))

-- Those after 3 to 11.
abbrev after : Line → Checks
after line = in_turn (design_checks_at line) line.count ⨾ in_turn (straight_check line) (suc line.count)

after_numbers : (line : Line) → Refuses 12 15 line.count (after line)
unfolding straight_check
after_numbers line = ((λ i h. design_numbers line i line.count h), λ _. λ i h. (omega arith, omega arith, omega arith))

pub alignment_numbers : (line : Line) → Refuses 3 15 line.count (alignment_checks line)
unfolding alignment_checks
alignment_numbers line =
    (wider (line_checks line) (line_numbers_lem _ line) (omega arith) (omega arith) (omega arith), λ _. wider (after line) (after_numbers line) (omega arith) (omega arith) (omega arith))

pub fields_passed : (line : Line) {n p : ℕ} → outcome (line_checks line) ≡ passed → outcome (alignment_checks line) ≡ refused n p → (12 ≤ n) × (n ≤ 15) × (p ≤ line.count)
unfolding alignment_checks
fields_passed line fields e = refusal_numbers 12 15 line.count (after line) (after_numbers line) (ap (λ (o : Outcome). o ▹ outcome (after line)) (sym fields) ∙ e)
