-- The checks of a line's fields refuse with 3 to 11 alone, at places up to n. Assumes nothing.
use Prim.Native.Nat.{ℕ, zero, suc, ◌≤◌}
use native.Mathlib.Omega.{arith}
use Rattle.refusals.proofs.Numbers.{Refuses}
use Rattle.line.specs.declared.Line.{Line}
use Rattle.line.specs.Checks.{start_check, head_checks, distance_check, curve_checks, distance_at, curve_at, body_checks, field_checks}

module _ (far : ℕ) where
  distance_numbers : (distance index : ℕ) → index ≤ far → Refuses 3 11 far (distance_check distance index)
  unfolding distance_check
  distance_numbers distance index h = (omega arith, omega arith, h)

  pub curve_numbers : (A R L place : ℕ) → place ≤ far → Refuses 3 11 far (curve_checks A R L place)
  unfolding curve_checks
  curve_numbers A R L place h = ((omega arith, omega arith, h), λ _. ((omega arith, omega arith, h), λ _. (omega arith, omega arith, h)))

  pub head_numbers_lem : (g n v e s : ℕ) → Refuses 3 11 far (head_checks g n v e s)
  unfolding head_checks start_check
  head_numbers_lem g n v e s =
      ((omega arith, omega arith, omega arith), λ _. ((omega arith, omega arith, omega arith), λ _. ((omega arith, omega arith, omega arith), λ _. (omega arith, omega arith, omega arith))))

  pub body_numbers : (line : Line) (i : ℕ) → i ≤ far → Refuses 3 11 far (body_checks line i)
  unfolding body_checks
  body_numbers line zero h = distance_numbers (distance_at line 0) 0 h
  body_numbers line (suc i) h =
      let c = curve_at line i in
      (body_numbers line i (omega arith), λ _. (curve_numbers c.deflection c.radius c.spiral (suc i) h, λ _. distance_numbers (distance_at line (suc i)) (suc i) h))

pub line_numbers_lem : (g : ℕ) (line : Line) → Refuses 3 11 line.count (field_checks g line)
unfolding field_checks
line_numbers_lem g line =
    let n = line.count in
    (head_numbers_lem n g n line.speed line.crossfall line.start, λ _. body_numbers n line n (omega arith))
