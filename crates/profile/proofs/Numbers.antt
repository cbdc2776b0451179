-- A height is refused with 3, 4, 6, 17 and 21 to 23 alone, at places up to 32. Assumes nothing.
use mathlib.Core.Path.{◌≡◌, refl}
use mathlib.Core.Bool.{Bool, true, ◌||◌}
use mathlib.Core.Logic.{inl}
use Prim.Native.Nat.{ℕ, ◌≤◌}
use native.Mathlib.Omega.{arith}
use borrow.Author.Tests.{leb-true}
use lib.Dec.{eqb}
use Rattle.refusals.specs.Outcomes.{refused}
use Rattle.refusals.specs.Order.{outcome}
use Rattle.refusals.proofs.Numbers.{Refuses, Answers, refusal_answers}
use Rattle.line.specs.Checks.{within}
use Rattle.profile.specs.declared.Profile.{Profile}
use Rattle.profile.specs.Checks.{station_check, height_check, grade_check, length_check, sight_check, range_checks, profile_checks, asked_check, height_checks}

pub height_numbers_lem : (p : Profile) (station : ℕ) → Refuses 3 23 32 (height_checks p station)
unfolding station_check height_check grade_check length_check sight_check range_checks profile_checks asked_check height_checks
height_numbers_lem p station = ((range, λ h i l. (omega arith, omega arith, omega (arith, leb-true p.count 32 h.0))), λ _. head)
  where
    head : (3 ≤ 17) × (17 ≤ 23) × (0 ≤ 32)
    head = (omega arith, omega arith, omega arith)

    range : Refuses 3 23 32 (range_checks p)
    range = (
      (omega arith, omega arith, omega arith),
      λ few. (
        (omega arith, omega arith, omega arith),
        λ _. (
          λ k l. (omega arith, omega arith, omega arith),
          λ _. (
            (omega arith, omega arith, omega arith),
            λ _. (
              λ k l. (omega arith, omega arith, omega (arith, leb-true p.count 32 few)),
              λ _.
                  (λ i l. (omega arith, omega arith, omega (arith, leb-true p.count 32 few))),
            ),
          ),
        ),
      ),
    )

-- ---- which of them

abbrev pub answerable : ℕ → Bool
answerable n = eqb n 3 || eqb n 4 || eqb n 6 || eqb n 17 || within 21 23 n

pub height_answerable : (p : Profile) (station : ℕ) {n k : ℕ} → outcome (height_checks p station) ≡ refused n k → answerable n ≡ true
unfolding station_check height_check grade_check length_check sight_check range_checks profile_checks asked_check height_checks
height_answerable p station e = refusal_answers answerable (height_checks p station) each e
  where
    range : Answers answerable (range_checks p)
    range =
        (inl refl, λ _. (inl refl, λ _. (λ k l. inl refl, λ _. (inl refl, λ _. (λ k l. inl refl, λ _. (λ i l. inl refl))))))

    each : Answers answerable (height_checks p station)
    each = ((range, λ _. (λ i l. inl refl)), λ _. inl refl)
