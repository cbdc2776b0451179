-- The checks of one distance and of one turn, as the code makes them. Assumes nothing.
use mathlib.Core.Path.{◌≡◌, refl, sym, ◌∙◌, ap}
use mathlib.Core.Bool.{Bool, true, false, not, ◌&&◌, cond}
use mathlib.Core.List.{List}
use Prim.Native.Nat.{ℕ, zero, suc, ◌+◌, ◌*◌}
use native.Mathlib.Numerals.{add-one}
use native.Mathlib.Omega.{arith}
use lib.Dec.{leb, ltb}
use lib.IntN.{ℤ, pos, negsuc, nat_abs}
use lib.ListN.{get_or}
use lib.Signed.{le_z, lt_z}
use borrow.Author.Tests.{lt-ltb, le-leb, lt-leb}
use Rattle.numbers.proofs.Tests.{clash}
use Rattle.refusals.specs.Outcomes.{Outcome, passed, need, ◌▹◌}
use Rattle.refusals.specs.Order.{outcome}
use Rattle.refusals.proofs.Joining.{passed_left, need_holds}
use Rattle.line.specs.declared.Curve.{Curve}
use Rattle.line.specs.Checks.{distance_check}
use Rattle.turns.specs.Turn.{reached, deflection_of, turn_or_wide}
use Rattle.turns.proofs.OneTurn.{turn_most}
use Rattle.coordinates.specs.declared.Leg.{Leg}
use Rattle.coordinates.specs.Legs.{leg_at, length_of, cross_at, dot_at}
use Rattle.coordinates.specs.FromPoints.{deflection_from, curve_from, length_check, turn_checks}
use Rattle.points.specs.Steps.{seconds_of}

-- Above zero, or not.
pub above_or_not : (z : ℤ) → lt_z (pos 0) z ≡ not (le_z z (pos 0))
above_or_not (pos zero) = refl
above_or_not (pos (suc n)) = lt-ltb 0 (suc n) (omega arith) ∙ sym (ap not (lt-leb (suc n) 0 (omega arith)))
above_or_not (negsuc n) = refl

-- Both refusals of a turn, by the seconds that were found.
abbrev pub TurnOutcome : (seconds place : ℕ) → Outcome
TurnOutcome seconds place = need (leb seconds 216000) 20 place ▹ need (ltb 0 seconds) 19 place

module _ (points : List ℤ) (i : ℕ) where
  -- The length that was found is in range, or 8.
  pub length_checked : {leg : Leg} {mm : ℕ} {o : Outcome} → leg ≡ leg_at points i → mm ≡ length_of leg → o ≡ outcome (distance_check mm i)
      → o ≡ outcome (length_check points i)
  unfolding length_check
  length_checked l d e = e ∙ ap (λ (mm : ℕ). outcome (distance_check mm i)) (d ∙ ap length_of l)

  -- The turn by the definition, and whether it is too wide.
  abbrev turn : ℕ
  turn = deflection_of (nat_abs (cross_at points i)) (dot_at points i)

  abbrev wide : Bool
  wide = reached (nat_abs (cross_at points i)) (dot_at points i) 216001

  -- The seconds that were found are refused as the definition says,
  pub turn_checked : TurnOutcome (seconds_of (cross_at points i) (dot_at points i)) (suc i) ≡ outcome (turn_checks points i)
  unfolding seconds_of turn_checks turn_or_wide deflection_from
  turn_checked =
      rw (above_or_not (dot_at points i)) (go (le_z (dot_at points i) (pos 0)) wide)
    where
      go : (b w : Bool)
          → TurnOutcome (cond b 216001 (cond w 216001 turn)) (suc i) ≡ (need (not b && not w) 20 (suc i) ▹ need (ltb 0 turn) 19 (suc i))
      go true w = refl
      go false true = refl
      go false false = rw (le-leb turn 216000 (turn_most _ _)) refl

  -- and those that are not refused are the deflection.
  pub turn_found : leb (seconds_of (cross_at points i) (dot_at points i)) 216000 ≡ true → seconds_of (cross_at points i) (dot_at points i) ≡ deflection_from points i
  unfolding seconds_of turn_or_wide deflection_from
  turn_found = go (le_z (dot_at points i) (pos 0)) wide
    where
      go : (b w : Bool) → leb (cond b 216001 (cond w 216001 turn)) 216000 ≡ true → cond b 216001 (cond w 216001 turn) ≡ turn
      go true w e = clash e refl
      go false true e = clash e refl
      go false false e = refl

  -- At the code's `i + 1`, which is the curve's number.
  pub turn_refused : {seconds : ℕ} {o : Outcome} → seconds ≡ seconds_of (cross_at points i) (dot_at points i) → o ≡ TurnOutcome seconds (i + 1)
      → o ≡ outcome (turn_checks points i)
  turn_refused e o = o ∙ (λ j. TurnOutcome (e j) (add-one i j)) ∙ turn_checked

  -- The curve of a turn that passes.
  pub curve_found : (designs : List ℕ) {left : Bool} {seconds : ℕ}
      → (left ≡ lt_z (pos 0) (cross_at points i)) × (seconds ≡ seconds_of (cross_at points i) (dot_at points i))
      → TurnOutcome seconds (i + 1) ≡ passed
      → ◌≡◌ {A = Curve} (record { left = left; deflection = seconds; radius = get_or designs (2 * i) 0; spiral = get_or designs (2 * i + 1) 0 })
      (curve_from points designs i)
  unfolding curve_from
  curve_found designs {left} {seconds} b e =
      let narrow = need_holds (leb seconds 216000) 20 (i + 1) (passed_left (need (leb seconds 216000) 20 (i + 1)) _ e) in
      let turn = b.1 ∙ turn_found (sym (ap (λ (s : ℕ). leb s 216000) b.1) ∙ narrow) in
      λ j. record { left = b.0 j; deflection = turn j; radius = get_or designs (2 * i) 0; spiral = get_or designs (2 * i + 1) 0 }
