-- What passes 3: n + 2 points of two numbers each, 0 to 64 curves, and two numbers for each. Assumes nothing.
use mathlib.Core.Path.{◌≡◌, refl, sym, ap}
use mathlib.Core.Bool.{Bool, true, false, ◌&&◌}
use mathlib.Core.List.{List}
use Prim.Native.Nat.{ℕ, ◌+◌, ◌-◌, ◌*◌, ◌%◌, ◌≤◌}
use native.Mathlib.Omega.{arith}
use lib.Dec.{leb, eqb}
use lib.IntN.{ℤ}
use lib.ListN.{length}
use borrow.Author.Tests.{leb-true, eqb-true, eqb-false, le-leb, eq-eqb}
use Rattle.numbers.proofs.Tests.{both_left, both_right, clash}
use Rattle.refusals.specs.Outcomes.{passed, refused, need, ◌▹◌}
use Rattle.refusals.specs.Order.{outcome}
use Rattle.refusals.proofs.Joining.{passed_left, passed_right, need_holds, join}
use Rattle.line.specs.Checks.{within}
use Rattle.coordinates.specs.Legs.{point_count, curve_count}
use Rattle.coordinates.specs.FromPoints.{count_checks}

-- n curves, two numbers for each of their points and two for each of them.
pub record Counted (points : List ℤ) (curves : List ℕ) : Type 0 where
  pub few : curve_count points ≤ 64
  pub numbers : length points ≡ 2 * curve_count points + 4
  pub designs : length curves ≡ 2 * curve_count points

module _ (points : List ℤ) (curves : List ℕ) where
  -- The two tests of the check.
  abbrev Paired : Bool
  Paired = eqb (length points % 2) 0 && eqb (length curves) (2 * curve_count points)

  abbrev Ranged : Bool
  Ranged = within 2 66 (point_count points)

  pub counts_pass : outcome (count_checks points curves) ≡ passed → Counted points curves
  unfolding count_checks
  counts_pass e =
      let paired = need_holds Paired 3 0 (passed_left (need Paired 3 0) (need Ranged 3 0) e) in
      let ranged = need_holds Ranged 3 0 (passed_right (need Paired 3 0) (need Ranged 3 0) e) in
      let even = eqb-true (length points % 2) 0 (both_left _ (eqb (length curves) (2 * curve_count points)) paired) in
      let least = leb-true 2 (point_count points) (both_left _ (leb (point_count points) 66) ranged) in
      let most = leb-true (point_count points) 66 (both_right (leb 2 (point_count points)) _ ranged) in
      record {
        few = omega arith;
        numbers = omega arith;
        designs = eqb-true (length curves) (2 * curve_count points) (both_right (eqb (length points % 2) 0) _ paired);
      }

  -- Both tests refuse alike.
  either : (a b : Bool) → (a ≡ true → b ≡ true → ⊥) → refused 3 0 ≡ (need a 3 0 ▹ need b 3 0)
  either true true h = absurd (h refl refl)
  either true false h = refl
  either false b h = refl

  pub counts_refused : (Counted points curves → ⊥) → refused 3 0 ≡ outcome (count_checks points curves)
  unfolding count_checks
  counts_refused h = either Paired Ranged (λ p r. h (counts_pass (join (ap (λ (t : Bool). need t 3 0) p) (ap (λ (t : Bool). need t 3 0) r))))

  both : (a b : Bool) → a ≡ true → b ≡ true → a && b ≡ true
  both true true p q = refl
  both true false p q = q
  both false b p q = p

  pub counts_hold : Counted points curves → passed ≡ outcome (count_checks points curves)
  unfolding count_checks
  counts_hold h =
      let paired = both _ _ (eq-eqb (length points % 2) 0 (omega (arith, h.numbers))) (eq-eqb (length curves) (2 * curve_count points) h.designs) in
      let ranged = both _ _ (le-leb 2 (point_count points) (omega (arith, h.numbers))) (le-leb (point_count points) 66 (omega (arith, h.numbers, h.few))) in
      sym (join (ap (λ (t : Bool). need t 3 0) paired) (ap (λ (t : Bool). need t 3 0) ranged))

  -- The tests of the code, one after the other.
  pub counts_tested : outcome (count_checks points curves)
      ≡ (need (within 4 132 (length points)) 3 0 ▹ need (eqb (length points % 2) 0) 3 0 ▹ need (eqb (length curves) (length points - 4)) 3 0)
  counts_tested = go (within 4 132 (length points)) refl (eqb (length points % 2) 0) refl (eqb (length curves) (length points - 4)) refl
    where
      go : (r : Bool) → within 4 132 (length points) ≡ r → (even : Bool) → eqb (length points % 2) 0 ≡ even
          → (all : Bool) → eqb (length curves) (length points - 4) ≡ all
          → outcome (count_checks points curves) ≡ (need r 3 0 ▹ need even 3 0 ▹ need all 3 0)
      go false r even e all a =
          sym (counts_refused (λ h. clash (both _ _ (le-leb 4 (length points) (omega (arith, h.numbers))) (le-leb (length points) 132 (omega (arith, h.numbers, h.few)))) r))
      go true r false e all a = sym (counts_refused (λ h. eqb-false (length points % 2) 0 e (omega (arith, h.numbers))))
      go true r true e false a = sym (counts_refused (λ h. eqb-false (length curves) (length points - 4) a (omega (arith, h.numbers, h.designs))))
      go true r true e true a =
          let even = eqb-true (length points % 2) 0 e in
          let pairs = eqb-true (length curves) (length points - 4) a in
          let least = leb-true 4 (length points) (both_left _ (leb (length points) 132) r) in
          let most = leb-true (length points) 132 (both_right (leb 4 (length points)) _ r) in
          sym (counts_hold (record { few = omega arith; numbers = omega arith; designs = omega arith }))
