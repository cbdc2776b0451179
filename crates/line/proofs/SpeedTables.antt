-- A table by design speed holds what it should: one computed test shows that its entry (V − 40) / 10 is the value at the speed V. Assumes nothing.
use mathlib.Core.Path.{◌≡◌, ◌∙◌, ap}
use mathlib.Core.Bool.{Bool, true, ◌&&◌}
use mathlib.Core.List.{List}
use Prim.Native.Nat.{ℕ, ◌+◌, ◌-◌, ◌*◌, ◌/◌, ◌%◌, ◌≤◌}
use native.Mathlib.Omega.{arith}
use lib.Dec.{leb, eqb}
use lib.ListN.{length, get_or}
use borrow.Author.Tests.{eqb-true, leb-true}
use Rattle.numbers.proofs.Tests.{both_left, both_right}
use Rattle.numbers.proofs.Tables.{everywhere, at_entry}

module _ (value : ℕ → ℕ) (most : ℕ) where
  -- The test: entry k is the value at the speed 40 + 10 × k, and not above `most`.
  abbrev pub follows : ℕ → ℕ → Bool
  follows k x = eqb x (value (40 + 10 * k)) && leb x most

  -- Entry k of a table that passes the test, where k is the place of the speed v.
  pub tabled : (row : List ℕ) → everywhere follows 0 row ≡ true → length row ≡ 9 → (v k : ℕ) → 40 ≤ v → v ≤ 120 → v % 10 ≡ 0
      → k ≡ (v - 40) / 10 → (get_or row k 0 ≡ value v) × (get_or row k 0 ≤ most)
  tabled row test nine v k low high tens e =
      let t = at_entry follows row test k (omega arith) in
      let here : 40 + 10 * k ≡ v = omega arith in
      let x = get_or row k 0 in (
        eqb-true x _ (both_left (eqb x (value (40 + 10 * k))) (leb x most) t) ∙ ap value here,
        leb-true x most (both_right (eqb x (value (40 + 10 * k))) (leb x most) t),
      )
