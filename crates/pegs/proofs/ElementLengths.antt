-- The elements of an accepted line have natural numbers of µm as their lengths. Assumes nothing.
use mathlib.Core.Path.{◌≡◌, refl}
use mathlib.Core.List.{List, [], ◌∷◌}
use Prim.Native.Nat.{ℕ, zero, suc, ◌+◌}
use native.Mathlib.Omega.{arith}
use lib.IntN.{pos}
use Rattle.line.specs.declared.Line.{Line}
use Rattle.stationing.specs.Stations.{spiral_at}
use Rattle.stationing.specs.LineElements.{Element, elements_from, total}
use Rattle.stationing.proofs.Accepted.{Accepted}

-- Elements with such lengths, and their sum.
pub data Lengths : List Element → ℕ → Type 0 where
  none : Lengths [] 0
  more : {e : Element} {es : List Element} (l : ℕ) {rest : ℕ} → e.length ≡ pos l → Lengths es rest → Lengths (e ∷ es) (l + rest)

pub total_is : {es : List Element} {sum : ℕ} → Lengths es sum → total es ≡ pos sum
unfolding total
total_is none = refl
total_is (more l is ls) = rw (is, total_is ls)

-- Those of a line from distance i on, where k curves follow it.
pub record Sum (line : Line) (i k : ℕ) : Type 0 where
  pub sum : ℕ
  pub lengths : Lengths (elements_from line i k) sum

module _ (line : Line) (ok : Accepted line) where
  pub lengths_from : (i k : ℕ) → i + k ≡ line.count → Sum line i k
  unfolding elements_from spiral_at
  lengths_from i zero n =
      let s = ok.straight i (omega arith) in
      record { sum = s.value + 0; lengths = more s.value s.same none }
  lengths_from i (suc k) n =
      let s = ok.straight i (omega arith) in
      let d = ok.arc i (omega arith) in
      let rest = lengths_from (suc i) k (omega arith) in
      record {
        sum = _;
        lengths = more s.value s.same (more _ refl (more d.value d.same (more _ refl rest.lengths)));
      }
