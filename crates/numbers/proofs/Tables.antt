-- The rule of a table: one test that is computed over the whole table shows it at every entry. Assumes nothing.
use mathlib.Core.Path.{◌≡◌, sym, ◌∙◌, ap}
use mathlib.Core.Bool.{Bool, true, ◌&&◌}
use mathlib.Core.List.{List, [], ◌∷◌}
use Prim.Native.Nat.{ℕ, zero, suc, ◌+◌, ◌<◌}
use native.Mathlib.Nat.{add-zero, zero-add, add-suc, suc-add, le_of_suc-le-suc}
use native.Mathlib.Omega.{arith}
use lib.ListN.{length, get_or}
use Rattle.numbers.proofs.Tests.{both_left, both_right}

-- The test passes at each entry and its index, counted from i.
abbrev pub everywhere : (ℕ → ℕ → Bool) → ℕ → List ℕ → Bool
everywhere test i [] = true
everywhere test i (x ∷ xs) = test i x && everywhere test (suc i) xs

from : (test : ℕ → ℕ → Bool) (xs : List ℕ) (i : ℕ) → everywhere test i xs ≡ true → (k : ℕ) → k < length xs
    → test (i + k) (get_or xs k 0) ≡ true
from test [] i e k h = absurd (omega arith)
from test (x ∷ xs) i e zero h = ap (λ (m : ℕ). test m x) (add-zero i) ∙ both_left (test i x) _ e
from test (x ∷ xs) i e (suc k) h =
    ap (λ (m : ℕ). test m (get_or xs k 0)) (add-suc i k ∙ sym (suc-add i k))
    ∙ from test xs (suc i) (both_right (test i x) _ e) k (le_of_suc-le-suc h)

pub at_entry : (test : ℕ → ℕ → Bool) (xs : List ℕ) → everywhere test 0 xs ≡ true → (k : ℕ) → k < length xs → test k (get_or xs k 0) ≡ true
at_entry test xs e k h = ap (λ (m : ℕ). test m (get_or xs k 0)) (sym (zero-add k)) ∙ from test xs 0 e k h
