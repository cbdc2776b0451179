-- Stores into a list, one after the other. Assumes nothing.
use mathlib.Core.Path.{◌≡◌, sym, ◌∙◌, ap}
use mathlib.Core.List.{List, [], ◌∷◌, ◌++◌}
use Prim.Native.Nat.{ℕ, suc, ◌+◌, ◌≤◌, ◌<◌}
use native.Mathlib.Numerals.{add-one, add-two, add-three}
use native.Mathlib.Omega.{arith}
use lib.ListN.{length, take, drop, get_or, set}
use lib.Seq.{sets-eq, length-take-le, take-suc, drop-cons, append_snoc, set_at}

pub four_stored : (xs : List ℕ) (k a b c d : ℕ) → k + 4 ≤ length xs
    → set (set (set (set xs k a) (k + 1) b) (k + 2) c) (k + 3) d ≡ take k xs ++ (a ∷ b ∷ c ∷ d ∷ []) ++ drop (k + 4) xs
four_stored xs k a b c d h = rw (add-one, add-two, add-three) (sets-eq (a ∷ b ∷ c ∷ d ∷ []) xs k h)

-- A content is copied into a list: one number more.
pub one_stored : (content lent : List ℕ) (k : ℕ) → k < length content → k < length lent
    → set (take k content ++ drop k lent) k (get_or content k 0) ≡ take (suc k) content ++ drop (suc k) lent
one_stored content lent k h l =
    let front : length (take k content) ≡ k = length-take-le k content (omega arith) in
    ap (λ (rest : List ℕ). set (take k content ++ rest) k (get_or content k 0)) (drop-cons lent k 0 l)
    ∙ set_at (take k content) (get_or lent k 0) (drop (suc k) lent) (get_or content k 0) k front
    ∙ sym (append_snoc (take k content) (get_or content k 0) (drop (suc k) lent))
    ∙ ap (λ (first : List ℕ). first ++ drop (suc k) lent) (sym (take-suc content k 0 h))
