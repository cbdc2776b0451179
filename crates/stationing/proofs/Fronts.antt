-- An array that is filled entry by entry. Assumes nothing.
use mathlib.Core.Path.{◌≡◌, refl, sym, ◌∙◌, ap}
use mathlib.Core.List.{List, [], ◌∷◌, map}
use Prim.Native.Nat.{ℕ, zero, suc, ◌+◌, ◌≤◌, ◌<◌}
use native.Mathlib.Decide.{ℕ_discrete, dec_lt}
use native.Mathlib.Omega.{arith}
use lib.IntN.{ℤ, pos}
use lib.ListN.{length, get_or, set, replicate, get_or-replicate, length-replicate, length-set, get_or-map, get_or-eq_default}
use lib.Seq.{get_or-set_same, get_or-set_other}
use Rattle.line.specs.Entries.{entries}
use Rattle.line.proofs.Entries.{entries_get}
use Rattle.stationing.specs.Arrays.{Front}

zeros : (size k : ℕ) → ◌≡◌ {A = ℕ} (get_or (replicate size 0) k 0) 0
zeros size k = go (dec_lt k size)
  where
    go : Dec (k < size) → ◌≡◌ {A = ℕ} (get_or (replicate size 0) k 0) 0
    go (yes h) = get_or-replicate size k 0 0 h
    go (no h) = get_or-eq_default (replicate size 0) 0 (omega (arith, length-replicate {A = ℕ} size 0))

-- Nothing is filled yet.
pub front_empty : (f : ℕ → ℤ) (size : ℕ) → Front f size 0 (replicate size 0)
front_empty f size =
    record {
      sized = length-replicate size 0;
      used = λ k h. absurd (omega arith);
      unused = λ k h. zeros size k;
    }

-- One entry more.
pub front_more : {f : ℕ → ℤ} {size : ℕ} {xs : List ℕ} (i v : ℕ) → Front f size i xs → i < size → pos v ≡ f i
    → Front f size (i + 1) (set xs i v)
front_more {f} {size} {xs} i v front below e =
    record {
      sized = length-set xs i v ∙ front.sized;
      used = λ k h. used k h (ℕ_discrete k i);
      unused = λ k h. get_or-set_other xs i k v 0 (λ q. absurd (omega arith)) ∙ front.unused k (omega arith);
    }
  where
    fits : i < length xs
    fits = omega (arith, front.sized)

    used : (k : ℕ) → k < i + 1 → Dec (k ≡ i) → pos (get_or (set xs i v) k 0) ≡ f k
    used k h (yes q) = rw q (ap pos (get_or-set_same xs i v 0 fits) ∙ e)
    used k h (no q) = ap pos (get_or-set_other xs i k v 0 q) ∙ front.used k (omega arith)

-- As a list: the entries that are filled, then zeros.
pub front_entries : (f : ℕ → ℤ) (size i : ℕ) (xs : List ℕ) → i ≤ size → Front f size i xs → map pos xs ≡ entries size i f (pos 0)
unfolding entries
front_entries f zero zero [] h front = refl
front_entries f zero (suc i) [] h front = absurd (omega arith)
front_entries f (suc size) i [] h front = absurd (omega (arith, front.sized))
front_entries f zero i (x ∷ xs) h front = absurd (omega (arith, front.sized))
front_entries f (suc size) zero (x ∷ xs) h front =
    let rest : Front f size zero xs =
    record { sized = omega (arith, front.sized); used = λ k l. absurd (omega arith); unused = λ k l. front.unused (suc k) (omega arith) } in
    λ j. pos (front.unused 0 (omega arith) j) ∷ front_entries f size zero xs (omega arith) rest j
front_entries f (suc size) (suc i) (x ∷ xs) h front =
    let rest : Front (λ k. f (suc k)) size i xs =
    record { sized = omega (arith, front.sized); used = λ k l. front.used (suc k) (omega arith); unused = λ k l. front.unused (suc k) (omega arith) } in
    λ j. front.used 0 (omega arith) j ∷ front_entries (λ k. f (suc k)) size i xs (omega arith) rest j

-- What such a list holds.
pub entry_known : (f : ℕ → ℤ) (size i : ℕ) (xs : List ℕ) → i ≤ size → map pos xs ≡ entries size i f (pos 0) → (k : ℕ) → k < i → pos (get_or xs k 0) ≡ f k
entry_known f size i xs h e k l =
    sym (get_or-map pos xs k 0) ∙ ap (λ (ys : List ℤ). get_or ys k (pos 0)) e ∙ entries_get size i k f (pos 0) (pos 0) l h
