-- Each byte of a sheet is stored once, in ascending order: before and after each store the bytes so far are the sheet's, and the rest are as
-- lent (document 02, N3). Assumes nothing.
use mathlib.Core.Path.{◌≡◌, sym, ◌∙◌, ap}
use mathlib.Core.List.{List, ◌++◌}
use Prim.Native.Nat.{ℕ, suc, ◌≤◌, ◌<◌}
use native.Mathlib.Decide.{dec_le}
use native.Mathlib.Omega.{arith}
use lib.ListN.{length, drop, get_or, set}
use Rattle.line.specs.declared.Line.{Line}
use Rattle.packed_sheet.specs.declared.Edition.{Edition}
use Rattle.packed_sheet.specs.Writing.{sheet_of}
use Rattle.packed_sheet.specs.EachStore.{so_far, Store, Stores, none, more, StoreOf}
use Rattle.packed_sheet.proofs.SoFar.{at_first, at_last, still, one_byte, stores_then, stored}

module _ (E : Edition) (line : Line) (lent : List ℕ) where
  -- The bytes after the first k stores.
  after_stores : {k : ℕ} {bytes : List ℕ} → Stores E line 0 lent k bytes → bytes ≡ so_far E line lent k
  after_stores s = stored E line s (sym (at_first E line lent))

  -- The last of them.
  last_store : {k : ℕ} {before after : List ℕ} → Stores E line 0 lent k before → Store E line k before after → StoreOf E line lent (suc k) after k
  last_store {k} {before} {after} s one =
      record {
        before = before;
        after = after;
        earlier = s;
        store = one;
        later = none;
        so_far_lem = after_stores s;
        one_more = one.after_it ∙ still E line lent k (suc k) (after_stores s) (omega arith) (omega (arith, one.within));
      }

  -- One store more leaves the earlier ones as they are.
  earlier_store : {n k : ℕ} {before after : List ℕ} → Store E line n before after → StoreOf E line lent n before k → StoreOf E line lent (suc n) after k
  earlier_store one found =
      record {
        before = found.before;
        after = found.after;
        earlier = found.earlier;
        store = found.store;
        later = more found.later one;
        so_far_lem = found.so_far_lem;
        one_more = found.one_more;
      }

  -- Every k below n has its store, and it is the one that leads from k bytes of the sheet to one more.
  pub each_store : {n : ℕ} {last : List ℕ} → Stores E line 0 lent n last → (k : ℕ) → k < n → StoreOf E line lent n last k
  each_store none k h = absurd (omega arith)
  each_store (more {k = m} {before} {after} s one) k h = go (λ below. each_store s k below) (dec_le (suc k) m)
    where
      go : (k < m → StoreOf E line lent m before k) → Dec (suc k ≤ m) → StoreOf E line lent (suc m) after k
      go earlier (yes below) = earlier_store one (earlier below)
      go earlier (no above) =
          let same : k ≡ m = omega arith in
          rw same (last_store s one)

  -- What a store of them does: it changes byte k alone, from the one lent to the sheet's; and with those before and behind it they are all.
  pub store_of_byte : {n k : ℕ} {last : List ℕ} (s : StoreOf E line lent n last k)
      → (s.after ≡ set (so_far E line lent k) k (get_or (sheet_of E line) k 0)) × (s.after ≡ so_far E line lent (suc k)) × Stores E line 0 lent n last
  store_of_byte {k = k} s =
      (one_byte E line s.store ∙ ap (λ (b : List ℕ). set b k (get_or (sheet_of E line) k 0)) s.so_far_lem, s.one_more, stores_then E line (more s.earlier s.store) s.later)

  -- After the last store the bytes are the sheet, and the others as lent.
  pub whole_sheet : {n : ℕ} {last : List ℕ} → Stores E line 0 lent n last → length (sheet_of E line) ≡ n → last ≡ sheet_of E line ++ drop n lent
  whole_sheet {n} s e = after_stores s ∙ at_last E line lent n e
