-- The bytes so far: how they begin, go on by one store and by many, and end. Assumes nothing.
use mathlib.Core.Path.{◌≡◌, refl, sym, ◌∙◌, ap}
use mathlib.Core.List.{List, ◌++◌}
use Prim.Native.Nat.{ℕ, suc, ◌+◌, ◌-◌, ◌≤◌, ◌<◌}
use native.Mathlib.Omega.{arith}
use lib.ListN.{length, take, drop, get_or, set}
use lib.Seq.{length-take-le, take_all, drop-append-add, drop-drop}
use Rattle.numbers.proofs.Stores.{one_stored}
use Rattle.line.specs.declared.Line.{Line}
use Rattle.packed_sheet.specs.declared.Edition.{Edition}
use Rattle.packed_sheet.specs.Writing.{sheet_of}
use Rattle.packed_sheet.specs.EachStore.{so_far, Store, Stores, none, more}

module _ (E : Edition) (line : Line) where
  -- Before the first store the bytes are those lent.
  pub at_first : (lent : List ℕ) → so_far E line lent 0 ≡ lent
  unfolding so_far
  at_first lent = refl

  -- After the last they are the sheet, and the others as lent.
  pub at_last : (lent : List ℕ) (k : ℕ) → length (sheet_of E line) ≡ k → so_far E line lent k ≡ sheet_of E line ++ drop k lent
  unfolding so_far
  at_last lent k e = ap (λ (s : List ℕ). s ++ drop k lent) (take_all k (sheet_of E line) (omega (arith, e)))

  -- One byte of the sheet more.
  pub one_more : (lent : List ℕ) (k : ℕ) → k < length (sheet_of E line) → k < length lent
      → set (so_far E line lent k) k (get_or (sheet_of E line) k 0) ≡ so_far E line lent (suc k)
  unfolding so_far
  one_more lent k h l = one_stored (sheet_of E line) lent k h l

  -- What comes after counts from the bytes lent as well as from those so far.
  pub onward : (lent : List ℕ) (k m : ℕ) → k ≤ m → k ≤ length (sheet_of E line) → so_far E line (so_far E line lent k) m ≡ so_far E line lent m
  unfolding so_far
  onward lent k m h l =
      let s : List ℕ = sheet_of E line in
      let front : length (take k s) ≡ k = length-take-le k s l in
      let sum : m ≡ length (take k s) + (m - k) = omega arith in
      let back : k + (m - k) ≡ m = omega arith in
      ap (λ (rest : List ℕ). take m s ++ rest)
      (ap (λ (n : ℕ). drop n (take k s ++ drop k lent)) sum
      ∙ drop-append-add (take k s) (drop k lent) (m - k)
      ∙ drop-drop (m - k) k lent
      ∙ ap (λ (n : ℕ). drop n lent) back)

  -- The same of bytes that are known to be such.
  pub still : (lent : List ℕ) {bytes : List ℕ} (k m : ℕ) → bytes ≡ so_far E line lent k → k ≤ m → k ≤ length (sheet_of E line)
      → so_far E line bytes m ≡ so_far E line lent m
  still lent k m e h l = ap (λ (b : List ℕ). so_far E line b m) e ∙ onward lent k m h l

  -- A store of byte k, which is the sheet's.
  pub store_made : (bytes : List ℕ) {byte : ℕ} (k : ℕ) → k < length (sheet_of E line) → length (sheet_of E line) ≤ length bytes
      → bytes ≡ so_far E line bytes k → byte ≡ get_or (sheet_of E line) k 0
      → Store E line k bytes (set bytes k byte)
  store_made bytes {byte} k h room begun e =
      record {
        within = h;
        room = omega arith;
        before_it = begun;
        after_it = (λ j. set (begun j) k (e j)) ∙ one_more bytes k h (omega arith);
      }

  -- After a store the first bytes are the sheet's still, and one more.
  pub store_kept : {k : ℕ} {before after : List ℕ} → Store E line k before after → after ≡ so_far E line after (suc k)
  store_kept {k} {before} one =
      one.after_it ∙ sym (still before (suc k) (suc k) one.after_it (omega arith) (omega (arith, one.within)))

  -- It is the store of one byte, the sheet's.
  pub one_byte : {k : ℕ} {before after : List ℕ} → Store E line k before after → after ≡ set before k (get_or (sheet_of E line) k 0)
  one_byte {k} {before} one =
      one.after_it ∙ sym (one_more before k one.within one.room) ∙ ap (λ (b : List ℕ). set b k (get_or (sheet_of E line) k 0)) (sym one.before_it)

  -- Stores after one another are stores.
  pub stores_then : {j k m : ℕ} {a b c : List ℕ} → Stores E line j a k b → Stores E line k b m c → Stores E line j a m c
  stores_then s none = s
  stores_then s (more t one) = more (stores_then s t) one

  -- What they leave.
  pub stored : {j k : ℕ} {first last : List ℕ} → Stores E line j first k last → first ≡ so_far E line first j → last ≡ so_far E line first k
  stored none begun = begun
  stored {first} (more {k} {before} {after} s one) begun =
      one.after_it ∙ still first k (suc k) (stored s begun) (omega arith) (omega (arith, one.within))

  -- And it is known of them in turn.
  pub stores_kept : {j k : ℕ} {first last : List ℕ} → Stores E line j first k last → first ≡ so_far E line first j → last ≡ so_far E line last k
  stores_kept none begun = begun
  stores_kept (more s one) begun = store_kept one
