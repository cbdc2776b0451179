-- What the writer does to the caller's bytes, store by store (document 02, N3: "each byte of the sheet is stored once, straight into the
-- lent bytes, in ascending order").
use Rattle.std.specs.Prelude.{◌≡◌, List, ◌++◌, ℕ, suc, ◌<◌, length, take, drop}
use Rattle.line.specs.declared.Line.{Line}
use Rattle.packed_sheet.specs.declared.Edition.{Edition}
use Rattle.packed_sheet.specs.Writing.{sheet_of}

-- "the bytes so far are the sheet's and the rest are as lent": the first k bytes of the line's sheet, then those lent
unfoldable pub so_far : Edition → Line → List ℕ → ℕ → List ℕ
so_far E line lent k = take k (sheet_of E line) ++ drop k lent

-- A store of byte k of the sheet: before it the first k bytes are the sheet's, after it one more, and the rest are as before it.
pub record Store (E : Edition) (line : Line) (k : ℕ) (before after : List ℕ) : Type 0 where
  pub within : k < length (sheet_of E line)
  pub room : k < length before
  pub before_it : before ≡ so_far E line before k
  pub after_it : after ≡ so_far E line before (suc k)

-- Such stores one after the other lead from the first bytes to the last: of each byte from one index up to the other, once, "in ascending order".
pub data Stores (E : Edition) (line : Line) : ℕ → List ℕ → ℕ → List ℕ → Type 0 where
  none : {k : ℕ} {bytes : List ℕ} → Stores E line k bytes k bytes
  more : {j k : ℕ} {first before after : List ℕ} → Stores E line j first k before → Store E line k before after → Stores E line j first (suc k) after

-- The store of byte k among those that lead from the bytes lent to the last: "after each store the bytes so far are the sheet's and the rest
-- are as lent", and before it likewise.
pub record StoreOf (E : Edition) (line : Line) (lent : List ℕ) (n : ℕ) (last : List ℕ) (k : ℕ) : Type 0 where
  pub before : List ℕ
  pub after : List ℕ
  pub earlier : Stores E line 0 lent k before
  pub store : Store E line k before after
  pub later : Stores E line (suc k) after n last
  pub so_far_lem : before ≡ so_far E line lent k
  pub one_more : after ≡ so_far E line lent (suc k)
