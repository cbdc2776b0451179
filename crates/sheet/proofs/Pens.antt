-- Bits of a sheet that wait, joined and stored. Assumes nothing.
use mathlib.Core.Path.{◌≡◌, sym, ◌∙◌, ap, subst}
use mathlib.Core.List.{List}
use Prim.Native.Nat.{ℕ, suc, ◌+◌, ◌-◌, ◌*◌, ◌/◌, ◌%◌, ◌^◌, ◌≤◌, ◌<◌}
use native.Mathlib.Nat.{add-zero, mod-lt, mod-eq_of_lt, mul-mod_left}
use native.Mathlib.Omega.{arith}
use lib.Arith.{digits_lt, digits_div, digits_mod}
use lib.ListN.{length, get_or}
use lib.Pow.{pow-add, pow_pos, shl_exact, shl-shr, mod-pow-add, mod-mod-pow}
use Rattle.line.specs.declared.Line.{Line}
use Rattle.bits.specs.Bits.{Bytes, bits_at}
use Rattle.packed_sheet.specs.declared.Edition.{Edition}
use Rattle.packed_sheet.specs.EachStore.{Store, Stores, none, more}
use Rattle.packed_sheet.proofs.SoFar.{store_kept, stores_kept}
use Rattle.packed_sheet.proofs.WaysOut.{sheet_bytes}
use Rattle.sheet.specs.declared.pen.Pen.{Pen}
use Rattle.sheet.specs.Pens.{Told, sheet, position, Begun, Come, Put}
use Rattle.bits.proofs.Fields.{bits_lt}
use Rattle.bits.proofs.Words.{two_parts, first_part, second_part, parted, byte_field}

-- ---- joined, as the code computes it in 64 bits

module _ (pending width value : ℕ) (narrow : width < 64) (fits : value < 2 ^ width) where
  high_part : pending * 2 ^ width % 2 ^ 64 ≡ pending % 2 ^ (64 - width) * 2 ^ width
  high_part =
      let bits : 64 ≡ 64 - width + width = omega arith in
      ap (λ (n : ℕ). pending * 2 ^ width % 2 ^ n) bits
      ∙ mod-pow-add (pending * 2 ^ width) (64 - width) width
      ∙ (λ j. shl-shr pending width j % 2 ^ (64 - width) * 2 ^ width + mul-mod_left pending (2 ^ width) j)
      ∙ add-zero _

  pub joined_lt : pending * 2 ^ width % 2 ^ 64 + value < 2 ^ 64
  joined_lt =
      let bits : 64 ≡ 64 - width + width = omega arith in
      rw high_part (subst (λ (n : ℕ). pending % 2 ^ (64 - width) * 2 ^ width + value < 2 ^ n) (sym bits)
      (rw pow-add (digits_lt (mod-lt pending (pow_pos (64 - width))) fits)))

  pub joined_bits : (held : ℕ) → held + width ≤ 64 → (pending * 2 ^ width % 2 ^ 64 + value) % 2 ^ (held + width) ≡ pending % 2 ^ held * 2 ^ width + value
  joined_bits held h =
      let high = pending % 2 ^ (64 - width) in
      let more : 64 - width ≡ 64 - width - held + held = omega arith in
      let same : high % 2 ^ held ≡ pending % 2 ^ held =
      ap (λ (n : ℕ). pending % 2 ^ n % 2 ^ held) more ∙ mod-mod-pow pending (64 - width - held) held in
      rw high_part
      (mod-pow-add (high * 2 ^ width + value) held width
      ∙ (λ j. digits_div high fits j % 2 ^ held * 2 ^ width + digits_mod high fits j)
      ∙ ap (λ (n : ℕ). n * 2 ^ width + value) same)

-- Behind few bits nothing is lost.
pub joined_whole : (before width value : ℕ) → before < 2 ^ 32 → width ≤ 32 → before * 2 ^ width % 2 ^ 64 + value ≡ before * 2 ^ width + value
joined_whole before width value few narrow = ap (λ (n : ℕ). n + value) (shl_exact 32 width 64 few (omega arith))

-- What the proof of `join` cites.
pub ruleset joining = (joined_bits, joined_whole)

-- ---- parts of the bits that wait

-- The first `size` of the last `held` bits are the sheet's next, and those behind them are the bits after that.
pub waits_parted : (s : List ℕ) (at pending held size : ℕ) → size ≤ held → 8 * at + held ≤ 8 * length s → pending % 2 ^ held ≡ bits_at s (8 * at) held
    → (pending / 2 ^ (held - size) % 2 ^ size ≡ bits_at s (8 * at) size) × (pending % 2 ^ (held - size) ≡ bits_at s (8 * at + size) (held - size))
waits_parted s at pending held size few h e =
    let sum : held ≡ size + (held - size) = omega arith in
    parted s (8 * at) pending size (held - size) (omega arith) (subst (λ (n : ℕ). pending % 2 ^ n ≡ bits_at s (8 * at) n) sum e)

-- Byte i of them.
pub next_byte : (s : List ℕ) (at word held i : ℕ) → Bytes s → 8 * at + held ≤ 8 * length s → i < held / 8 → word % 2 ^ held ≡ bits_at s (8 * at) held
    → word / 2 ^ (held - 8 * (i + 1)) % 256 ≡ get_or s (at + i) 0
next_byte s at word held i b h l e =
    let behind = (waits_parted s at word held (8 * i) (omega arith) h e).1 in
    let from : 8 * at + 8 * i ≡ 8 * (at + i) = omega arith in
    let next = (waits_parted s (at + i) word (held - 8 * i) 8 (omega arith) (omega arith) (behind ∙ ap (λ (n : ℕ). bits_at s n (held - 8 * i)) from)).0 in
    let left : held - 8 * i - 8 ≡ held - 8 * (i + 1) = omega arith in
    ap (λ (n : ℕ). word / 2 ^ n % 256) (sym left) ∙ next ∙ byte_field s (at + i) b (omega arith)

-- ---- a field of the sheet

module _ (s : List ℕ) (from width value : ℕ) (within : from + width ≤ 8 * length s) (right : value ≡ bits_at s from width) where
  pub field_lt : value < 2 ^ width
  field_lt = rw right (bits_lt s from width)

  -- It waits alone.
  pub waits_alone : value % 2 ^ width ≡ bits_at s from width
  waits_alone = mod-eq_of_lt field_lt ∙ right

  -- It is joined to the bits that wait before it.
  pub joined_next : (at pending held joined : ℕ) → from ≡ 8 * at + held → pending % 2 ^ held ≡ bits_at s (8 * at) held
      → joined % 2 ^ (held + width) ≡ pending % 2 ^ held * 2 ^ width + value → joined % 2 ^ (held + width) ≡ bits_at s (8 * at) (held + width)
  joined_next at pending held joined e waits j =
      j
      ∙ (λ i. waits i * 2 ^ width + (right ∙ ap (λ (n : ℕ). bits_at s n width) e) i)
      ∙ two_parts s (8 * at) held width (omega arith)

  -- Its first bits, and the last `left`.
  module _ (left : ℕ) (few : left ≤ width) where
    sum : width ≡ width - left + left
    sum = omega arith

    pub first_bits : value / 2 ^ left ≡ bits_at s from (width - left)
    first_bits = ap (λ (n : ℕ). n / 2 ^ left) (right ∙ ap (bits_at s from) sum) ∙ first_part s from (width - left) left (omega arith)

    pub last_bits : value % 2 ^ left ≡ bits_at s (from + (width - left)) left
    last_bits = ap (λ (n : ℕ). n % 2 ^ left) (right ∙ ap (bits_at s from) sum) ∙ second_part s from (width - left) left (omega arith)

-- ---- what is stored

module _ (E : Edition) (line : Line) where
  -- After stores one after the other the bytes have begun as far.
  pub begun_after : {b b' : List ℕ} {j k : ℕ} → Begun E line b j → Stores E line j b k b' → length b' ≡ length b → Begun E line b' k
  begun_after begun stores same =
      record { room = omega (arith, begun.room); stored = stores_kept E line stores begun.stored }

  -- One store more, at the code's `i + 1`.
  pub stored_next : {first b b' : List ℕ} (at i : ℕ) → Stores E line at first (at + i) b → Store E line (at + i) b b' → Stores E line at first (at + (i + 1)) b'
  stored_next at i stores one =
      let next : at + (i + 1) ≡ suc (at + i) = omega arith in
      rw next (more stores one)

  pub begun_next : {b b' : List ℕ} (at i : ℕ) → Begun E line b (at + i) → Store E line (at + i) b b' → length b' ≡ length b → Begun E line b' (at + (i + 1))
  begun_next at i begun one same =
      let next : at + (i + 1) ≡ suc (at + i) = omega arith in
      record { room = omega (arith, begun.room); stored = rw next (store_kept E line one) }

-- What the proof of `store_bytes` cites.
pub ruleset storing = (next_byte, stored_next, begun_next, sheet_bytes)

-- Nothing is stored, and `width` bits more wait.
pub more_wait : (told : Told) (bytes : List ℕ) (p q : Pen) (width : ℕ) → Come told bytes p → q.at ≡ p.at → q.held ≡ p.held + width → q.held < 64
    → position p + width ≤ 8 * length (sheet told) → q.pending % 2 ^ q.held ≡ bits_at (sheet told) (8 * p.at) q.held → Put told bytes bytes p q width
more_wait told bytes p q width come at held few h next =
    record {
      moved = omega arith;
      come = record {
        begun = rw at come.begun;
        waits = record { few = few; next = rw at next };
        within = omega arith;
      };
      stores = rw at none;
    }

-- Whole bytes are stored, and the bits behind them wait.
pub part_stored : (told : Told) (before after : List ℕ) (p q : Pen) (width : ℕ) → Come told before p → Stores told.edition told.line p.at before q.at after
    → length after ≡ length before → position q ≡ position p + width → position p + width ≤ 8 * length (sheet told) → q.held < 64
    → q.pending % 2 ^ q.held ≡ bits_at (sheet told) (8 * q.at) q.held → Put told before after p q width
part_stored told before after p q width come stores same moved h few next =
    record {
      moved = moved;
      come = record {
        begun = begun_after told.edition told.line come.begun stores same;
        waits = record { few = few; next = next };
        within = omega arith;
      };
      stores = stores;
    }
