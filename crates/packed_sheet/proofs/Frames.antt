-- The reader's checks 1 to 7: what a sheet is that passes them. Assumes nothing.
use mathlib.Core.Path.{◌≡◌, ap}
use mathlib.Core.Bool.{◌&&◌}
use mathlib.Core.List.{List}
use Prim.Native.Nat.{ℕ, ◌≤◌, ◌<◌}
use native.Mathlib.Omega.{arith}
use lib.Dec.{leb, eqb}
use lib.ListN.{length}
use borrow.Author.Tests.{leb-true, eqb-true}
use Rattle.numbers.proofs.Tests.{both_left, both_right}
use Rattle.refusals.specs.Outcomes.{passed, need}
use Rattle.refusals.specs.Order.{outcome}
use Rattle.refusals.proofs.Joining.{passed_left, passed_right, need_holds}
use Rattle.line.specs.Checks.{head_checks}
use Rattle.line.proofs.InRange.{few_curves}
use Rattle.packed_sheet.specs.declared.Head.{Head}
use Rattle.bits.specs.Bits.{bits_at, values_at}
use Rattle.packed_sheet.specs.declared.Edition.{Edition}
use Rattle.packed_sheet.specs.Layout.{bit_count, byte_count, fill_width}
use Rattle.bits.proofs.Fields.{bits_lt}
use Rattle.packed_sheet.specs.Reading.{head_of, count_of, size_checks, frame_checks}

module _ (E : Edition) (s : List ℕ) where
  -- A sheet that passes 1 to 7.
  pub record Framed : Type 0 where
    pub edition : (head_of E s).edition ≡ E.number
    pub head : outcome (head_checks E.greatest (count_of E s) (head_of E s).speed (head_of E s).crossfall (head_of E s).start) ≡ passed
    pub few : count_of E s ≤ 64
    pub size : length s ≡ byte_count E (count_of E s)
    pub fill : bits_at s (bit_count E (count_of E s)) (fill_width E (count_of E s)) ≡ 0

  pub framed : outcome (frame_checks E s) ≡ passed → Framed
  unfolding frame_checks size_checks
  framed h =
      let n = count_of E s in
      let edition = need (eqb (head_of E s).edition E.number) 2 0 in
      let fields = outcome (head_checks E.greatest n (head_of E s).speed (head_of E s).crossfall (head_of E s).start) in
      let long = need (leb (byte_count E n) (length s)) 1 0 in
      let h₁ = passed_right (need (leb 7 (length s)) 1 0) _ h in
      let h₂ = passed_right edition _ h₁ in
      let h₃ = passed_right fields _ h₂ in
      let head = passed_left fields _ h₂ in
      let full = need_holds (leb (length s) (byte_count E n) && eqb (bits_at s (bit_count E n) (fill_width E n)) 0) 7 0 (passed_right long _ h₃) in
      let low = leb-true (byte_count E n) (length s) (need_holds _ 1 0 (passed_left long _ h₃)) in
      let high = leb-true (length s) (byte_count E n) (both_left _ (eqb (bits_at s (bit_count E n) (fill_width E n)) 0) full) in
      record {
        edition = eqb-true _ _ (need_holds _ 2 0 (passed_left edition _ h₁));
        head = head;
        few = few_curves _ n _ _ _ head;
        size = omega arith;
        fill = eqb-true _ 0 (both_right (leb (length s) (byte_count E n)) _ full);
      }

-- n has seven bits.
pub count_below : (E : Edition) (s : List ℕ) {head : Head} → head ≡ head_of E s → head.count < 128
unfolding head_of values_at
count_below E s e = rw (ap (λ (h : Head). h.count) e) (bits_lt s 4 7)
