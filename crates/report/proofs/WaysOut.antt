-- A text that was put at the front of the caller's bytes is the whole answer, and bytes that hold the text are not refused. Assumes nothing.
use mathlib.Core.Path.{◌≡◌, refl, sym, ◌∙◌}
use mathlib.Core.List.{List}
use Prim.Native.Nat.{ℕ, ◌≤◌}
use native.Mathlib.Nat.{zero-add}
use native.Mathlib.Omega.{arith}
use lib.ListN.{length}
use Rattle.refusals.specs.Order.{unchecked}
use Rattle.refusals.specs.Filling.{filled, unfilled, fill}
use Rattle.refusals.proofs.Filled.{never}
use Rattle.refusals.proofs.FillWays.{whole_fill}
use Rattle.report.specs.Pieces.{Wrote}

pub text_whole : (text bytes : List ℕ) {after : List ℕ} {end : ℕ} → length text ≤ length bytes → Wrote bytes after 0 end text
    → (filled end ≡ (fill unchecked text bytes).reply) × (after ≡ (fill unchecked text bytes).buffer)
text_whole text bytes {end} h w =
    let size : end ≡ length text = w.ends ∙ zero-add (length text) in
    whole_fill unchecked text bytes refl (sym size) (omega (arith, size)) w.holds

-- Bytes that hold the text are never too few.
pub never_small : {A : Type 0} (text lent : List ℕ) {n p : ℕ} → length text ≤ length lent → (fill unchecked text lent).reply ≡ unfilled n p → A
never_small text lent {n} {p} h e = never (length text) n p ((whole_fill unchecked text lent refl refl h refl).0 ∙ e)
