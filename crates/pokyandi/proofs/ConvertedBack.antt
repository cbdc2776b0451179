-- What `pokyandi_convert` counted, converted back, is the sheet, as its contract says: from its answer, and what `convert` says. Assumes nothing.
use mathlib.Core.Path.{◌≡◌, sym, ◌∙◌, ap, subst}
use mathlib.Core.List.{List}
use Prim.Native.Nat.{ℕ, ◌^◌, ◌<◌}
use native.Mathlib.Omega.{arith}
use lib.ListN.{take}
use Rattle.refusals.specs.Filling.{FillReply, filled, unfilled}
use Rattle.packed_sheet.specs.Reading.{read_edition}
use Rattle.conversion.specs.Conversion.{converted, conversion}
use Rattle.pokyandi.specs.Answers.{answer_number}
use Rattle.pokyandi.proofs.AnswersTold.{Told, convert_told}

pub counted_back : (sheet lent bytes : List ℕ) (asked r : ℕ) (reply : FillReply) → reply ≡ (conversion sheet asked lent).reply → r ≡ answer_number reply
    → ((count : ℕ) → reply ≡ filled count → converted (take count bytes) (read_edition sheet) ≡ sheet)
    → r < 2 ^ 32 → converted (take r bytes) (read_edition sheet) ≡ sheet
unfolding answer_number
counted_back sheet lent bytes asked r (filled count) told answer back small =
    ap (λ (k : ℕ). converted (take k bytes) (read_edition sheet)) answer ∙ back count (λ j. filled count)
counted_back sheet lent bytes asked r (unfilled n p) told answer back small =
    let least = subst (Told 24) (sym told) (convert_told sheet asked lent) in
    absurd (omega (arith, answer, least.2))
