-- `pokyandi_check`: no sheet has more than 257 stations. Assumes nothing.
use mathlib.Core.Path.{◌∙◌, ap}
use Prim.Native.Nat.{ℕ}
use native.Mathlib.Omega.{arith}
use lib.ListN.{length-replicate}
use Rattle.pokyandi.specs.Answers.{answer_number}
use Rattle.pokyandi.proofs.Replies.{check_reply_lem}
use Rattle.pokyandi.proofs.pokyandi_check.Goals as goal

pub returns : goal.returns
returns c =
    record {
      answer = c.answer_number.ensures ∙ ap answer_number (c.sheet_stations.ensures.result_value ∙ check_reply_lem _ _ (omega (arith, length-replicate {A = ℕ} 257 0)));
    }
