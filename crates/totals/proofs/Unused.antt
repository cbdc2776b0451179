-- The call reads no unused entry and no side: lines that are alike where they are used have the same answer. Assumes nothing.
use mathlib.Core.Path.{◌≡◌}
use Rattle.refusals.proofs.Replied.{same_reply}
use Rattle.line.specs.declared.Line.{Line}
use Rattle.line.specs.Ranges.{AlikeWhereUsed}
use Rattle.stationing.specs.Answer.{alignment_checks}
use Rattle.orders.proofs.Unused.{same_checks, same_elements}
use Rattle.totals.specs.Totals.{totals_of, totals_by, totals_reply}

pub same_totals : (l m : Line) → AlikeWhereUsed l m → totals_reply l ≡ totals_reply m
unfolding totals_reply totals_by
same_totals l m alike =
    same_reply (alignment_checks l) (alignment_checks m) (same_checks l m alike) (λ _. λ j. totals_of (same_elements l m alike j))
