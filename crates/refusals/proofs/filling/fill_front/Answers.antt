-- `fill_front`: 16 for a shorter buffer, else the content at its front. Assumes nothing.
use mathlib.Core.Path.{refl, ap}
use mathlib.Core.List.{◌++◌}
use lib.ListN.{length, drop}
use Rattle.refusals.specs.Order.{unchecked}
use Rattle.refusals.proofs.FillWays.{small_fill, whole_fill}
use Rattle.refusals.proofs.filling.fill_front.Goals as goal

pub returns-then-lent-count : goal.returns-then-lent-count
returns-then-lent-count g c =
    let small = small_fill unchecked c.args.content.now c.args.lent.now refl refl c.if-lent-count.true in
    record { answer = small.0; memory = small.1 }

pub returns : goal.returns
returns g c =
    let content = c.args.content.now in
    let lent = c.args.lent.now in
    let front = ap (λ xs. xs ++ drop (length content) lent) c.copy_from_slice.ensures.after in
    let whole = whole_fill unchecked content lent refl refl c.if-lent-count.false front in
    record { answer = whole.0; memory = whole.1 }
