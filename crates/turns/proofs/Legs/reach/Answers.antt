-- `reach`: the products of the sine and the cosine are those of the definition. Assumes nothing.
use Rattle.elements.proofs.TurnAngles.{turn_within}
use Rattle.turns.proofs.Seconds.{reached_by}
use Rattle.turns.proofs.Legs.reach.Goals as goal

pub returns : goal.returns
returns c =
    let ratios = rw (turn_within c.args.seconds c.requires) at c.turn_ratios-ratios.ensures in
    rw c.product_at_most.ensures
    (reached_by c.args.self.cross c.args.self.dot c.args.seconds ratios.0 ratios.1)
