-- `dot`: both products and their sum fit. Assumes nothing.
use lib.IntN.{◌+ℤ◌}
use Rattle.coordinates.specs.Legs.{dot_of}
use Rattle.signed.proofs.Sizes.{size_sum}
use Rattle.points.proofs.Sizes.{products_fit, products_value, products_most}
use Rattle.points.proofs.legs.ShortLeg.dot.Goals as goal

pub overflow_add-result : goal.overflow_add-result
overflow_add-result c =
    products_fit ◌+ℤ◌ size_sum c.args.self.leg.east c.args.out.leg.east c.args.self.leg.north c.args.out.leg.north
    c.args.self.short.east c.args.out.short.east c.args.self.short.north c.args.out.short.north

pub returns-clause-value : goal.returns-clause-value
unfolding dot_of
returns-clause-value c =
    products_value ◌+ℤ◌ size_sum c.args.self.leg.east c.args.out.leg.east c.args.self.leg.north c.args.out.leg.north
    c.args.self.short.east c.args.out.short.east c.args.self.short.north c.args.out.short.north

pub returns-clause-bound : goal.returns-clause-bound
returns-clause-bound c =
    products_most ◌+ℤ◌ size_sum c.args.self.leg.east c.args.out.leg.east c.args.self.leg.north c.args.out.leg.north
    c.args.self.short.east c.args.out.short.east c.args.self.short.north c.args.out.short.north
