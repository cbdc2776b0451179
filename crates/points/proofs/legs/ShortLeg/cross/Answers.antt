-- `cross`: both products and their difference fit. Assumes nothing.
use lib.IntN.{◌-ℤ◌}
use Rattle.coordinates.specs.Legs.{cross_of}
use Rattle.signed.proofs.Sizes.{size_difference}
use Rattle.points.proofs.Sizes.{products_fit, products_value, products_most}
use Rattle.points.proofs.legs.ShortLeg.cross.Goals as goal

pub overflow_sub-result : goal.overflow_sub-result
overflow_sub-result c =
    products_fit ◌-ℤ◌ size_difference c.args.self.leg.east c.args.out.leg.north c.args.self.leg.north c.args.out.leg.east
    c.args.self.short.east c.args.out.short.north c.args.self.short.north c.args.out.short.east

pub returns-clause-value : goal.returns-clause-value
unfolding cross_of
returns-clause-value c =
    products_value ◌-ℤ◌ size_difference c.args.self.leg.east c.args.out.leg.north c.args.self.leg.north c.args.out.leg.east
    c.args.self.short.east c.args.out.short.north c.args.self.short.north c.args.out.short.east

pub returns-clause-bound : goal.returns-clause-bound
returns-clause-bound c =
    products_most ◌-ℤ◌ size_difference c.args.self.leg.east c.args.out.leg.north c.args.self.leg.north c.args.out.leg.east
    c.args.self.short.east c.args.out.short.north c.args.self.short.north c.args.out.short.east
