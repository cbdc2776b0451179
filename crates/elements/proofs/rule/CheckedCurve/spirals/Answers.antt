-- `spirals`: the parts that are taken away are no greater, so k and p are natural numbers. Assumes nothing.
use mathlib.Core.Path.{◌∙◌, ap}
use Rattle.elements.specs.WorkingRule.{sine_of, unit_x, unit_y, spiral_x, spiral_y, centre_of, shift_of}
use Rattle.elements.proofs.Bounds.{sine_part, cosine_part}
use Rattle.elements.proofs.Computed.{computed_end, computed_rest, computed_one_less}
use Rattle.elements.proofs.rule.CheckedCurve.spirals.Goals as goal

pub offset_of-along-requires-clause-part_bound : goal.offset_of-along-requires-clause-part_bound
offset_of-along-requires-clause-part_bound c =
    let t = c.spiral_angle-t.ensures in
    sine_part c.args.self.radius c.args.self.spiral c.args.self.in_range.L-to-R (c.sine.ensures.0 ∙ ap sine_of t) (c.unit_x.ensures.0 ∙ ap unit_x t)

pub offset_of-across-requires-clause-part_bound : goal.offset_of-across-requires-clause-part_bound
offset_of-across-requires-clause-part_bound c =
    let t = c.spiral_angle-t.ensures in
    cosine_part c.args.self.radius c.args.self.spiral c.args.self.in_range.L-to-R (computed_one_less t c.cosine.ensures.0 c.cosine.ensures.2) (c.unit_y.ensures.0 ∙ ap unit_y t)

pub returns : goal.returns
unfolding spiral_x spiral_y centre_of shift_of
returns c =
    let R = c.args.self.radius in
    let L = c.args.self.spiral in
    let t = c.spiral_angle-t.ensures in
    let x = c.unit_x.ensures.0 ∙ ap unit_x t in
    let y = c.unit_y.ensures.0 ∙ ap unit_y t in
    record {
      X = computed_end L x c.offset_of-along.ensures.end;
      Y = computed_end L y c.offset_of-across.ensures.end;
      k = computed_rest L R x (c.sine.ensures.0 ∙ ap sine_of t) c.offset_of-along.ensures.rest;
      p = computed_rest L R y (computed_one_less t c.cosine.ensures.0 c.cosine.ensures.2) c.offset_of-across.ensures.rest;
    }
