use Rattle.std.proofs.Common.{refl, arith}
use Rattle.bandwidth.proofs.Spans.{shape_is}
use Rattle.bandwidth.proofs.shapes.shape_of.Goals as goal

pub returns-clause-shape : goal.returns-clause-shape
returns-clause-shape c =
    shape_is c.args.want.now c.args.first c.placement_of-placement.result _ c.requires.want c.requires.first
    (record {
      at = c.placement_of-placement.ensures.value;
      smask = refl;
      cmask = refl;
      cost_from = refl;
      cost_to = omega (arith, c.span_of_costs.ensures.value);
      costs = c.costs_of.ensures.costs;
      cost_bound = c.costs_of.ensures.bound;
      byte_from = refl;
      byte_to = omega (arith, c.span_of_bytes.ensures.value);
      bytes = c.byte_times_of.ensures.laid;
      byte_bound = c.byte_times_of.ensures.bound;
      time = c.time_in_frame.ensures.time;
      time_bound = c.time_in_frame.ensures.bound;
    })
