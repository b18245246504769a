use Rattle.std.proofs.Common.{◌∙◌, ap, sym}
use Rattle.std.proofs.Math.ListN.{set}
use Rattle.std.proofs.lemmas.List.Edits.{map_over_more}
use Rattle.hub_class.specs.EndpointZero.{hub_reset}
use Rattle.bus_wire.proofs.bus.reset_hubs.Goals as goal

pub loop-hub-preserved : goal.loop-hub-preserved
loop-hub-preserved c =
    ap (λ d. set c.loop-hub.hubs c.loop-hub.hub-index d)
    (c.reset.ensures ∙ ap (hub_reset c.args.name.now) (sym c.hub-item.is))
    ∙ map_over_more (hub_reset c.args.name.now) c.args.hubs.now c.loop-hub.hubs c.loop-hub.hub-index c.hub-item.result
    c.loop-hub-test.true c.loop-hub.invariant c.hub-item.is
