use Rattle.std.proofs.Common.{subst}
use Rattle.hub_class.specs.Translating.{HubWorks}
use Rattle.bus_wire.specs.Below.{Below}
use Rattle.bus_wire.proofs.Hubs.{transacts_below, one_worked}
use Rattle.bus_wire.proofs.bus.work_hub.Goals as goal

pub returns-clause-hub : goal.returns-clause-hub
returns-clause-hub c =
    (one_worked c.args.below.now.fixed c.args.frindex c.args.hub.now c.args.below.now.floor c.microframe.new.self c.microframe.new.down
    (subst (λ (w : Below). HubWorks transacts_below c.args.frindex c.args.hub.now w c.microframe.new.self c.microframe.new.down) c.turn_to.ensures c.microframe.ensures)).hub

pub returns-clause-floor : goal.returns-clause-floor
returns-clause-floor c =
    (one_worked c.args.below.now.fixed c.args.frindex c.args.hub.now c.args.below.now.floor c.microframe.new.self c.microframe.new.down
    (subst (λ (w : Below). HubWorks transacts_below c.args.frindex c.args.hub.now w c.microframe.new.self c.microframe.new.down) c.turn_to.ensures c.microframe.ensures)).floor

pub returns-clause-fixed : goal.returns-clause-fixed
returns-clause-fixed c =
    (one_worked c.args.below.now.fixed c.args.frindex c.args.hub.now c.args.below.now.floor c.microframe.new.self c.microframe.new.down
    (subst (λ (w : Below). HubWorks transacts_below c.args.frindex c.args.hub.now w c.microframe.new.self c.microframe.new.down) c.turn_to.ensures c.microframe.ensures)).fixed
