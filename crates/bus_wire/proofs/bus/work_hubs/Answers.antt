use Rattle.std.proofs.Common.{◌∙◌, arith}
use Rattle.bus_wire.proofs.Hubs.{next_worked, all_worked}
use Rattle.bus_wire.proofs.bus.work_hubs.Goals as goal

pub loop-hub-preserved : goal.loop-hub-preserved
loop-hub-preserved c =
    next_worked c.args.below.now.fixed c.args.frindex c.args.hubs.now c.args.below.now.floor c.loop-hub.hub-index c.loop-hub.hubs c.loop-hub.below c.hub-item.result c.work_hub.new.hub c.work_hub.new.below
    c.loop-hub.invariant c.loop-hub-test.true c.work_hub.ensures.hub c.work_hub.ensures.floor c.work_hub.ensures.fixed

pub returns-clause-hubs : goal.returns-clause-hubs
returns-clause-hubs c =
    c.loop-hub.invariant.hubs
    ∙ all_worked c.args.below.now.fixed c.args.frindex c.args.hubs.now c.args.below.now.floor c.loop-hub.hub-index (omega (arith, c.loop-hub-test.false))
