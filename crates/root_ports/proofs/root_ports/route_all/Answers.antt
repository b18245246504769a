use Rattle.root_ports.specs.Ports.{after_owner}
use Rattle.root_ports.proofs.Lists.{written_over}
use Rattle.root_ports.proofs.root_ports.route_all.Goals as goal

pub loop-port-preserved : goal.loop-port-preserved
loop-port-preserved c =
    written_over (after_owner c.args.owner) c.args.ports.now c.loop-port.ports c.loop-port.port-index _ c.route.new.port c.loop-port.auto.ports c.loop-port-test.true c.loop-port.invariant c.route.ensures
