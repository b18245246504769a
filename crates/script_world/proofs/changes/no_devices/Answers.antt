use Rattle.std.proofs.Common.{◌+◌, ◌-◌, replicate, None, arith}
use Rattle.script_world.proofs.Fills.{replicate_more, put_one}
use Rattle.script_world.proofs.changes.no_devices.Goals as goal

pub loop-port-preserved : goal.loop-port-preserved
loop-port-preserved c =
    let n = c.args.ports in
    let i = c.loop-port.port in
    put_one c.loop-port.new.items c.push.new.items.items (replicate (n - i) None) (replicate (n - (i + 1)) None) (replicate n None) None c.in_ok-push.ensures (replicate_more None i n (omega arith)) c.loop-port.invariant
