use Rattle.std.proofs.Common.{◌<◌, length, arith}
use Rattle.endpoint_script.specs.Device.{endpoint_begun}
use Rattle.endpoint_script.proofs.Lists.{one_more_becomes}
use Rattle.endpoint_script.proofs.device.begin_all.Goals as goal

pub loop-endpoint-preserved : goal.loop-endpoint-preserved
loop-endpoint-preserved c =
    let inside : c.loop-endpoint.endpoint-index < length c.loop-endpoint.endpoint-items = omega arith in
    rw (c.begin.ensures, ← c.endpoint-item.is) (one_more_becomes endpoint_begun c.args.endpoints.now.items c.loop-endpoint.endpoint-items c.loop-endpoint.endpoint-index c.endpoint-item.result c.loop-endpoint.invariant inside c.endpoint-item.is)
