use Rattle.std.proofs.Common.{◌∙◌, ap, sym}
use Rattle.std.proofs.Math.ListN.{set}
use Rattle.std.proofs.lemmas.List.Edits.{map_over_more}
use Rattle.bus_wire.specs.Bus.{begun_at}
use Rattle.bus_recorder.proofs.beneath.begin_devices.Goals as goal

pub loop-device-preserved : goal.loop-device-preserved
loop-device-preserved c =
    ap (λ d. set c.loop-device.devices c.loop-device.device-index d)
    (c.begin_device.ensures ∙ ap (begun_at c.args.frindex) (sym c.device-item.is))
    ∙ map_over_more (begun_at c.args.frindex) c.args.devices.now c.loop-device.devices c.loop-device.device-index
    c.device-item.result c.loop-device-test.true c.loop-device.invariant c.device-item.is
