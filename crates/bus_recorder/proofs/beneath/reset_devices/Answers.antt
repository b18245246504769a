use Rattle.std.proofs.Common.{◌∙◌, ap, sym}
use Rattle.std.proofs.Math.ListN.{set}
use Rattle.std.proofs.lemmas.List.Edits.{map_over_more}
use Rattle.endpoint_script.specs.Resets.{device_reset}
use Rattle.bus_recorder.proofs.beneath.reset_devices.Goals as goal

pub loop-device-preserved : goal.loop-device-preserved
loop-device-preserved c =
    ap (λ d. set c.loop-device.devices c.loop-device.device-index d)
    (c.reset.ensures ∙ ap (device_reset c.args.name.now) (sym c.device-item.is))
    ∙ map_over_more (device_reset c.args.name.now) c.args.devices.now c.loop-device.devices c.loop-device.device-index c.device-item.result
    c.loop-device-test.true c.loop-device.invariant c.device-item.is
