use Rattle.std.proofs.Common.{◌≡◌, ◌<◌, List, Option, Some, None, length, Bool, Bor, sym, IfSome}
use Rattle.std.specs.List.{AllByRecursion, find}
use Rattle.std.specs.Option.{option_copied}
use Rattle.std.specs.Prelude.{◌==◌}
use Rattle.usb_base.specs.declared.endpoints.EpName.{EpName}
use Rattle.endpoint_script.specs.Device.{Device, taken_of}
use Rattle.bus_world.specs.Sound.{IsRoomyDevice}
use Rattle.bus_world.proofs.Roomy.{found_short}
use Rattle.bus_world.proofs.world.World.device.Goals as goal

few_if : (o : Option (Bor Device)) (ds : List Device) (p : Device → Bool) (name : EpName) → AllByRecursion IsRoomyDevice ds → option_copied o ≡ find p ds
    → IfSome o (λ d. length (taken_of d.now name) < 4294967296)
few_if None ds p name h e = tt
few_if (Some d) ds p name h e = found_short ds p d.now name h (sym e)

pub returns-clause-few : goal.returns-clause-few
returns-clause-few c = λ name. few_if c.device.result c.self.inside.bus.bus.devices (λ d. d.address == c.args.addr) name c.self.invariant.sound.roomy c.device.ensures
