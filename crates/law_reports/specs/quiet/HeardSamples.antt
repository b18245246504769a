-- Scripts for worked rows: that of a keyboard below a hub beside the high-speed device 2, which has an interrupt endpoint, IN, and a bulk
-- one, OUT. No packet of it is lost.
--     lost_below         a packet of the keyboard below the hub is lost
--     lost_above         a packet of the bulk endpoint is lost
--     answers_nyet       .. or the device has an interrupt OUT that answers NYET
--     told_of x          a driver of one endpoint, with a line that tells a halt of it by errors
use Rattle.std.specs.Prelude.{true, false, [], ◌∷◌}
use Rattle.usb_base.specs.declared.endpoints.EndCause.TheVariants as causes
use Rattle.usb_base.specs.declared.endpoints.EpDesc.{EpDesc}
use Rattle.usb_base.specs.declared.packets.EpKind.TheVariants as kinds
use Rattle.usb_base.specs.declared.packets.Fate.TheVariants as fates
use Rattle.usb_base.specs.declared.packets.Speed.TheVariants as speeds
use Rattle.usb_base.specs.declared.reports.What.TheVariants as lines
use Rattle.script_types.specs.declared.devices.Item.TheVariants.{Nyet}
use Rattle.script_types.specs.declared.scripts.Script.{Script}
use Rattle.drv_table.specs.DriverContent.{DriverContent}
use Rattle.drv_table.specs.Offers.{new_endpoint}
use Rattle.law_opened.specs.Samples.{beside_split, board_name, sink, sink_name}
use Rattle.law_world.specs.memory.Samples.{typed_at}

abbrev pub lost_below : Script
lost_below = record beside_split { fates = record { name = board_name; down = true; k = 0; fate = fates.Lost } ∷ [] }

abbrev pub lost_above : Script
lost_above = record beside_split { fates = record { name = sink_name; down = false; k = 0; fate = fates.Lost } ∷ [] }

abbrev pub answers_nyet : Script
answers_nyet = record beside_split {
  devices = record {
    addr = 2;
    speed = speeds.High;
    eps = record { desc = record sink { kind = kinds.Interrupt; period = 8 }; items = Nyet ∷ []; room = 8; stuff = 0; clears = 0 } ∷ [];
  } ∷ [];
}

abbrev pub told_of : EpDesc → DriverContent
told_of x = record (typed_at 24).driver {
  endpoints = new_endpoint x 130 132 ∷ [];
  reports = record { name = x.name; what = lines.Halt causes.Error; from = 0; len = 0 } ∷ [];
}
