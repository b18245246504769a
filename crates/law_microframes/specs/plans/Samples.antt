-- Drivers for worked rows: a full-speed camera below hub 9 has an isochronous IN endpoint of 179 bytes.
--     camera, its_place    the endpoint, and its placement from microframe 1 of each frame on
--     filmed               a driver that has opened it
--     filmed_twice         one that has opened two at this place, which no run has
use Rattle.std.specs.Prelude.{ℕ, Some}
use Rattle.usb_base.specs.declared.endpoints.EpDesc.{EpDesc}
use Rattle.usb_base.specs.declared.packets.EpKind.TheVariants.{Iso}
use Rattle.usb_base.specs.declared.packets.Speed.TheVariants.{Full}
use Rattle.usb_base.specs.declared.packets.Way.TheVariants.{In}
use Rattle.bandwidth.specs.declared.placements.Placement.{Placement}
use Rattle.drv_table.specs.DriverContent.{DriverContent}
use Rattle.drv_table.specs.Offers.{accepted_iso}
use Rattle.bus_world.specs.Opening.{opening_world}
use Rattle.law_world.specs.memory.Samples.{keyboard_and_disk}

abbrev pub camera : ℕ → EpDesc
camera number = record {
  name = record { addr = 4; num = number; way = In };
  speed = Full;
  kind = Iso;
  max = 179;
  period = 8;
  multi = 1;
  hub = Some 9;
  port = 1;
  tt = 0;
}

abbrev pub its_place : Placement
its_place = record { period = 8; phase = 0; smask = 2; cmask = 24 }

abbrev pub filmed : DriverContent
filmed = accepted_iso (opening_world keyboard_and_disk).driver (camera 1) its_place

abbrev pub filmed_twice : DriverContent
filmed_twice = accepted_iso filmed (camera 2) its_place
