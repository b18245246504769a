-- A high-speed isochronous IN endpoint with three packets of 1,024 bytes in each microframe, on device 5: two of them break the budget of
-- each microframe.
use Rattle.std.specs.Prelude.{ℕ, None}
use Rattle.usb_base.specs.declared.endpoints.EpDesc.{EpDesc}
use Rattle.usb_base.specs.declared.packets.Speed.TheVariants.{High}
use Rattle.usb_base.specs.declared.packets.Way.TheVariants.{In}
use Rattle.usb_base.specs.declared.packets.EpKind.TheVariants.{Iso}
use Rattle.bandwidth.specs.declared.placements.Placement.{Placement}
use Rattle.word_mem.specs.Memory.{Mem}
use Rattle.drv_table.specs.declared.content.Reserve.{Reserve}
use Rattle.drv_table.specs.Accepting.{Offered}
use Rattle.drv_table.specs.Offers.{accepted_iso}
use Rattle.drv_table.specs.Opening.{opening}

abbrev pub camera : ℕ → EpDesc
camera num = record {
  name = record { addr = 5; num = num; way = In };
  speed = High;
  kind = Iso;
  max = 1024;
  period = 1;
  multi = 3;
  hub = None;
  port = 0;
  tt = 0;
}

abbrev pub each_microframe : Placement
each_microframe = record { period = 1; phase = 0; smask = 255; cmask = 0 }

-- a driver that was just built, once the first is accepted
abbrev pub with_first : ℕ → Reserve → Mem → Offered
with_first n room m = record { driver = accepted_iso (opening n room).driver (camera 1) each_microframe; memory = m }
