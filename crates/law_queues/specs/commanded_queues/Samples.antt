-- Endpoints for worked rows: bulk endpoint 15 of device 127 at high speed, the highest address and the highest number that there are, for IN and for OUT, and
-- a control endpoint of the same number, with packets of 64 bytes (USB 2.0, 5.5.3).
use Rattle.std.specs.Prelude.{None}
use Rattle.usb_base.specs.declared.endpoints.EpDesc.{EpDesc}
use Rattle.usb_base.specs.declared.packets.EpKind.TheVariants as kinds
use Rattle.usb_base.specs.declared.packets.Speed.TheVariants as speeds
use Rattle.usb_base.specs.declared.packets.Way.TheVariants as ways

abbrev pub highest : EpDesc
highest = record { name = record { addr = 127; num = 15; way = ways.In }; speed = speeds.High; kind = kinds.Bulk; max = 512; period = 0; multi = 1; hub = None; port = 0; tt = 0 }

abbrev pub highest_out : EpDesc
highest_out = record highest { name = record { addr = 127; num = 15; way = ways.Out } }

abbrev pub highest_control : EpDesc
highest_control = record highest { name = record { addr = 127; num = 15; way = ways.Ctl }; kind = kinds.Control; max = 64 }
