-- Endpoints for worked rows: a keyboard that is asked in each frame, and a camera of three packets of 1,024 bytes in each microframe.
use Rattle.std.specs.Prelude.{None}
use Rattle.usb_base.specs.declared.endpoints.EpDesc.{EpDesc}
use Rattle.usb_base.specs.declared.packets.EpKind.TheVariants as kinds
use Rattle.usb_base.specs.declared.packets.Speed.TheVariants as speeds
use Rattle.usb_base.specs.declared.packets.Way.TheVariants as ways

abbrev pub asked_each_frame : EpDesc
asked_each_frame = record {
  name = record { addr = 2; num = 1; way = ways.In };
  speed = speeds.High;
  kind = kinds.Interrupt;
  max = 8;
  period = 8;
  multi = 1;
  hub = None;
  port = 0;
  tt = 0;
}

abbrev pub three_each_microframe : EpDesc
three_each_microframe = record asked_each_frame { kind = kinds.Iso; max = 1024; period = 1; multi = 3 }
