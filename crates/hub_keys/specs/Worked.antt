-- Starts and keys of endpoint 1 of device 3 for worked rows.
use Rattle.usb_base.specs.declared.packets.Ask.{Ask}
use Rattle.usb_base.specs.declared.packets.Dir.{Dir}
use Rattle.usb_base.specs.declared.packets.EpKind.{EpKind}
use Rattle.usb_base.specs.declared.packets.DataPart.TheVariants as Parts
use Rattle.usb_base.specs.declared.packets.Pid.{Pid}
use Rattle.usb_base.specs.declared.packets.Pid.TheVariants as Packets
use Rattle.usb_base.specs.declared.packets.Speed.{Speed}
use Rattle.usb_base.specs.declared.packets.Split.TheVariants.{Start}
use Rattle.hub_keys.specs.declared.key.Key.{Key}

-- a start behind port 1 of hub 9, with room for 64 bytes
abbrev pub start : Pid → Speed → EpKind → Ask
start pid speed kind = record {
  split = Start 9 1 Parts.All;
  pid = pid;
  addr = 3;
  ep = 1;
  speed = speed;
  kind = kind;
  toggle = Packets.Data0;
  limit = 64;
}

abbrev pub key : Dir → EpKind → Key
key dir kind = record { addr = 3; ep = 1; dir = dir; kind = kind }
