-- The keys of a translator's buffers and entries (USB 2.0, 11.17.1 and 11.24.2.3).
use Rattle.std.specs.Prelude.{Bool, true, false, ◌&&◌, ◌==◌}
use Rattle.usb_base.specs.declared.packets.Ask.{Ask}
use Rattle.usb_base.specs.declared.packets.Dir.{Dir}
use Rattle.usb_base.specs.declared.packets.Dir.TheVariants as Directions
use Rattle.usb_base.specs.declared.packets.EpKind.{EpKind}
use Rattle.usb_base.specs.declared.packets.EpKind.TheVariants.{Control, Iso, Bulk, Interrupt}
use Rattle.usb_base.specs.declared.packets.Pid.{Pid}
use Rattle.usb_base.specs.declared.packets.Pid.TheVariants as Packets
use Rattle.hub_keys.specs.declared.key.Key.{Key}

-- a SETUP counts as an OUT
abbrev pub direction_of : Pid → Dir
direction_of Packets.In = Directions.In
direction_of _ = Directions.Out

-- the key of a start-split or a complete-split
abbrev pub key_of : Ask → Key
key_of ask = record { addr = ask.addr; ep = ask.ep; dir = direction_of ask.pid; kind = ask.kind }

abbrev pub is_same_direction : Dir → Dir → Bool
is_same_direction Directions.In Directions.In = true
is_same_direction Directions.Out Directions.Out = true
is_same_direction _ _ = false

abbrev pub is_same_kind : EpKind → EpKind → Bool
is_same_kind Control Control = true
is_same_kind Iso Iso = true
is_same_kind Bulk Bulk = true
is_same_kind Interrupt Interrupt = true
is_same_kind _ _ = false

-- two keys are one, as a test
abbrev pub is_same_key : Key → Key → Bool
is_same_key a b = a.addr == b.addr && a.ep == b.ep && is_same_direction a.dir b.dir && is_same_kind a.kind b.kind
