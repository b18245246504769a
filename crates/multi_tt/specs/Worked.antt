-- Calls on the translators of a hub of two ports, for worked rows: device 3 is at port 1, device 4 at port 2.
use Rattle.std.specs.Prelude.{ℕ, ◌+◌, true, List, [], ◌∷◌}
use Rattle.usb_base.specs.declared.packets.Ask.{Ask}
use Rattle.usb_base.specs.declared.packets.DataPart.TheVariants.{All}
use Rattle.usb_base.specs.declared.packets.EpKind.{EpKind}
use Rattle.usb_base.specs.declared.packets.EpKind.TheVariants.{Bulk, Interrupt}
use Rattle.usb_base.specs.declared.packets.Pid.TheVariants.{In, Data0}
use Rattle.usb_base.specs.declared.packets.Reply.{Reply}
use Rattle.usb_base.specs.declared.packets.Reply.TheVariants.{Silent, Bytes}
use Rattle.usb_base.specs.declared.packets.Speed.TheVariants.{Full}
use Rattle.usb_base.specs.declared.packets.Split.{Split}
use Rattle.usb_base.specs.declared.packets.Split.TheVariants as Splits
use Rattle.hub_keys.specs.Keys.{key_of}
use Rattle.multi_tt.specs.Translators.{Translators, opening_of}
use Rattle.multi_tt.specs.Single.{Heard}
use Rattle.multi_tt.specs.Calls.{HubCall, Starts, Works, Clears, Resets, hub_played}

-- asks of endpoint n IN of the device, which has room for 64 bytes
abbrev pub asks : Split → ℕ → ℕ → EpKind → Ask
asks split addr n kind = record { split = split; pid = In; addr = addr; ep = n; speed = Full; kind = kind; toggle = Data0; limit = 64 }

abbrev pub start : ℕ → ℕ → EpKind → Ask
start port n kind = asks (Splits.Start 9 port All) (port + 2) n kind

abbrev pub complete : ℕ → ℕ → EpKind → Ask
complete port n kind = asks (Splits.Complete 9 port) (port + 2) n kind

abbrev pub two : Translators
two = opening_of 2 true

abbrev pub data_1 : Reply
data_1 = Bytes Data0 (1 ∷ [])

abbrev pub data_2 : Reply
data_2 = Bytes Data0 (2 ∷ [])

-- each of the ports hears its own device at the turn of the buffer that took its packet last
abbrev pub both_hear : List Heard
both_hear = record { replies = []; earlier = Silent; later = data_1 } ∷ record { replies = []; earlier = Silent; later = data_2 } ∷ []

-- a bulk start at each port, and a microframe
abbrev pub both : List HubCall
both = Starts (start 1 1 Bulk) [] 0 ∷ Starts (start 2 1 Bulk) [] 0 ∷ Works 1 both_hear ∷ []

-- then port 1 is cleared, or reset
abbrev pub first_cleared : List HubCall
first_cleared = Starts (start 1 1 Bulk) [] 0 ∷ Starts (start 2 1 Bulk) [] 0 ∷ Works 1 both_hear ∷ Clears 1 (key_of (start 1 1 Bulk)) ∷ []

abbrev pub first_reset : List HubCall
first_reset = Starts (start 1 1 Bulk) [] 0 ∷ Starts (start 2 1 Bulk) [] 0 ∷ Works 1 both_hear ∷ Resets 1 ∷ []
