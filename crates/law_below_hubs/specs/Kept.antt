-- What each transaction of the host keeps of the hubs (USB 2.0, 11.14 and 11.24).
--     TransactionsKeepRight       all that hubs have taken is so, where each start that is put in is
use Rattle.std.specs.Prelude.{ℕ, List}
use Rattle.usb_base.specs.declared.packets.Ask.{Ask}
use Rattle.usb_base.specs.declared.packets.Reply.{Reply}
use Rattle.usb_base.specs.declared.packets.Split.{Split}
use Rattle.usb_base.specs.declared.packets.Split.TheVariants.{Plain, Start, Complete}
use Rattle.hub_keys.specs.Asks.{classic_of}
use Rattle.bus_wire.specs.Bus.{Wired}
use Rattle.law_devices.specs.scripted_requests.Controls.{transacts_by}
use Rattle.law_below_hubs.specs.HubsKeys.{AreRightHubs}

-- where this is a start
abbrev pub IfStart : Split → Type 0 → Type 0
IfStart Plain P = Unit {0}
IfStart (Start hub port part) P = P
IfStart (Complete hub port) P = Unit {0}

abbrev pub TransactionsKeepRight : (Ask → Type 0) → Type 0
TransactionsKeepRight right = (w : Wired) (ask : Ask) (out : List ℕ) (reply : Reply) (v : Wired) → transacts_by w ask out reply v
    → IfStart ask.split (right (classic_of ask)) → AreRightHubs right w.bus.hubs → AreRightHubs right v.bus.hubs
