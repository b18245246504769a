-- A full-speed device with a bulk OUT endpoint behind port 1 of hub 9: a start-split that brings it a byte, and the microframe after it.
use Rattle.std.specs.Prelude.{◌≡◌, ℕ, List, [], ◌∷◌, Some, true, false}
use Rattle.usb_base.specs.declared.packets.Ask.{Ask}
use Rattle.usb_base.specs.declared.packets.DataPart.TheVariants.{All}
use Rattle.usb_base.specs.declared.packets.Dir.TheVariants as Directions
use Rattle.usb_base.specs.declared.packets.EpKind.TheVariants as Kinds
use Rattle.usb_base.specs.declared.packets.Pid.TheVariants as Pids
use Rattle.usb_base.specs.declared.packets.Reply.TheVariants.{Hand}
use Rattle.usb_base.specs.declared.packets.Speed.TheVariants.{Full}
use Rattle.usb_base.specs.declared.packets.Split.TheVariants.{Start}
use Rattle.usb_base.specs.declared.packets.Way.TheVariants as Ways
use Rattle.script_types.specs.declared.devices.EpText.{EpText}
use Rattle.script_types.specs.declared.scripts.Script.{Script}
use Rattle.hub_keys.specs.declared.key.Key.{Key}
use Rattle.tt_bulk.specs.Contents.{Taken}
use Rattle.bus_wire.specs.Bus.{Wired, opening_wired}
use Rattle.bus_wire.specs.Samples.{Asks, Begins, named, classic, script, asks, stepped}
use Rattle.law_translated.specs.Lift.{Buffered, Asked, There}
use Rattle.law_translated.specs.OutPipes.{Line}
use Rattle.law_below_hubs.specs.Seated.{taker_at}
use Rattle.law_below_hubs.specs.HubsKeys.{HubsHave, AreRightHubs}
use Rattle.law_below_hubs.specs.OutWork.{IsPut, taker_of_line}

abbrev pub key : Key
key = record { addr = 3; ep = 2; dir = Directions.Out; kind = Kinds.Bulk }

-- it has room for 64 bytes
abbrev pub out_endpoint : EpText
out_endpoint = record classic { desc = record classic.desc { name = named 3 2 Ways.Out }; items = []; room = 64 }

abbrev pub put_script : Script
put_script = record (script []) {
  devices = record { addr = 3; speed = Full; eps = out_endpoint ∷ [] } ∷ [];
  endpoints = named 3 2 Ways.Out ∷ [];
}

abbrev pub put_ask : Ask
put_ask = record (asks (Start 9 1 All)) { pid = Pids.Out; ep = 2 }

abbrev pub one_byte : List ℕ
one_byte = 7 ∷ []

abbrev pub taken : Taken
taken = record { ask = put_ask; packet = one_byte; stuff = 0 }

-- the byte is to be sent; the device has it
abbrev pub before : Line
before = record { known = []; rest = one_byte ∷ []; sends = false; taken = []; expects = false; going = true }

abbrev pub after : Line
after = record { known = []; rest = one_byte ∷ []; sends = false; taken = one_byte ∷ []; expects = true; going = true }

abbrev pub started : Wired
started = stepped (opening_wired put_script) (Asks put_ask one_byte)

abbrev pub begun : Wired
begun = stepped started (Begins 1)

-- the premises of the law
pub record StartIsTaken : Type 0 where
  pub has : HubsHave Buffered key 0 0 started.bus.hubs (Asked taken)
  pub right : AreRightHubs (IsPut key) started.bus.hubs
  pub taker : taker_at started 3 2 ≡ Some (taker_of_line before)

-- and what it leaves
pub record ResultIsThere : Type 0 where
  pub has : HubsHave Buffered key 0 0 begun.bus.hubs (There taken (Hand Pids.Ack))
  pub taker : taker_at begun 3 2 ≡ Some (taker_of_line after)

-- data without a toggle, as no host of a bulk endpoint sends them
abbrev pub NoToggleBreaks : Type 0
NoToggleBreaks = IsPut key (record put_ask { toggle = Pids.Mdata }) → ⊥
