-- A full-speed device with a bulk IN endpoint behind port 1 of hub 9, which sends one packet of three bytes: its start-split, and the
-- microframe after it.
use Rattle.std.specs.Prelude.{◌≡◌, ℕ, List, [], ◌∷◌, Some, true, false}
use Rattle.usb_base.specs.declared.packets.Ask.{Ask}
use Rattle.usb_base.specs.declared.packets.DataPart.TheVariants.{All}
use Rattle.usb_base.specs.declared.packets.Dir.TheVariants as Directions
use Rattle.usb_base.specs.declared.packets.EpKind.TheVariants as Kinds
use Rattle.usb_base.specs.declared.packets.Pid.TheVariants as Pids
use Rattle.usb_base.specs.declared.packets.Reply.{Reply}
use Rattle.usb_base.specs.declared.packets.Reply.TheVariants.{Bytes}
use Rattle.usb_base.specs.declared.packets.Split.TheVariants.{Start}
use Rattle.hub_keys.specs.declared.key.Key.{Key}
use Rattle.tt_bulk.specs.Contents.{Taken}
use Rattle.hub_class.specs.HubContent.{HubContent}
use Rattle.bus_wire.specs.Below.{Below, below_at}
use Rattle.bus_wire.specs.Bus.{Wired, floor_of}
use Rattle.bus_wire.specs.Samples.{Asks, Begins, asks, start, disable, stepped, left_wired, opened}
use Rattle.law_translated.specs.Lift.{Buffered, Empty, Asked, There}
use Rattle.law_translated.specs.InPipes.{Line}
use Rattle.law_below_hubs.specs.Seated.{sender_at}
use Rattle.law_below_hubs.specs.HubsKeys.{HubsHave, IsOfKind, AreRightHubs}
use Rattle.law_below_hubs.specs.Splits.{IsAtHub}
use Rattle.law_below_hubs.specs.InWork.{sender_of_line}

abbrev pub key : Key
key = record { addr = 3; ep = 1; dir = Directions.In; kind = Kinds.Bulk }

abbrev pub taken : Taken
taken = record { ask = asks (Start 9 1 All); packet = []; stuff = 0 }

abbrev pub three_bytes : List ℕ
three_bytes = 1 ∷ 2 ∷ 3 ∷ []

abbrev pub sent : Reply
sent = Bytes Pids.Data0 three_bytes

-- nothing has moved; the device knows that its packet was taken
abbrev pub before : Line
before = record { left = three_bytes ∷ []; sends = false; accepted = []; expects = false; going = true }

abbrev pub after : Line
after = record { left = []; sends = true; accepted = []; expects = false; going = true }

-- the start was taken, and then a microframe begins
abbrev pub started : Wired
started = left_wired (opened []) (start ∷ [])

abbrev pub begun : Wired
begun = stepped started (Begins 1)

-- the premises of the law
pub record StartIsTaken : Type 0 where
  pub has : HubsHave Buffered key 0 0 started.bus.hubs (Asked taken)
  pub right : AreRightHubs (IsOfKind key) started.bus.hubs
  pub sender : sender_at started 3 1 ≡ Some (sender_of_line before)

-- and what it leaves
pub record ResultIsThere : Type 0 where
  pub has : HubsHave Buffered key 0 0 begun.bus.hubs (There taken sent)
  pub sender : sender_at begun 3 1 ≡ Some (sender_of_line after)

-- A start of another kind for the same endpoint, as no host makes it: the device sends, though nothing is asked with its key.
abbrev pub other_kind : Ask
other_kind = record (asks (Start 9 1 All)) { kind = Kinds.Control }

abbrev pub wrong : Wired
wrong = stepped (opened []) (Asks other_kind [])

abbrev pub OtherKindBreaks : Type 0
OtherKindBreaks = AreRightHubs (IsOfKind key) wrong.bus.hubs → ⊥

-- the bus below the hub, where port 1 is enabled or disabled
abbrev pub hub_below : Wired → List HubContent → Below
hub_below w [] = record { fixed = w.fixed; floor = floor_of w.bus; hub = 0; enabled = [] }
hub_below w (h ∷ hs) = below_at w.fixed h (floor_of w.bus)

abbrev pub enabled_below : Below
enabled_below = hub_below (opened []) (opened []).bus.hubs

abbrev pub disabled_below : Below
disabled_below = hub_below (left_wired (opened []) disable) (left_wired (opened []) disable).bus.hubs

-- a start names the hub and its one translator; one that names another hub finds none
pub record NamesTheHub : Type 0 where
  pub at : IsAtHub (opened []).bus.hubs 9 1 0 0
  pub none : HubsHave Buffered key 0 0 (opened []).bus.hubs Empty
  pub no_hub : IsAtHub (opened []).bus.hubs 10 1 0 0 → ⊥
