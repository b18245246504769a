-- The host's plain transactions, key by key (USB 2.0, 11.24): they leave what the hubs have of a key, but for a request to a hub that
-- clears it.
--     LeftOrEmpty             the slot is as it was, or empty
--     PlainAsksByKey          the law
use Rattle.std.specs.Prelude.{◌≡◌, ◌⊎◌, ℕ, List}
use Rattle.usb_base.specs.declared.packets.Ask.{Ask}
use Rattle.usb_base.specs.declared.packets.Reply.{Reply}
use Rattle.usb_base.specs.declared.packets.Split.TheVariants.{Plain}
use Rattle.hub_keys.specs.declared.key.Key.{Key}
use Rattle.bus_wire.specs.Bus.{Wired}
use Rattle.law_devices.specs.scripted_requests.Controls.{transacts_by}
use Rattle.law_translated.specs.Lift.{Way, Empty}
use Rattle.law_translated.specs.KeySlots.{KeySlot}
use Rattle.law_below_hubs.specs.HubsKeys.{HubsHave}

abbrev pub LeftOrEmpty : KeySlot → KeySlot → Type 0
LeftOrEmpty s new = (new ≡ s) ⊎ (new ≡ Empty)

pub record PlainLeaves (way : Way) (k : Key) (i place : ℕ) (s : KeySlot) (v : Wired) : Type 0 where
  pub slot : KeySlot
  pub has : HubsHave way k i place v.bus.hubs slot
  pub left : LeftOrEmpty s slot

abbrev pub PlainAsksByKey : Type 0
PlainAsksByKey = (way : Way) (k : Key) (i place : ℕ) (w : Wired) (ask : Ask) (out : List ℕ) (reply : Reply) (v : Wired) (s : KeySlot)
    → ask.split ≡ Plain
    → HubsHave way k i place w.bus.hubs s → transacts_by w ask out reply v → PlainLeaves way k i place s v
