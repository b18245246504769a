-- The host's split transactions, key by key (USB 2.0, 8.4.2 and 11.17 to 11.21): each is a step of what the named hub has of its key,
-- unless the hub doesn't hear it, and the host hears the answer or nothing.
--     IsAtHub                     the ask names the hub at this place, and the translator at that place of it
--     StartHeard, CompleteHeard   what a split does to the slot of its key, and what the host hears
--     SplitsByKey                 the law
use Rattle.std.specs.Prelude.{◌≡◌, ℕ, ◌==◌, false, List, Some, position, slice_get}
use Rattle.usb_base.specs.declared.packets.Ask.{Ask}
use Rattle.usb_base.specs.declared.packets.DataPart.{DataPart}
use Rattle.usb_base.specs.declared.packets.Reply.{Reply}
use Rattle.usb_base.specs.declared.packets.Reply.TheVariants.{Silent}
use Rattle.usb_base.specs.declared.packets.Split.TheVariants.{Start, Complete}
use Rattle.hub_keys.specs.Keys.{key_of, is_same_key}
use Rattle.hub_keys.specs.declared.key.Key.{Key}
use Rattle.tt_bulk.specs.Contents.{Taken}
use Rattle.multi_tt.specs.Translators.{place_of}
use Rattle.hub_class.specs.HubContent.{HubContent}
use Rattle.bus_wire.specs.Bus.{Wired}
use Rattle.law_devices.specs.scripted_requests.Controls.{transacts_by}
use Rattle.law_translated.specs.Lift.{Way, told}
use Rattle.law_translated.specs.KeySlots.{KeySlot, way_of}
use Rattle.law_translated.specs.KeySteps.{OwnStart, OtherStart, given_reply}
use Rattle.law_translated.specs.KeyLaws.{start_of}
use Rattle.law_below_hubs.specs.HubsKeys.{HubsHave}

pub record IsAtHub (hubs : List HubContent) (hub port : ℕ) (i place : ℕ) : Type 0 where
  pub found : position (λ h. h.address == hub) hubs ≡ Some i
  pub content : HubContent
  pub there : slice_get hubs i ≡ Some content
  pub place_is : place_of content.translators.multi port ≡ Some place

-- ---- start-splits

pub data StartHeard (way : Way) (a : Taken) (s : KeySlot) : Reply → KeySlot → Type 0 where
  lost : StartHeard way a s Silent s
  heard : (answer : Reply) (new : KeySlot) → OwnStart way a s answer new → StartHeard way a s answer new
  unheard : (answer : Reply) (new : KeySlot) → OwnStart way a s answer new → StartHeard way a s Silent new

pub record StartsAtHub (way : Way) (i place : ℕ) (ask : Ask) (out : List ℕ) (s : KeySlot) (reply : Reply) (v : Wired) : Type 0 where
  pub stuff : ℕ  -- how many bytes in 36 stuffed bits make the endpoint's packets longer
  pub slot : KeySlot
  pub has : HubsHave way (key_of ask) i place v.bus.hubs slot
  pub step : StartHeard way (start_of ask out stuff) s reply slot

-- what a start of another key leaves
pub record LeavesKey (way : Way) (k : Key) (i place : ℕ) (s : KeySlot) (v : Wired) : Type 0 where
  pub slot : KeySlot
  pub has : HubsHave way k i place v.bus.hubs slot
  pub step : OtherStart way s slot

-- ---- complete-splits

pub data CompleteHeard (way : Way) (s : KeySlot) : Reply → KeySlot → Type 0 where
  lost : CompleteHeard way s Silent s
  heard : CompleteHeard way s (given_reply way s) (told s)
  unheard : CompleteHeard way s Silent (told s)

pub record CompletesAtHub (way : Way) (i place : ℕ) (ask : Ask) (s : KeySlot) (reply : Reply) (v : Wired) : Type 0 where
  pub slot : KeySlot
  pub has : HubsHave way (key_of ask) i place v.bus.hubs slot
  pub step : CompleteHeard way s reply slot

-- ---- the law

pub record SplitsByKey : Type 0 where
  pub starts : (way : Way) (i place : ℕ) (hub port : ℕ) (part : DataPart) (w : Wired) (ask : Ask) (out : List ℕ) (reply : Reply)
      (v : Wired) (s : KeySlot)
      → ask.split ≡ Start hub port part → way_of ask.kind ≡ Some way → IsAtHub w.bus.hubs hub port i place
      → HubsHave way (key_of ask) i place w.bus.hubs s
      → transacts_by w ask out reply v → StartsAtHub way i place ask out s reply v
  pub starts_other : (way : Way) (k : Key) (i place : ℕ) (hub port : ℕ) (part : DataPart) (w : Wired) (ask : Ask) (out : List ℕ)
      (reply : Reply) (v : Wired) (s : KeySlot)
      → ask.split ≡ Start hub port part → way_of k.kind ≡ Some way → is_same_key (key_of ask) k ≡ false
      → HubsHave way k i place w.bus.hubs s
      → transacts_by w ask out reply v → LeavesKey way k i place s v
  pub completes : (way : Way) (i place : ℕ) (hub port : ℕ) (w : Wired) (ask : Ask) (out : List ℕ) (reply : Reply) (v : Wired) (s : KeySlot)
      → ask.split ≡ Complete hub port → way_of ask.kind ≡ Some way → IsAtHub w.bus.hubs hub port i place
      → HubsHave way (key_of ask) i place w.bus.hubs s
      → transacts_by w ask out reply v → CompletesAtHub way i place ask s reply v
  pub completes_other : (way : Way) (k : Key) (i place : ℕ) (hub port : ℕ) (w : Wired) (ask : Ask) (out : List ℕ) (reply : Reply)
      (v : Wired) (s : KeySlot)
      → ask.split ≡ Complete hub port → way_of k.kind ≡ Some way → is_same_key (key_of ask) k ≡ false → HubsHave way k i place w.bus.hubs s
      → transacts_by w ask out reply v → HubsHave way k i place v.bus.hubs s
