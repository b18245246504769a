-- The translators of a hub, one for all ports or one for each, key by key (USB 2.0, 11.14): a key stands in the translator of its port
-- alone.
--     HasAt way k place all s         the translator at this place has this of the key, and no other one has the key
--     HubStartByKey .. HubWorkByKey   what each call leaves of it
use Rattle.std.specs.Prelude.{◌≡◌, ◌≢◌, ℕ, zero, suc, false, List, [], ◌∷◌, Some}
use Rattle.usb_base.specs.declared.packets.Ask.{Ask}
use Rattle.usb_base.specs.declared.packets.Reply.{Reply}
use Rattle.hub_keys.specs.Keys.{key_of, is_same_key}
use Rattle.hub_keys.specs.declared.key.Key.{Key}
use Rattle.multi_tt.specs.Translators.{Translator, Translators, place_of}
use Rattle.multi_tt.specs.Single.{AllWork}
use Rattle.multi_tt.specs.Calls.{Starts, Completes, Clears, hub_after, hub_answer, port_of}
use Rattle.law_translated.specs.Lift.{Way, Empty, told}
use Rattle.law_translated.specs.KeySlots.{KeySlot, way_of}
use Rattle.law_translated.specs.KeySteps.{OwnStart, OtherStart, given_reply, WorkOfKey}
use Rattle.law_translated.specs.KeyLaws.{Has, start_of, cleared_slot}

-- none of these has the key
abbrev pub HaveNone : Way → Key → List Translator → Type 0
HaveNone way k [] = Unit {0}
HaveNone way k (t ∷ ts) = Has way k t Empty × HaveNone way k ts

abbrev pub HasAt : Way → Key → ℕ → List Translator → KeySlot → Type 0
HasAt way k place [] s = ⊥
HasAt way k zero (t ∷ ts) s = Has way k t s × HaveNone way k ts
HasAt way k (suc place) (t ∷ ts) s = Has way k t Empty × HasAt way k place ts s

-- ---- calls

pub record HubStartsOwn (way : Way) (ask : Ask) (bytes : List ℕ) (stuff place : ℕ) (ts : Translators) (s : KeySlot) : Type 0 where
  pub reply : Reply
  pub answer : hub_answer (Starts ask bytes stuff) ts ≡ Some reply
  pub slot : KeySlot
  pub has : HasAt way (key_of ask) place (hub_after (Starts ask bytes stuff) ts).all slot
  pub step : OwnStart way (start_of ask bytes stuff) s reply slot

-- what a call leaves of another key
pub record LeavesOther (way : Way) (k : Key) (place : ℕ) (s : KeySlot) (new : List Translator) : Type 0 where
  pub slot : KeySlot
  pub has : HasAt way k place new slot
  pub step : OtherStart way s slot

-- a start at the key's port is its own; at no port is one of another key
pub record HubStartByKey : Type 0 where
  pub own : (way : Way) (ask : Ask) (bytes : List ℕ) (stuff place : ℕ) (ts : Translators) (s : KeySlot) → way_of ask.kind ≡ Some way
      → place_of ts.multi (port_of ask.split) ≡ Some place → HasAt way (key_of ask) place ts.all s
      → HubStartsOwn way ask bytes stuff place ts s
  pub other : (way : Way) (k : Key) (ask : Ask) (bytes : List ℕ) (stuff place : ℕ) (ts : Translators) (s : KeySlot)
      → way_of k.kind ≡ Some way
      → is_same_key (key_of ask) k ≡ false → HasAt way k place ts.all s
      → LeavesOther way k place s (hub_after (Starts ask bytes stuff) ts).all

pub record HubCompletesOwn (way : Way) (ask : Ask) (place : ℕ) (ts : Translators) (s : KeySlot) : Type 0 where
  pub answer : hub_answer (Completes ask) ts ≡ Some (given_reply way s)
  pub has : HasAt way (key_of ask) place (hub_after (Completes ask) ts).all (told s)

pub record HubCompleteByKey : Type 0 where
  pub own : (way : Way) (ask : Ask) (place : ℕ) (ts : Translators) (s : KeySlot) → way_of ask.kind ≡ Some way
      → place_of ts.multi (port_of ask.split) ≡ Some place → HasAt way (key_of ask) place ts.all s → HubCompletesOwn way ask place ts s
  pub other : (way : Way) (k : Key) (ask : Ask) (place : ℕ) (ts : Translators) (s : KeySlot) → way_of k.kind ≡ Some way
      → is_same_key (key_of ask) k ≡ false → HasAt way k place ts.all s → HasAt way k place (hub_after (Completes ask) ts).all s

-- a clear at the key's port, or at another one
pub record HubClearByKey : Type 0 where
  pub own : (way : Way) (c k : Key) (port place : ℕ) (ts : Translators) (s : KeySlot) → place_of ts.multi port ≡ Some place
      → HasAt way k place ts.all s
      → HasAt way k place (hub_after (Clears port c) ts).all (cleared_slot way c k s)
  pub other : (way : Way) (c k : Key) (port place : ℕ) (ts : Translators) (s : KeySlot) → place_of ts.multi port ≢ Some place
      → HasAt way k place ts.all s
      → HasAt way k place (hub_after (Clears port c) ts).all s

-- ---- the work of a microframe

pub record HubWorksForKey {W : Type 0} (transacts : W → Ask → List ℕ → Reply → W → Type 0) (way : Way) (k : Key) (frindex place : ℕ)
    (s : KeySlot) (before : W) (new : List Translator) (after : W) : Type 0 where
  pub slot : KeySlot
  pub has : HasAt way k place new slot
  pub work : WorkOfKey transacts way k frindex s before slot after

-- all translators of a hub work, and the key's own makes the key's transaction
abbrev pub HubWorkByKey : {W : Type 0} → (W → Ask → List ℕ → Reply → W → Type 0) → Type 0
HubWorkByKey {W} transacts =
    (way : Way) (k : Key) (frindex place : ℕ) (old : List Translator) (before after : W) (new : List Translator) (s : KeySlot)
    → AllWork transacts frindex old before after new → HasAt way k place old s
    → HubWorksForKey transacts way k frindex place s before new after
