-- What is stated of a translator, key by key (USB 2.0, 11.17 to 11.21): each call is a step of what it has of its own key, and leaves what
-- it has of any other one, or that was told and is gone.
--     StartByKey, CompleteByKey, ClearByKey, ResetByKey       the calls
--     AskedByKey                                              what a key has is asked with its key
--     WorkByKey                                               the work of a microframe, over any wire below
use Rattle.std.specs.Prelude.{◌≡◌, ℕ, false, List, Some, if◌then◌else◌}
use Rattle.usb_base.specs.declared.packets.Ask.{Ask}
use Rattle.usb_base.specs.declared.packets.Reply.{Reply}
use Rattle.hub_keys.specs.Keys.{key_of, is_same_key}
use Rattle.hub_keys.specs.declared.key.Key.{Key}
use Rattle.tt_bulk.specs.Contents.{Taken}
use Rattle.tt_bulk.specs.Rows.{is_cleared_by}
use Rattle.multi_tt.specs.Translators.{Translator, opening}
use Rattle.multi_tt.specs.Single.{started, start_answer, completed, complete_answer, cleared, TranslatorWorks}
use Rattle.law_translated.specs.Lift.{Way, Buffered, Piped, Empty, Asked, Hidden, There, Told, told}
use Rattle.law_translated.specs.KeySlots.{KeySlot, way_of, HasSlot, IsKeyed}
use Rattle.law_translated.specs.KeySteps.{OwnStart, OtherStart, given_reply, WorkOfKey}

-- it has this of the key, and so that the key is found
pub record Has (way : Way) (k : Key) (t : Translator) (s : KeySlot) : Type 0 where
  pub slot : HasSlot way k t s
  pub keyed : IsKeyed way k t

-- what is asked for the key is asked with its key
abbrev pub IsAskedFor : Key → KeySlot → Type 0
IsAskedFor k Empty = Unit {0}
IsAskedFor k (Asked a) = key_of a.ask ≡ k
IsAskedFor k (Hidden a r) = Unit {0}
IsAskedFor k (There a r) = Unit {0}
IsAskedFor k (Told a r) = Unit {0}

abbrev pub AskedByKey : Type 0
AskedByKey = (way : Way) (k : Key) (t : Translator) (s : KeySlot) → Has way k t s → IsAskedFor k s

-- ---- start-splits

abbrev pub start_of : Ask → List ℕ → ℕ → Taken
start_of ask bytes stuff = record { ask = ask; packet = bytes; stuff = stuff }

pub record StartsOwn (way : Way) (ask : Ask) (bytes : List ℕ) (stuff : ℕ) (t : Translator) (s : KeySlot) : Type 0 where
  pub slot : KeySlot
  pub has : Has way (key_of ask) (started ask bytes stuff t) slot
  pub step : OwnStart way (start_of ask bytes stuff) s (start_answer ask t) slot

pub record StartsOther (way : Way) (k : Key) (ask : Ask) (bytes : List ℕ) (stuff : ℕ) (t : Translator) (s : KeySlot) : Type 0 where
  pub slot : KeySlot
  pub has : Has way k (started ask bytes stuff t) slot
  pub step : OtherStart way s slot

pub record StartByKey : Type 0 where
  pub own : (way : Way) (ask : Ask) (bytes : List ℕ) (stuff : ℕ) (t : Translator) (s : KeySlot) → way_of ask.kind ≡ Some way
      → Has way (key_of ask) t s
      → StartsOwn way ask bytes stuff t s
  pub other : (way : Way) (k : Key) (ask : Ask) (bytes : List ℕ) (stuff : ℕ) (t : Translator) (s : KeySlot) → way_of k.kind ≡ Some way
      → is_same_key (key_of ask) k ≡ false → Has way k t s → StartsOther way k ask bytes stuff t s

-- ---- complete-splits

pub record CompletesOwn (way : Way) (ask : Ask) (t : Translator) (s : KeySlot) : Type 0 where
  pub answer : complete_answer ask t ≡ given_reply way s
  pub has : Has way (key_of ask) (completed ask t) (told s)

pub record CompleteByKey : Type 0 where
  pub own : (way : Way) (ask : Ask) (t : Translator) (s : KeySlot) → way_of ask.kind ≡ Some way → Has way (key_of ask) t s
      → CompletesOwn way ask t s
  pub other : (way : Way) (k : Key) (ask : Ask) (t : Translator) (s : KeySlot) → way_of k.kind ≡ Some way
      → is_same_key (key_of ask) k ≡ false → Has way k t s
      → Has way k (completed ask t) s

-- ---- ClearTTBuffer and ResetTT (11.24.2.3 and 11.24.2.9)

-- a clear empties the buffer of the key, and leaves the pipeline
abbrev pub cleared_slot : Way → Key → Key → KeySlot → KeySlot
cleared_slot Buffered c k s = if is_cleared_by c k then Empty else s
cleared_slot Piped c k s = s

abbrev pub ClearByKey : Type 0
ClearByKey = (way : Way) (c k : Key) (t : Translator) (s : KeySlot) → Has way k t s → Has way k (cleared c t) (cleared_slot way c k s)

-- a translator that begins anew has nothing of any key
abbrev pub ResetByKey : Type 0
ResetByKey = (way : Way) (k : Key) → Has way k opening Empty

-- ---- the work of a microframe

pub record WorksForKey {W : Type 0} (transacts : W → Ask → List ℕ → Reply → W → Type 0) (way : Way) (k : Key) (frindex : ℕ) (s : KeySlot)
    (before : W) (new : Translator) (after : W) : Type 0 where
  pub slot : KeySlot
  pub has : Has way k new slot
  pub work : WorkOfKey transacts way k frindex s before slot after

abbrev pub WorkByKey : {W : Type 0} → (W → Ask → List ℕ → Reply → W → Type 0) → Type 0
WorkByKey {W} transacts = (way : Way) (k : Key) (frindex : ℕ) (old : Translator) (before : W) (new : Translator) (after : W) (s : KeySlot)
    → TranslatorWorks transacts frindex old before new after → Has way k old s → WorksForKey transacts way k frindex s before new after
