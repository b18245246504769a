-- What each call on a translator does to the slot of a key, by the events of the machine with a translator between host and device.
--     OwnStart, OtherStart            a start-split of the key, or of another one (USB 2.0, 11.17.1 and 11.18)
--     given_reply                     what a complete-split of the key is answered with; `told` is what that leaves
--     KeyTurn, Showing, WorkOfKey     the work of a microframe: the key's own transaction among those of other keys, then what is
--                                     shown, then the end of a frame
use Rattle.std.specs.Prelude.{◌≡◌, ℕ, ◌%◌, ◌==◌, Bool, true, false, not, List, is_some, if◌then◌else◌}
use Rattle.usb_base.specs.declared.packets.Ask.{Ask}
use Rattle.usb_base.specs.declared.packets.Pid.{Pid}
use Rattle.usb_base.specs.declared.packets.Pid.TheVariants as Pids
use Rattle.usb_base.specs.declared.packets.Reply.{Reply}
use Rattle.usb_base.specs.declared.packets.Reply.TheVariants.{Silent, Bytes, Hand}
use Rattle.hub_keys.specs.Asks.{classic_of}
use Rattle.hub_keys.specs.Keys.{key_of, is_same_key}
use Rattle.hub_keys.specs.declared.key.Key.{Key}
use Rattle.tt_bulk.specs.Answers.{result_of}
use Rattle.tt_bulk.specs.Contents.{Taken}
use Rattle.law_translated.specs.Lift.{Way, Buffered, Piped, Empty, Asked, Hidden, There, Told, IsQuiet, result}
use Rattle.law_translated.specs.KeySlots.{KeySlot}

-- ---- start-splits

-- a periodic start has no handshake
abbrev pub taken_reply : Way → Reply
taken_reply Buffered = Hand Pids.Ack
taken_reply Piped = Silent

-- a start of the key, which is answered with this
pub data OwnStart (way : Way) (a : Taken) (s : KeySlot) : Reply → KeySlot → Type 0 where
  starts : IsQuiet s → OwnStart way a s (taken_reply way) (Asked a)
  -- a buffer's start that is repeated changes nothing
  repeats : way ≡ Buffered → (IsQuiet s → ⊥) → OwnStart way a s (Hand Pids.Ack) s
  -- both buffers work for other keys
  is_full : way ≡ Buffered → s ≡ Empty → OwnStart way a s (Hand Pids.Nak) s
  -- a second start of a frame takes the place of the first
  replaces : way ≡ Piped → (IsQuiet s → ⊥) → OwnStart way a s Silent (Asked a)
  -- the pipeline is full of other keys
  starts_none : way ≡ Piped → s ≡ Empty → OwnStart way a s Silent s

-- one of another key: it may take a buffer that was told
pub data OtherStart (way : Way) (s : KeySlot) : KeySlot → Type 0 where
  stays : OtherStart way s s
  forgets : (a : Taken) (r : Reply) → way ≡ Buffered → s ≡ Told a r → OtherStart way s Empty

-- ---- complete-splits

-- where nothing is there, a buffer is silent, and the pipeline says NYET
abbrev pub given_reply : Way → KeySlot → Reply
given_reply Buffered Empty = Silent
given_reply Piped Empty = Hand Pids.Nyet
given_reply way (Asked a) = Hand Pids.Nyet
given_reply way (Hidden a r) = Hand Pids.Nyet
given_reply way (There a r) = r
given_reply way (Told a r) = r

-- ---- the work of a microframe

abbrev pub is_error : Pid → Bool
is_error Pids.Err = true
is_error _ = false

-- the asker hears an answer: a buffer only what a full- or low-speed device says; ERR is no device's
abbrev pub is_answer : Way → Reply → Bool
is_answer Buffered reply = is_some (result_of reply)
is_answer Piped Silent = false
is_answer Piped (Bytes pid bytes) = true
is_answer Piped (Hand pid) = not (is_error pid)

-- the translator's own answer: to the third silence from a buffer, to one from the pipeline
abbrev pub dead_reply : Way → Reply
dead_reply Buffered = Hand Pids.Stall
dead_reply Piped = Hand Pids.Err

-- the key's own transaction on the bus below, if it has one now
pub data KeyTurn {W : Type 0} (transacts : W → Ask → List ℕ → Reply → W → Type 0) (way : Way) (s : KeySlot) (before : W) : KeySlot → W
    → Type 0 where
  rests : KeyTurn transacts way s before s before
  works : (a : Taken) (r : Reply) (after : W) → s ≡ Asked a → transacts before (classic_of a.ask) a.packet r after → is_answer way r ≡ true
      → KeyTurn transacts way s before (result way a r) after
  is_quiet : (a : Taken) (r : Reply) (after : W) → way ≡ Buffered → s ≡ Asked a → transacts before (classic_of a.ask) a.packet r after
      → is_answer way r ≡ false
      → KeyTurn transacts way s before s after
  gives_dead : (a : Taken) (r : Reply) (after : W) → s ≡ Asked a → transacts before (classic_of a.ask) a.packet r after
      → is_answer way r ≡ false
      → KeyTurn transacts way s before (result way a (dead_reply way)) after

-- several transactions below, none of them the key's
pub data OfOthers {W : Type 0} (transacts : W → Ask → List ℕ → Reply → W → Type 0) (k : Key) : W → W → Type 0 where
  none : (w : W) → OfOthers transacts k w w
  more : (w v u : W) (ask : Ask) (out : List ℕ) (reply : Reply) → is_same_key (key_of ask) k ≡ false
      → transacts w (classic_of ask) out reply v
      → OfOthers transacts k v u → OfOthers transacts k w u

-- those of a microframe
pub record TurnsOfKey {W : Type 0} (transacts : W → Ask → List ℕ → Reply → W → Type 0) (way : Way) (k : Key) (s : KeySlot) (before : W)
    (new : KeySlot) (after : W) : Type 0 where
  pub first : W
  pub second : W
  pub earlier : OfOthers transacts k before first
  pub turn : KeyTurn transacts way s first new second
  pub later : OfOthers transacts k second after

-- the pipeline shows a result once its last byte-time is worked
pub data Showing (way : Way) (s : KeySlot) : KeySlot → Type 0 where
  stays : Showing way s s
  shows : (a : Taken) (r : Reply) → way ≡ Piped → s ≡ Hidden a r → Showing way s (There a r)

-- where a frame begins, the pipeline drops all
abbrev pub left_slot : Way → ℕ → KeySlot → KeySlot
left_slot Buffered frindex s = s
left_slot Piped frindex s = if frindex % 8 == 0 then Empty else s

-- the work of the microframe before the one with this frame index
pub record WorkOfKey {W : Type 0} (transacts : W → Ask → List ℕ → Reply → W → Type 0) (way : Way) (k : Key) (frindex : ℕ) (s : KeySlot)
    (before : W) (new : KeySlot) (after : W) : Type 0 where
  pub made : KeySlot
  pub turns : TurnsOfKey transacts way k s before made after
  pub seen : KeySlot
  pub shows : Showing way made seen
  pub leaves : new ≡ left_slot way frindex seen
