-- The calls on a translator as events of the machine with a translator between host and device: what it has of the pipe's key is the slot
-- of the direction that the host asks in.
--     mapped f g s            a slot with the pipe's own asks and answers
--     Follows ..              a wire below shows the line of host and device, whatever is asked on it
--     StartEvents .. WorkEvents
--                             each call is one event or none, and the work of a microframe a few
use Rattle.std.specs.Prelude.{◌≡◌, ◌⊎◌, ℕ, ◌%◌, ◌==◌, true, false, List, if◌then◌else◌}
use Rattle.usb_base.specs.declared.packets.Ask.{Ask}
use Rattle.usb_base.specs.declared.packets.Pid.TheVariants as Pids
use Rattle.usb_base.specs.declared.packets.Reply.{Reply}
use Rattle.usb_base.specs.declared.packets.Reply.TheVariants.{Hand}
use Rattle.hub_keys.specs.Asks.{classic_of}
use Rattle.hub_keys.specs.Keys.{key_of, is_same_key}
use Rattle.hub_keys.specs.declared.key.Key.{Key}
use Rattle.tt_bulk.specs.Contents.{Taken}
use Rattle.law_translated.specs.Lift.{Way, Buffered, Piped, Wait, Idle, Waits, Slot, Empty, Asked, Hidden, There, Told, IsQuiet, IsSpared, Split, told, gone_wait, Halves, Step, Run}
use Rattle.law_translated.specs.KeySlots.{KeySlot}
use Rattle.law_translated.specs.KeySteps.{OwnStart, OtherStart, is_answer, dead_reply, WorkOfKey}
use Rattle.law_translated.specs.KeyLaws.{IsAskedFor, cleared_slot}

-- what is asked and answered, as the pipe says it
abbrev pub mapped : {B Q : Type 0} → (Taken → B) → (Reply → Q) → KeySlot → Slot B Q
mapped f g Empty = Empty
mapped f g (Asked a) = Asked (f a)
mapped f g (Hidden a r) = Hidden (f a) (g r)
mapped f g (There a r) = There (f a) (g r)
mapped f g (Told a r) = Told (f a) (g r)

-- where a frame begins, the pipeline's answers go
abbrev pub left_wait : Way → ℕ → Wait → Wait
left_wait Buffered frindex u = u
left_wait Piped frindex u = if frindex % 8 == 0 then gone_wait u else u

module _ {S B Q : Type 0} (m : Halves S B Q) (f : Taken → B) (g : Reply → Q) where
  -- a line with what the translator has of its key
  abbrev pub with_slot : S → Wait → KeySlot → Slot B Q → Split S B Q
  with_slot l u s aside = record { line = l; wait = u; here = mapped f g s; aside = aside }

  -- a start of the key
  pub record StartEvents : Type 0 where
    -- the host hears that a buffer has it
    pub heard : (a : Taken) (s new : KeySlot) (l : S) (aside : Slot B Q) → OwnStart Buffered a s (Hand Pids.Ack) new → m.Is l (f a)
        → Step m Buffered (with_slot l Idle s aside) (with_slot l Waits new aside)
    -- .. or hears otherwise, or nothing
    pub unheard : (a : Taken) (s : KeySlot) (r : Reply) (new : KeySlot) (l : S) (aside : Slot B Q) → OwnStart Buffered a s r new
        → m.Is l (f a)
        → Run m Buffered (with_slot l Idle s aside) (with_slot l Idle new aside)
    -- a periodic one has no handshake; at most one comes in a frame
    pub periodic : (a : Taken) (s : KeySlot) (r : Reply) (new : KeySlot) (l : S) (aside : Slot B Q) → OwnStart Piped a s r new
        → m.Is l (f a) → IsQuiet s
        → Step m Piped (with_slot l Idle s aside) (with_slot l Waits new aside)
    -- one of another key
    pub other : (way : Way) (s new : KeySlot) (l : S) (u : Wait) (aside : Slot B Q) → OtherStart way s new
        → (later : Wait) × Run m way (with_slot l u s aside) (with_slot l later new aside) × ((later ≡ u) ⊎ (later ≡ gone_wait u))

  -- a complete-split of the key
  pub record CompleteEvents : Type 0 where
    pub heard : (way : Way) (a : Taken) (r : Reply) (s : KeySlot) (l t : S) (aside : Slot B Q) → told s ≡ Told a r → m.Hears l (f a) (g r) t
        → Step m way (with_slot l Waits s aside) (with_slot t Idle (told s) aside)
    pub unheard : (way : Way) (s : KeySlot) (l : S) (aside : Slot B Q)
        → Step m way (with_slot l Waits s aside) (with_slot l Waits (told s) aside)

  -- a clear, where nothing is lost by it that matters
  abbrev pub ClearEvents : Type 0
  ClearEvents = (way : Way) (c k : Key) (s : KeySlot) (l : S) (u : Wait) (aside : Slot B Q) → IsSpared m.Spared (mapped f g s) u
      → (later : Wait) × Run m way (with_slot l u s aside) (with_slot l later (cleared_slot way c k s) aside)
      × ((later ≡ u) ⊎ (later ≡ gone_wait u))

  -- ---- the work of a microframe

  -- a wire below shows the line, whatever is asked on it
  pub record Follows {W : Type 0} (transacts : W → Ask → List ℕ → Reply → W → Type 0) (way : Way) (k : Key)
      (shows : W → S → Type 0) : Type 0 where
    pub works : (w : W) (s : S) (a : Taken) (r : Reply) (v : W) → key_of a.ask ≡ k → shows w s
        → transacts w (classic_of a.ask) a.packet r v → is_answer way r ≡ true
        → (t : S) × m.Works s (f a) (g r) t × shows v t
    pub quiet : (w : W) (s : S) (a : Taken) (r : Reply) (v : W) → key_of a.ask ≡ k → shows w s
        → transacts w (classic_of a.ask) a.packet r v → is_answer way r ≡ false
        → (t : S) × m.Quiet s (f a) t × shows v t
    pub others : (w : W) (s : S) (ask : Ask) (out : List ℕ) (r : Reply) (v : W) → is_same_key (key_of ask) k ≡ false → shows w s
        → transacts w (classic_of ask) out r v → shows v s
    pub dead : g (dead_reply way) ≡ m.dead way

  pub record WorksAs {W : Type 0} (shows : W → S → Type 0) (way : Way) (frindex : ℕ) (s : KeySlot) (l : S) (u : Wait) (aside : Slot B Q)
      (new : KeySlot) (after : W) : Type 0 where
    pub line : S
    pub shown : shows after line
    pub run : Run m way (with_slot l u s aside) (with_slot line (left_wait way frindex u) new aside)

  abbrev pub WorkEvents : {W : Type 0} → (W → Ask → List ℕ → Reply → W → Type 0) → Type 1
  WorkEvents {W} transacts = (way : Way) (k : Key) (frindex : ℕ) (shows : W → S → Type 0) → Follows transacts way k shows
      → (s : KeySlot) (before : W) (new : KeySlot) (after : W)
      → WorkOfKey transacts way k frindex s before new after → IsAskedFor k s → (l : S) (u : Wait) (aside : Slot B Q) → shows before l
      → WorksAs shows way frindex s l u aside new after

-- whatever the two ends are, and however they say what is asked and answered
pub record EventsOf {S B Q : Type 0} (m : Halves S B Q) (f : Taken → B) (g : Reply → Q) : Type 0 where
  pub starts : StartEvents m f g
  pub completes : CompleteEvents m f g
  pub clears : ClearEvents m f g
