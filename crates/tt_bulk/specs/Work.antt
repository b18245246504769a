-- What a translator's buffers do on the bus below in a microframe (USB 2.0, 11.17 and 11.18).
use Rattle.std.specs.Prelude.{◌≡◌, ℕ, ◌+◌, ◌-◌, min, List, length, Option, Some, None, nat_le, if◌then◌else◌}
use Rattle.usb_base.specs.declared.packets.Ask.{Ask}
use Rattle.usb_base.specs.declared.packets.Reply.{Reply}
use Rattle.usb_base.specs.Limits.{byte_times_of_microframe}
use Rattle.hub_keys.specs.Asks.{classic_of, work_of, stuffed}
use Rattle.tt_bulk.specs.declared.answers.Answer.{Answer}
use Rattle.tt_bulk.specs.declared.answers.Answer.TheVariants.{Stall}
use Rattle.tt_bulk.specs.declared.rows.BufferIndex.{BufferIndex}
use Rattle.tt_bulk.specs.declared.rows.BufferIndex.TheVariants.{First, Second}
use Rattle.tt_bulk.specs.Answers.{result_of}
use Rattle.tt_bulk.specs.Contents.{Taken, BufferContent, Pending, Ready, TwoBuffers, buffer_content, with_place}

-- A buffer's turn.
pub data Turn : Type 0 where
  Tries : Taken → Turn  -- it makes its transaction
  Rests : Turn

-- the byte-times of a packet's transaction, with its stuffed bits: no more than a microframe has, so that each is tried
abbrev pub due : Taken → ℕ
due taken = min byte_times_of_microframe (stuffed (work_of taken.ask (length taken.packet)) taken.stuff)

-- a Pending buffer tries where its byte-times fit the room
abbrev pub turn_of : ℕ → BufferContent → Turn
turn_of room (Pending taken _) = if nat_le (due taken) room then Tries taken else Rests
turn_of _ _ = Rests

-- the room that a turn leaves: each attempt uses its byte-times
abbrev pub room_after : ℕ → Turn → ℕ
room_after room (Tries taken) = room - due taken
room_after room Rests = room

-- a Pending buffer after a silence: the third one stands for a STALL
abbrev pub silent_after : BufferContent → BufferContent
silent_after (Pending taken silences) = if nat_le 2 silences then Ready taken Stall else Pending taken (silences + 1)
silent_after b = b

-- a Pending buffer after a heard result, or a silence
abbrev pub after_result : Option Answer → BufferContent → BufferContent
after_result (Some answer) (Pending taken _) = Ready taken answer
after_result None b = silent_after b
after_result _ b = b

abbrev pub heard_by : Reply → BufferContent → BufferContent
heard_by reply b = after_result (result_of reply) b

-- the buffer after its turn, in which this was heard
abbrev pub after_turn : Turn → Reply → BufferContent → BufferContent
after_turn (Tries _) reply b = heard_by reply b
after_turn Rests _ b = b

-- what a turn asks of the bus below: one transaction, or nothing
abbrev pub Asks : {W : Type 0} → (W → Ask → List ℕ → Reply → W → Type 0) → Turn → W → Reply → W → Type 0
Asks transacts (Tries taken) before reply after = transacts before (classic_of taken.ask) taken.packet reply after
Asks transacts Rests before reply after = after ≡ before

-- one buffer's turn with this room
pub record TakesTurn {W : Type 0} (transacts : W → Ask → List ℕ → Reply → W → Type 0) (room : ℕ) (old : BufferContent) (before : W) (new : BufferContent) (after : W) : Type 0 where
  pub reply : Reply
  pub asks : Asks transacts (turn_of room old) before reply after
  pub becomes : new ≡ after_turn (turn_of room old) reply old

abbrev pub other : BufferIndex → BufferIndex
other First = Second
other Second = First

-- the turn of the buffer that took its packet first, and then that of the other with the room that is left
abbrev pub earlier_turn : ℕ → TwoBuffers → Turn
earlier_turn room w = turn_of room (buffer_content (other w.latest) w)

abbrev pub later_turn : ℕ → TwoBuffers → Turn
later_turn room w = turn_of (room_after room (earlier_turn room w)) (buffer_content w.latest w)

-- the buffers after their turns, in which these replies were heard
abbrev pub worked : ℕ → Reply → Reply → TwoBuffers → TwoBuffers
worked room earlier later w =
    with_place (other w.latest) (after_turn (earlier_turn room w) earlier (buffer_content (other w.latest) w))
    (with_place w.latest (after_turn (later_turn room w) later (buffer_content w.latest w)) w)

-- the work of one microframe with this room
pub record Works {W : Type 0} (transacts : W → Ask → List ℕ → Reply → W → Type 0) (room : ℕ) (old : TwoBuffers) (before : W) (new : TwoBuffers) (after : W) : Type 0 where
  pub earlier : Reply
  pub between : W
  pub later : Reply
  pub asks_earlier : Asks transacts (earlier_turn room old) before earlier between
  pub asks_later : Asks transacts (later_turn room old) between later after
  pub becomes : new ≡ worked room earlier later old
