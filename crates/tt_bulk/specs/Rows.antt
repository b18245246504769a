-- The answers of a translator's bulk and control buffers, row by row (USB 2.0, 11.17.1 to 11.17.5 and 11.24.2.3).
use Rattle.std.specs.Prelude.{ℕ, List, Bool, true, false, ◌&&◌, ◌||◌, ◌==◌, if◌then◌else◌}
use Rattle.usb_base.specs.declared.packets.Ask.{Ask}
use Rattle.usb_base.specs.declared.packets.EpKind.{EpKind}
use Rattle.usb_base.specs.declared.packets.EpKind.TheVariants.{Control}
use Rattle.usb_base.specs.declared.packets.Pid.TheVariants as Packets
use Rattle.usb_base.specs.declared.packets.Reply.{Reply}
use Rattle.usb_base.specs.declared.packets.Reply.TheVariants.{Silent, Hand}
use Rattle.hub_keys.specs.declared.key.Key.{Key}
use Rattle.hub_keys.specs.Keys.{key_of, is_same_key, is_same_kind, is_same_direction}
use Rattle.tt_bulk.specs.declared.rows.CompleteRow.{CompleteRow}
use Rattle.tt_bulk.specs.declared.rows.CompleteRow.TheVariants.{Waits, Gives, Unknown}
use Rattle.tt_bulk.specs.declared.rows.BufferIndex.TheVariants.{First, Second}
use Rattle.tt_bulk.specs.declared.rows.Stand.{Stand}
use Rattle.tt_bulk.specs.declared.rows.Stand.TheVariants as Stands
use Rattle.tt_bulk.specs.declared.rows.StartRow.{StartRow}
use Rattle.tt_bulk.specs.declared.rows.StartRow.TheVariants.{Repeated, Takes, Full}
use Rattle.tt_bulk.specs.Answers.{reply_of}
use Rattle.tt_bulk.specs.Contents.{Taken, BufferContent, Free, Pending, Ready, Old, TwoBuffers, buffer_content, with_place}

-- how a buffer stands to a key
abbrev pub stand_of : Key → BufferContent → Stand
stand_of key Free = Stands.Free
stand_of key (Pending taken _) = if is_same_key (key_of taken.ask) key then Stands.Pending else Stands.Busy
stand_of key (Ready taken _) = if is_same_key (key_of taken.ask) key then Stands.Ready else Stands.Busy
stand_of key (Old taken _) = if is_same_key (key_of taken.ask) key then Stands.Old else Stands.Spare

-- Start-splits, by how the first and the second buffer stand to the key; the first line that fits counts.
abbrev pub start_row : Stand → Stand → StartRow
start_row Stands.Pending _ = Repeated
start_row Stands.Ready _ = Repeated
start_row _ Stands.Pending = Repeated
start_row _ Stands.Ready = Repeated
start_row Stands.Old _ = Takes First
start_row _ Stands.Old = Takes Second
start_row Stands.Free _ = Takes First
start_row _ Stands.Free = Takes Second
start_row Stands.Spare _ = Takes First
start_row _ Stands.Spare = Takes Second
start_row Stands.Busy Stands.Busy = Full

abbrev pub start_row_of : Key → TwoBuffers → StartRow
start_row_of key w = start_row (stand_of key w.first) (stand_of key w.second)

-- ACK where the packet is in a buffer now, NAK where no buffer can take it
abbrev pub start_reply : StartRow → Reply
start_reply Repeated = Hand Packets.Ack
start_reply (Takes _) = Hand Packets.Ack
start_reply Full = Hand Packets.Nak

-- a new packet, which no silence has met
abbrev pub after_start : StartRow → Taken → TwoBuffers → TwoBuffers
after_start Repeated _ w = w
after_start (Takes place) taken w = record (with_place place (Pending taken 0) w) { latest = place }
after_start Full _ w = w

abbrev pub start_answer : Ask → TwoBuffers → Reply
start_answer ask w = start_reply (start_row_of (key_of ask) w)

-- after a start of this number of stuffed bits
abbrev pub started : Ask → List ℕ → ℕ → TwoBuffers → TwoBuffers
started ask bytes stuff w = after_start (start_row_of (key_of ask) w) (record { ask = ask; packet = bytes; stuff = stuff }) w

-- Complete-splits, in the same way.
abbrev pub complete_row : Stand → Stand → CompleteRow
complete_row Stands.Pending _ = Waits
complete_row _ Stands.Pending = Waits
complete_row Stands.Ready _ = Gives First
complete_row Stands.Old _ = Gives First
complete_row _ Stands.Ready = Gives Second
complete_row _ Stands.Old = Gives Second
complete_row _ _ = Unknown

abbrev pub complete_row_of : Key → TwoBuffers → CompleteRow
complete_row_of key w = complete_row (stand_of key w.first) (stand_of key w.second)

-- the result in a buffer
abbrev pub given_by : BufferContent → Reply
given_by (Ready _ answer) = reply_of answer
given_by (Old _ answer) = reply_of answer
given_by _ = Silent

-- a result is Old once it was given, and stays
abbrev pub once_given : BufferContent → BufferContent
once_given (Ready taken answer) = Old taken answer
once_given b = b

abbrev pub complete_reply : CompleteRow → TwoBuffers → Reply
complete_reply Waits _ = Hand Packets.Nyet
complete_reply (Gives place) w = given_by (buffer_content place w)
complete_reply Unknown _ = Silent

abbrev pub after_complete : CompleteRow → TwoBuffers → TwoBuffers
after_complete Waits w = w
after_complete (Gives place) w = with_place place (once_given (buffer_content place w)) w
after_complete Unknown w = w

abbrev pub complete_answer : Key → TwoBuffers → Reply
complete_answer key w = complete_reply (complete_row_of key w) w

abbrev pub completed : Key → TwoBuffers → TwoBuffers
completed key w = after_complete (complete_row_of key w) w

-- a clear of a control endpoint clears its buffers of both directions
abbrev pub is_either_way : EpKind → Bool
is_either_way Control = true
is_either_way _ = false

-- a clear for the first key clears a buffer of the second
abbrev pub is_cleared_by : Key → Key → Bool
is_cleared_by a b =
    a.addr == b.addr && a.ep == b.ep && is_same_kind a.kind b.kind && (is_either_way a.kind || is_same_direction a.dir b.dir)

abbrev pub cleared_buffer : Key → BufferContent → BufferContent
cleared_buffer key Free = Free
cleared_buffer key (Pending taken silences) = if is_cleared_by key (key_of taken.ask) then Free else Pending taken silences
cleared_buffer key (Ready taken answer) = if is_cleared_by key (key_of taken.ask) then Free else Ready taken answer
cleared_buffer key (Old taken answer) = if is_cleared_by key (key_of taken.ask) then Free else Old taken answer

abbrev pub cleared : Key → TwoBuffers → TwoBuffers
cleared key w = record w { first = cleared_buffer key w.first; second = cleared_buffer key w.second }
