-- What a complete-split gets (USB 2.0, 11.20 and 11.21): NYET, MDATA, ERR or the result.
--     answer_row e            the row of the entry
--     complete_answer k es    the answer to a complete-split of the key
--     completed k es          the entries after it
use Rattle.std.specs.Prelude.{ℕ, ◌+◌, ◌-◌, true, nat_le, nat_lt, if◌then◌else◌, Option, Some, None, List, [], length, take, drop}
use Rattle.std.specs.List.{find}
use Rattle.usb_base.specs.declared.packets.EpKind.{EpKind}
use Rattle.usb_base.specs.declared.packets.EpKind.TheVariants.{Iso}
use Rattle.usb_base.specs.declared.packets.Pid.{Pid}
use Rattle.usb_base.specs.declared.packets.Pid.TheVariants as Packets
use Rattle.usb_base.specs.declared.packets.Reply.{Reply}
use Rattle.usb_base.specs.declared.packets.Reply.TheVariants.{Silent, Bytes, Hand}
use Rattle.hub_keys.specs.declared.key.Key.{Key}
use Rattle.tt_pipeline.specs.declared.entry.Entry.{Entry}
use Rattle.tt_pipeline.specs.declared.entry.Exchange.{Exchange}
use Rattle.tt_pipeline.specs.declared.entry.Exchange.TheVariants.{Ahead, Made}
use Rattle.tt_pipeline.specs.declared.rows.AnswerRow.{AnswerRow}
use Rattle.tt_pipeline.specs.declared.rows.AnswerRow.TheVariants.{NotYet, Result, Unheard, More, Last}
use Rattle.tt_pipeline.specs.Work.{called_for, unstuffed_done}
use Rattle.tt_pipeline.specs.Starting.{has_key, at_key}

-- ---- one entry

-- an isochronous IN whose device sent n bytes: the byte-times done, without stuffed bits and less 9 for the packet round them, have
-- brought as many
abbrev pub bytes_row : ℕ → Entry → AnswerRow
bytes_row n e =
    if e.ended then NotYet else (if nat_le (n + 9) (unstuffed_done e) then Last else (if nat_lt (e.delivered + 9) (unstuffed_done e) then More else NotYet))

-- an isochronous transaction that was made: an OUT has no answer
abbrev pub iso_row : Pid → Reply → Entry → AnswerRow
iso_row Packets.In (Bytes _ bytes) e = bytes_row (length bytes) e
iso_row Packets.In _ e = Unheard
iso_row _ _ e = NotYet

-- an interrupt's answer is there once all its byte-times were worked
abbrev pub made_row : EpKind → Pid → Reply → Entry → AnswerRow
made_row Iso pid reply e = iso_row pid reply e
made_row _ pid reply e = if nat_le (called_for e) e.done then Result else NotYet

abbrev pub row_at : Exchange → Entry → AnswerRow
row_at (Ahead _) e = NotYet
row_at (Made reply) e = made_row e.ask.kind e.ask.pid reply e

abbrev pub answer_row : Entry → AnswerRow
answer_row e = row_at e.exchange e

-- a silence is told as ERR
abbrev pub result_of : Reply → Reply
result_of Silent = Hand Packets.Err
result_of (Bytes pid bytes) = Bytes pid bytes
result_of (Hand pid) = Hand pid

abbrev pub reply_bytes : Reply → List ℕ
reply_bytes (Bytes _ bytes) = bytes
reply_bytes _ = []

-- the bytes that the device sent
abbrev pub bytes_of : Exchange → List ℕ
bytes_of (Ahead _) = []
bytes_of (Made reply) = reply_bytes reply

abbrev pub result_at : Exchange → Reply
result_at (Ahead _) = Hand Packets.Nyet
result_at (Made reply) = result_of reply

abbrev pub answer_at : AnswerRow → Entry → Reply
answer_at NotYet e = Hand Packets.Nyet
answer_at Result e = result_at e.exchange
answer_at Unheard e = Hand Packets.Err
answer_at More e = Bytes Packets.Mdata (take (unstuffed_done e - 9 - e.delivered) (drop e.delivered (bytes_of e.exchange)))
answer_at Last e = Bytes Packets.Data0 (drop e.delivered (bytes_of e.exchange))

abbrev pub given_at : AnswerRow → Entry → Entry
given_at NotYet e = e
given_at Result e = e
given_at Unheard e = e
given_at More e = record e { delivered = unstuffed_done e - 9 }
given_at Last e = record e { ended = true }

-- the answer of an entry, and the entry after it: bytes once delivered aren't given again
abbrev pub answer_of : Entry → Reply
answer_of e = answer_at (answer_row e) e

abbrev pub given : Entry → Entry
given e = given_at (answer_row e) e

-- ---- the pipeline

abbrev pub answer_from : Option Entry → Reply
answer_from None = Hand Packets.Nyet
answer_from (Some e) = answer_of e

-- a complete-split whose key has no entry is answered NYET
abbrev pub complete_answer : Key → List Entry → Reply
complete_answer k es = answer_from (find (has_key k) es)

abbrev pub completed : Key → List Entry → List Entry
completed k es = at_key k given es
