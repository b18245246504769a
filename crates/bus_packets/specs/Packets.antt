-- The packets of a transaction as a capture has them: each in its block, in the order in which they went, with the time at which it went,
-- at the interface of the bus's speed. A lost packet isn't there; of a damaged one the highest bit of the last byte is turned round, so
-- that its check tells (USB 2.0, 8.3.5). The SPLIT before a token has the token's fate.
--     record_at speed ps bytes       a packet in its block, at this time in picoseconds
--     fated speed ps fate bytes      the same as it went: none, or these bytes, or the damaged ones
--     split_of ask                   the SPLIT before the token, if there is one
--     exchange_record ps x sent got  the packets of a transaction, whose data had these bytes
--     frame_record ps index          the SOF of a microframe
use Rattle.std.specs.Prelude.{ℕ, ◌+◌, ◌/◌, ◌%◌, Bool, true, false, ◌&&◌, List, [], ◌∷◌, ◌++◌, length, Option, Some, None, if◌then◌else◌}
use Rattle.usb_base.specs.declared.packets.Ask.{Ask}
use Rattle.usb_base.specs.declared.packets.DataPart.{DataPart}
use Rattle.usb_base.specs.declared.packets.DataPart.TheVariants as parts
use Rattle.usb_base.specs.declared.packets.EpKind.{EpKind}
use Rattle.usb_base.specs.declared.packets.EpKind.TheVariants as kinds
use Rattle.usb_base.specs.declared.packets.Fate.{Fate}
use Rattle.usb_base.specs.declared.packets.Fate.TheVariants as fates
use Rattle.usb_base.specs.declared.packets.Pid.{Pid}
use Rattle.usb_base.specs.declared.packets.Pid.TheVariants as pids
use Rattle.usb_base.specs.declared.packets.Speed.{Speed}
use Rattle.usb_base.specs.declared.packets.Speed.TheVariants as speeds
use Rattle.usb_base.specs.declared.packets.Split.{Split}
use Rattle.usb_base.specs.declared.packets.Split.TheVariants as splits
use Rattle.bus_capture.specs.declared.packets.SplitPacket.{SplitPacket}
use Rattle.bus_capture.specs.Packets.{low_byte, token_bytes, split_bytes, data_bytes, handshake_bytes}
use Rattle.bus_capture.specs.Capture.{packet_header, packet_tail}
use Rattle.bus_packets.specs.declared.exchanges.Answer.{Answer}
use Rattle.bus_packets.specs.declared.exchanges.Answer.TheVariants as answers
use Rattle.bus_packets.specs.declared.exchanges.Exchange.{Exchange}
use Rattle.bus_packets.specs.Heard.{sends_data, has_answer, is_acknowledged}
use Rattle.bus_packets.specs.Times.{bus_speed, token_time, data_time, answer_time, acknowledgement_time}

-- ---- a packet in the capture

-- picoseconds as nanoseconds, the nearest
abbrev pub nanos_of : ℕ → ℕ
nanos_of ps = (ps + 500) / 1000

abbrev pub interface_of : Speed → ℕ
interface_of speeds.High = 0
interface_of speeds.Full = 1
interface_of speeds.Low = 2

abbrev pub header_at : Speed → ℕ → ℕ → List ℕ
header_at speed ps n = packet_header (interface_of speed) (nanos_of ps) n

unfoldable pub record_at : Speed → ℕ → List ℕ → List ℕ
record_at speed ps bytes = header_at speed ps (length bytes) ++ (bytes ++ packet_tail (length bytes))

-- ---- what becomes of a packet

abbrev pub turned : ℕ → ℕ
turned n = (n + 128) % 256

-- with the highest bit of the last byte turned round
unfoldable pub turned_last : List ℕ → List ℕ
turned_last [] = []
turned_last (x ∷ []) = turned x ∷ []
turned_last (x ∷ y ∷ ys) = x ∷ turned_last (y ∷ ys)

-- the check of a damaged data packet, its last two bytes
abbrev pub damaged_check : ℕ → List ℕ
damaged_check n = low_byte n ∷ turned (low_byte (n / 256)) ∷ []

unfoldable pub fated : Speed → ℕ → Fate → List ℕ → List ℕ
fated speed ps fates.Good bytes = record_at speed ps bytes
fated speed ps fates.Damaged bytes = record_at speed ps (turned_last bytes)
fated speed ps fates.Lost bytes = []

-- ---- the token (8.4.1, 8.4.2)

abbrev pub is_low : Speed → Bool
is_low speeds.Low = true
is_low speeds.Full = false
is_low speeds.High = false

-- the start-split of an isochronous OUT, whose S and E bits tell which part of its data it carries (8.4.2.2)
abbrev pub carries_part : EpKind → Pid → Bool
carries_part kinds.Iso pids.Out = true
carries_part _ _ = false

abbrev pub begins : DataPart → Bool
begins parts.All = true
begins parts.Begin = true
begins parts.Middle = false
begins parts.End = false

abbrev pub ends : DataPart → Bool
ends parts.All = true
ends parts.Begin = false
ends parts.Middle = false
ends parts.End = true

abbrev pub kind_bits : EpKind → ℕ
kind_bits kinds.Control = 0
kind_bits kinds.Iso = 1
kind_bits kinds.Bulk = 2
kind_bits kinds.Interrupt = 3

abbrev pub start_of : Ask → ℕ → ℕ → DataPart → SplitPacket
start_of ask hub port part = record {
  hub = hub;
  complete = false;
  port = port;
  speed = if carries_part ask.kind ask.pid then begins part else is_low ask.speed;
  end = carries_part ask.kind ask.pid && ends part;
  kind = kind_bits ask.kind;
}

abbrev pub complete_of : Ask → ℕ → ℕ → SplitPacket
complete_of ask hub port = record { hub = hub; complete = true; port = port; speed = is_low ask.speed; end = false; kind = kind_bits ask.kind }

abbrev pub split_in : Split → Ask → Option SplitPacket
split_in splits.Plain ask = None
split_in (splits.Start hub port part) ask = Some (start_of ask hub port part)
split_in (splits.Complete hub port) ask = Some (complete_of ask hub port)

abbrev pub split_of : Ask → Option SplitPacket
split_of ask = split_in ask.split ask

-- the SPLIT goes through or is lost with its token
unfoldable pub split_record : Speed → ℕ → Fate → Option SplitPacket → List ℕ
split_record speed ps fate None = []
split_record speed ps fates.Lost (Some x) = []
split_record speed ps fates.Good (Some x) = record_at speed ps (split_bytes x)
split_record speed ps fates.Damaged (Some x) = record_at speed ps (split_bytes x)

unfoldable pub token_record : ℕ → Exchange → List ℕ
token_record ps x =
    split_record (bus_speed x.ask) ps x.fates.token (split_of x.ask)
    ++ fated (bus_speed x.ask) (token_time ps x) x.fates.token (token_bytes x.ask.pid x.ask.addr x.ask.ep)

-- ---- what follows it (8.5)

unfoldable pub data_record : ℕ → Exchange → List ℕ → List ℕ
data_record ps x sent =
    if sends_data x.ask.split x.ask.pid then fated (bus_speed x.ask) (data_time ps x) x.fates.data (data_bytes x.ask.toggle sent) else []

unfoldable pub answer_in : Speed → ℕ → Fate → Answer → List ℕ → List ℕ
answer_in speed ps fate answers.Nothing got = []
answer_in speed ps fate (answers.Data pid n) got = fated speed ps fate (data_bytes pid got)
answer_in speed ps fate (answers.Handshake pid) got = fated speed ps fate (handshake_bytes pid)

unfoldable pub answer_record : ℕ → Exchange → List ℕ → List ℕ
answer_record ps x got = if has_answer x.told.row then answer_in (bus_speed x.ask) (answer_time ps x) x.fates.answer x.answer got else []

unfoldable pub acknowledgement_record : ℕ → Exchange → List ℕ
acknowledgement_record ps x =
    if is_acknowledged x.told.row
    then fated (bus_speed x.ask) (acknowledgement_time ps x) x.fates.acknowledgement (handshake_bytes pids.Ack)
    else []

-- `sent` are the bytes of the data that were sent behind the token, `got` those of the data in answer
unfoldable pub exchange_record : ℕ → Exchange → List ℕ → List ℕ → List ℕ
exchange_record ps x sent got = token_record ps x ++ data_record ps x sent ++ answer_record ps x got ++ acknowledgement_record ps x

-- the SOF has bits 13:3 of FRINDEX, the number of the frame (8.4.3; EHCI 1.0, 2.3.4)
unfoldable pub frame_record : ℕ → ℕ → List ℕ
frame_record ps index = record_at speeds.High ps (token_bytes pids.Sof (index / 8 % 128) (index / 1024))
