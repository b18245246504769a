-- When the packets of a transaction go: one behind the other, each with its SYNC before it, and its end and the least gap behind it (USB
-- 2.0, 7.1.10, 7.1.13 and 7.1.18). Times are in picoseconds.
--     span speed n           how long a packet of n bytes takes at this speed, up to one of the other side
--     own_span speed n       the same up to one of the same side
--     bus_speed ask          the speed of the bus on which an ask goes
--     token_time ps x ..     when each packet begins of a transaction that begins at this time
--     end_of ps x            when the next transaction can begin
use Rattle.std.specs.Prelude.{ℕ, ◌+◌, ◌*◌, ◌/◌, if◌then◌else◌}
use Rattle.usb_base.specs.declared.packets.Ask.{Ask}
use Rattle.usb_base.specs.declared.packets.Speed.{Speed}
use Rattle.usb_base.specs.declared.packets.Speed.TheVariants as speeds
use Rattle.usb_base.specs.declared.packets.Split.{Split}
use Rattle.usb_base.specs.declared.packets.Split.TheVariants as splits
use Rattle.bus_wire.specs.WhoHeard.{later}
use Rattle.bus_packets.specs.declared.exchanges.Answer.{Answer}
use Rattle.bus_packets.specs.declared.exchanges.Answer.TheVariants as answers
use Rattle.bus_packets.specs.declared.exchanges.Exchange.{Exchange}
use Rattle.bus_packets.specs.Heard.{sends_data, has_answer, is_acknowledged}

-- 480, 12 and 1.5 Mb/s: at high speed four bytes of SYNC, one of end and eight bit times of gap, at full and low speed one byte of SYNC and
-- one of end and gap
abbrev pub span : Speed → ℕ → ℕ
span speeds.High n = (n + 6) * 50000 / 3
span speeds.Full n = (n + 2) * 2000000 / 3
span speeds.Low n = (n + 2) * 16000000 / 3

-- at high speed 88 bit times of gap
abbrev pub own_span : Speed → ℕ → ℕ
own_span speeds.High n = span speeds.High (n + 10)
own_span speeds.Full n = span speeds.Full n
own_span speeds.Low n = span speeds.Low n

-- a split goes to a hub on the high-speed bus
abbrev pub speed_of : Split → Speed → Speed
speed_of splits.Plain speed = speed
speed_of (splits.Start hub port part) speed = speeds.High
speed_of (splits.Complete hub port) speed = speeds.High

abbrev pub bus_speed : Ask → Speed
bus_speed ask = speed_of ask.split ask.speed

-- ---- the packets of a transaction

-- the SPLIT has four bytes
abbrev pub split_span : Split → Speed → ℕ
split_span splits.Plain speed = 0
split_span (splits.Start hub port part) speed = own_span speed 4
split_span (splits.Complete hub port) speed = own_span speed 4

abbrev pub token_time : ℕ → Exchange → ℕ
token_time ps x = later ps (split_span x.ask.split (bus_speed x.ask))

abbrev pub token_span : Exchange → ℕ
token_span x = if sends_data x.ask.split x.ask.pid then own_span (bus_speed x.ask) 3 else span (bus_speed x.ask) 3

abbrev pub data_time : ℕ → Exchange → ℕ
data_time ps x = later (token_time ps x) (token_span x)

abbrev pub data_span : Exchange → ℕ
data_span x = if sends_data x.ask.split x.ask.pid then span (bus_speed x.ask) (x.sent + 3) else 0

abbrev pub answer_time : ℕ → Exchange → ℕ
answer_time ps x = later (data_time ps x) (data_span x)

abbrev pub answer_bytes : Answer → ℕ
answer_bytes answers.Nothing = 0
answer_bytes (answers.Data pid n) = n + 3
answer_bytes (answers.Handshake pid) = 1

abbrev pub answer_span : Exchange → ℕ
answer_span x = if has_answer x.told.row then span (bus_speed x.ask) (answer_bytes x.answer) else 0

abbrev pub acknowledgement_time : ℕ → Exchange → ℕ
acknowledgement_time ps x = later (answer_time ps x) (answer_span x)

abbrev pub acknowledgement_span : Exchange → ℕ
acknowledgement_span x = if is_acknowledged x.told.row then span (bus_speed x.ask) 1 else 0

abbrev pub end_of : ℕ → Exchange → ℕ
end_of ps x = later (acknowledgement_time ps x) (acknowledgement_span x)
