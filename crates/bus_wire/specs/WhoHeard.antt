-- Who heard what in one transaction (USB 2.0, 8.5, 8.6 and 11.17): one table for every token, with a device, a hub or a translator that is
-- asked, on the high-speed bus and below a translator.
--
-- The asker sends the token, and for OUT and SETUP the data right behind it; the token of a split transaction and the SPLIT before it count
-- as one packet, and nothing follows the token of a complete-split. Whoever is asked answers with data or a handshake, or not at all. Data
-- that answer a plain IN are acknowledged. A packet that is lost or damaged is unheard.
use Rattle.std.specs.Prelude.{ℕ, ◌+◌, ◌^◌, ◌-◌, min, Bool, true, false}
use Rattle.usb_base.specs.declared.packets.Ask.{Ask}
use Rattle.usb_base.specs.declared.packets.Pid.{Pid}
use Rattle.usb_base.specs.declared.packets.Pid.TheVariants as Pids
use Rattle.usb_base.specs.declared.packets.Reply.{Reply}
use Rattle.usb_base.specs.declared.packets.Reply.TheVariants.{Silent, Bytes, Hand}
use Rattle.usb_base.specs.declared.packets.Split.{Split}
use Rattle.usb_base.specs.declared.packets.Split.TheVariants.{Plain, Start, Complete}
use Rattle.bus_wire.specs.declared.who_heard.WhoHeard.{WhoHeard}
use Rattle.bus_wire.specs.declared.who_heard.WhoHeard.TheVariants.{SentUnheard, NoAnswer, AnswerUnheard, AnswerHeard, AckUnheard, AckHeard}

-- The row, by: the token or the data behind it are unheard; there is an answer; it is unheard; it is acknowledged; the acknowledgement is
-- unheard.
abbrev pub who_heard : Bool → Bool → Bool → Bool → Bool → WhoHeard
--        sent  answer unheard acked unheard
who_heard true _ _ _ _ = SentUnheard
who_heard false false _ _ _ = NoAnswer
who_heard false true true _ _ = AnswerUnheard
who_heard false true false false _ = AnswerHeard
who_heard false true false true true = AckUnheard
who_heard false true false true false = AckHeard

-- the token, and the data behind that of an OUT or SETUP
abbrev pub with_data : Pid → ℕ
with_data Pids.Out = 2
with_data Pids.Setup = 2
with_data _ = 1

-- how many packets the asker sends before the answer
abbrev pub packets_sent : Split → Pid → ℕ
packets_sent Plain pid = with_data pid
packets_sent (Start _ _ _) pid = with_data pid
packets_sent (Complete _ _) pid = 1

abbrev pub packets_before : Ask → ℕ
packets_before ask = packets_sent ask.split ask.pid

-- how many packets were on the bus, where the asker sent so many before the answer
abbrev pub packets_of : WhoHeard → ℕ → ℕ
packets_of SentUnheard sent = sent
packets_of NoAnswer sent = sent
packets_of AnswerUnheard sent = sent + 1
packets_of AnswerHeard sent = sent + 1
packets_of AckUnheard sent = sent + 2
packets_of AckHeard sent = sent + 2

-- what the asker hears of the answer
abbrev pub asker_hears : WhoHeard → Reply → Reply
asker_hears SentUnheard answer = Silent
asker_hears NoAnswer answer = Silent
asker_hears AnswerUnheard answer = Silent
asker_hears AnswerHeard answer = answer
asker_hears AckUnheard answer = answer
asker_hears AckHeard answer = answer

-- the answer that was sent, heard or not: none to what was unheard
abbrev pub answer_sent : WhoHeard → Reply → Reply
answer_sent SentUnheard answer = Silent
answer_sent NoAnswer answer = answer
answer_sent AnswerUnheard answer = answer
answer_sent AnswerHeard answer = answer
answer_sent AckUnheard answer = answer
answer_sent AckHeard answer = answer

-- a packet came in answer
abbrev pub is_answer : Reply → Bool
is_answer Silent = false
is_answer (Bytes pid bytes) = true
is_answer (Hand pid) = true

-- What whoever is asked is left as, by the row: as it was, as its answer leaves it, or as that and its acknowledgement leave it.
abbrev pub left_by : {X : Type 0} → WhoHeard → X → X → X → X
left_by SentUnheard before answered acked = before
left_by NoAnswer before answered acked = answered
left_by AnswerUnheard before answered acked = answered
left_by AnswerHeard before answered acked = answered
left_by AckUnheard before answered acked = answered
left_by AckHeard before answered acked = acked

-- ---- numbers of packets and of microframes

-- a number of 64 bits some steps later, which stands at its last value
abbrev pub later : ℕ → ℕ → ℕ
later n steps = min (n + steps) (2 ^ 64 - 1)
