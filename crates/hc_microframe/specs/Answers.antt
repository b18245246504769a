-- What crosses between the controller and a caller that is the bus, in numbers (USB 2.0, 8.3 to 8.5).
--     pid_named n          the packet identifier with these four bits
--     answer_in bytes a    what is heard of an answer whose bytes stand among these
--     words_of_ask w       a transaction that is wanted
--     Told                 the answers that are left, and what was asked when none was
--     answer_of, asked     what is heard next, and what is left then
use Rattle.std.specs.Prelude.{◌≡◌, ℕ, ◌+◌, Bool, true, ◌==◌, ◌&&◌, nat_le, if◌then◌else◌, List, [], ◌∷◌, length, take, drop, Option, Some, None}
use Rattle.usb_base.specs.declared.packets.Ask.{Ask}
use Rattle.usb_base.specs.declared.packets.DataPart.{DataPart}
use Rattle.usb_base.specs.declared.packets.DataPart.TheVariants as parts
use Rattle.usb_base.specs.declared.packets.EpKind.{EpKind}
use Rattle.usb_base.specs.declared.packets.EpKind.TheVariants as kinds
use Rattle.usb_base.specs.declared.packets.Pid.{Pid}
use Rattle.usb_base.specs.declared.packets.Pid.TheVariants as pids
use Rattle.usb_base.specs.declared.packets.Reply.{Reply}
use Rattle.usb_base.specs.declared.packets.Reply.TheVariants.{Silent, Bytes, Hand}
use Rattle.usb_base.specs.declared.packets.Speed.{Speed}
use Rattle.usb_base.specs.declared.packets.Speed.TheVariants as speeds
use Rattle.usb_base.specs.declared.packets.Split.{Split}
use Rattle.usb_base.specs.declared.packets.Split.TheVariants.{Plain, Start, Complete}
use Rattle.usb_base.specs.Acknowledgement.{pid_bits}
use Rattle.hc_microframe.specs.declared.answers.Answer.{Answer}
use Rattle.hc_microframe.specs.declared.answers.AskWords.{AskWords}
use Rattle.hc_microframe.specs.declared.answers.Wanted.{Wanted}

abbrev pub pid_named : ℕ → Option Pid
pid_named n =
    if n == 0x1 then Some pids.Out
    else if n == 0x9 then Some pids.In
    else if n == 0x5 then Some pids.Sof
    else if n == 0xd then Some pids.Setup
    else if n == 0x3 then Some pids.Data0
    else if n == 0xb then Some pids.Data1
    else if n == 0x7 then Some pids.Data2
    else if n == 0xf then Some pids.Mdata
    else if n == 0x2 then Some pids.Ack
    else if n == 0xa then Some pids.Nak
    else if n == 0xe then Some pids.Stall
    else if n == 0x6 then Some pids.Nyet
    else if n == 0xc then Some pids.Err
    else if n == 0x8 then Some pids.Split
    else if n == 0x4 then Some pids.Ping
    else None

-- ---- an answer

abbrev pub hand : Option Pid → Reply
hand None = Silent
hand (Some pid) = Hand pid

abbrev pub packet : Option Pid → List ℕ → Reply
packet None bytes = Silent
packet (Some pid) bytes = Bytes pid bytes

-- a packet is heard where it is whole among these bytes, and no longer than packets are
abbrev pub is_whole : List ℕ → Answer → Bool
is_whole bytes a = nat_le a.len 1024 && nat_le (a.start + a.len) (length bytes)

abbrev pub answer_in : List ℕ → Answer → Reply
answer_in bytes a =
    if a.kind == 1 then hand (pid_named a.pid)
    else if (a.kind == 2) && is_whole bytes a then packet (pid_named a.pid) (take a.len (drop a.start bytes))
    else Silent

-- ---- what is wanted

abbrev pub speed_number : Speed → ℕ
speed_number speeds.Full = 0
speed_number speeds.Low = 1
speed_number speeds.High = 2

abbrev pub kind_number : EpKind → ℕ
kind_number kinds.Control = 0
kind_number kinds.Iso = 1
kind_number kinds.Bulk = 2
kind_number kinds.Interrupt = 3

abbrev pub split_number : Split → ℕ
split_number Plain = 0
split_number (Start hub port part) = 1
split_number (Complete hub port) = 2

abbrev pub hub_of : Split → ℕ
hub_of Plain = 0
hub_of (Start hub port part) = hub
hub_of (Complete hub port) = hub

abbrev pub port_of : Split → ℕ
port_of Plain = 0
port_of (Start hub port part) = port
port_of (Complete hub port) = port

abbrev pub part_of : DataPart → ℕ
part_of parts.All = 0
part_of parts.Begin = 1
part_of parts.Middle = 2
part_of parts.End = 3

abbrev pub part_number : Split → ℕ
part_number Plain = 0
part_number (Start hub port part) = part_of part
part_number (Complete hub port) = 0

abbrev pub words_of_ask : Wanted → AskWords
words_of_ask w = record {
  pid = pid_bits w.ask.pid;
  address = w.ask.addr;
  endpoint = w.ask.ep;
  speed = speed_number w.ask.speed;
  kind = kind_number w.ask.kind;
  toggle = pid_bits w.ask.toggle;
  split = split_number w.ask.split;
  hub = hub_of w.ask.split;
  port = port_of w.ask.split;
  part = part_number w.ask.split;
  limit = w.ask.limit;
  out_len = length w.out;
}

-- ---- the bus

-- the answers that are left, with the bytes of all of them, and what was asked first when none was left
pub record Told : Type 0 where
  pub answers : List Answer
  pub bytes : List ℕ
  pub wanted : Option Wanted

abbrev pub told : List Answer → List ℕ → Told
told answers bytes = record { answers = answers; bytes = bytes; wanted = None }

abbrev pub first_answer : List ℕ → List Answer → Reply
first_answer bytes [] = Silent
first_answer bytes (a ∷ rest) = answer_in bytes a

abbrev pub answer_of : Told → Reply
answer_of t = first_answer t.bytes t.answers

abbrev pub first_wanted : Option Wanted → Wanted → Option Wanted
first_wanted None w = Some w
first_wanted (Some before) w = Some before

abbrev pub asked_of : Told → List Answer → Wanted → Told
asked_of t [] w = record t { wanted = first_wanted t.wanted w }
asked_of t (a ∷ rest) w = record t { answers = rest }

-- what is left once this was asked, with these bytes
abbrev pub asked : Told → Ask → List ℕ → Told
asked t ask out = asked_of t t.answers (record { ask = ask; out = out })

-- the bus may be used in each microframe
abbrev pub Begins : Told → ℕ → Bool → Told → Type 0
Begins before index allowed after = (allowed ≡ true) × (after ≡ before)

-- each transaction takes the first answer that is left
abbrev pub Answers : Told → Ask → List ℕ → Reply → Told → Type 0
Answers before ask out reply after = (reply ≡ answer_of before) × (after ≡ asked before ask out)
