-- A control endpoint of a device, stage by stage (USB 2.0, 8.5.3 and 9.3).
--     Stages                       what it is at: the NAKs left, the request under way, how often it acted
--     opened max naks              before the first SETUP
--     stage_of reply c             the stage at which the next token finds it
--     stage_row reply c ask out    what it does at an ask with these data bytes
--     stages_reply, stages_after   what it answers, and what that leaves
--     stages_acked reply c         what the host's acknowledgement of the data just sent leaves
--     stages_reset c               what a reset of the endpoint leaves
-- `reply` is the device's reply to the request under way, if it has one.
use Rattle.std.specs.Prelude.{ℕ, ◌+◌, ◌-◌, ◌*◌, ◌==◌, Bool, true, false, ◌&&◌, ◌||◌, not, min, nat_le, nat_lt, List, [], length, take, drop, slice_index, Option, Some, None, if◌then◌else◌}
use Rattle.usb_base.specs.declared.packets.Ask.{Ask}
use Rattle.usb_base.specs.declared.packets.Pid.{Pid}
use Rattle.usb_base.specs.declared.packets.Pid.TheVariants as Pids
use Rattle.usb_base.specs.declared.packets.Reply.{Reply}
use Rattle.usb_base.specs.declared.packets.Reply.TheVariants.{Silent, Bytes, Hand}
use Rattle.dev_control.specs.declared.control.Request.{Request}
use Rattle.dev_control.specs.declared.rows.Sequence.{Sequence}
use Rattle.dev_control.specs.declared.rows.Sequence.TheVariants.{Next, Repeat, Neither}
use Rattle.dev_control.specs.declared.rows.Stage.{Stage}
use Rattle.dev_control.specs.declared.rows.Stage.TheVariants.{Refusing, Reading, AllRead, Writing, AllWritten, NoData}
use Rattle.dev_control.specs.declared.rows.StageRow.{StageRow}
use Rattle.dev_control.specs.declared.rows.StageRow.TheVariants.{Begins, Ignores, Naks, Sends, Takes, Drops, Acknowledges, Confirms, HasRoom, Stalls}
use Rattle.dev_control.specs.declared.rows.StageToken.{StageToken}
use Rattle.dev_control.specs.declared.rows.StageToken.TheVariants as Tokens

pub record Stages : Type 0 where
  pub max : ℕ  -- the maximum packet size in bytes
  pub naks : ℕ  -- how many NAKs are left
  pub request : Option Request  -- the request of the last SETUP
  pub acted : ℕ  -- how often it acted on a request; it stands at the last value of 32 bits

-- before the first SETUP
abbrev pub opened : ℕ → ℕ → Stages
opened max naks = record { max = max; naks = naks; request = None; acted = 0 }

-- ---- tokens and data packets

abbrev pub token_of : Pid → StageToken
token_of Pids.Setup = Tokens.Setup
token_of Pids.In = Tokens.In
token_of Pids.Out = Tokens.Out
token_of Pids.Ping = Tokens.Ping
token_of _ = Tokens.Other

-- the data PID of a toggle (USB 2.0, 8.6)
abbrev pub data_pid : Bool → Pid
data_pid false = Pids.Data0
data_pid true = Pids.Data1

-- what a data PID is to a receiver with this toggle
abbrev pub sequence_of : Bool → Pid → Sequence
sequence_of false Pids.Data0 = Next
sequence_of true Pids.Data1 = Next
sequence_of false Pids.Data1 = Repeat
sequence_of true Pids.Data0 = Repeat
sequence_of _ _ = Neither

-- ---- the request (USB 2.0, 9.3)

-- the setup bytes of the last SETUP
abbrev pub setup_of : Option Request → Option (List ℕ)
setup_of None = None
setup_of (Some u) = Some u.setup

-- bit 7 of its first byte: the data stage is an IN (9.3.1)
abbrev pub is_read : List ℕ → Bool
is_read setup = nat_le 128 (slice_index setup 0)

-- wLength, the last two bytes: how many bytes the data stage has at most (9.3.5)
abbrev pub wanted_of : List ℕ → ℕ
wanted_of setup = slice_index setup 6 + 256 * slice_index setup 7

-- the bytes of a read's data stage: the reply, cut at wLength
abbrev pub sent_of : List ℕ → List ℕ → List ℕ
sent_of setup reply = take (wanted_of setup) reply

-- A read has a packet to send where bytes are left; and an empty one after a reply that is shorter than wLength and is empty or
-- fills its last packet (USB 2.0, 5.5.3).
abbrev pub has_packet : ℕ → ℕ → ℕ → Bool
has_packet wanted sent moved = nat_lt moved sent || (moved == sent && nat_lt moved wanted)

-- the next packet of a read
abbrev pub packet_at : ℕ → List ℕ → ℕ → List ℕ
packet_at max sent moved = take max (drop moved sent)

-- ---- the stage

abbrev pub read_stage : ℕ → ℕ → ℕ → Stage
read_stage wanted sent moved = if has_packet wanted sent moved then Reading else AllRead

abbrev pub write_stage : ℕ → ℕ → Stage
write_stage wanted moved = if nat_lt moved wanted then Writing else AllWritten

abbrev pub data_stage : List ℕ → List ℕ → ℕ → Stage
data_stage setup reply moved =
    if is_read setup then read_stage (wanted_of setup) (length (sent_of setup reply)) moved else write_stage (wanted_of setup) moved

-- a request whose wLength is 0 has no data stage
abbrev pub stage_with : List ℕ → Request → Stage
stage_with reply u = if wanted_of u.setup == 0 then NoData else data_stage u.setup reply u.moved

abbrev pub stage_at : Option (List ℕ) → Option Request → Stage
stage_at _ None = Refusing
stage_at None _ = Refusing
stage_at (Some reply) (Some u) = stage_with reply u

abbrev pub stage_of : Option (List ℕ) → Stages → Stage
stage_of reply c = stage_at reply c.request

-- ---- the row, by stage and token

-- the table for an IN
abbrev pub in_row : Stage → StageRow
in_row Reading = Sends
in_row AllWritten = Confirms
in_row NoData = Confirms
in_row _ = Stalls

-- The table for an OUT, by what its data PID is, whether it is the status packet of a read (an empty DATA1), and how far the data
-- stage of a write is with its bytes, where they are no more than are to come.
abbrev pub out_row : Stage → Sequence → Bool → Option ℕ → StageRow
-- stage, sequence, status, how far
out_row Reading _ true _ = Acknowledges
out_row AllRead _ true _ = Acknowledges
out_row Writing Next _ (Some to) = Takes to
out_row Writing Repeat _ _ = Drops
out_row AllWritten Repeat _ _ = Drops
out_row _ _ _ _ = Stalls

-- the table for a PING (8.5.1)
abbrev pub ping_row : Stage → StageRow
ping_row Refusing = Stalls
ping_row _ = HasRoom

-- a SETUP is never refused (8.4.6.4)
abbrev pub setup_row : List ℕ → StageRow
setup_row out = if length out == 8 then Begins out else Ignores

abbrev pub is_data1 : Pid → Bool
is_data1 Pids.Data1 = true
is_data1 _ = false

-- the status packet of a read
abbrev pub is_status : Pid → ℕ → Bool
is_status pid n = is_data1 pid && n == 0

-- how far a write is with n more bytes, where they are no more than are to come
abbrev pub far_with : Request → ℕ → Option ℕ
far_with u n = if nat_le (u.moved + n) (wanted_of u.setup) then Some (u.moved + n) else None

-- n bytes with this data PID
abbrev pub out_row_at : Stage → Option Request → Pid → ℕ → StageRow
out_row_at stage None pid n = Stalls
out_row_at stage (Some u) pid n = out_row stage (sequence_of u.toggle pid) (is_status pid n) (far_with u n)

-- NAKs that are left come before every other rule
abbrev pub unless_nak : ℕ → StageRow → StageRow
unless_nak naks row = if naks == 0 then row else Naks

abbrev pub row_by : StageToken → Stage → Stages → Pid → List ℕ → StageRow
row_by Tokens.Setup stage c pid out = setup_row out
row_by Tokens.In stage c pid out = unless_nak c.naks (in_row stage)
row_by Tokens.Out stage c pid out = unless_nak c.naks (out_row_at stage c.request pid (length out))
row_by Tokens.Ping stage c pid out = unless_nak c.naks (ping_row stage)
row_by Tokens.Other stage c pid out = unless_nak c.naks Stalls

-- what it does at an ask that sends these bytes
abbrev pub stage_row : Option (List ℕ) → Stages → Ask → List ℕ → StageRow
stage_row reply c ask out = row_by (token_of ask.pid) (stage_of reply c) c ask.toggle out

-- ---- what a row answers

abbrev pub packet_with : ℕ → Option (List ℕ) → Option Request → List ℕ
packet_with max (Some reply) (Some u) = packet_at max (sent_of u.setup reply) u.moved
packet_with max _ _ = []

abbrev pub pid_with : Option Request → Pid
pid_with None = Pids.Data1
pid_with (Some u) = data_pid u.toggle

abbrev pub row_reply : StageRow → Option (List ℕ) → Stages → Reply
row_reply (Begins setup) reply c = Hand Pids.Ack
row_reply Ignores reply c = Silent
row_reply Naks reply c = Hand Pids.Nak
row_reply Sends reply c = Bytes (pid_with c.request) (packet_with c.max reply c.request)
row_reply (Takes to) reply c = Hand Pids.Ack
row_reply Drops reply c = Hand Pids.Ack
row_reply Acknowledges reply c = Hand Pids.Ack
row_reply Confirms reply c = Bytes Pids.Data1 []
row_reply HasRoom reply c = Hand Pids.Ack
row_reply Stalls reply c = Hand Pids.Stall

-- ---- what a row leaves

-- a request that just came: its first data packet is a DATA1
abbrev pub begun_with : List ℕ → Request
begun_with setup = record { setup = setup; moved = 0; toggle = true; done = false }

-- a data packet was moved, and the data stage is that far
abbrev pub moved_to : ℕ → Option Request → Option Request
moved_to to None = None
moved_to to (Some u) = Some (record u { moved = to; toggle = not u.toggle })

-- a count of 32 bits after one more
abbrev pub one_more_act : ℕ → ℕ
one_more_act n = min (n + 1) 4294967295

-- it acts on the request where it didn't before
abbrev pub acted_at : Bool → Request → Stages → Stages
acted_at true u c = c
acted_at false u c = record c { request = Some (record u { done = true }); acted = one_more_act c.acted }

abbrev pub acted_with : Option Request → Stages → Stages
acted_with None c = c
acted_with (Some u) c = acted_at u.done u c

abbrev pub acted_on : Stages → Stages
acted_on c = acted_with c.request c

abbrev pub after_stage_row : StageRow → Stages → Stages
after_stage_row (Begins setup) c = record c { request = Some (begun_with setup) }
after_stage_row Ignores c = c
after_stage_row Naks c = record c { naks = c.naks - 1 }
after_stage_row Sends c = c
after_stage_row (Takes to) c = record c { request = moved_to to c.request }
after_stage_row Drops c = c
after_stage_row Acknowledges c = acted_on c
after_stage_row Confirms c = acted_on c
after_stage_row HasRoom c = c
after_stage_row Stalls c = c

-- what it answers to an ask that sends these bytes
abbrev pub stages_reply : Option (List ℕ) → Stages → Ask → List ℕ → Reply
stages_reply reply c ask out = row_reply (stage_row reply c ask out) reply c

-- what that answer leaves
abbrev pub stages_after : Option (List ℕ) → Stages → Ask → List ℕ → Stages
stages_after reply c ask out = after_stage_row (stage_row reply c ask out) c

-- ---- the acknowledgement

abbrev pub acked_with : Stage → Option Request → Stages → Stages
acked_with Reading (Some u) c = record c { request = Some (record u { moved = u.moved + c.max; toggle = not u.toggle }) }
acked_with _ _ c = c

-- the host's ACK of the data just sent moves a read on to its next packet; that of a status packet changes nothing
abbrev pub stages_acked : Option (List ℕ) → Stages → Stages
stages_acked reply c = acked_with (stage_of reply c) c.request c

-- ---- a reset

-- A reset forgets the request under way (USB 2.0, 9.4.5); how often it acted stays, and so do the NAKs that are left.
abbrev pub stages_reset : Stages → Stages
stages_reset c = record c { request = None }
