-- Devices for the worked rows, ask by ask.
use Rattle.std.specs.Prelude.{ℕ, List, [], ◌∷◌, None}
use Rattle.usb_base.specs.declared.endpoints.EpDesc.{EpDesc}
use Rattle.usb_base.specs.declared.endpoints.EpName.{EpName}
use Rattle.usb_base.specs.declared.packets.Ask.{Ask}
use Rattle.usb_base.specs.declared.packets.EpKind.{EpKind}
use Rattle.usb_base.specs.declared.packets.EpKind.TheVariants.{Control, Iso, Bulk}
use Rattle.usb_base.specs.declared.packets.Pid.{Pid}
use Rattle.usb_base.specs.declared.packets.Pid.TheVariants as Pids
use Rattle.usb_base.specs.declared.packets.Reply.{Reply}
use Rattle.usb_base.specs.declared.packets.Reply.TheVariants as Replies
use Rattle.usb_base.specs.declared.packets.Speed.{Speed}
use Rattle.usb_base.specs.declared.packets.Speed.TheVariants.{High, Full}
use Rattle.usb_base.specs.declared.packets.Split.TheVariants.{Plain}
use Rattle.usb_base.specs.declared.packets.Way.{Way}
use Rattle.usb_base.specs.declared.packets.Way.TheVariants as Ways
use Rattle.script_types.specs.declared.devices.EpText.{EpText}
use Rattle.script_types.specs.declared.devices.Item.{Item}
use Rattle.script_types.specs.declared.devices.Item.TheVariants as Items
use Rattle.endpoint_script.specs.Device.{Device, opening, begun, answer_of, answered, acked_by}

pub data Step : Type 0 where
  Asks : Pid → ℕ → Pid → List ℕ → Step  -- a token, the endpoint's number, the data PID that is sent or expected, the bytes sent
  Acks : Pid → ℕ → Step  -- the host's acknowledgement of the data just sent in answer to this token is heard
  Begins : Step  -- a microframe or frame begins

abbrev pub ask_of : Pid → ℕ → Pid → Ask
ask_of pid num toggle = record { split = Plain; pid = pid; addr = 3; ep = num; speed = High; kind = Bulk; toggle = toggle; limit = 512 }

abbrev pub stepped : Device → Step → Device
stepped d (Asks pid num toggle out) = answered d (ask_of pid num toggle) out
stepped d (Acks pid num) = acked_by d (ask_of pid num Pids.Data0)
stepped d Begins = begun d

-- what it answers at each ask, in order
abbrev pub replies : Device → List Step → List Reply
replies d [] = []
replies d (Asks pid num toggle out ∷ steps) = answer_of d (ask_of pid num toggle) out ∷ replies (stepped d (Asks pid num toggle out)) steps
replies d (Acks pid num ∷ steps) = replies (stepped d (Acks pid num)) steps
replies d (Begins ∷ steps) = replies (stepped d Begins) steps

-- what it is after them
abbrev pub after : Device → List Step → Device
after d [] = d
after d (step ∷ steps) = after (stepped d step) steps

-- ---- steps by name

abbrev pub in0 : ℕ → Step
in0 num = Asks Pids.In num Pids.Data0 []

abbrev pub in_ack : ℕ → Step
in_ack num = Acks Pids.In num

abbrev pub out0 : ℕ → List ℕ → Step
out0 num bytes = Asks Pids.Out num Pids.Data0 bytes

abbrev pub out1 : ℕ → List ℕ → Step
out1 num bytes = Asks Pids.Out num Pids.Data1 bytes

abbrev pub ping : ℕ → Step
ping num = Asks Pids.Ping num Pids.Data0 []

abbrev pub setup : ℕ → List ℕ → Step
setup num bytes = Asks Pids.Setup num Pids.Data0 bytes

-- ---- replies by name

abbrev pub ack : Reply
ack = Replies.Hand Pids.Ack

abbrev pub nak : Reply
nak = Replies.Hand Pids.Nak

abbrev pub nyet : Reply
nyet = Replies.Hand Pids.Nyet

abbrev pub stall : Reply
stall = Replies.Hand Pids.Stall

abbrev pub silence : Reply
silence = Replies.Silent

abbrev pub data0 : List ℕ → Reply
data0 bytes = Replies.Bytes Pids.Data0 bytes

abbrev pub data1 : List ℕ → Reply
data1 bytes = Replies.Bytes Pids.Data1 bytes

abbrev pub data2 : List ℕ → Reply
data2 bytes = Replies.Bytes Pids.Data2 bytes

-- ---- devices

abbrev pub name_of : ℕ → Way → EpName
name_of num way = record { addr = 3; num = num; way = way }

abbrev pub desc_of : ℕ → Way → EpKind → ℕ → EpDesc
desc_of num way kind multi = record { name = name_of num way; speed = High; kind = kind; max = 64; period = 8; multi = multi; hub = None; port = 0; tt = 0 }

abbrev pub text_of : ℕ → Way → EpKind → ℕ → ℕ → List Item → EpText
text_of num way kind multi room items = record { desc = desc_of num way kind multi; items = items; room = room; stuff = 0; clears = 0 }

abbrev pub device_of : Speed → List EpText → Device
device_of speed eps = opening (record { addr = 3; speed = speed; eps = eps })

-- a device of one endpoint, number 1
abbrev pub sender : List Item → Device
sender items = device_of High (text_of 1 Ways.In Bulk 1 0 items ∷ [])

abbrev pub receiver : Speed → ℕ → List Item → Device
receiver speed room items = device_of speed (text_of 1 Ways.Out Bulk 1 room items ∷ [])

abbrev pub streamer : ℕ → List Item → Device
streamer multi items = device_of High (text_of 1 Ways.In Iso multi 0 items ∷ [])

-- a read of one byte
abbrev pub request : List ℕ
request = 128 ∷ 6 ∷ 0 ∷ 1 ∷ 0 ∷ 0 ∷ 1 ∷ 0 ∷ []

-- a device of five endpoints: numbers 1 and 2 both ways, and control
abbrev pub composite : Device
composite =
    device_of Full (
    text_of 2 Ways.Out Bulk 1 10 [] ∷
    text_of 0 Ways.Ctl Control 1 0 (Items.Request request (7 ∷ []) ∷ []) ∷
    text_of 1 Ways.In Bulk 1 0 (Items.Bytes (5 ∷ []) ∷ []) ∷
    text_of 1 Ways.Out Iso 1 0 [] ∷
    text_of 2 Ways.In Iso 1 0 [] ∷ [])
