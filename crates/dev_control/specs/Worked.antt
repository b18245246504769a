-- Control transfers for the worked rows, step by step.
use Rattle.std.specs.Prelude.{ℕ, List, [], ◌∷◌, Option, Some, None}
use Rattle.usb_base.specs.declared.packets.Ask.{Ask}
use Rattle.usb_base.specs.declared.packets.EpKind.TheVariants.{Control}
use Rattle.usb_base.specs.declared.packets.Pid.{Pid}
use Rattle.usb_base.specs.declared.packets.Pid.TheVariants as Pids
use Rattle.usb_base.specs.declared.packets.Reply.{Reply}
use Rattle.usb_base.specs.declared.packets.Reply.TheVariants.{Bytes, Hand}
use Rattle.usb_base.specs.declared.packets.Speed.TheVariants.{High}
use Rattle.usb_base.specs.declared.packets.Split.TheVariants.{Plain}
use Rattle.dev_control.specs.Stages.{Stages, opened, stages_reply, stages_after, stages_acked}

pub data Step : Type 0 where
  Asks : Pid → Pid → List ℕ → Step  -- a token, with the data PID that is sent or expected and the bytes that are sent
  Acks : Step  -- the host's acknowledgement of the data just sent is heard

abbrev pub ask_of : Pid → Pid → Ask
ask_of pid toggle = record { split = Plain; pid = pid; addr = 4; ep = 0; speed = High; kind = Control; toggle = toggle; limit = 64 }

abbrev pub stepped : Option (List ℕ) → Stages → Step → Stages
stepped reply c (Asks pid toggle out) = stages_after reply c (ask_of pid toggle) out
stepped reply c Acks = stages_acked reply c

-- what it answers at each ask, in order
abbrev pub replies : Option (List ℕ) → Stages → List Step → List Reply
replies reply c [] = []
replies reply c (Asks pid toggle out ∷ steps) = stages_reply reply c (ask_of pid toggle) out ∷ replies reply (stepped reply c (Asks pid toggle out)) steps
replies reply c (Acks ∷ steps) = replies reply (stepped reply c Acks) steps

-- what it is after them
abbrev pub after : Option (List ℕ) → Stages → List Step → Stages
after reply c [] = c
after reply c (step ∷ steps) = after reply (stepped reply c step) steps

-- ---- steps by name

abbrev pub setup : List ℕ → Step
setup bytes = Asks Pids.Setup Pids.Data0 bytes

abbrev pub in1 : Step
in1 = Asks Pids.In Pids.Data1 []

abbrev pub out0 : List ℕ → Step
out0 bytes = Asks Pids.Out Pids.Data0 bytes

abbrev pub out1 : List ℕ → Step
out1 bytes = Asks Pids.Out Pids.Data1 bytes

abbrev pub ping : Step
ping = Asks Pids.Ping Pids.Data1 []

-- ---- replies by name

abbrev pub ack : Reply
ack = Hand Pids.Ack

abbrev pub nak : Reply
nak = Hand Pids.Nak

abbrev pub stall : Reply
stall = Hand Pids.Stall

abbrev pub data0 : List ℕ → Reply
data0 bytes = Bytes Pids.Data0 bytes

abbrev pub data1 : List ℕ → Reply
data1 bytes = Bytes Pids.Data1 bytes

-- ---- requests

-- a read of at most n bytes
abbrev pub read_of : ℕ → List ℕ
read_of n = 128 ∷ 6 ∷ 0 ∷ 1 ∷ 0 ∷ 0 ∷ n ∷ 0 ∷ []

-- a write of n bytes
abbrev pub write_of : ℕ → List ℕ
write_of n = 0 ∷ 7 ∷ 0 ∷ 1 ∷ 0 ∷ 0 ∷ n ∷ 0 ∷ []

-- an endpoint with packets of at most 4 bytes
abbrev pub small : ℕ → Stages
small naks = opened 4 naks

abbrev pub known : List ℕ → Option (List ℕ)
known reply = Some reply

abbrev pub unknown : Option (List ℕ)
unknown = None
