-- An isochronous IN endpoint (USB 2.0, 5.6, 5.9.2 and 8.5.5): up to Multi packets in a microframe, or one in a frame, whose PIDs
-- count down to DATA0; they are used up whether they are heard or not.
use Rattle.std.specs.Prelude.{ℕ, ◌+◌, ◌-◌, ◌==◌, min, List, [], ◌∷◌, length, if◌then◌else◌}
use Rattle.usb_base.specs.declared.packets.Pid.{Pid}
use Rattle.usb_base.specs.declared.packets.Pid.TheVariants as Pids
use Rattle.usb_base.specs.declared.packets.Reply.{Reply}
use Rattle.usb_base.specs.declared.packets.Reply.TheVariants.{Bytes}
use Rattle.script_types.specs.declared.devices.Item.{Item}
use Rattle.endpoint_script.specs.Items.{packets_of, rest_of}

pub record Streaming : Type 0 where
  pub packets : List (List ℕ)  -- the packets that are left
  pub multi : ℕ  -- how many packets it sends in a microframe or frame at most
  pub used : ℕ  -- how many it sent in this one

abbrev pub streaming_at : ℕ → List Item → Streaming
streaming_at multi items = record { packets = packets_of items; multi = multi; used = 0 }

-- a microframe or frame begins
abbrev pub streaming_begun : Streaming → Streaming
streaming_begun s = record s { used = 0 }

-- how many packets are still to be sent in this microframe or frame
abbrev pub due_of : Streaming → ℕ
due_of s = min (s.multi - s.used) (length s.packets)

-- the PID of a packet with this number of packets after it
abbrev pub count_pid : ℕ → Pid
count_pid n = if n == 0 then Pids.Data0 else (if n == 1 then Pids.Data1 else Pids.Data2)

abbrev pub first_of : List (List ℕ) → List ℕ
first_of [] = []
first_of (packet ∷ _) = packet

-- the next packet; where none is due, an empty DATA0
abbrev pub streaming_reply : Streaming → Reply
streaming_reply s = if due_of s == 0 then Bytes Pids.Data0 [] else Bytes (count_pid (due_of s - 1)) (first_of s.packets)

abbrev pub streaming_answered : Streaming → Streaming
streaming_answered s = if due_of s == 0 then s else record s { packets = rest_of s.packets; used = s.used + 1 }
