-- Starts, buffers and contents for worked rows.
use Rattle.std.specs.Prelude.{ℕ, List, [], ◌∷◌}
use Rattle.usb_base.specs.declared.packets.Ask.{Ask}
use Rattle.usb_base.specs.declared.packets.EpKind.{EpKind}
use Rattle.usb_base.specs.declared.packets.EpKind.TheVariants.{Bulk, Control}
use Rattle.usb_base.specs.declared.packets.DataPart.TheVariants as Parts
use Rattle.usb_base.specs.declared.packets.Pid.{Pid}
use Rattle.usb_base.specs.declared.packets.Pid.TheVariants as Packets
use Rattle.usb_base.specs.declared.packets.Reply.{Reply}
use Rattle.usb_base.specs.declared.packets.Reply.TheVariants as Replies
use Rattle.usb_base.specs.declared.packets.Speed.TheVariants.{Full}
use Rattle.usb_base.specs.declared.packets.Split.TheVariants.{Start}
use Rattle.tt_bulk.specs.declared.answers.Answer.{Answer}
use Rattle.tt_bulk.specs.declared.answers.Answer.TheVariants.{Bytes}
use Rattle.tt_bulk.specs.declared.rows.BufferIndex.TheVariants.{Second}
use Rattle.tt_bulk.specs.Contents.{Taken, BufferContent, Pending, Ready, Old, TwoBuffers}

-- a start for an endpoint of device 3, behind port 1 of hub 9, with room for 64 bytes: 77 byte-times for an IN
abbrev pub ask_of : Pid → ℕ → EpKind → Ask
ask_of pid ep kind = record {
  split = Start 9 1 Parts.All;
  pid = pid;
  addr = 3;
  ep = ep;
  speed = Full;
  kind = kind;
  toggle = Packets.Data0;
  limit = 64;
}

-- the starts of three bulk IN endpoints, and both halves of a control endpoint
abbrev pub in_1 : Ask
in_1 = ask_of Packets.In 1 Bulk

abbrev pub in_2 : Ask
in_2 = ask_of Packets.In 2 Bulk

abbrev pub in_4 : Ask
in_4 = ask_of Packets.In 4 Bulk

abbrev pub control_out : Ask
control_out = ask_of Packets.Out 0 Control

abbrev pub control_in : Ask
control_in = ask_of Packets.In 0 Control

-- a start taken, and what a buffer then has
abbrev pub of_ask : Ask → Taken
of_ask ask = record { ask = ask; packet = []; stuff = 0 }

abbrev pub two_bytes : List ℕ
two_bytes = 1 ∷ 2 ∷ []

abbrev pub result : Answer
result = Bytes Packets.Data0 two_bytes

abbrev pub heard_data : Reply
heard_data = Replies.Bytes Packets.Data0 two_bytes

abbrev pub pending : Ask → BufferContent
pending ask = Pending (of_ask ask) 0

abbrev pub ready : Ask → BufferContent
ready ask = Ready (of_ask ask) result

abbrev pub old : Ask → BufferContent
old ask = Old (of_ask ask) result

-- two buffers, of which the second took its packet last
abbrev pub both : BufferContent → BufferContent → TwoBuffers
both first second = record { first = first; second = second; latest = Second }
