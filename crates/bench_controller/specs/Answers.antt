-- The answers of the steady bus.
use Rattle.std.specs.Prelude.{ℕ, List, take, min}
use Rattle.usb_base.specs.declared.packets.Ask.{Ask}
use Rattle.usb_base.specs.declared.packets.Pid.{Pid}
use Rattle.usb_base.specs.declared.packets.Pid.TheVariants as pids
use Rattle.usb_base.specs.declared.packets.Reply.{Reply}
use Rattle.usb_base.specs.declared.packets.Reply.TheVariants.{Bytes, Hand}

abbrev pub answer_to : Pid → Reply → Reply
answer_to pids.In bytes = bytes
answer_to _ bytes = Hand pids.Ack

abbrev pub answer : List ℕ → ℕ → Ask → Reply
answer payload size ask = answer_to ask.pid (Bytes ask.toggle (take (min 512 (min size ask.limit)) payload))

abbrev pub count_to : Pid → ℕ → ℕ → ℕ
count_to pids.In received sent = received
count_to _ received sent = sent

abbrev pub moved_by : ℕ → Ask → ℕ → ℕ
moved_by size ask sent = count_to ask.pid (min 512 (min size ask.limit)) sent
