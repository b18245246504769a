-- Starts, keys and entries for worked rows: endpoint n of device 3, behind port 2 of hub 9.
use Rattle.std.specs.Prelude.{ℕ, zero, suc, List, [], replicate}
use Rattle.usb_base.specs.declared.packets.Ask.{Ask}
use Rattle.usb_base.specs.declared.packets.EpKind.{EpKind}
use Rattle.usb_base.specs.declared.packets.EpKind.TheVariants.{Iso, Interrupt}
use Rattle.usb_base.specs.declared.packets.DataPart.{DataPart}
use Rattle.usb_base.specs.declared.packets.DataPart.TheVariants.{All, Begin, Middle, End}
use Rattle.usb_base.specs.declared.packets.Pid.{Pid}
use Rattle.usb_base.specs.declared.packets.Pid.TheVariants.{In, Out, Data0}
use Rattle.usb_base.specs.declared.packets.Reply.{Reply}
use Rattle.usb_base.specs.declared.packets.Reply.TheVariants.{Silent}
use Rattle.usb_base.specs.declared.packets.Speed.TheVariants.{Full}
use Rattle.usb_base.specs.declared.packets.Split.TheVariants.{Start}
use Rattle.tt_pipeline.specs.declared.entry.Entry.{Entry}
use Rattle.tt_pipeline.specs.Starting.{started}
use Rattle.tt_pipeline.specs.Working.{worked_with}

abbrev pub start_of : EpKind → Pid → DataPart → ℕ → ℕ → Ask
start_of kind pid part n limit = record {
  split = Start 9 2 part;
  pid = pid;
  addr = 3;
  ep = n;
  speed = Full;
  kind = kind;
  toggle = Data0;
  limit = limit;
}

-- a full-speed interrupt IN with room for so many bytes
abbrev pub interrupt_in : ℕ → ℕ → Ask
interrupt_in n limit = start_of Interrupt In All n limit

abbrev pub iso_in : ℕ → ℕ → Ask
iso_in n limit = start_of Iso In All n limit

abbrev pub iso_out : DataPart → ℕ → Ask
iso_out part n = start_of Iso Out part n 0

-- two interrupts of 64 bytes and one of 8, with this number of stuffed bits
abbrev pub three_stuffed : ℕ → List Entry
three_stuffed stuff = started (interrupt_in 3 8) [] stuff (started (interrupt_in 2 64) [] stuff (started (interrupt_in 1 64) [] stuff []))

-- and with none
abbrev pub three : List Entry
three = three_stuffed 0

-- after the work of one microframe in which every device that is asked answers this
abbrev pub after_one : Reply → List Entry → List Entry
after_one reply es = worked_with 1 (replicate 4 reply) es

-- n microframes later
abbrev pub after_more : ℕ → Reply → List Entry → List Entry
after_more zero reply es = es
after_more (suc n) reply es = after_one reply (after_more n reply es)

-- the three parts of an isochronous OUT of 400 bytes came, one in each of three microframes
abbrev pub out_in_parts : List Entry
out_in_parts = started (iso_out End 1) (replicate 24 3) 0 (after_one Silent (started (iso_out Middle 1) (replicate 188 2) 0
    (after_one Silent (started (iso_out Begin 1) (replicate 188 1) 0 []))))
