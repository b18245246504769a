-- States, answers and beginnings of the worked rows.
use Rattle.std.specs.Prelude.{ℕ, [], ◌∷◌, List}
use Rattle.usb_base.specs.declared.packets.Ask.{Ask}
use Rattle.usb_base.specs.declared.packets.EpKind.TheVariants.{Bulk}
use Rattle.usb_base.specs.declared.packets.Pid.TheVariants as pids
use Rattle.usb_base.specs.declared.packets.Speed.TheVariants.{High}
use Rattle.usb_base.specs.declared.packets.Split.TheVariants.{Plain}
use Rattle.hc_core.specs.Controller.{Content, content, new_control}
use Rattle.word_mem.specs.Memory.{all_lent}
use Rattle.hc_microframe.specs.declared.answers.Answer.{Answer}
use Rattle.hc_microframe.specs.declared.answers.Wanted.{Wanted}
use Rattle.hc_microframe.specs.declared.state.State.{State}
use Rattle.hc_microframe.specs.State.{file_of}

-- the words of a state, in the order of the registers
abbrev pub state : ℕ → ℕ → ℕ → ℕ → ℕ → ℕ → ℕ → ℕ → State
state command status interrupt_enable frame_index list ring configured cursor = record {
  command = command;
  status = status;
  interrupt_enable = interrupt_enable;
  frame_index = frame_index;
  list = list;
  ring = ring;
  configured = configured;
  cursor = cursor;
}

-- one with this USBCMD, and else 0
abbrev pub commanded : ℕ → State
commanded command = state command 0 0 0 0 0 0 0

abbrev pub answer : ℕ → ℕ → ℕ → ℕ → Answer
answer kind pid len start = record { kind = kind; pid = pid; len = len; start = start }

abbrev pub three_bytes : List ℕ
three_bytes = 7 ∷ 8 ∷ 9 ∷ []

-- a new controller that runs, both of its schedules off, its frame list at address 0 of these words
abbrev pub running : List ℕ → Content
running words = content new_control (file_of (commanded 0x00080001)) (all_lent words)

-- an IN of endpoint 1 of the device 3, with 512 bytes to come
abbrev pub in_of_three : Ask
in_of_three = record {
  split = Plain;
  pid = pids.In;
  addr = 3;
  ep = 1;
  speed = High;
  kind = Bulk;
  toggle = pids.Data0;
  limit = 512;
}

abbrev pub nothing_sent : Wanted
nothing_sent = record { ask = in_of_three; out = [] }
