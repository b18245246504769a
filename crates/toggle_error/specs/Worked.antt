-- Asks and a host's side for worked rows.
use Rattle.std.specs.Prelude.{ℕ, true, false, List, [], ◌∷◌}
use Rattle.usb_base.specs.declared.packets.Ask.{Ask}
use Rattle.usb_base.specs.declared.packets.EpKind.{EpKind}
use Rattle.usb_base.specs.declared.packets.EpKind.TheVariants.{Bulk}
use Rattle.usb_base.specs.declared.packets.DataPart.TheVariants as Parts
use Rattle.usb_base.specs.declared.packets.Pid.{Pid}
use Rattle.usb_base.specs.declared.packets.Pid.TheVariants as Packets
use Rattle.usb_base.specs.declared.packets.Reply.{Reply}
use Rattle.usb_base.specs.declared.packets.Speed.{Speed}
use Rattle.usb_base.specs.declared.packets.Speed.TheVariants.{Full, High}
use Rattle.usb_base.specs.declared.packets.Split.{Split}
use Rattle.usb_base.specs.declared.packets.Split.TheVariants.{Plain, Start, Complete}
use Rattle.toggle_error.specs.declared.host.HostSide.{HostSide}
use Rattle.toggle_error.specs.declared.host.Outcome.{Outcome}
use Rattle.toggle_error.specs.Settle.{outcome_of, settled}

-- six bytes are left, in packets of at most four, and DATA0 comes next
abbrev pub host : HostSide
host = record {
  toggle = false;
  ping = false;
  cerr = 3;
  left = 6;
  max = 4;
  active = true;
  halted = false;
  babble = false;
  xact_err = false;
  missed = false;
  waiting = false;
}

abbrev pub ask_of : Split → Pid → Speed → EpKind → Ask
ask_of split pid speed kind = record {
  split = split;
  pid = pid;
  addr = 3;
  ep = 1;
  speed = speed;
  kind = kind;
  toggle = Packets.Data0;
  limit = 4;
}

-- a plain ask of a high-speed bulk endpoint
abbrev pub bulk : Pid → Ask
bulk pid = ask_of Plain pid High Bulk

-- the two halves of an ask behind port 1 of hub 9
abbrev pub start : Pid → EpKind → Ask
start pid kind = ask_of (Start 9 1 Parts.All) pid Full kind

abbrev pub complete : Pid → EpKind → Ask
complete pid kind = ask_of (Complete 9 1) pid Full kind

-- the outcome of an ask that sent four bytes, and the host's side after it
abbrev pub comes_to : Ask → Reply → HostSide → Outcome × HostSide
comes_to ask reply before = (outcome_of ask 4 false reply before, settled ask 4 false reply before)

-- the same where this is the last complete-split
abbrev pub comes_last : Ask → Reply → HostSide → Outcome × HostSide
comes_last ask reply before = (outcome_of ask 4 true reply before, settled ask 4 true reply before)

abbrev pub four : List ℕ
four = 1 ∷ 2 ∷ 3 ∷ 4 ∷ []

abbrev pub five : List ℕ
five = 0 ∷ four
