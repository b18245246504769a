-- Pipes and a host's side for worked rows.
use Rattle.std.specs.Prelude.{ℕ, true, false, List, [], ◌∷◌}
use Rattle.usb_base.specs.declared.packets.Ask.{Ask}
use Rattle.usb_base.specs.declared.packets.EpKind.{EpKind}
use Rattle.usb_base.specs.declared.packets.DataPart.TheVariants as Parts
use Rattle.usb_base.specs.declared.packets.Pid.{Pid}
use Rattle.usb_base.specs.declared.packets.Speed.{Speed}
use Rattle.usb_base.specs.declared.packets.Speed.TheVariants.{Full, High}
use Rattle.usb_base.specs.declared.packets.Split.{Split}
use Rattle.toggle_error.specs.declared.host.HostSide.{HostSide}
use Rattle.transactions.specs.declared.pipe.Pipe.{Pipe}

-- 1,000 bytes are left in packets of at most `max`, and DATA0 comes next
abbrev pub host_of : ℕ → HostSide
host_of max = record {
  toggle = false;
  ping = false;
  cerr = 3;
  left = 1000;
  max = max;
  active = true;
  halted = false;
  babble = false;
  xact_err = false;
  missed = false;
  waiting = false;
}

-- an endpoint behind port 2 of hub 9, where it is split
abbrev pub worked_pipe : Pid → Speed → EpKind → Pipe
worked_pipe pid speed kind = record {
  addr = 3;
  ep = 1;
  speed = speed;
  kind = kind;
  pid = pid;
  hub = 9;
  port = 2;
  part = Parts.All;
}

abbrev pub high : Pid → EpKind → Pipe
high pid kind = worked_pipe pid High kind

abbrev pub full : Pid → EpKind → Pipe
full pid kind = worked_pipe pid Full kind

abbrev pub eight : List ℕ
eight = 0 ∷ 1 ∷ 2 ∷ 3 ∷ 4 ∷ 5 ∷ 6 ∷ 7 ∷ []

-- the ask of such an endpoint
abbrev pub asked : Split → Pid → Pid → Speed → EpKind → ℕ → Ask
asked split pid toggle speed kind limit = record {
  split = split;
  pid = pid;
  addr = 3;
  ep = 1;
  speed = speed;
  kind = kind;
  toggle = toggle;
  limit = limit;
}
