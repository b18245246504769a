-- What the host asks in a transaction of a pipe (EHCI 1.0, 4.11 and 4.12; USB 2.0, 8.5).
use Rattle.std.specs.Prelude.{ℕ, Bool, true, false, List, []}
use Rattle.usb_base.specs.declared.packets.Ask.{Ask}
use Rattle.usb_base.specs.declared.packets.Dir.{Dir}
use Rattle.usb_base.specs.declared.packets.Dir.TheVariants as Directions
use Rattle.usb_base.specs.declared.packets.EpKind.{EpKind}
use Rattle.usb_base.specs.declared.packets.EpKind.TheVariants.{Iso}
use Rattle.usb_base.specs.declared.packets.Pid.{Pid}
use Rattle.usb_base.specs.declared.packets.Pid.TheVariants.{In, Out, Ping}
use Rattle.usb_base.specs.declared.packets.Split.{Split}
use Rattle.usb_base.specs.declared.packets.Split.TheVariants.{Plain, Start, Complete}
use Rattle.toggle_error.specs.declared.host.HostSide.{HostSide}
use Rattle.toggle_error.specs.Columns.{expected_pid, limit_of}
use Rattle.transactions.specs.declared.pipe.Pipe.{Pipe}

-- The token of an OUT in this ping state, which an isochronous endpoint hasn't (USB 2.0, 8.5.1). The state alone decides; for which
-- endpoints an answer sets it is `out_token` of toggle_error.
abbrev pub pinged : EpKind → Bool → Pid
pinged Iso _ = Out
pinged _ true = Ping
pinged _ false = Out

-- the token that goes out: only a plain OUT is pinged
abbrev pub token_pid : Split → Pid → Pid → Pid
token_pid Plain Out out = out
token_pid _ pid _ = pid

abbrev pub dir_of : Pid → Dir
dir_of In = Directions.In
dir_of _ = Directions.Out

-- the two halves of a split transaction
abbrev pub start_split : Pipe → Split
start_split pipe = Start pipe.hub pipe.port pipe.part

abbrev pub complete_split : Pipe → Split
complete_split pipe = Complete pipe.hub pipe.port

abbrev pub ask_of : Split → Pipe → HostSide → Ask
ask_of split pipe host = record {
  split = split;
  pid = token_pid split pipe.pid (pinged pipe.kind host.ping);
  addr = pipe.addr;
  ep = pipe.ep;
  speed = pipe.speed;
  kind = pipe.kind;
  toggle = expected_pid host.toggle;
  limit = limit_of host;
}

-- an isochronous transaction has the PID that the host gives it (EHCI 1.0, 4.7)
abbrev pub iso_ask : Split → Pipe → HostSide → Pid → Ask
iso_ask split pipe host toggle = record (ask_of split pipe host) { toggle = toggle }

-- the bytes that go out with a token: none with an IN, a PING or a complete-split
abbrev pub sends : Split → Pid → List ℕ → List ℕ
sends (Complete _ _) _ _ = []
sends _ In _ = []
sends _ Ping _ = []
sends _ _ out = out
