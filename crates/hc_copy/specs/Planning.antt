-- The transaction that comes next for a queue head whose overlay is active (EHCI 1.0, 3.6.2, 4.10.3, 4.11 and 4.12).
use Rattle.std.specs.Prelude.{◌≢◌, ℕ, ◌<◌, ◌≤◌, Bool, true, false, not, ◌==◌, if◌then◌else◌}
use Rattle.usb_base.specs.declared.packets.EpKind.{EpKind}
use Rattle.usb_base.specs.declared.packets.EpKind.TheVariants.{Iso}
use Rattle.usb_base.specs.declared.packets.DataPart.TheVariants as parts
use Rattle.usb_base.specs.declared.packets.Pid.{Pid}
use Rattle.usb_base.specs.declared.packets.Pid.TheVariants.{In, Out, Setup}
use Rattle.usb_base.specs.declared.packets.Speed.{Speed}
use Rattle.usb_base.specs.declared.packets.Speed.TheVariants.{Full, Low, High}
use Rattle.usb_base.specs.declared.packets.Split.{Split}
use Rattle.usb_base.specs.declared.packets.Split.TheVariants.{Plain, Start}
use Rattle.usb_base.specs.Limits.{longest_qtd}
use Rattle.qh_qtd.specs.declared.queue_head.Qh.{Qh}
use Rattle.toggle_error.specs.declared.host.HostSide.{HostSide}
use Rattle.toggle_error.specs.Columns.{limit_of}
use Rattle.transactions.specs.declared.pipe.Pipe.{Pipe}
use Rattle.transactions.specs.Asks.{start_split, complete_split}
use Rattle.transactions.specs.Prices.{price_at}
use Rattle.hc_host_side.specs.HostToken.{host_at}
use Rattle.hc_copy.specs.declared.held.Transaction.{Transaction}

-- ---- the endpoint

-- the PID code of a token: 0 is OUT, 1 IN, 2 SETUP (3.5.3)
abbrev pub pid_at : ℕ → Pid
pid_at code = if code == 0 then Out else if code == 1 then In else Setup

-- the endpoint speed: 0 is full, 1 low, 2 high (3.6.2)
abbrev pub speed_at : ℕ → Speed
speed_at eps = if eps == 0 then Full else if eps == 1 then Low else High

-- the endpoint of a queue head; of which kind it is, its schedule tells
abbrev pub queue_pipe : EpKind → Qh → Pipe
queue_pipe kind q = record {
  addr = q.addr;
  ep = q.ep;
  speed = speed_at q.eps;
  kind = kind;
  pid = pid_at q.token.pid;
  hub = q.hub;
  port = q.port;
  part = parts.All;
}

abbrev pub host_in : Qh → HostSide
host_in q = host_at q.token q.max

-- ---- whether it is split (4.12)

-- by whether the endpoint is high speed, and whether the split state is Do-Complete
abbrev pub split_at : Bool → Bool → Pipe → Split
split_at true _ pipe = Plain
split_at false false pipe = start_split pipe
split_at false true pipe = complete_split pipe

-- ---- what goes out with it

-- an OUT or a SETUP carries data, but not a PING and not a complete-split
abbrev pub carries : Split → Pid → Bool → Bool
carries Plain Out ping = not ping
carries Plain Setup _ = true
carries (Start _ _ _) Out _ = true
carries (Start _ _ _) Setup _ = true
carries _ _ _ = false

abbrev pub bytes_out : Split → Pid → HostSide → ℕ
bytes_out split pid host = if carries split pid host.ping then limit_of host else 0

abbrev pub transaction_at : Split → Pipe → HostSide → Transaction
transaction_at split pipe host = record {
  split = split;
  pipe = pipe;
  host = host;
  bytes = bytes_out split pipe.pid host;
  price = record { 0 = price_at split pipe host (bytes_out split pipe.pid host) };
}

abbrev pub transaction_of : EpKind → Qh → Transaction
transaction_of kind q =
    let pipe : Pipe = queue_pipe kind q in
    transaction_at (split_at (q.eps == 2) q.token.split_state pipe) pipe (host_in q)

-- it can be made: its numbers are in their ranges
pub record CanBeMade (t : Transaction) : Type 0 where
  pub kind : t.pipe.kind ≢ Iso
  pub max : t.host.max ≤ 1024
  pub errors : t.host.cerr < 4
  pub left : t.host.left ≤ longest_qtd
  pub size : t.bytes ≤ 1024
  pub within : t.bytes ≤ t.host.left
