-- The price of a transaction on the host's bus, in picoseconds (USB 2.0, 5.11.3).
use Rattle.std.specs.Prelude.{ℕ, List, length, min}
use Rattle.usb_base.specs.Cost.{bus_time}
use Rattle.usb_base.specs.declared.packets.EpKind.{EpKind}
use Rattle.usb_base.specs.declared.packets.EpKind.TheVariants.{Iso}
use Rattle.usb_base.specs.declared.packets.Pid.{Pid}
use Rattle.usb_base.specs.declared.packets.Pid.TheVariants.{In, Setup, Ping}
use Rattle.usb_base.specs.declared.packets.Speed.{Speed}
use Rattle.usb_base.specs.declared.packets.Speed.TheVariants.{High}
use Rattle.usb_base.specs.declared.packets.Split.{Split}
use Rattle.usb_base.specs.declared.packets.Split.TheVariants.{Plain, Start, Complete}
use Rattle.usb_base.specs.Limits.{byte_times_of_microframe}
use Rattle.toggle_error.specs.declared.host.HostSide.{HostSide}
use Rattle.transactions.specs.declared.pipe.Pipe.{Pipe}
use Rattle.transactions.specs.Asks.{pinged, token_pid, dir_of}

-- the number of bytes that a transaction is priced at, by its split, token, kind, maximum packet size and the number
-- of bytes that it sends
abbrev pub priced_bytes : Split → Pid → EpKind → ℕ → ℕ → ℕ
priced_bytes Plain In _ max _ = max
priced_bytes Plain Ping _ _ _ = 0
priced_bytes Plain Setup _ _ _ = 8
priced_bytes Plain _ _ _ out = out
priced_bytes (Start _ _ _) In _ _ _ = 0
priced_bytes (Start _ _ _) Ping _ _ _ = 0
priced_bytes (Start _ _ _) _ _ _ out = out
priced_bytes (Complete _ _) In Iso max _ = min max byte_times_of_microframe
priced_bytes (Complete _ _) In _ max _ = max
priced_bytes (Complete _ _) _ _ _ _ = 0

-- a split transaction runs on the host's high-speed bus
abbrev pub priced_speed : Split → Speed → Speed
priced_speed Plain speed = speed
priced_speed _ _ = High

-- the price of a transaction that sends this number of bytes
abbrev pub price_at : Split → Pipe → HostSide → ℕ → ℕ
price_at split pipe host n =
    let pid : Pid = token_pid split pipe.pid (pinged pipe.kind host.ping) in
    bus_time (priced_speed split pipe.speed) pipe.kind (dir_of pid) (priced_bytes split pid pipe.kind host.max n)

abbrev pub price_of : Split → Pipe → HostSide → List ℕ → ℕ
price_of split pipe host out = price_at split pipe host (length out)
