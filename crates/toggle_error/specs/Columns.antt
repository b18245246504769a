-- The two columns of the settle table: the ask's token, and what the host heard beside what it expects
-- (EHCI 1.0, 4.10.3 and 4.15; USB 2.0, 8.5.1 and 8.6).
use Rattle.std.specs.Prelude.{ℕ, Bool, true, false, length, min, nat_le, if◌then◌else◌}
use Rattle.usb_base.specs.declared.packets.Ask.{Ask}
use Rattle.usb_base.specs.declared.packets.EpKind.{EpKind}
use Rattle.usb_base.specs.declared.packets.EpKind.TheVariants.{Control, Bulk}
use Rattle.usb_base.specs.declared.packets.Pid.{Pid}
use Rattle.usb_base.specs.declared.packets.Pid.TheVariants as Packets
use Rattle.usb_base.specs.declared.packets.Reply.{Reply}
use Rattle.usb_base.specs.declared.packets.Reply.TheVariants.{Silent, Bytes, Hand}
use Rattle.usb_base.specs.declared.packets.Speed.{Speed}
use Rattle.usb_base.specs.declared.packets.Speed.TheVariants.{High}
use Rattle.toggle_error.specs.declared.host.HostSide.{HostSide}
use Rattle.toggle_error.specs.declared.rows.Heard.{Heard}
use Rattle.toggle_error.specs.declared.rows.Heard.TheVariants.{Fitting, Repeat, TooLong, Ack, Nak, Nyet, Stall, Err, Nothing}
use Rattle.toggle_error.specs.declared.rows.AskToken.{AskToken}
use Rattle.toggle_error.specs.declared.rows.AskToken.TheVariants.{In, Out, PingedOut, Setup, Ping, Unknown}

-- the data PID that the host sends or expects at a toggle (USB 2.0, 8.6)
abbrev pub expected_pid : Bool → Pid
expected_pid false = Packets.Data0
expected_pid true = Packets.Data1

-- the most bytes that the host can take in one packet
abbrev pub limit_of : HostSide → ℕ
limit_of host = min host.max host.left

-- The column of an OUT: of a high-speed bulk or control endpoint the host keeps the ping state (EHCI 1.0, 4.11; USB 2.0, 8.5.1). So it
-- tells which answers set that state; which token goes out in a state is `pinged` of transactions.
abbrev pub out_token : Speed → EpKind → AskToken
out_token High Bulk = PingedOut
out_token High Control = PingedOut
out_token _ _ = Out

abbrev pub token_at : Pid → AskToken → AskToken
token_at Packets.In _ = In
token_at Packets.Out out = out
token_at Packets.Setup _ = Setup
token_at Packets.Ping _ = Ping
token_at _ _ = Unknown

abbrev pub token_of : Ask → AskToken
token_of ask = token_at ask.pid (out_token ask.speed ask.kind)

-- data of the expected PID: n bytes where the host can take limit
abbrev pub fitting : ℕ → ℕ → Heard
fitting n limit = if nat_le n limit then Fitting n else TooLong

-- what a data packet is to a host with this toggle
abbrev pub heard_data : Bool → Pid → Heard → Heard
heard_data false Packets.Data0 expected = expected
heard_data true Packets.Data1 expected = expected
heard_data false Packets.Data1 _ = Repeat
heard_data true Packets.Data0 _ = Repeat
heard_data _ _ _ = Nothing

abbrev pub heard_hand : Pid → Heard
heard_hand Packets.Ack = Ack
heard_hand Packets.Nak = Nak
heard_hand Packets.Nyet = Nyet
heard_hand Packets.Stall = Stall
heard_hand Packets.Err = Err
heard_hand _ = Nothing

abbrev pub heard_of : HostSide → Reply → Heard
heard_of host Silent = Nothing
heard_of host (Bytes pid bytes) = heard_data host.toggle pid (fitting (length bytes) (limit_of host))
heard_of host (Hand pid) = heard_hand pid
