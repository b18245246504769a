-- The host of a control endpoint: a request is three qTDs, its SETUP, its data and its status (USB 2.0, 8.5.3; EHCI 1.0, 4.10).
--     Host                       the stage, the host's side of the qTD that it is at, and the bytes of the data stage
--     host_at r max ping         a request before its SETUP
--     call_at e r h              what goes onto the bus in its next transaction
--     heard_by r call reply h    what its reply leaves
use Rattle.std.specs.Prelude.{ℕ, ◌==◌, Bool, true, false, ◌&&◌, not, List, [], ◌++◌, length, take, drop, Option, if◌then◌else◌}
use Rattle.usb_base.specs.declared.endpoints.EndCause.{EndCause}
use Rattle.usb_base.specs.declared.packets.EpKind.TheVariants.{Control}
use Rattle.usb_base.specs.declared.packets.DataPart.TheVariants.{All}
use Rattle.usb_base.specs.declared.packets.Pid.{Pid}
use Rattle.usb_base.specs.declared.packets.Pid.TheVariants as Pids
use Rattle.usb_base.specs.declared.packets.Reply.{Reply}
use Rattle.usb_base.specs.declared.packets.Reply.TheVariants.{Bytes}
use Rattle.usb_base.specs.declared.packets.Speed.TheVariants.{High}
use Rattle.dev_control.specs.Stages.{is_read, wanted_of}
use Rattle.toggle_error.specs.declared.host.HostSide.{HostSide}
use Rattle.toggle_error.specs.declared.host.Outcome.{Outcome}
use Rattle.toggle_error.specs.declared.host.Outcome.TheVariants.{Moved, Halt}
use Rattle.toggle_error.specs.Columns.{limit_of}
use Rattle.toggle_error.specs.Settle.{outcome_of, settled}
use Rattle.transactions.specs.declared.pipe.Pipe.{Pipe}
use Rattle.transactions.specs.Calls.{Call, high_call}
use Rattle.claims_report.specs.Requests.{Request}

-- what never changes of the endpoint
pub record Endpoint : Type 0 where
  pub addr : ℕ
  pub num : ℕ
  pub max : ℕ  -- the maximum packet size in bytes
  pub known : List ℕ → Option (List ℕ)  -- the device's reply to a request with these setup bytes, if it has one

-- the qTD that the host is at, or how the request ended
pub data Stage : Type 0 where
  Setup : Stage
  Data : Stage
  Status : Stage
  Done : Stage
  Halted : EndCause → Stage

pub record Host : Type 0 where
  pub stage : Stage
  pub side : HostSide
  pub moved : List ℕ  -- the bytes of the data stage that were received, or acknowledged

abbrev pub is_over : Stage → Bool
is_over Done = true
is_over (Halted cause) = true
is_over _ = false

-- ---- the three qTDs

-- a request whose wLength is 0 has no data stage
abbrev pub has_data : Request → Bool
has_data r = not (wanted_of r.setup == 0)

-- a read's data stage is an IN
abbrev pub data_token : Bool → Pid
data_token true = Pids.In
data_token false = Pids.Out

-- the status goes the other way, and is an IN where there is no data stage
abbrev pub status_token : Bool → Pid
status_token true = Pids.Out
status_token false = Pids.In

abbrev pub token_at : Request → Stage → Pid
token_at r Setup = Pids.Setup
token_at r Data = data_token (is_read r.setup)
token_at r _ = status_token (has_data r && is_read r.setup)

-- a qTD as the driver writes it: three errors are counted, and the toggle is its own; the ping state stays that of the queue head
abbrev pub begun_side : Bool → ℕ → ℕ → Bool → HostSide
begun_side toggle left max ping = record {
  toggle = toggle;
  ping = ping;
  cerr = 3;
  left = left;
  max = max;
  active = true;
  halted = false;
  babble = false;
  xact_err = false;
  missed = false;
  waiting = false;
}

-- the SETUP has DATA0; the first data packet and the status have DATA1
abbrev pub side_at : Request → ℕ → Bool → Stage → HostSide
side_at r max ping Setup = begun_side false 8 max ping
side_at r max ping Data = begun_side true (wanted_of r.setup) max ping
side_at r max ping _ = begun_side true 0 max ping

-- After the SETUP come the data, if there are any. After the data, also where a short packet ended them, comes the status.
abbrev pub next_stage : Request → Stage → Stage
next_stage r Setup = if has_data r then Data else Status
next_stage r Data = Status
next_stage r _ = Done

abbrev pub host_in : Request → ℕ → Bool → Stage → List ℕ → Host
host_in r max ping stage moved = record { stage = stage; side = side_at r max ping stage; moved = moved }

abbrev pub host_at : Request → ℕ → Bool → Host
host_at r max ping = host_in r max ping Setup []

-- ---- a transaction

abbrev pub endpoint_pipe : Endpoint → Pid → Pipe
endpoint_pipe e pid = record { addr = e.addr; ep = e.num; speed = High; kind = Control; pid = pid; hub = 0; port = 0; part = All }

-- the bytes of the next data packet of a write
abbrev pub next_bytes : Request → Host → List ℕ
next_bytes r h = take (limit_of h.side) (drop (length h.moved) r.bytes)

abbrev pub data_bytes : Bool → Request → Host → List ℕ
data_bytes true r h = []
data_bytes false r h = next_bytes r h

abbrev pub bytes_at : Request → Stage → Host → List ℕ
bytes_at r Setup h = r.setup
bytes_at r Data h = data_bytes (is_read r.setup) r h
bytes_at r _ h = []

abbrev pub call_at : Endpoint → Request → Host → Call
call_at e r h = high_call (endpoint_pipe e (token_at r h.stage)) h.side (bytes_at r h.stage h)

-- ---- what a reply leaves

-- the bytes that moved: those received, or those sent and acknowledged
abbrev pub got_with : Reply → List ℕ → List ℕ
got_with (Bytes pid bytes) out = bytes
got_with _ out = out

abbrev pub moved_at : Stage → List ℕ → List ℕ → List ℕ
moved_at Data moved got = moved ++ got
moved_at _ moved got = moved

-- after bytes moved the qTD goes on, or the next one begins
abbrev pub goes_on : Request → Bool → HostSide → List ℕ → Host → Host
goes_on r true side moved h = record { stage = h.stage; side = side; moved = moved }
goes_on r false side moved h = host_in r side.max side.ping (next_stage r h.stage) moved

abbrev pub settled_by : Request → Outcome → HostSide → List ℕ → Host → Host
settled_by r (Moved n) side got h = goes_on r side.active side (moved_at h.stage h.moved got) h
settled_by r (Halt cause) side got h = record { stage = Halted cause; side = side; moved = h.moved }
settled_by r _ side got h = record { stage = h.stage; side = side; moved = h.moved }

abbrev pub heard_by : Request → Call → Reply → Host → Host
heard_by r call reply h =
    settled_by r (outcome_of call.ask call.sent false reply h.side) (settled call.ask call.sent false reply h.side) (got_with reply call.out) h
