-- One transaction on a wire, settled (EHCI 1.0, 4.10 and 4.12; USB 2.0, 8.5).
use Rattle.std.specs.Prelude.{◌≡◌, ℕ, Bool, false, List, [], length}
use Rattle.usb_base.specs.declared.packets.Ask.{Ask}
use Rattle.usb_base.specs.declared.packets.Pid.{Pid}
use Rattle.usb_base.specs.declared.packets.Pid.TheVariants as Packets
use Rattle.usb_base.specs.declared.packets.Reply.{Reply}
use Rattle.usb_base.specs.declared.packets.Reply.TheVariants.{Bytes}
use Rattle.usb_base.specs.declared.packets.Split.{Split}
use Rattle.usb_base.specs.declared.packets.Split.TheVariants.{Plain, Complete}
use Rattle.toggle_error.specs.declared.host.HostSide.{HostSide}
use Rattle.toggle_error.specs.declared.host.Outcome.{Outcome}
use Rattle.toggle_error.specs.declared.host.Outcome.TheVariants.{Moved}
use Rattle.toggle_error.specs.Columns.{limit_of}
use Rattle.toggle_error.specs.Settle.{outcome_of, settled}
use Rattle.transactions.specs.declared.pipe.Pipe.{Pipe}
use Rattle.transactions.specs.declared.pipe.IsoResult.{IsoResult}
use Rattle.transactions.specs.declared.pipe.Result3.{Result3}
use Rattle.transactions.specs.Asks.{start_split, complete_split, ask_of, sends}

-- what goes onto the wire, and how its reply is settled
pub record Call : Type 0 where
  pub ask : Ask
  pub out : List ℕ  -- the bytes that go out
  pub sent : ℕ  -- the number of bytes that an acknowledgement moves
  pub last : Bool  -- the last complete-split of its frame

abbrev pub sending_call : Ask → List ℕ → Call
sending_call ask out = record { ask = ask; out = sends ask.split ask.pid out; sent = length out; last = false }

-- a plain transaction that sends these bytes
abbrev pub high_call : Pipe → HostSide → List ℕ → Call
high_call pipe host out = sending_call (ask_of Plain pipe host) out

-- a start-split that sends these bytes
abbrev pub start_call : Pipe → HostSide → List ℕ → Call
start_call pipe host out = sending_call (ask_of (start_split pipe) pipe host) out

-- the number of bytes that the start-split of an OUT or SETUP sent
abbrev pub complete_sent : Pid → HostSide → ℕ
complete_sent Packets.Out host = limit_of host
complete_sent Packets.Setup host = limit_of host
complete_sent _ _ = 0

-- a complete-split
abbrev pub complete_call : Pipe → HostSide → Bool → Call
complete_call pipe host last = record {
  ask = ask_of (complete_split pipe) pipe host;
  out = [];
  sent = complete_sent pipe.pid host;
  last = last;
}

-- the number of bytes that an acknowledgement moves, where this number goes out with the token
abbrev pub moving_of : Split → Pid → HostSide → ℕ → ℕ
moving_of (Complete _ _) pid host _ = complete_sent pid host
moving_of _ _ _ n = n

-- a transaction that is split so and sends these bytes
abbrev pub call_of : Split → Pipe → HostSide → List ℕ → Bool → Call
call_of split pipe host out last = record {
  ask = ask_of split pipe host;
  out = sends split (ask_of split pipe host).pid out;
  sent = moving_of split pipe.pid host (length out);
  last = last;
}

-- the bytes that were received: those of an IN that moved
abbrev pub got_of : Pid → Outcome → Reply → List ℕ
got_of Packets.In (Moved _) (Bytes _ bytes) = bytes
got_of _ _ _ = []

-- exactly this call was made on the wire, once, and its reply settled
pub record Transacts {W : Type 0} (transacts : W → Ask → List ℕ → Reply → W → Type 0) (call : Call) (host : HostSide) (before after : W) (result : Result3) (new : HostSide) : Type 0 where
  pub reply : Reply
  pub made : transacts before call.ask call.out reply after
  pub outcome : result.outcome ≡ outcome_of call.ask call.sent call.last reply host
  pub settles : new ≡ settled call.ask call.sent call.last reply host
  pub got : result.got ≡ got_of call.ask.pid result.outcome reply

-- exactly this call was made on the wire, once; its reply is this one, and it was settled
pub record Exchanges {W : Type 0} (transacts : W → Ask → List ℕ → Reply → W → Type 0) (call : Call) (host : HostSide) (before after : W) (reply : Reply) (outcome : Outcome)
    (new : HostSide) : Type 0 where
  pub made : transacts before call.ask call.out reply after
  pub comes_to : outcome ≡ outcome_of call.ask call.sent call.last reply host
  pub settles : new ≡ settled call.ask call.sent call.last reply host

-- exactly this isochronous ask was made on the wire, once, and its reply handed on
abbrev pub IsoTransacts : {W : Type 0} → (W → Ask → List ℕ → Reply → W → Type 0) → Ask → List ℕ → W → W → IsoResult → Type 0
IsoTransacts transacts ask out before after result = transacts before ask (sends ask.split ask.pid out) result.reply after
