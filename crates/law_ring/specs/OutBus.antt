-- A bus with devices that take streams of bytes from the host, each over an endpoint of its own (USB 2.0, 8.5 and 8.6). A device takes data of the
-- toggle that it expects, or refuses them; it drops data of the other one, which it took before. The bus may lose each packet and each handshake.
--     Taker                   the bytes that a device took, and the toggle that it expects
--     is_acknowledgement      the handshakes by which a device says that it has the data
--     Takes ask out s reply t what an OUT does to a taker, and what the host hears
--     IsOutAsk stream ask     an OUT that is asked of one of these endpoints; a PING is none
--     IsOutBus ..             so a wire answers, and a taker that isn't asked stays as it is
--     KeepsTakers ..          where a microframe begins, no taker goes on
use Rattle.std.specs.Prelude.{◌≡◌, ◌≢◌, ℕ, Bool, true, false, not, List, ◌++◌, Option, Some}
use Rattle.usb_base.specs.declared.packets.Ask.{Ask}
use Rattle.usb_base.specs.declared.packets.Pid.{Pid}
use Rattle.usb_base.specs.declared.packets.Pid.TheVariants as pids
use Rattle.usb_base.specs.declared.packets.Reply.{Reply}
use Rattle.usb_base.specs.declared.packets.Reply.TheVariants.{Silent, Bytes, Hand}
use Rattle.usb_base.specs.declared.packets.Split.TheVariants.{Plain}
use Rattle.toggle_error.specs.Columns.{expected_pid}

pub record Taker : Type 0 where
  pub taken : List ℕ
  pub expects : Bool

abbrev pub is_acknowledging : Pid → Bool
is_acknowledging pids.Ack = true
is_acknowledging pids.Nyet = true
is_acknowledging _ = false

abbrev pub is_acknowledgement : Reply → Bool
is_acknowledgement (Hand pid) = is_acknowledging pid
is_acknowledgement (Bytes pid bytes) = false
is_acknowledgement Silent = false

abbrev pub took : List ℕ → Taker → Taker
took out s = record { taken = s.taken ++ out; expects = not s.expects }

-- whatever it does, its handshake may be lost; one that has nothing of the data says so or is silent
pub data Takes (ask : Ask) (out : List ℕ) (s : Taker) : Reply → Taker → Type 0 where
  nothing_taken : (reply : Reply) → is_acknowledgement reply ≡ false → Takes ask out s reply s
  all_taken : (reply : Reply) → ask.toggle ≡ expected_pid s.expects → Takes ask out s reply (took out s)
  all_dropped : (reply : Reply) → ask.toggle ≢ expected_pid s.expects → Takes ask out s reply s

pub record HasTaken (ask : Ask) (out : List ℕ) (s : Taker) (reply : Reply) (o : Option Taker) : Type 0 where
  pub taker : Taker
  pub is : o ≡ Some taker
  pub takes : Takes ask out s reply taker

pub record IsOutAsk (stream : ℕ → ℕ → Bool) (ask : Ask) : Type 0 where
  pub plain : ask.split ≡ Plain
  pub token : ask.pid ≡ pids.Out
  pub on : stream ask.addr ask.ep ≡ true

pub record IsOutBus {W : Type 0} (transacts : W → Ask → List ℕ → Reply → W → Type 0) (stream : ℕ → ℕ → Bool) (taker : W → ℕ → ℕ → Option Taker) : Type 0 where
  pub asked : (wire : W) (ask : Ask) (out : List ℕ) (reply : Reply) (after : W) (s : Taker) → transacts wire ask out reply after → IsOutAsk stream ask
      → taker wire ask.addr ask.ep ≡ Some s → HasTaken ask out s reply (taker after ask.addr ask.ep)
  pub others : (wire : W) (ask : Ask) (out : List ℕ) (reply : Reply) (after : W) (addr ep : ℕ) (s : Taker) → transacts wire ask out reply after → stream addr ep ≡ true
      → taker wire addr ep ≡ Some s → (IsOutAsk stream ask → (addr ≡ ask.addr) × (ep ≡ ask.ep) → ⊥) → taker after addr ep ≡ Some s

-- where a microframe begins, no taker goes on
abbrev pub KeepsTakers : {W : Type 0} → (W → ℕ → Bool → W → Type 0) → (ℕ → ℕ → Bool) → (W → ℕ → ℕ → Option Taker) → Type 0
KeepsTakers {W} begins stream taker = (wire : W) (index : ℕ) (allowed : Bool) (after : W) (addr ep : ℕ) (s : Taker) → begins wire index allowed after
    → stream addr ep ≡ true → taker wire addr ep ≡ Some s → taker after addr ep ≡ Some s
