-- A bus with devices that send streams of packets to the host, each over an endpoint of its own (USB 2.0, 8.5 and 8.6). A device sends the packet
-- after those that it knows to be accepted, with the toggle of that packet, until it hears the acknowledgement; the bus may lose each packet and
-- each acknowledgement, and the device may have nothing to send now.
--     Sender                  what a device has to send: the packets that aren't known to be accepted, and the toggle of the next
--     Answers ask s reply t   what the host hears of a sender that it asks, and the sender afterwards
--     IsStreamAsk stream ask  an IN that is asked of one of these endpoints
--     IsBus ..                so a wire answers, and a sender that isn't asked stays as it is
--     KeepsSenders ..         where a microframe begins, no sender goes on
use Rattle.std.specs.Prelude.{◌≡◌, ℕ, ◌≤◌, Bool, true, false, not, List, ◌∷◌, length, Option, Some}
use Rattle.usb_base.specs.declared.packets.Ask.{Ask}
use Rattle.usb_base.specs.declared.packets.Pid.TheVariants.{In}
use Rattle.usb_base.specs.declared.packets.Reply.{Reply}
use Rattle.usb_base.specs.declared.packets.Reply.TheVariants.{Silent, Bytes, Hand}
use Rattle.usb_base.specs.declared.packets.Split.TheVariants.{Plain}
use Rattle.toggle_error.specs.Columns.{expected_pid}

pub record Sender : Type 0 where
  pub left : List (List ℕ)
  pub sends : Bool

abbrev pub is_data : Reply → Bool
is_data Silent = false
is_data (Bytes pid bytes) = true
is_data (Hand pid) = false

-- it sends nothing, or nothing of it is heard; or its packet is heard, and the acknowledgement isn't; or both are. A host doesn't acknowledge a
-- packet of the toggle that it expects if it can't take so many bytes.
pub data Answers (ask : Ask) (s : Sender) : Reply → Sender → Type 0 where
  nothing_heard : (reply : Reply) → is_data reply ≡ false → Answers ask s reply s
  unacknowledged : (x : List ℕ) (rest : List (List ℕ)) → s.left ≡ x ∷ rest → Answers ask s (Bytes (expected_pid s.sends) x) s
  acknowledged : (x : List ℕ) (rest : List (List ℕ)) → s.left ≡ x ∷ rest → (ask.toggle ≡ expected_pid s.sends → length x ≤ ask.limit)
      → Answers ask s (Bytes (expected_pid s.sends) x) (record { left = rest; sends = not s.sends })

pub record HasAnswered (ask : Ask) (s : Sender) (reply : Reply) (o : Option Sender) : Type 0 where
  pub sender : Sender
  pub is : o ≡ Some sender
  pub answers : Answers ask s reply sender

-- the endpoints with streams are told by address and number
pub record IsStreamAsk (stream : ℕ → ℕ → Bool) (ask : Ask) : Type 0 where
  pub plain : ask.split ≡ Plain
  pub token : ask.pid ≡ In
  pub on : stream ask.addr ask.ep ≡ true

pub record IsBus {W : Type 0} (transacts : W → Ask → List ℕ → Reply → W → Type 0) (stream : ℕ → ℕ → Bool) (sender : W → ℕ → ℕ → Option Sender) : Type 0 where
  pub asked : (wire : W) (ask : Ask) (out : List ℕ) (reply : Reply) (after : W) (s : Sender) → transacts wire ask out reply after → IsStreamAsk stream ask
      → sender wire ask.addr ask.ep ≡ Some s → HasAnswered ask s reply (sender after ask.addr ask.ep)
  pub others : (wire : W) (ask : Ask) (out : List ℕ) (reply : Reply) (after : W) (addr ep : ℕ) (s : Sender) → transacts wire ask out reply after → stream addr ep ≡ true
      → sender wire addr ep ≡ Some s → (IsStreamAsk stream ask → (addr ≡ ask.addr) × (ep ≡ ask.ep) → ⊥) → sender after addr ep ≡ Some s

-- where a microframe begins, no sender goes on
abbrev pub KeepsSenders : {W : Type 0} → (W → ℕ → Bool → W → Type 0) → (ℕ → ℕ → Bool) → (W → ℕ → ℕ → Option Sender) → Type 0
KeepsSenders {W} begins stream sender = (wire : W) (index : ℕ) (allowed : Bool) (after : W) (addr ep : ℕ) (s : Sender) → begins wire index allowed after
    → stream addr ep ≡ true → sender wire addr ep ≡ Some s → sender after addr ep ≡ Some s
