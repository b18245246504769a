-- A bus with control endpoints (USB 2.0, 8.5.3 and 8.6): each answers by its stage, and packets are lost in any way.
--     device_of e c              that of an endpoint
--     IsAnswered ..              a transaction with it: who heard what, by the packets lost, what the host hears, and what the device is left as
--     IsControlBus ..            so a wire answers, and a control endpoint that isn't asked stays as it is
--     KeepsDevices ..            where a microframe begins, no control endpoint goes on
use Rattle.std.specs.Prelude.{◌≡◌, ◌≢◌, ℕ, Bool, List, Option, Some}
use Rattle.usb_base.specs.declared.packets.Ask.{Ask}
use Rattle.usb_base.specs.declared.packets.Reply.{Reply}
use Rattle.usb_base.specs.declared.packets.Split.TheVariants.{Plain}
use Rattle.dev_control.specs.declared.rows.StageToken.TheVariants.{Other}
use Rattle.dev_control.specs.Stages.{Stages, token_of}
use Rattle.bus_wire.specs.declared.asked.Losses.{Losses}
use Rattle.bus_wire.specs.Asking.{row_for}
use Rattle.bus_wire.specs.WhoHeard.{asker_hears}
use Rattle.law_request.specs.Host.{Endpoint}
use Rattle.law_request.specs.Line.{answer_of, device_after}
use Rattle.claims_report.specs.ControlSides.{Device}

abbrev pub device_of : Endpoint → Stages → Device
device_of e c = record { known = e.known; stages = c }

pub record IsAnswered (e : Endpoint) (ask : Ask) (out : List ℕ) (c : Stages) (reply : Reply) (o : Option Device) : Type 0 where
  pub losses : Losses
  pub heard : reply ≡ asker_hears (row_for losses ask (answer_of e ask out c)) (answer_of e ask out c)
  pub left : o ≡ Some (device_of e (device_after e (row_for losses ask (answer_of e ask out c)) ask out c))

-- an ask for the control endpoint of this address and number
pub record IsAskFor (addr num : ℕ) (ask : Ask) : Type 0 where
  pub plain : ask.split ≡ Plain
  pub token : token_of ask.pid ≢ Other
  pub address : addr ≡ ask.addr
  pub number : num ≡ ask.ep

pub record IsControlBus {W : Type 0} (transacts : W → Ask → List ℕ → Reply → W → Type 0) (device : W → ℕ → ℕ → Option Device) : Type 0 where
  pub asked : (wire : W) (ask : Ask) (out : List ℕ) (reply : Reply) (after : W) (e : Endpoint) (c : Stages) → transacts wire ask out reply after → IsAskFor e.addr e.num ask
      → device wire e.addr e.num ≡ Some (device_of e c) → IsAnswered e ask out c reply (device after e.addr e.num)
  pub others : (wire : W) (ask : Ask) (out : List ℕ) (reply : Reply) (after : W) (addr num : ℕ) (d : Device) → transacts wire ask out reply after
      → device wire addr num ≡ Some d → (IsAskFor addr num ask → ⊥) → device after addr num ≡ Some d

abbrev pub KeepsDevices : {W : Type 0} → (W → ℕ → Bool → W → Type 0) → (W → ℕ → ℕ → Option Device) → Type 0
KeepsDevices {W} begins device = (wire : W) (index : ℕ) (allowed : Bool) (after : W) (addr num : ℕ) (d : Device) → begins wire index allowed after
    → device wire addr num ≡ Some d → device after addr num ≡ Some d
