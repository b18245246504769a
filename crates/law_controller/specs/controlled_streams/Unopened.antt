-- The devices' endpoints that no queue head asks yet (USB 2.0, 8.6): each has all its packets, and sends the first with DATA0.
--     IsUntouched packets o        the sender is there, with all these packets and the first toggle
--     IsUnopened streams ends addr ep      no queue head with a stream is that of this endpoint
--     AreUnopened ..               each endpoint of the streams for which that is so is untouched
--     UnopenedSendersWait                 the law
use Rattle.std.specs.Prelude.{◌≡◌, ℕ, Bool, true, false, List, Option, Some}
use Rattle.usb_base.specs.declared.packets.Ask.{Ask}
use Rattle.usb_base.specs.declared.packets.Reply.{Reply}
use Rattle.hc_core.specs.Controller.{Content}
use Rattle.law_structures.specs.lent_structures.Structures.{StructureSets}
use Rattle.law_ring.specs.Hand.{Hand}
use Rattle.claims_base.specs.Controller.{Base}
use Rattle.law_ring.specs.Told.{Endpoint}
use Rattle.law_controller.specs.controlled_streams.Control.{IsControlled, ControlEffect}
use Rattle.law_ring.specs.Bus.{Sender, IsBus, KeepsSenders}
use Rattle.law_ring.specs.Pipes.{ArePiped}

pub record IsUntouched (packets : List (List ℕ)) (o : Option Sender) : Type 0 where
  pub sender : Sender
  pub is : o ≡ Some sender
  pub left : sender.left ≡ packets
  pub sends : sender.sends ≡ false

abbrev pub IsUnopened : (ℕ → Bool) → (ℕ → Endpoint) → ℕ → ℕ → Type 0
IsUnopened streams endpoint addr ep = (n : ℕ) → streams n ≡ true → (endpoint n).addr ≡ addr → (endpoint n).ep ≡ ep → ⊥

abbrev pub AreUnopened : {W : Type 0} → (ℕ → ℕ → Bool) → (ℕ → ℕ → List (List ℕ)) → (W → ℕ → ℕ → Option Sender) → (ℕ → Bool) → (ℕ → Endpoint) → W → Type 0
AreUnopened {W} stream packets sender streams endpoint wire = (addr ep : ℕ) → stream addr ep ≡ true → IsUnopened streams endpoint addr ep → IsUntouched (packets addr ep) (sender wire addr ep)

-- no event of the controller asks one of them
abbrev pub UnopenedSendersWait : {W : Type 0} → (W → ℕ → Bool → W → Type 0) → (W → Ask → List ℕ → Reply → W → Type 0) → Type 0
UnopenedSendersWait {W} begins transacts = (stream : ℕ → ℕ → Bool) (packets : ℕ → ℕ → List (List ℕ)) (sender : W → ℕ → ℕ → Option Sender) (base : Base) (member streams : ℕ → Bool) (endpoint : ℕ → Endpoint)
    (acc : ℕ → List (List ℕ)) (parts : StructureSets) (hand : Hand) (c : Content) (wire after : W) (now : StructureSets) (later : Hand)
    → IsBus transacts stream sender → KeepsSenders begins stream sender → IsControlled base member parts hand c
    → ArePiped stream packets sender member streams endpoint acc parts hand wire → ControlEffect begins transacts parts hand wire after now later
    → AreUnopened stream packets sender streams endpoint wire → AreUnopened stream packets sender streams endpoint after
