-- The closed endpoints of the devices stay as they are, whatever they sent or took before (USB 2.0, 8.6): no event of the controller asks them, where no queue head that the walk may meet does.
--     AreElsewhere closed member ends parts      none of these queue heads asks one of these endpoints
--     AsideSendersWait           so at each event of the controller each of them has the packets and the toggle that it had
--     AsideTakersWait            and where none sends to them, each has taken just what it had, and expects the same toggle
use Rattle.std.specs.Prelude.{◌≡◌, ℕ, Bool, true, false, List, Option, Some}
use Rattle.usb_base.specs.declared.packets.Ask.{Ask}
use Rattle.usb_base.specs.declared.packets.Reply.{Reply}
use Rattle.hc_core.specs.Controller.{Content}
use Rattle.law_structures.specs.lent_structures.Structures.{StructureSets}
use Rattle.law_ring.specs.Hand.{Hand}
use Rattle.claims_base.specs.Controller.{Base}
use Rattle.law_ring.specs.Told.{Endpoint}
use Rattle.law_controller.specs.controlled_streams.Control.{IsControlled, ControlEffect}
use Rattle.law_ring.specs.Bus.{Sender, IsBus, KeepsSenders}
use Rattle.law_ring.specs.Pipes.{IsElsewhere}
use Rattle.law_ring.specs.OutBus.{Taker, IsOutBus, KeepsTakers}
use Rattle.law_world.specs.steps.Outs.{AreAside}

abbrev pub AreElsewhere : (ℕ → ℕ → Bool) → (ℕ → Bool) → (ℕ → Endpoint) → StructureSets → Type 0
AreElsewhere closed member ends parts = (n : ℕ) → member n ≡ true → IsElsewhere closed parts n (ends n)

abbrev pub AsideSendersWait : {W : Type 0} → (W → ℕ → Bool → W → Type 0) → (W → Ask → List ℕ → Reply → W → Type 0) → Type 0
AsideSendersWait {W} begins transacts = (closed : ℕ → ℕ → Bool) (sender : W → ℕ → ℕ → Option Sender) (base : Base) (member : ℕ → Bool) (ends : ℕ → Endpoint) (parts : StructureSets) (hand : Hand)
    (c : Content) (wire after : W) (now : StructureSets) (later : Hand) → IsBus transacts closed sender → KeepsSenders begins closed sender → IsControlled base member parts hand c
    → AreElsewhere closed member ends parts → ControlEffect begins transacts parts hand wire after now later
    → (addr ep : ℕ) (s : Sender) → closed addr ep ≡ true → sender wire addr ep ≡ Some s → sender after addr ep ≡ Some s

abbrev pub AsideTakersWait : {W : Type 0} → (W → ℕ → Bool → W → Type 0) → (W → Ask → List ℕ → Reply → W → Type 0) → Type 0
AsideTakersWait {W} begins transacts = (closed : ℕ → ℕ → Bool) (taker : W → ℕ → ℕ → Option Taker) (base : Base) (member : ℕ → Bool) (ends : ℕ → Endpoint) (parts : StructureSets) (hand : Hand)
    (c : Content) (wire after : W) (now : StructureSets) (later : Hand) → IsOutBus transacts closed taker → KeepsTakers begins closed taker → IsControlled base member parts hand c
    → AreAside closed member (λ n. false) ends parts → ControlEffect begins transacts parts hand wire after now later
    → (addr ep : ℕ) (t : Taker) → closed addr ep ≡ true → taker wire addr ep ≡ Some t → taker after addr ep ≡ Some t
