-- A controller that runs over a ring of queue heads (EHCI 1.0, 4.1, 4.6 and 4.8 to 4.10).
--     HearsBytes transacts        whatever the wire is asked, each byte that is heard is below 256
--     EventIsTold ..              an event of the controller over a ring is told, from whatever structures and copy in hand it begins
--     IsUnderWay base member c    some structures and some copy in hand are those of a ring under the controller
--     StaysUnderWay old new       where that held, it holds
--     EventsFollow old before n new after      n events of the controller follow each other, from the one content and wire to the other, and Run is 1 before each
use Rattle.std.specs.Prelude.{◌≡◌, ℕ, ◌+◌, Bool, true, List}
use Rattle.usb_base.specs.declared.packets.Ask.{Ask}
use Rattle.usb_base.specs.declared.packets.Reply.{Reply}
use Rattle.hc_core.specs.declared.controller.HcStep.{HcStep}
use Rattle.hc_core.specs.declared.controller.HcStep.TheVariants as steps
use Rattle.hc_core.specs.Controller.{Content, microframe_row, HasRow}
use Rattle.law_structures.specs.lent_structures.Structures.{StructureSets}
use Rattle.law_ring.specs.Hand.{Hand}
use Rattle.claims_base.specs.Controller.{Base}
use Rattle.law_ring.specs.Effects.{AreBytesHeard}
use Rattle.law_controller.specs.controlled_streams.Control.{IsOn, IsControlled, Controls}

abbrev pub HearsBytes : {W : Type 0} → (W → Ask → List ℕ → Reply → W → Type 0) → Type 0
HearsBytes {W} transacts = (before after : W) → AreBytesHeard transacts before after

abbrev pub EventIsTold : {W : Type 0} → (W → ℕ → Bool → W → Type 0) → (W → Ask → List ℕ → Reply → W → Type 0) → Content → W → Content → W → Type 0
EventIsTold begins transacts old before new after = (base : Base) (member : ℕ → Bool) (parts : StructureSets) (hand : Hand) → IsOn base → AreBytesHeard transacts before after
    → IsControlled base member parts hand old → Controls begins transacts base member parts hand before after new

pub record IsUnderWay (base : Base) (member : ℕ → Bool) (c : Content) : Type 0 where
  pub parts : StructureSets
  pub hand : Hand
  pub controlled : IsControlled base member parts hand c

-- a ring that the controller may run over
pub record IsRunning {W : Type 0} (transacts : W → Ask → List ℕ → Reply → W → Type 0) (base : Base) (member : ℕ → Bool) (c : Content) : Type 0 where
  pub on : IsOn base
  pub hears : HearsBytes transacts
  pub under_way : IsUnderWay base member c

abbrev pub StaysUnderWay : {W : Type 0} → (W → Ask → List ℕ → Reply → W → Type 0) → Content → Content → Type 0
StaysUnderWay transacts old new = (base : Base) (member : ℕ → Bool) → IsRunning transacts base member old → IsRunning transacts base member new

-- an event that is idle isn't made
abbrev pub made_by : HcStep → ℕ
made_by steps.Begin = 1
made_by steps.Fetch = 1
made_by steps.Advance = 1
made_by steps.Transact = 1
made_by steps.WriteBack = 1
made_by steps.Skip = 1
made_by steps.End = 1
made_by steps.Idle = 0

-- all of so many events were made
abbrev pub AllAreMade : {W : Type 0} → (W → Ask → List ℕ → Reply → W → Type 0) → Content → ℕ → ℕ → Type 0
AllAreMade transacts old events made = (base : Base) (member : ℕ → Bool) → IsRunning transacts base member old → made ≡ events

-- ---- events

pub data EventsFollow {W : Type 0} (begins : W → ℕ → Bool → W → Type 0) (transacts : W → Ask → List ℕ → Reply → W → Type 0) (old : Content) (before : W)
    : ℕ → Content → W → Type 0 where
  none : EventsFollow begins transacts old before 0 old before
  another : (n : ℕ) (mid : Content) (between : W) (new : Content) (after : W) → EventsFollow begins transacts old before n mid between
      → mid.registers.run ≡ true → HasRow begins transacts (microframe_row mid.registers mid.control) mid between new after → EventsFollow begins transacts old before (n + 1) new after
