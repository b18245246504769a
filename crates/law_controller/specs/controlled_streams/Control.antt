-- A ring of queue heads under the controller, at any event of a microframe (EHCI 1.0, 4.6, 4.8 and 4.10), where no frame of the frame list has a
-- structure, or the periodic schedule is off.
--     IsOn base                   the controller runs, and its asynchronous schedule is on
--     FrameList parts base        the frame list stands in memory, with these words
--     IsFrameless ..              no event is one of a frame's chain
--     IsControlled base member parts hand c
--                                 the walk of the ring is over a ring; only in the asynchronous part is there a copy in hand
--     ControlEffect ..            an event begins a microframe, and leaves all of that; or it is one of the ring's walk
--     Controls ..                 an event of the controller with its effect
use Rattle.std.specs.Prelude.{◌≡◌, ◌≢◌, ℕ, ◌<◌, Bool, true, false, List, length, slice_index, Some}
use Rattle.usb_base.specs.declared.packets.Ask.{Ask}
use Rattle.usb_base.specs.declared.packets.Reply.{Reply}
use Rattle.link_words.specs.declared.kinds.Link.TheVariants as links
use Rattle.link_words.specs.Links.{link_read}
use Rattle.async_walk.specs.declared.state.WalkStep.{WalkStep}
use Rattle.periodic_walk.specs.Walk.{is_over}
use Rattle.hc_core.specs.declared.controller.MicroframePart.TheVariants.{Periodic, Asynchronous}
use Rattle.hc_core.specs.Controller.{Content, walk_place}
use Rattle.law_structures.specs.lent_structures.Structures.{Table, StructureSets}
use Rattle.law_ring.specs.Hand.{Hand, Empty}
use Rattle.claims_base.specs.Controller.{Base}
use Rattle.law_ring.specs.Ring.{IsRing}
use Rattle.law_ring.specs.Effects.{Effect}
use Rattle.law_ring.specs.Streams.{NoneBeside, StreamEffect}

pub record IsOn (base : Base) : Type 0 where
  pub run : base.run ≡ true
  pub async_enable : base.async_enable ≡ true

-- ---- the frame list

pub record FrameList (parts : StructureSets) (base : Base) : Type 0 where
  pub words : List ℕ
  pub here : parts base.periodic_list_base base.periodic_list_base ≡ Some (Table words)
  pub size : length words ≡ 1024

-- each element ends its frame's chain at once
abbrev pub AreEmpty : List ℕ → Type 0
AreEmpty words = (i : ℕ) → i < 1024 → link_read (slice_index words i) ≡ links.End

pub data IsFrameless (base : Base) (words : List ℕ) (c : Content) : Type 0 where
  off : base.periodic_enable ≡ false → IsFrameless base words c
  empty : AreEmpty words → (c.control.part ≡ Periodic → is_over c.control.frame ≡ true) → IsFrameless base words c

-- ---- the controller over a ring

pub record IsControlled (base : Base) (member : ℕ → Bool) (parts : StructureSets) (hand : Hand) (c : Content) : Type 0 where
  pub ring : IsRing base member parts hand (walk_place c)
  pub between : c.control.part ≢ Asynchronous → hand ≡ Empty
  pub list : FrameList parts base
  pub frameless : IsFrameless base list.words c

-- ---- an event

-- the wire was told that a microframe began, and nothing else happened to the structures and to what is in hand
pub record BeginsMicroframe {W : Type 0} (begins : W → ℕ → Bool → W → Type 0) (parts : StructureSets) (hand : Hand) (wire after : W) (now : StructureSets) (later : Hand) : Type 0 where
  pub index : ℕ
  pub allowed : Bool
  pub asked : begins wire index allowed after
  pub parts_stay : now ≡ parts
  pub hand_stays : later ≡ hand

pub record WalksRing {W : Type 0} (transacts : W → Ask → List ℕ → Reply → W → Type 0) (parts : StructureSets) (hand : Hand) (wire after : W) (now : StructureSets) (later : Hand) : Type 0 where
  pub kind : WalkStep
  pub effect : Effect transacts parts hand wire after now later kind
  pub streams : StreamEffect NoneBeside transacts parts hand wire after now later

pub data ControlEffect {W : Type 0} (begins : W → ℕ → Bool → W → Type 0) (transacts : W → Ask → List ℕ → Reply → W → Type 0) (parts : StructureSets) (hand : Hand) (wire after : W)
    (now : StructureSets) (later : Hand) : Type 0 where
  a_microframe : BeginsMicroframe begins parts hand wire after now later → ControlEffect begins transacts parts hand wire after now later
  a_step : WalksRing transacts parts hand wire after now later → ControlEffect begins transacts parts hand wire after now later

pub record Controls {W : Type 0} (begins : W → ℕ → Bool → W → Type 0) (transacts : W → Ask → List ℕ → Reply → W → Type 0) (base : Base) (member : ℕ → Bool) (parts : StructureSets) (hand : Hand)
    (wire after : W) (new : Content) : Type 0 where
  pub now : StructureSets
  pub later : Hand
  pub controlled : IsControlled base member now later new
  pub effect : ControlEffect begins transacts parts hand wire after now later
