-- Laws of the isochronous descriptors of a driver, beside its queues (EHCI 1.0, 3, 4.6, 4.7, 4.8 and 4.12.3).
use Rattle.std.specs.Prelude.{◌≡◌, ℕ, Bool, true, false, List, Option, None}
use Rattle.usb_base.specs.declared.packets.Ask.{Ask}
use Rattle.usb_base.specs.declared.packets.Reply.{Reply}
use Rattle.word_mem.specs.Memory.{Mem}
use Rattle.link_words.specs.Links.{link_of}
use Rattle.async_walk.specs.declared.state.WalkStep.{WalkStep}
use Rattle.async_walk.specs.Rows.{WalkPlace}
use Rattle.periodic_walk.specs.Place.{FramePlace}
use Rattle.mem_runs.specs.Book.{holding, Stands}
use Rattle.drv_table.specs.DriverContent.{DriverContent}
use Rattle.claims_driver.specs.Owners.{Views, views_of}
use Rattle.claims_driver.specs.Leaving.{HasOwners}
use Rattle.law_structures.specs.lent_structures.Structures.{StructureSets, Tells}
use Rattle.law_ring.specs.Hand.{Hand}
use Rattle.claims_base.specs.Controller.{Base}
use Rattle.law_ring.specs.Ring.{IsRing}
use Rattle.law_ring.specs.Effects.{Effect}
use Rattle.law_controller.specs.controlled_streams.Control.{FrameList}
use Rattle.law_driver_ring.specs.Inventory.{sorts_of, SameSorts, IsDriven}
use Rattle.law_driver_ring.specs.Extents.{AreInRuns, KeepExtents}
use Rattle.law_frames.specs.Met.{Kind, LeadsTo, IsMetItd, IsMetSitd}
use Rattle.law_frames.specs.FrameHand.{FrameHand}
use Rattle.law_frames.specs.Frame.{IsFrame}
use Rattle.law_frames.specs.FrameEffects.{FrameEffect}
use Rattle.law_descriptors.specs.Described.{HasItd, HasSitd, AreDescribed, AreHeld}
use Rattle.law_descriptors.specs.Both.{owns, both, descs_now, parts_now, Keeps, SameDescriptors}

-- ---- one memory

-- what a driver has, its queues and its descriptors
pub record IsDescribing (d : DriverContent) (descs parts : StructureSets) : Type 0 where
  pub owners : HasOwners d
  pub driven : IsDriven (views_of d) (sorts_of parts)
  pub described : AreDescribed (views_of d) descs

-- no descriptor is of a queue: its address is the name of its own structures alone
abbrev pub QueuesApart : Type 0
QueuesApart = (d : DriverContent) (descs parts : StructureSets) → IsDescribing d descs parts → (n a : ℕ) → owns descs n ≡ false → descs n a ≡ None

abbrev pub DescriptorsApart : Type 0
DescriptorsApart = (d : DriverContent) (descs parts : StructureSets) → IsDescribing d descs parts → (n a : ℕ) → owns descs n ≡ true → parts n a ≡ None

abbrev pub BothAreTold : Type 0
BothAreTold = (d : DriverContent) (m : Mem) (descs parts : StructureSets) → IsDescribing d descs parts → AreInRuns (views_of d) parts → Stands (holding d.book m)
    → Tells m parts → AreHeld m descs → Tells m (both descs parts)

abbrev pub EachIsTold : Type 0
EachIsTold = (d : DriverContent) (m : Mem) (descs parts : StructureSets) → IsDescribing d descs parts → Tells m (both descs parts) → Tells m parts × AreHeld m descs

-- ---- the ring and the frame list are the queues' alone

abbrev pub RingIsOfQueues : Type 0
RingIsOfQueues = (d : DriverContent) (descs parts : StructureSets) (base : Base) (member : ℕ → Bool) (hand : Hand) (p : WalkPlace) → IsDescribing d descs parts
    → IsRing base member (both descs parts) hand p → IsRing base member parts hand p

abbrev pub RingIsOfBoth : Type 0
RingIsOfBoth = (d : DriverContent) (descs parts : StructureSets) (base : Base) (member : ℕ → Bool) (hand : Hand) (p : WalkPlace) → IsDescribing d descs parts
    → Tells p.memory (both descs parts) → IsRing base member parts hand p → IsRing base member (both descs parts) hand p

abbrev pub ListIsOfQueues : Type 0
ListIsOfQueues = (d : DriverContent) (descs parts : StructureSets) (base : Base) → IsDescribing d descs parts
    → (FrameList (both descs parts) base → FrameList parts base) × (FrameList parts base → FrameList (both descs parts) base)

-- a descriptor that leads to others that are met can be met
abbrev pub ItdCanBeMet : Type 0
ItdCanBeMet = (met : ℕ → Option Kind) (d : StructureSets) (n : ℕ) (k : HasItd (d n) n) → LeadsTo met (link_of k.itd.link) → IsMetItd met n (d n)

abbrev pub SitdCanBeMet : Type 0
SitdCanBeMet = (met : ℕ → Option Kind) (d : StructureSets) (n : ℕ) (k : HasSitd (d n) n) → LeadsTo met (link_of k.sitd.link) → IsMetSitd met n (d n)

-- ---- events of the controller

abbrev pub FramesKeep : {W : Type 0} → (W → Ask → List ℕ → Reply → W → Type 0) → Type 0
FramesKeep {W} transacts = (met : ℕ → Option Kind) (parts : StructureSets) (hand : FrameHand) (p : FramePlace) (wire after : W) (now : StructureSets) (later : FrameHand) (kind : WalkStep)
    → IsFrame met parts hand p → FrameEffect transacts parts p.walk hand wire after now later kind → Keeps parts now

abbrev pub RingKeeps : {W : Type 0} → (W → Ask → List ℕ → Reply → W → Type 0) → Type 0
RingKeeps {W} transacts = (base : Base) (member : ℕ → Bool) (parts : StructureSets) (hand : Hand) (p : WalkPlace) (wire after : W) (now : StructureSets) (later : Hand) (kind : WalkStep)
    → IsRing base member parts hand p → Effect transacts parts hand wire after now later kind → Keeps parts now

-- what became of both is what became of each
pub record AreStill (v : Views) (descs parts now : StructureSets) : Type 0 where
  pub same : now ≡ both (descs_now descs now) (parts_now descs parts now)
  pub described : AreDescribed v (descs_now descs now)
  pub sorts : SameSorts parts (parts_now descs parts now)
  pub extents : KeepExtents parts (parts_now descs parts now)

abbrev pub DescribedStay : Type 0
DescribedStay = (v : Views) (descs parts now : StructureSets) → AreDescribed v descs → Keeps (both descs parts) now → AreStill v descs parts now

-- .. and of the driver
abbrev pub DescribedFollow : Type 0
DescribedFollow = (v w : Views) (descs : StructureSets) → SameDescriptors v w → AreDescribed v descs → AreDescribed w descs
