-- Laws of whom the walk of the frames may meet, by what the driver has (EHCI 1.0, 3.1, 3.3, 3.4, 3.6 and 4.6).
--     HasFrames m d           the words of memory stand for the driver's frame list, whose members are spread
--     ElementsLeadToStanding, MembersLeadToStanding    each element of the list, and each link of one that stands, leads to one that stands
--     StandingAreClosed, ListLeadsToStanding           the same by the structures that tell memory
--     BeginMeetsMembers      from the begin of a microframe on those that stand are met, and no other
use Rattle.std.specs.Prelude.{◌≡◌, ℕ, ◌*◌, ◌<◌, Bool, Option, Some}
use Rattle.word_mem.specs.Memory.{Mem, word_at}
use Rattle.drv_chains.specs.declared.members.Predecessor.TheVariants.{Element}
use Rattle.drv_periodic.specs.Periodic.{address_of}
use Rattle.law_frame_words.specs.frame_words.InWords.{IsSpread}
use Rattle.link_words.specs.Links.{link_read}
use Rattle.drv_table.specs.DriverContent.{DriverContent}
use Rattle.law_driver.specs.listed_members.Members.{IsListed}
use Rattle.claims_driver.specs.FrameWords.{ListStands}
use Rattle.hc_core.specs.declared.controller.MicroframePart.TheVariants.{Over}
use Rattle.hc_core.specs.Controller.{Content, began}
use Rattle.law_structures.specs.lent_structures.Structures.{StructureSets, Tells}
use Rattle.law_ring.specs.Hand.{Hand}
use Rattle.claims_base.specs.Controller.{Base}
use Rattle.law_controller.specs.controlled_streams.Control.{FrameList}
use Rattle.law_frames.specs.Met.{Kind, LeadsTo}
use Rattle.law_frames.specs.FrameHand.{FrameHand, Nothing}
use Rattle.law_controller.specs.frame_control.Both.{LeadToMet, RunsBoth}
use Rattle.law_controller.specs.frame_stores.Stores.{AreMetAmong}
use Rattle.law_descriptors.specs.Meeting.{standing, met, no_recent}

pub record HasFrames (m : Mem) (d : DriverContent) : Type 0 where
  pub list : ListStands m d
  pub spread : IsSpread d.periodic.list.list d.periodic.list.members.schedule
  pub listed : IsListed d

-- ---- the words

abbrev pub ElementsLeadToStanding : Type 0
ElementsLeadToStanding = (m : Mem) (d : DriverContent) (f : ℕ) → HasFrames m d → f < 1024
    → LeadsTo (standing d) (link_read (word_at m (address_of d.periodic.list.list (Element f))))

-- the link of a structure is its first word
abbrev pub MembersLeadToStanding : Type 0
MembersLeadToStanding = (m : Mem) (d : DriverContent) (n : ℕ) (kind : Kind) → HasFrames m d → standing d n ≡ Some kind → LeadsTo (standing d) (link_read (word_at m n))

-- ---- the structures

abbrev pub StandingAreClosed : Type 0
StandingAreClosed = (m : Mem) (d : DriverContent) (parts : StructureSets) → HasFrames m d → Tells m parts → AreMetAmong (standing d) parts

abbrev pub ListLeadsToStanding : Type 0
ListLeadsToStanding = (m : Mem) (d : DriverContent) (parts : StructureSets) (base : Base) → HasFrames m d → Tells m parts → base.periodic_list_base ≡ 32 * d.periodic.list.list
    → (list : FrameList parts base) → LeadToMet (standing d) list.words

-- ---- a microframe begins

abbrev pub BeginMeetsMembers : Type 0
BeginMeetsMembers = (base : Base) (member : ℕ → Bool) (recent : ℕ → Option Kind) (parts : StructureSets) (hand : Hand) (frame : FrameHand) (c : Content) (d : DriverContent) (allowed : Bool)
    → RunsBoth base member (met d recent) parts hand frame c → c.control.part ≡ Over → HasFrames c.memory d → base.periodic_list_base ≡ 32 * d.periodic.list.list
    → RunsBoth base member (met d no_recent) parts hand Nothing (began allowed c)
