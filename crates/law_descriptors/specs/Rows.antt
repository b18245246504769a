-- Rows of the driver beside the frames under the controller (EHCI 1.0, 2.3.4, 3.1, 4.6 and 4.7).
--     DrivesAfter row ..      it is so after the row
--     ReadFrameDrives         FRINDEX is read
--     ReadStatusDrives, AdvanceDrives, BellDrives    USBSTS is read, Async Advance is cleared, the doorbell is rung
--     IsMetBeside ..          from then on more are met, each of them sound and none of the ring
--     ElementStoreMeets, LinkStoreMeets    an element of the frame list, or the link of one that stands, is stored: those that stand from then on are met
--     StandingDescriptorsAreMet     a descriptor that stands, and is described, can be met
use Rattle.std.specs.Prelude.{◌≡◌, ℕ, ◌+◌, ◌*◌, ◌<◌, Bool, false, slice_set, Option, Some, None}
use Rattle.word_mem.specs.Memory.{Mem, with_word}
use Rattle.link_words.specs.Links.{link_read, link_fields, IsLinkWord}
use Rattle.drv_table.specs.declared.rows.DriverRow.{DriverRow}
use Rattle.drv_table.specs.declared.rows.DriverRow.TheVariants as rows
use Rattle.drv_table.specs.DriverContent.{DriverContent}
use Rattle.hc_core.specs.Controller.{Content}
use Rattle.law_structures.specs.lent_structures.Structures.{Structure, Table, StructureSets, put, Tells}
use Rattle.law_ring.specs.Hand.{Hand}
use Rattle.claims_base.specs.Controller.{Base}
use Rattle.law_controller.specs.controlled_streams.Control.{FrameList}
use Rattle.law_driver_ring.specs.Driven.{IsOperating}
use Rattle.law_frames.specs.Met.{Kind, IsMetAs}
use Rattle.law_frames.specs.FrameHand.{FrameHand}
use Rattle.law_controller.specs.frame_control.Both.{RunsBoth}
use Rattle.law_controller.specs.frame_stores.Stores.{HasLink, linked, frame_linked, IsMetFurther}
use Rattle.law_descriptors.specs.Described.{HasDescriptor}
use Rattle.law_descriptors.specs.Meeting.{kind_of_descriptor, standing, met}
use Rattle.law_descriptors.specs.Recent.{DrivesFrames, driver_after, content_after}
use Rattle.law_descriptors.specs.RowLaws.{HasFrames}

-- ---- rows that store nothing

abbrev pub DrivesAfter : DriverRow → Base → (ℕ → Bool) → (ℕ → Option Kind) → StructureSets → StructureSets → Hand → FrameHand → Content → DriverContent → Type 0
DrivesAfter row base member recent descs parts hand frame c d = DrivesFrames base member recent descs parts hand frame (content_after row c d) (driver_after row c d)

abbrev pub ReadFrameDrives : Type 0
ReadFrameDrives = (base : Base) (member : ℕ → Bool) (recent : ℕ → Option Kind) (descs parts : StructureSets) (hand : Hand) (frame : FrameHand) (c : Content) (d : DriverContent)
    → DrivesFrames base member recent descs parts hand frame c d → DrivesAfter (rows.ReadFrame c.registers.frame_index) base member recent descs parts hand frame c d

abbrev pub ReadStatusDrives : Type 0
ReadStatusDrives = (base : Base) (member : ℕ → Bool) (recent : ℕ → Option Kind) (descs parts : StructureSets) (hand : Hand) (frame : FrameHand) (c : Content) (d : DriverContent) (heard : Bool)
    → DrivesFrames base member recent descs parts hand frame c d → DrivesAfter (rows.ReadStatus heard) base member recent descs parts hand frame c d

abbrev pub AdvanceDrives : Type 0
AdvanceDrives = (base : Base) (member : ℕ → Bool) (recent : ℕ → Option Kind) (descs parts : StructureSets) (hand : Hand) (frame : FrameHand) (c : Content) (d : DriverContent)
    → DrivesFrames base member recent descs parts hand frame c d → DrivesAfter rows.ClearAdvance base member recent descs parts hand frame c d

-- the doorbell is rung by a word that sets Run and both Enables
abbrev pub BellDrives : Type 0
BellDrives = (base : Base) (member : ℕ → Bool) (recent : ℕ → Option Kind) (descs parts : StructureSets) (hand : Hand) (frame : FrameHand) (c : Content) (d : DriverContent)
    → IsOperating base → DrivesFrames base member recent descs parts hand frame c d → DrivesAfter rows.RingBell base member recent descs parts hand frame c d

-- ---- stores

pub record IsMetBeside (member : ℕ → Bool) (met wider : ℕ → Option Kind) (parts : StructureSets) : Type 0 where
  pub further : IsMetFurther met wider
  pub sound : (n : ℕ) (kind : Kind) → wider n ≡ Some kind → met n ≡ None → (member n ≡ false) × IsMetAs wider n (parts n) kind

abbrev pub ElementStoreMeets : Type 0
ElementStoreMeets = (base : Base) (member : ℕ → Bool) (recent later : ℕ → Option Kind) (parts : StructureSets) (hand : Hand) (frame : FrameHand) (c : Content) (d new : DriverContent) (k v : ℕ)
    → RunsBoth base member (met d recent) parts hand frame c → IsMetBeside member (met d recent) (met new later) parts → base.periodic_list_base ≡ 32 * new.periodic.list.list
    → HasFrames (with_word c.memory (base.periodic_list_base + 4 * k) v) new → (list : FrameList parts base) → k < 1024
    → RunsBoth base member (met new later) (put parts base.periodic_list_base base.periodic_list_base (Table (slice_set list.words k v))) hand frame
    (record c { memory = with_word c.memory (base.periodic_list_base + 4 * k) v })

abbrev pub LinkStoreMeets : Type 0
LinkStoreMeets = (base : Base) (member : ℕ → Bool) (recent later : ℕ → Option Kind) (parts : StructureSets) (hand : Hand) (frame : FrameHand) (c : Content) (d new : DriverContent)
    (n v : ℕ) (s : Structure) (kind : Kind)
    → RunsBoth base member (met d recent) parts hand frame c → IsMetBeside member (met d recent) (met new later) parts → HasFrames (with_word c.memory n v) new
    → parts n n ≡ Some s → HasLink s → IsLinkWord v → member n ≡ false → standing new n ≡ Some kind
    → RunsBoth base member (met new later) (put parts n n (linked (link_fields (link_read v)) s)) hand (frame_linked n (link_fields (link_read v)) frame)
    (record c { memory = with_word c.memory n v })

-- ---- descriptors

abbrev pub StandingDescriptorsAreMet : Type 0
StandingDescriptorsAreMet = (m : Mem) (d : DriverContent) (recent : ℕ → Option Kind) (parts : StructureSets) (n : ℕ) (split : Bool) → HasFrames m d → Tells m parts
    → standing d n ≡ Some (kind_of_descriptor split) → HasDescriptor split (parts n) n → IsMetAs (met d recent) n (parts n) (kind_of_descriptor split)
