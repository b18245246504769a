-- Laws of isochronous endpoints of a driver, beside a controller that walks a ring and the frames (EHCI 1.0, 3.3, 3.4, 4.6, 4.7 and 4.12.3).
--     HarvestKeepsNow            a token or a descriptor is read: whatever was unlinked in this microframe is what it was
--     FramesKeepNow              the descriptors of a command get their frames
--     FramedLent .., LendKeepsNow     they are lent
--     OwnersTellLeaving          who leaves its frames has ended, at each moment of any driver
--     NewAwaitsNothing, EventsKeepAwaiting, CommandsKeepAwaiting, WritesKeepAwaiting     a command's descriptors are as they were written, until they are lent
--     OpensNumbered cmd, NewIsNumbered, EventsKeepNumbered, CommandsKeepNumbered     the numbers of each endpoint fit their fields
use Rattle.std.specs.Prelude.{◌≡◌, ℕ, Bool, false, Option, Ok}
use Rattle.usb_base.specs.declared.commands.Cmd.{Cmd}
use Rattle.usb_base.specs.declared.commands.Cmd.TheVariants as commands
use Rattle.usb_base.specs.declared.endpoints.EpDesc.{EpDesc}
use Rattle.word_mem.specs.Memory.{Mem, word_at, reaches}
use Rattle.mem_runs.specs.Book.{holding, Stands}
use Rattle.drv_table.specs.declared.content.Reserve.{Reserve}
use Rattle.drv_table.specs.declared.rows.DriverRow.TheVariants as rows
use Rattle.drv_table.specs.declared.rows.Found.{Found}
use Rattle.drv_table.specs.DriverContent.{DriverContent}
use Rattle.drv_table.specs.Opening.{opening}
use Rattle.drv_table.specs.Accepting.{Offered}
use Rattle.drv_table.specs.Offers.{offered}
use Rattle.drv_table.specs.Parts.{Parts}
use Rattle.drv_table.specs.Rows.{driver_row, after_driver_row}
use Rattle.claims_driver.specs.Leaving.{HasOwners}
use Rattle.hc_core.specs.Controller.{Content}
use Rattle.law_structures.specs.lent_structures.Structures.{StructureSets}
use Rattle.law_ring.specs.Hand.{Hand}
use Rattle.claims_base.specs.Controller.{Base}
use Rattle.law_driver.specs.in_place.InPlace.{IsInPlace}
use Rattle.law_driver.specs.planned_endpoints.Planned.{IsPlanned}
use Rattle.law_queues.specs.shared_memory.Shared.{parts_of}
use Rattle.law_frames.specs.Met.{Kind}
use Rattle.law_frames.specs.FrameHand.{FrameHand}
use Rattle.law_descriptors.specs.Lent.{descs_after}
use Rattle.law_world.specs.memory.framed_memory.Now.{IsFramedNow, FramedNext}
use Rattle.law_world.specs.memory.framed_memory.Masks.{AreMasked}
use Rattle.law_world.specs.memory.framed_memory.Isochronous.{NumbersFit, AreNumbered, LeavingHaveEnded, AreAwaiting}

-- ---- rows

abbrev pub HarvestKeepsNow : Type 0
HarvestKeepsNow = (base : Base) (member : ℕ → Bool) (recent : ℕ → Option Kind) (descs parts : StructureSets) (hand : Hand) (frame : FrameHand) (c : Content) (d : DriverContent) (e t : ℕ)
    (found : Found) → IsFramedNow base member recent descs parts hand frame c d → driver_row (parts_of c d) ≡ rows.Harvest e t found
    → FramedNext base member recent descs parts hand frame c d

abbrev pub FramesKeepNow : Type 0
FramesKeepNow = (base : Base) (member : ℕ → Bool) (recent : ℕ → Option Kind) (descs parts : StructureSets) (hand : Hand) (frame : FrameHand) (c : Content) (d : DriverContent)
    → IsFramedNow base member recent descs parts hand frame c d → driver_row (parts_of c d) ≡ rows.Frames → FramedNext base member recent descs parts hand frame c d

-- the descriptors of the unfinished command have their structures from then on
pub record FramedLent (base : Base) (member : ℕ → Bool) (recent : ℕ → Option Kind) (descs parts : StructureSets) (hand : Hand) (frame : FrameHand) (c : Content)
    (d : DriverContent) : Type 0 where
  pub first : ℕ
  pub desc : EpDesc
  pub framed : FramedNext base member recent (descs_after (parts_of c d) first desc descs) parts hand frame c d

abbrev pub LendKeepsNow : Type 0
LendKeepsNow = (base : Base) (member : ℕ → Bool) (recent : ℕ → Option Kind) (descs parts : StructureSets) (hand : Hand) (frame : FrameHand) (c : Content) (d : DriverContent)
    → IsFramedNow base member recent descs parts hand frame c d → AreAwaiting d c.memory → driver_row (parts_of c d) ≡ rows.LendDescriptors
    → FramedLent base member recent descs parts hand frame c d

-- ---- who leaves its frames has ended

-- whatever its events and commands were: what is owed to be given back tells it
abbrev pub OwnersTellLeaving : Type 0
OwnersTellLeaving = (d : DriverContent) → HasOwners d → LeavingHaveEnded d

-- ---- what a command has still to lend

abbrev pub NewAwaitsNothing : Type 0
NewAwaitsNothing = (n : ℕ) (room : Reserve) (m : Mem) → AreAwaiting (opening n room).driver m

abbrev pub EventsKeepAwaiting : Type 0
EventsKeepAwaiting = (p : Parts) → AreAwaiting p.driver p.memory → AreAwaiting (after_driver_row (driver_row p) p).driver (after_driver_row (driver_row p) p).memory

-- the fields of an endpoint that is opened fit a descriptor's (3.3.3, 3.4.2); its placement is one of the plan, with masks that fit theirs
abbrev pub CommandsKeepAwaiting : Type 0
CommandsKeepAwaiting = (d : DriverContent) (m : Mem) (cmd : Cmd) (o : Offered) → IsInPlace m d → IsPlanned d → AreMasked d → AreNumbered d → offered d m cmd ≡ Ok o
    → AreAwaiting o.driver o.memory

-- what isn't lent the controller leaves (4.6)
abbrev pub WritesKeepAwaiting : Type 0
WritesKeepAwaiting = (d : DriverContent) (m new : Mem) → Stands (holding d.book m) → ((at : ℕ) → reaches m at ≡ false → word_at new at ≡ word_at m at) → AreAwaiting d m → AreAwaiting d new

-- ---- numbers

abbrev pub OpensNumbered : Cmd → Type 0
OpensNumbered (commands.OpenEp x) = NumbersFit x
OpensNumbered _ = Unit {0}

abbrev pub NewIsNumbered : Type 0
NewIsNumbered = (n : ℕ) (room : Reserve) → AreNumbered (opening n room).driver

abbrev pub EventsKeepNumbered : Type 0
EventsKeepNumbered = (p : Parts) → AreNumbered p.driver → AreNumbered (after_driver_row (driver_row p) p).driver

abbrev pub CommandsKeepNumbered : Type 0
CommandsKeepNumbered = (d : DriverContent) (m : Mem) (cmd : Cmd) (o : Offered) → AreNumbered d → OpensNumbered cmd → offered d m cmd ≡ Ok o → AreNumbered o.driver
