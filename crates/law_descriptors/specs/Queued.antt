-- What a command with descriptors links next is a descriptor of its own that waits in its frame (EHCI 1.0, 4.6 and 4.7).
--     LinksQueued d          so it is of the unfinished command, whose own events were made before
--     NewDriverLinksQueued, EventsLinkQueued, CommandsLinkQueued     the laws: so it is at each moment
--     DescriptorsComeFirst   so it has all that its first store asks for
--     LeavingComeFirst       a command that unlinks members links none, so nothing is asked of it
use Rattle.std.specs.Prelude.{◌≡◌, ℕ, ◌≤◌, Bool, Option, Some, Ok}
use Rattle.usb_base.specs.declared.commands.Cmd.{Cmd}
use Rattle.word_mem.specs.Memory.{Mem}
use Rattle.drv_periodic.specs.declared.work.Work.{Work}
use Rattle.drv_table.specs.declared.content.Reserve.{Reserve}
use Rattle.drv_table.specs.declared.content.Command.TheVariants as unfinished
use Rattle.drv_table.specs.DriverContent.{DriverContent}
use Rattle.drv_table.specs.Opening.{opening}
use Rattle.drv_table.specs.Accepting.{Offered}
use Rattle.drv_table.specs.Offers.{offered}
use Rattle.drv_table.specs.Parts.{Parts}
use Rattle.drv_table.specs.Rows.{driver_row, after_driver_row}
use Rattle.claims_driver.specs.Owners.{views_of}
use Rattle.claims_driver.specs.Leaving.{HasOwners}
use Rattle.claims_driver.specs.LentRuns.{AreLent}
use Rattle.hc_core.specs.Controller.{Content}
use Rattle.law_structures.specs.lent_structures.Structures.{StructureSets}
use Rattle.law_ring.specs.Hand.{Hand}
use Rattle.claims_base.specs.Controller.{Base}
use Rattle.law_frames.specs.Met.{Kind}
use Rattle.law_frames.specs.FrameHand.{FrameHand}
use Rattle.law_controller.specs.frame_control.Both.{RunsBoth}
use Rattle.law_descriptors.specs.Described.{AreDescribed}
use Rattle.law_descriptors.specs.Both.{both}
use Rattle.law_descriptors.specs.Recent.{AreRecent}
use Rattle.law_descriptors.specs.ListRows.{ComesFirst}
use Rattle.law_driver.specs.listed_members.Members.{IsWaitingOf, IsListed}

abbrev pub LinksQueued : DriverContent → Type 0
LinksQueued d = (e t count : ℕ) (w : Work) → d.command ≡ Some (unfinished.Iso e t count) → d.periodic.list.work ≡ Some w → (2 ≤ d.made) × IsWaitingOf d e t w.member

abbrev pub NewDriverLinksQueued : Type 0
NewDriverLinksQueued = (n : ℕ) (room : Reserve) → LinksQueued (opening n room).driver

abbrev pub EventsLinkQueued : Type 0
EventsLinkQueued = (p : Parts) → IsListed p.driver → LinksQueued p.driver → LinksQueued (after_driver_row (driver_row p) p).driver

abbrev pub CommandsLinkQueued : Type 0
CommandsLinkQueued = (d : DriverContent) (m : Mem) (cmd : Cmd) (o : Offered) → IsListed d → offered d m cmd ≡ Ok o → LinksQueued o.driver

abbrev pub DescriptorsComeFirst : Type 0
DescriptorsComeFirst = (base : Base) (member : ℕ → Bool) (met recent : ℕ → Option Kind) (descs parts : StructureSets) (hand : Hand) (frame : FrameHand) (c : Content) (d : DriverContent)
    (index e t count : ℕ)
    → RunsBoth base member met (both descs parts) hand frame c → AreDescribed (views_of d) descs → AreRecent d index recent → HasOwners d → AreLent d → LinksQueued d
    → d.command ≡ Some (unfinished.Iso e t count) → ComesFirst member recent (both descs parts) d d.periodic.list

abbrev pub LeavingComeFirst : Type 0
LeavingComeFirst = (member : ℕ → Bool) (recent : ℕ → Option Kind) (parts : StructureSets) (d : DriverContent) (e : ℕ) → IsListed d → d.command ≡ Some (unfinished.Unchain e)
    → ComesFirst member recent parts d d.periodic.list
