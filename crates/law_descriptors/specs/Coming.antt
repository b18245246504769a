-- A descriptor that waits in its frame while a command links members (EHCI 1.0, 4.6 and 4.7): it is lent, since the command's own events come before its
-- stores, and one of them lends all that it took; so it has what is asked of a member that is linked next.
--     DescriptorsAreLent     where the unfinished command has nothing more to lend, each descriptor that wasn't given back is lent
--     LinkingLendsNothing    so it is where the command has made its own events
--     IsWaiting d t y        transfer t has a descriptor that waits in its frame
--     WaitingAreLent         such a descriptor is lent then
--     WaitingComes           and it is none of the ring, wasn't unlinked in this microframe, and has its structure, where the command unlinks nothing
--     WaitingMembersCome     the same of a member that is such a descriptor, as those are that a command with descriptors has still to link
use Rattle.std.specs.Prelude.{◌≡◌, ℕ, ◌*◌, ◌/◌, ◌≤◌, Bool, true, false, length, slice_get, Option, Some}
use Rattle.drv_periodic_table.specs.Periodic.{note_at}
use Rattle.drv_table.specs.declared.content.Endpoint.{Endpoint}
use Rattle.drv_table.specs.declared.content.Transfer.{Transfer}
use Rattle.drv_table.specs.declared.content.Command.{Command}
use Rattle.drv_table.specs.DriverContent.{DriverContent}
use Rattle.drv_table.specs.Commands.{events_of, removes_members}
use Rattle.claims_driver.specs.Owners.{is_descriptor, runs_of_transfer, views_of}
use Rattle.claims_driver.specs.Leaving.{HasOwners}
use Rattle.claims_driver.specs.LentRuns.{still_lends, AreLent}
use Rattle.drv_chains.specs.declared.members.Member.{Member}
use Rattle.drv_chains.specs.Chains.{id_of}
use Rattle.law_driver.specs.listed_members.Members.{IsWaitingOf}
use Rattle.hc_core.specs.Controller.{Content}
use Rattle.law_structures.specs.lent_structures.Structures.{StructureSets}
use Rattle.law_ring.specs.Hand.{Hand}
use Rattle.claims_base.specs.Controller.{Base}
use Rattle.law_frames.specs.Met.{Kind}
use Rattle.law_frames.specs.FrameHand.{FrameHand}
use Rattle.law_controller.specs.frame_control.Both.{RunsBoth}
use Rattle.law_descriptors.specs.Described.{IsDescriptorLent, AreDescribed}
use Rattle.law_descriptors.specs.Both.{both}
use Rattle.law_descriptors.specs.Meeting.{kind_of_descriptor, kind_of}
use Rattle.law_descriptors.specs.Recent.{AreRecent}
use Rattle.law_descriptors.specs.ListRows.{Comes}

abbrev pub DescriptorsAreLent : Type 0
DescriptorsAreLent = (d : DriverContent) (t : ℕ) (y : Transfer) → HasOwners d → AreLent d → still_lends d.command d.made ≡ false → slice_get d.transfers t ≡ Some y
    → is_descriptor y.sort ≡ true → y.released ≡ false → IsDescriptorLent (views_of d) t (runs_of_transfer y)

abbrev pub LinkingLendsNothing : Type 0
LinkingLendsNothing = (c : Command) (made : ℕ) → length (events_of c) ≤ made → still_lends (Some c) made ≡ false

pub record IsWaiting (d : DriverContent) (t : ℕ) (y : Transfer) : Type 0 where
  pub here : slice_get d.transfers t ≡ Some y
  pub sort : is_descriptor y.sort ≡ true
  pub unreported : y.reported ≡ false
  pub endpoint : Endpoint
  pub its : slice_get d.endpoints y.endpoint ≡ Some endpoint
  pub chained : endpoint.chained ≡ true

abbrev pub WaitingAreLent : Type 0
WaitingAreLent = (d : DriverContent) (c : Command) (t : ℕ) (y : Transfer) → HasOwners d → AreLent d → d.command ≡ Some c → length (events_of c) ≤ d.made → IsWaiting d t y
    → IsDescriptorLent (views_of d) t (runs_of_transfer y)

abbrev pub WaitingComes : Type 0
WaitingComes = (base : Base) (member : ℕ → Bool) (met recent : ℕ → Option Kind) (descs parts : StructureSets) (hand : Hand) (frame : FrameHand) (c : Content) (d : DriverContent) (index : ℕ)
    (command : Command) (t : ℕ) (y : Transfer)
    → RunsBoth base member met (both descs parts) hand frame c → AreDescribed (views_of d) descs → AreRecent d index recent → HasOwners d → AreLent d
    → d.command ≡ Some command → removes_members command ≡ false → length (events_of command) ≤ d.made → IsWaiting d t y
    → Comes member recent (both descs parts) (32 * y.first) (kind_of_descriptor (note_at d.periodic.notes y.first).split)

abbrev pub WaitingMembersCome : Type 0
WaitingMembersCome = (base : Base) (member : ℕ → Bool) (met recent : ℕ → Option Kind) (descs parts : StructureSets) (hand : Hand) (frame : FrameHand) (c : Content) (d : DriverContent)
    (index : ℕ) (command : Command) (e first : ℕ) (m : Member)
    → RunsBoth base member met (both descs parts) hand frame c → AreDescribed (views_of d) descs → AreRecent d index recent → HasOwners d → AreLent d
    → d.command ≡ Some command → removes_members command ≡ false → length (events_of command) ≤ d.made → IsWaitingOf d e first m
    → Comes member recent (both descs parts) (32 * (id_of m / 32)) (kind_of d.periodic m)
