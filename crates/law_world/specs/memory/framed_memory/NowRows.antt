-- Rows of a driver that store its frame list, or give back what was unlinked, where the controller walks a ring and the frames (EHCI 1.0, 2.3.4, 3.1, 4.6 and 4.7).
--     FramedUnlinked .., UnlinkKeepsNow     a harvested descriptor is unlinked: it is recent from then on, and all of it is framed with what the structures became
--     FramedLinked .., LinkKeepsNow         so it is where a command links or unlinks members, in each of its stores; a queue head that is linked by the
--                                           first of them has its structure, and isn't recent
--     ReleaseKeepsNow                       a descriptor is given back
--     WaitingKeepsNow                       an isochronous endpoint is given back, with all that waits there
use Rattle.std.specs.Prelude.{◌≡◌, ℕ, ◌*◌, Bool, true, slice_get, Option, Some}
use Rattle.drv_periodic.specs.declared.work.Store.{Store}
use Rattle.drv_periodic_table.specs.Periodic.{note_at}
use Rattle.drv_periodic_table.specs.declared.content.Removed.TheVariants as removed
use Rattle.drv_table.specs.declared.content.Endpoint.{Endpoint}
use Rattle.drv_table.specs.declared.content.Transfer.{Transfer}
use Rattle.drv_table.specs.declared.rows.DriverRow.TheVariants as rows
use Rattle.drv_table.specs.DriverContent.{DriverContent}
use Rattle.drv_table.specs.declared.content.Command.TheVariants as unfinished
use Rattle.drv_table.specs.Rows.{driver_row}
use Rattle.drv_table.specs.Kinds.{is_iso}
use Rattle.law_driver.specs.run_owners.Due.{IsLinkOf}
use Rattle.hc_core.specs.Controller.{Content}
use Rattle.law_structures.specs.lent_structures.Structures.{StructureSets}
use Rattle.law_ring.specs.Hand.{Hand}
use Rattle.claims_base.specs.Controller.{Base}
use Rattle.law_queues.specs.shared_memory.Shared.{parts_of, next_parts, after_driver}
use Rattle.law_frames.specs.Met.{Kind}
use Rattle.law_frames.specs.FrameHand.{FrameHand}
use Rattle.law_descriptors.specs.Both.{both, descs_now, parts_now}
use Rattle.law_descriptors.specs.Meeting.{kind_of_descriptor}
use Rattle.law_descriptors.specs.Staying.{also}
use Rattle.law_descriptors.specs.ListRows.{leaves_now, recent_with, ComesFirst, ListStored, UnlinkStored}
use Rattle.law_descriptors.specs.Given.{without_owners, begins_at, waiting_at}
use Rattle.law_world.specs.memory.framed_memory.Now.{IsFramedNow, FramedNext}

-- ---- a harvested descriptor is unlinked

pub record FramedUnlinked (base : Base) (member : ℕ → Bool) (recent : ℕ → Option Kind) (descs parts : StructureSets) (hand : Hand) (frame : FrameHand) (c : Content) (d : DriverContent) (t : ℕ)
    (y : Transfer) : Type 0 where
  pub event : UnlinkStored base member recent (both descs parts) hand frame c d t y
  pub framed : FramedNext base member (also (32 * y.first) (kind_of_descriptor (note_at d.periodic.notes y.first).split) recent) (descs_now descs event.stored.now)
      (parts_now descs parts event.stored.now) hand event.stored.frame_later c d

abbrev pub UnlinkKeepsNow : Type 0
UnlinkKeepsNow = (base : Base) (member : ℕ → Bool) (recent : ℕ → Option Kind) (descs parts : StructureSets) (hand : Hand) (frame : FrameHand) (c : Content) (d : DriverContent) (t : ℕ)
    (y : Transfer) → IsFramedNow base member recent descs parts hand frame c d → driver_row (parts_of c d) ≡ rows.Unlink t → slice_get d.transfers t ≡ Some y
    → FramedUnlinked base member recent descs parts hand frame c d t y

-- ---- a command links or unlinks members

pub record FramedLinked (base : Base) (member : ℕ → Bool) (recent : ℕ → Option Kind) (descs parts : StructureSets) (hand : Hand) (frame : FrameHand) (c : Content) (d : DriverContent)
    (st : Store) : Type 0 where
  pub event : ListStored base member (recent_with d.periodic (leaves_now d.periodic.list) recent) (both descs parts) hand frame st (next_parts c d).driver (after_driver c d)
  pub framed : FramedNext base member (recent_with d.periodic (leaves_now d.periodic.list) recent) (descs_now descs event.now) (parts_now descs parts event.now) hand event.frame_later c d

abbrev pub LinkKeepsNow : Type 0
LinkKeepsNow = (base : Base) (member : ℕ → Bool) (recent : ℕ → Option Kind) (descs parts : StructureSets) (hand : Hand) (frame : FrameHand) (c : Content) (d : DriverContent)
    → IsFramedNow base member recent descs parts hand frame c d → (why : IsLinkOf (parts_of c d) (driver_row (parts_of c d)))
    → (why.command ≡ unfinished.Chain → ComesFirst member recent (both descs parts) d d.periodic.list)
    → FramedLinked base member recent descs parts hand frame c d why.store

-- ---- what was unlinked is given back

abbrev pub ReleaseKeepsNow : Type 0
ReleaseKeepsNow = (base : Base) (member : ℕ → Bool) (recent : ℕ → Option Kind) (descs parts : StructureSets) (hand : Hand) (frame : FrameHand) (c : Content) (d : DriverContent) (t : ℕ)
    (y : Transfer) → IsFramedNow base member recent descs parts hand frame c d → driver_row (parts_of c d) ≡ rows.ReleaseRemoved (removed.Descriptor t)
    → slice_get d.transfers t ≡ Some y → FramedNext base member recent (without_owners descs (begins_at y.first)) parts hand frame c d

abbrev pub WaitingKeepsNow : Type 0
WaitingKeepsNow = (base : Base) (member : ℕ → Bool) (recent : ℕ → Option Kind) (descs parts : StructureSets) (hand : Hand) (frame : FrameHand) (c : Content) (d : DriverContent) (e : ℕ)
    (x : Endpoint) → IsFramedNow base member recent descs parts hand frame c d → driver_row (parts_of c d) ≡ rows.ReleaseRemoved (removed.Endpoint e)
    → slice_get d.endpoints e ≡ Some x → is_iso x.desc.kind ≡ true → FramedNext base member recent (without_owners descs (waiting_at d e)) parts hand frame c d
