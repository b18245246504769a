-- A store of a driver's frame list beside both walks (EHCI 1.0, 3.1, 3.3.1, 3.4.1, 3.6.1 and 4.6): the next one by which a member is linked or unlinked.
--     leaves_now p             the member whose last unlinking store comes next
--     recent_with q o recent   what was unlinked in this microframe, with that member
--     HasPart n part kind      a structure of this kind stands at n, with all that is owed to it but where its link leads
--     Comes .. n kind          one at n is none of the ring, wasn't unlinked in this microframe, and has its structure
--     ComesFirst ..            so has a member that the next store links, where that is its first: it stands from then on
--     IsStoredIn ..            an element of the list was stored, or the link of a structure, which is in hand as it was read
--     ListStored ..            the controller goes on over both, and the words of memory stand for the frame list
--     StoresNext m d new p st  st is the next store of the list p, which has the members of the driver's; the words stand for the list before it and after it
--     NextStoreLeavesBoth            so the controller goes on over both
--     LinkRowsLeaveBoth              the same of the stores by which a command links or unlinks members
--     UnlinkStored ..          .. and of the one store that unlinks a harvested descriptor, which is recent from then on
--     UnlinkRowsLeaveBoth            the law of it
--     UnlinkDriven .., UnlinkDrives    so the driver with its descriptors goes on beside both walks, with what the structures became
--     WaitingIsFresh           a descriptor that waits in its frame isn't recent, unless its endpoint's members are being unlinked
--     LentComes                a lent descriptor that isn't recent comes so
--     LeavesChained d          the endpoint whose members the command unlinks is in its frames
--     LinkDriven .., LinkDrives        .. and where a command links or unlinks members
--     StoreKeepsParts          each name has a structure of the same kind after a store, as far as it was, and each descriptor is one still
use Rattle.std.specs.Prelude.{◌≡◌, ℕ, ◌+◌, ◌*◌, ◌/◌, ◌<◌, Bool, true, false, not, ◌&&◌, if◌then◌else◌, slice_get, slice_set, Option, Some, None}
use Rattle.word_mem.specs.Memory.{Mem, IsShaped, with_word}
use Rattle.link_words.specs.Links.{link_read, link_fields}
use Rattle.mem_runs.specs.Book.{holding, Stands}
use Rattle.drv_chains.specs.declared.members.Member.{Member}
use Rattle.drv_chains.specs.Chains.{Schedule, id_of}
use Rattle.drv_periodic.specs.declared.work.Work.{Work}
use Rattle.drv_periodic.specs.declared.work.Store.{Store}
use Rattle.drv_periodic.specs.Periodic.{Periodic, is_more, next_store, after_store}
use Rattle.claims_driver.specs.FrameWords.{IsInOrder}
use Rattle.drv_periodic_table.specs.Periodic.{PeriodicContent, note_at}
use Rattle.drv_table.specs.declared.content.Endpoint.{Endpoint}
use Rattle.drv_table.specs.declared.content.Transfer.{Transfer}
use Rattle.drv_table.specs.declared.content.Command.TheVariants as unfinished
use Rattle.drv_table.specs.declared.rows.DriverRow.{DriverRow}
use Rattle.drv_table.specs.declared.rows.DriverRow.TheVariants as rows
use Rattle.drv_table.specs.DriverContent.{DriverContent}
use Rattle.drv_table.specs.Commands.{removes_members}
use Rattle.drv_table.specs.Removals.{descriptor_leaving}
use Rattle.claims_driver.specs.Owners.{TransferRuns, is_descriptor, views_of}
use Rattle.claims_driver.specs.Leaving.{HasOwners}
use Rattle.law_driver.specs.run_owners.Due.{IsLinkOf, IsUnlinkDue}
use Rattle.law_frame_list.specs.list_steps.Steps.{NextLeads}
use Rattle.hc_core.specs.Controller.{Content}
use Rattle.law_structures.specs.lent_structures.Structures.{Structure, Structures, Table, StructureSets, put}
use Rattle.law_ring.specs.Hand.{Hand}
use Rattle.claims_base.specs.Controller.{Base}
use Rattle.law_controller.specs.controlled_streams.Control.{FrameList}
use Rattle.law_frames.specs.Met.{Kind, AQueue, AnItd, ASitd, IsQueuePart}
use Rattle.law_frames.specs.FrameHand.{FrameHand}
use Rattle.law_controller.specs.frame_control.Both.{RunsBoth}
use Rattle.law_controller.specs.frame_stores.Stores.{HasLink, linked, frame_linked}
use Rattle.law_descriptors.specs.Described.{IsDescriptorLent, HasDescriptor, AreDescribed}
use Rattle.law_descriptors.specs.Both.{both, descs_now, parts_now, Keeps}
use Rattle.law_descriptors.specs.Meeting.{kind_of_descriptor, kind_of, met}
use Rattle.claims_driver.specs.Unlinked.{led_in, led}
use Rattle.law_descriptors.specs.Growing.{AreApartFrom}
use Rattle.law_descriptors.specs.Recent.{AreRecent, DrivesFrames, parts_of, driver_after, content_after}
use Rattle.law_descriptors.specs.RowLaws.{HasFrames}
use Rattle.law_descriptors.specs.Staying.{also}

-- ---- what is recent

abbrev pub leaves_by : Schedule → Option Work → Option Member
leaves_by s None = None
leaves_by s (Some w) = if w.removes && not (is_more s w) then Some w.member else None

abbrev pub leaves_now : Periodic → Option Member
leaves_now p = leaves_by p.members.schedule p.work

abbrev pub recent_with : PeriodicContent → Option Member → (ℕ → Option Kind) → ℕ → Option Kind
recent_with q None recent = recent
recent_with q (Some m) recent = also (32 * (id_of m / 32)) (kind_of q m) recent

-- ---- who comes

-- of an endpoint of any speed
pub record HasQueue (n : ℕ) (part : Structures) : Type 0 where
  pub part_is : IsQueuePart n part

abbrev pub HasPart : ℕ → Structures → Kind → Type 0
HasPart n part AQueue = HasQueue n part
HasPart n part AnItd = HasDescriptor false part n
HasPart n part ASitd = HasDescriptor true part n

pub record Comes (member : ℕ → Bool) (recent : ℕ → Option Kind) (parts : StructureSets) (n : ℕ) (kind : Kind) : Type 0 where
  pub off : member n ≡ false
  pub fresh : recent n ≡ None
  pub part : HasPart n (parts n) kind

-- one that this store links, by the first of its stores
abbrev pub ComesFirst : (ℕ → Bool) → (ℕ → Option Kind) → StructureSets → DriverContent → Periodic → Type 0
ComesFirst member recent parts d p =
    (w : Work) → p.work ≡ Some w → w.removes ≡ false → w.made ≡ 0 → Comes member recent parts (32 * (id_of w.member / 32)) (kind_of d.periodic w.member)

abbrev pub WaitingIsFresh : Type 0
WaitingIsFresh = (d : DriverContent) (recent : ℕ → Option Kind) (index t : ℕ) (y : Transfer) (x : Endpoint) → HasOwners d → AreRecent d index recent → slice_get d.transfers t ≡ Some y
    → is_descriptor y.sort ≡ true → y.reported ≡ false → y.released ≡ false → slice_get d.endpoints y.endpoint ≡ Some x → x.chained ≡ true
    → ((e : ℕ) → d.command ≡ Some (unfinished.Unchain e) → ⊥) → recent (32 * y.first) ≡ None

abbrev pub LentComes : Type 0
LentComes = (base : Base) (member : ℕ → Bool) (met recent : ℕ → Option Kind) (descs parts : StructureSets) (hand : Hand) (frame : FrameHand) (c : Content) (d : DriverContent) (t : ℕ) (y : TransferRuns)
    → RunsBoth base member met (both descs parts) hand frame c → AreDescribed (views_of d) descs → IsDescriptorLent (views_of d) t y → recent (32 * y.first) ≡ None
    → Comes member recent (both descs parts) (32 * y.first) (kind_of_descriptor (note_at d.periodic.notes y.first).split)

-- ---- the store

pub data IsStoredIn (base : Base) (parts : StructureSets) (frame : FrameHand) (at v : ℕ) (now : StructureSets) (later : FrameHand) : Type 0 where
  an_element : (k : ℕ) (list : FrameList parts base) → k < 1024 → at ≡ base.periodic_list_base + 4 * k
      → now ≡ put parts base.periodic_list_base base.periodic_list_base (Table (slice_set list.words k v)) → later ≡ frame → IsStoredIn base parts frame at v now later
  a_link : (s : Structure) → parts at at ≡ Some s → HasLink s → now ≡ put parts at at (linked (link_fields (link_read v)) s)
      → later ≡ frame_linked at (link_fields (link_read v)) frame → IsStoredIn base parts frame at v now later

pub record ListStored (base : Base) (member : ℕ → Bool) (later : ℕ → Option Kind) (parts : StructureSets) (hand : Hand) (frame : FrameHand) (st : Store) (new : DriverContent) (c : Content) : Type 0
  where
    pub now : StructureSets
    pub frame_later : FrameHand
    pub stored : IsStoredIn base parts frame st.at st.value now frame_later
    pub runs : RunsBoth base member (met new later) now hand frame_later c
    pub frames : HasFrames c.memory new
    pub apart : AreApartFrom new later

pub record StoresNext (m : Mem) (d new : DriverContent) (p : Periodic) (st : Store) : Type 0 where
  pub list : p.list ≡ d.periodic.list.list
  pub members : p.members ≡ d.periodic.list.members
  pub order : IsInOrder p
  pub before : led_in p ≡ led d
  pub after : led new ≡ led_in (after_store p)
  pub next : next_store p ≡ Some st
  pub start : new.periodic.list.list ≡ d.periodic.list.list
  pub notes : new.periodic.notes ≡ d.periodic.notes
  pub frames : HasFrames m d
  pub frames_after : HasFrames (with_word m st.at st.value) new

abbrev pub NextStoreLeavesBoth : Type 0
NextStoreLeavesBoth = (base : Base) (member : ℕ → Bool) (recent : ℕ → Option Kind) (parts : StructureSets) (hand : Hand) (frame : FrameHand) (c : Content) (d new : DriverContent) (p : Periodic)
    (st : Store)
    → RunsBoth base member (met d recent) parts hand frame c → base.periodic_list_base ≡ 32 * d.periodic.list.list → StoresNext c.memory d new p st
    → AreApartFrom d recent → ComesFirst member recent parts d p
    → ListStored base member (recent_with d.periodic (leaves_now p) recent) parts hand frame st new (record c { memory = with_word c.memory st.at st.value })

-- ---- a command that links or unlinks members

abbrev pub LinkRowsLeaveBoth : Type 0
LinkRowsLeaveBoth = (base : Base) (member : ℕ → Bool) (recent : ℕ → Option Kind) (parts : StructureSets) (hand : Hand) (frame : FrameHand) (c : Content) (d : DriverContent) (row : DriverRow)
    → RunsBoth base member (met d recent) parts hand frame c → base.periodic_list_base ≡ 32 * d.periodic.list.list → HasFrames c.memory d → AreApartFrom d recent
    → Stands (holding d.book c.memory) → IsShaped c.memory → HasOwners d → (why : IsLinkOf (parts_of c d) row) → (removes_members why.command ≡ false → NextLeads (parts_of c d))
    → ComesFirst member recent parts d d.periodic.list
    → ListStored base member (recent_with d.periodic (leaves_now d.periodic.list) recent) parts hand frame why.store (driver_after row c d) (content_after row c d)

-- ---- a harvested descriptor is unlinked

pub record UnlinkStored (base : Base) (member : ℕ → Bool) (recent : ℕ → Option Kind) (parts : StructureSets) (hand : Hand) (frame : FrameHand) (c : Content) (d : DriverContent) (t : ℕ)
    (y : Transfer) : Type 0 where
  pub store : Store
  pub next : next_store (descriptor_leaving d y) ≡ Some store
  pub stored : ListStored base member (also (32 * y.first) (kind_of_descriptor (note_at d.periodic.notes y.first).split) recent) parts hand frame store (driver_after (rows.Unlink t) c d)
      (content_after (rows.Unlink t) c d)

abbrev pub UnlinkRowsLeaveBoth : Type 0
UnlinkRowsLeaveBoth = (base : Base) (member : ℕ → Bool) (recent : ℕ → Option Kind) (parts : StructureSets) (hand : Hand) (frame : FrameHand) (c : Content) (d : DriverContent) (t : ℕ) (y : Transfer)
    → RunsBoth base member (met d recent) parts hand frame c → base.periodic_list_base ≡ 32 * d.periodic.list.list → HasFrames c.memory d → AreApartFrom d recent
    → Stands (holding d.book c.memory) → IsShaped c.memory → HasOwners d → IsUnlinkDue (parts_of c d) t → slice_get d.transfers t ≡ Some y
    → UnlinkStored base member recent parts hand frame c d t y

-- ---- what the structures are then

abbrev pub StoreKeepsParts : Type 0
StoreKeepsParts = (base : Base) (parts now : StructureSets) (frame later : FrameHand) (at v : ℕ) → IsStoredIn base parts frame at v now later → Keeps parts now

-- ---- the driver goes on

pub record UnlinkDriven (base : Base) (member : ℕ → Bool) (recent : ℕ → Option Kind) (descs parts : StructureSets) (hand : Hand) (frame : FrameHand) (c : Content) (d : DriverContent) (t : ℕ)
    (y : Transfer) : Type 0 where
  pub event : UnlinkStored base member recent (both descs parts) hand frame c d t y
  pub drives : DrivesFrames base member (also (32 * y.first) (kind_of_descriptor (note_at d.periodic.notes y.first).split) recent) (descs_now descs event.stored.now)
      (parts_now descs parts event.stored.now) hand event.stored.frame_later (content_after (rows.Unlink t) c d) (driver_after (rows.Unlink t) c d)

abbrev pub UnlinkDrives : Type 0
UnlinkDrives = (base : Base) (member : ℕ → Bool) (recent : ℕ → Option Kind) (descs parts : StructureSets) (hand : Hand) (frame : FrameHand) (c : Content) (d : DriverContent) (t : ℕ) (y : Transfer)
    → DrivesFrames base member recent descs parts hand frame c d → base.periodic_list_base ≡ 32 * d.periodic.list.list → HasFrames c.memory d → AreApartFrom d recent
    → Stands (holding d.book c.memory) → IsShaped c.memory → HasOwners d → IsUnlinkDue (parts_of c d) t → slice_get d.transfers t ≡ Some y
    → UnlinkDriven base member recent descs parts hand frame c d t y

abbrev pub LeavesChained : DriverContent → Type 0
LeavesChained d = (e : ℕ) (x : Endpoint) → d.command ≡ Some (unfinished.Unchain e) → slice_get d.endpoints e ≡ Some x → x.chained ≡ true

pub record LinkDriven (base : Base) (member : ℕ → Bool) (recent : ℕ → Option Kind) (descs parts : StructureSets) (hand : Hand) (frame : FrameHand) (c : Content) (d : DriverContent)
    (row : DriverRow) (st : Store) : Type 0 where
  pub event : ListStored base member (recent_with d.periodic (leaves_now d.periodic.list) recent) (both descs parts) hand frame st (driver_after row c d) (content_after row c d)
  pub drives : DrivesFrames base member (recent_with d.periodic (leaves_now d.periodic.list) recent) (descs_now descs event.now) (parts_now descs parts event.now) hand event.frame_later
      (content_after row c d) (driver_after row c d)

abbrev pub LinkDrives : Type 0
LinkDrives = (base : Base) (member : ℕ → Bool) (recent : ℕ → Option Kind) (descs parts : StructureSets) (hand : Hand) (frame : FrameHand) (c : Content) (d : DriverContent) (row : DriverRow)
    → DrivesFrames base member recent descs parts hand frame c d → base.periodic_list_base ≡ 32 * d.periodic.list.list → HasFrames c.memory d → AreApartFrom d recent
    → Stands (holding d.book c.memory) → IsShaped c.memory → HasOwners d → (why : IsLinkOf (parts_of c d) row) → (removes_members why.command ≡ false → NextLeads (parts_of c d))
    → ComesFirst member recent (both descs parts) d d.periodic.list → LeavesChained d → LinkDriven base member recent descs parts hand frame c d row why.store
