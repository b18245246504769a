-- What a driver gives back of isochronous descriptors, while the controller walks the frames and a ring (EHCI 1.0, 2.3.4, 3.3, 3.4 and 4.6).
--     RowGivesBackPassed               where the next row gives back what was unlinked, that was removed first, and its frame has passed
--     no_structure                 of an owner that has nothing
--     without_owners sets goes     the structures but those of the owners that go
--     begins_at b n                block b begins at byte address n
--     after_release what p         what was unlinked is given back
--     ReleaseTold                  once a descriptor is given back, memory has for the driver all else that it had
--     ReleaseRunsBoth              and the controller goes on over both, wherever its walks are and whatever they have in hand
--     waits_as e n y               the descriptor that waits at endpoint e begins at byte address n
--     waiting_at d e n             one of those of the driver does
--     WaitingTold, WaitingRunsBoth the same where an isochronous endpoint is given back with all that waits there
--     EndpointLeavesRecent         what is recent stays so where an endpoint is given back
use Rattle.std.specs.Prelude.{◌≡◌, ℕ, ◌*◌, ◌==◌, Bool, true, ◌&&◌, slice_get, Option, Some, None, if◌then◌else◌}
use Rattle.std.specs.List.{list_any}
use Rattle.mem_runs.specs.Book.{holding, Stands}
use Rattle.drv_periodic_table.specs.declared.content.Removed.{Removed}
use Rattle.drv_periodic_table.specs.declared.content.Removed.TheVariants as removed
use Rattle.drv_table.specs.declared.content.Endpoint.{Endpoint}
use Rattle.drv_table.specs.declared.content.Transfer.{Transfer}
use Rattle.drv_table.specs.declared.rows.DriverRow.TheVariants as rows
use Rattle.drv_table.specs.DriverContent.{DriverContent, waits_for}
use Rattle.drv_table.specs.Parts.{Parts}
use Rattle.drv_table.specs.Kinds.{is_iso}
use Rattle.drv_table.specs.Rows.{driver_row, after_driver_row}
use Rattle.claims_driver.specs.Owners.{views_of}
use Rattle.claims_driver.specs.Leaving.{HasOwners}
use Rattle.law_driver.specs.listed_members.Members.{IsListed}
use Rattle.hc_core.specs.Controller.{Content}
use Rattle.law_structures.specs.lent_structures.Structures.{Structures, StructureSets}
use Rattle.law_ring.specs.Hand.{Hand}
use Rattle.claims_base.specs.Controller.{Base}
use Rattle.law_frames.specs.Met.{Kind}
use Rattle.law_frames.specs.FrameHand.{FrameHand}
use Rattle.law_controller.specs.frame_control.Both.{RunsBoth}
use Rattle.law_descriptors.specs.Both.{both}
use Rattle.law_descriptors.specs.Told.{IsToldBy, with_memory, as_parts}
use Rattle.law_descriptors.specs.Meeting.{met}
use Rattle.law_descriptors.specs.Recent.{AreRecent}
use Rattle.law_descriptors.specs.Returned.{IsGivenBack}

abbrev pub RowGivesBackPassed : Type 0
RowGivesBackPassed = (p : Parts) (what : Removed) → driver_row p ≡ rows.ReleaseRemoved what → IsGivenBack p what

-- ---- what stays

abbrev pub no_structure : Structures
no_structure a = None

abbrev pub without_owners : StructureSets → (ℕ → Bool) → StructureSets
without_owners sets goes n = if goes n then no_structure else sets n

abbrev pub begins_at : ℕ → ℕ → Bool
begins_at b n = n == 32 * b

-- ---- a descriptor

abbrev pub after_release : Removed → Parts → Parts
after_release what p = after_driver_row (rows.ReleaseRemoved what) p

abbrev pub ReleaseTold : Type 0
ReleaseTold = (p : Parts) (t : ℕ) (y : Transfer) (descs parts : StructureSets) → HasOwners p.driver → IsGivenBack p (removed.Descriptor t) → slice_get p.driver.transfers t ≡ Some y
    → IsToldBy (views_of p.driver) descs parts → IsToldBy (views_of (after_release (removed.Descriptor t) p).driver) (without_owners descs (begins_at y.first)) parts

abbrev pub ReleaseRunsBoth : Type 0
ReleaseRunsBoth = (base : Base) (member : ℕ → Bool) (recent : ℕ → Option Kind) (descs parts : StructureSets) (hand : Hand) (frame : FrameHand) (c : Content) (index : ℕ) (d : DriverContent)
    (t : ℕ) (y : Transfer) → HasOwners d → IsListed d → Stands (holding d.book c.memory) → AreRecent d index recent → IsGivenBack (as_parts c d) (removed.Descriptor t)
    → slice_get d.transfers t ≡ Some y → IsToldBy (views_of d) descs parts → RunsBoth base member (met d recent) (both descs parts) hand frame c
    → RunsBoth base member (met (after_release (removed.Descriptor t) (as_parts c d)).driver recent) (both (without_owners descs (begins_at y.first)) parts) hand frame
    (with_memory c (after_release (removed.Descriptor t) (as_parts c d)).memory)

-- ---- those that wait at an isochronous endpoint

abbrev pub waits_as : ℕ → ℕ → Transfer → Bool
waits_as e n y = waits_for e y && begins_at y.first n

abbrev pub waiting_at : DriverContent → ℕ → ℕ → Bool
waiting_at d e n = list_any (waits_as e n) d.transfers

abbrev pub WaitingTold : Type 0
WaitingTold = (p : Parts) (e : ℕ) (x : Endpoint) (descs parts : StructureSets) → HasOwners p.driver → IsGivenBack p (removed.Endpoint e) → slice_get p.driver.endpoints e ≡ Some x
    → is_iso x.desc.kind ≡ true → IsToldBy (views_of p.driver) descs parts
    → IsToldBy (views_of (after_release (removed.Endpoint e) p).driver) (without_owners descs (waiting_at p.driver e)) parts

abbrev pub WaitingRunsBoth : Type 0
WaitingRunsBoth = (base : Base) (member : ℕ → Bool) (recent : ℕ → Option Kind) (descs parts : StructureSets) (hand : Hand) (frame : FrameHand) (c : Content) (index : ℕ) (d : DriverContent)
    (e : ℕ) (x : Endpoint) → HasOwners d → IsListed d → Stands (holding d.book c.memory) → AreRecent d index recent → IsGivenBack (as_parts c d) (removed.Endpoint e)
    → slice_get d.endpoints e ≡ Some x → is_iso x.desc.kind ≡ true → IsToldBy (views_of d) descs parts → RunsBoth base member (met d recent) (both descs parts) hand frame c
    → RunsBoth base member (met (after_release (removed.Endpoint e) (as_parts c d)).driver recent) (both (without_owners descs (waiting_at d e)) parts) hand frame
    (with_memory c (after_release (removed.Endpoint e) (as_parts c d)).memory)

-- of either kind
abbrev pub EndpointLeavesRecent : Type 0
EndpointLeavesRecent = (p : Parts) (recent : ℕ → Option Kind) (index e : ℕ) (x : Endpoint) → HasOwners p.driver → IsGivenBack p (removed.Endpoint e) → slice_get p.driver.endpoints e ≡ Some x
    → AreRecent p.driver index recent → AreRecent (after_release (removed.Endpoint e) p).driver index recent
