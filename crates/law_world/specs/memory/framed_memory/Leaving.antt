-- An endpoint with a queue leaves, where the controller walks a ring and the frames (EHCI 1.0, 4.6, 4.8.2, 4.10 and 4.12.2): once neither walk may meet its queue head any
-- more, all of its runs are given back.
--     InterruptIsUnmet        the queue head of an interrupt endpoint that is given back next isn't met: it left its frames, and a later frame was read since
--     RingIsUnmet             nor is that of an endpoint that left the ring, which never was in a frame
--     InterruptIsUnreached    nor may the walk of the ring reach the queue head of an interrupt endpoint
--     ClearedIsUnreached      nor that of an endpoint that had left the ring when the doorbell was rung, once Async Advance was cleared
--     EndpointLeavesNow       an interrupt endpoint is given back: its queue head, its inactive qTD, and the qTDs and buffers that its transfers still had
--     EndpointReleaseNow      so is an endpoint that left the ring, once Async Advance was cleared
--     NarrowKeepsNow          the ring goes on with just those queue heads that its walk may reach
--     ClearNarrowsNow         so it does where Async Advance is cleared: those that had left when the doorbell was rung are met no more
use Rattle.std.specs.Prelude.{◌≡◌, ℕ, ◌*◌, Bool, true, false, slice_get, Option, Some, None}
use Rattle.drv_periodic_table.specs.Periodic.{is_periodic}
use Rattle.drv_periodic_table.specs.declared.content.Removed.TheVariants as removed
use Rattle.drv_table.specs.declared.content.Endpoint.{Endpoint}
use Rattle.drv_table.specs.declared.rows.DriverRow.TheVariants as rows
use Rattle.drv_table.specs.DriverContent.{DriverContent}
use Rattle.drv_table.specs.Parts.{Parts}
use Rattle.drv_table.specs.Kinds.{is_iso}
use Rattle.drv_table.specs.Rows.{driver_row}
use Rattle.claims_driver.specs.Leaving.{HasOwners}
use Rattle.law_driver.specs.listed_members.Members.{IsListed}
use Rattle.hc_core.specs.Controller.{Content}
use Rattle.law_structures.specs.lent_structures.Structures.{StructureSets}
use Rattle.law_ring.specs.Hand.{Hand}
use Rattle.claims_base.specs.Controller.{Base}
use Rattle.law_ring.specs.Stores.{IsWider}
use Rattle.claims_driver.specs.Walk.{IsWalkIn, IsBellIn}
use Rattle.law_queues.specs.reached_rings.Reaching.{is_reached, IsReachedIn}
use Rattle.law_world.specs.steps.endpoint_releases.Released.{without_queue}
use Rattle.law_queues.specs.shared_memory.Shared.{parts_of, next_parts, after_driver}
use Rattle.law_frames.specs.Met.{Kind}
use Rattle.law_frames.specs.FrameHand.{FrameHand}
use Rattle.law_descriptors.specs.Meeting.{met}
use Rattle.law_descriptors.specs.Recent.{AreRecent}
use Rattle.law_descriptors.specs.Returned.{IsGivenBack}
use Rattle.law_world.specs.memory.framed_memory.Now.{IsFramedNow, FramedNext}

-- ---- the walk of the frames doesn't meet them

abbrev pub InterruptIsUnmet : Type 0
InterruptIsUnmet = (p : Parts) (recent : ℕ → Option Kind) (index e : ℕ) (x : Endpoint) → HasOwners p.driver → IsListed p.driver → AreRecent p.driver index recent
    → IsGivenBack p (removed.Endpoint e) → slice_get p.driver.endpoints e ≡ Some x → is_iso x.desc.kind ≡ false → met p.driver recent (32 * x.queue) ≡ None

-- while no command is unfinished
abbrev pub RingIsUnmet : Type 0
RingIsUnmet = (d : DriverContent) (recent : ℕ → Option Kind) (index e : ℕ) (x : Endpoint) → HasOwners d → IsListed d → AreRecent d index recent → d.command ≡ None
    → slice_get d.endpoints e ≡ Some x → is_periodic x.desc.kind ≡ false → x.gone ≡ false → met d recent (32 * x.queue) ≡ None

-- ---- nor does the walk of the ring reach them

abbrev pub InterruptIsUnreached : Type 0
InterruptIsUnreached = (d : DriverContent) (rings : Bool) (e : ℕ) (x : Endpoint) → HasOwners d → slice_get d.endpoints e ≡ Some x → is_iso x.desc.kind ≡ false
    → is_periodic x.desc.kind ≡ true → x.gone ≡ false → is_reached d rings (32 * x.queue) ≡ false

abbrev pub ClearedIsUnreached : Type 0
ClearedIsUnreached = (d : DriverContent) (rings : Bool) (i e : ℕ) (x : Endpoint) → HasOwners d → slice_get d.cleared i ≡ Some e → slice_get d.endpoints e ≡ Some x
    → is_reached d rings (32 * x.queue) ≡ false

-- ---- rows

abbrev pub EndpointLeavesNow : Type 0
EndpointLeavesNow = (base : Base) (member : ℕ → Bool) (recent : ℕ → Option Kind) (descs parts : StructureSets) (hand : Hand) (frame : FrameHand) (c : Content) (d : DriverContent) (e : ℕ)
    (x : Endpoint) → IsFramedNow base member recent descs parts hand frame c d → driver_row (parts_of c d) ≡ rows.ReleaseRemoved (removed.Endpoint e)
    → slice_get d.endpoints e ≡ Some x → is_iso x.desc.kind ≡ false → member (32 * x.queue) ≡ false
    → FramedNext base member recent descs (without_queue parts (32 * x.queue)) hand frame c d

abbrev pub EndpointReleaseNow : Type 0
EndpointReleaseNow = (base : Base) (member : ℕ → Bool) (recent : ℕ → Option Kind) (descs parts : StructureSets) (hand : Hand) (frame : FrameHand) (c : Content) (d : DriverContent) (e : ℕ)
    (x : Endpoint) → IsFramedNow base member recent descs parts hand frame c d → driver_row (parts_of c d) ≡ rows.ReleaseEndpoint e
    → slice_get d.endpoints e ≡ Some x → member (32 * x.queue) ≡ false
    → FramedNext base member recent descs (without_queue parts (32 * x.queue)) hand frame c d

-- ---- fewer are of the ring

abbrev pub NarrowKeepsNow : Type 0
NarrowKeepsNow = (base : Base) (member narrow : ℕ → Bool) (recent : ℕ → Option Kind) (descs parts : StructureSets) (hand : Hand) (frame : FrameHand) (c : Content) (d : DriverContent)
    → IsFramedNow base member recent descs parts hand frame c d → IsWalkIn d c.registers c.control.walk → IsWider narrow member → IsReachedIn narrow d c.registers
    → IsFramedNow base narrow recent descs parts hand frame c d

-- the walk is among those that it may reach, and content and registers agree on the doorbell
abbrev pub ClearNarrowsNow : Type 0
ClearNarrowsNow = (base : Base) (member narrow : ℕ → Bool) (recent : ℕ → Option Kind) (descs parts : StructureSets) (hand : Hand) (frame : FrameHand) (c : Content) (d : DriverContent)
    → IsFramedNow base member recent descs parts hand frame c d → driver_row (parts_of c d) ≡ rows.ClearAdvance → IsWalkIn d c.registers c.control.walk → IsBellIn d c.registers
    → IsWider narrow member → IsReachedIn narrow (next_parts c d).driver (after_driver c d).registers
    → FramedNext base narrow recent descs parts hand frame c d
