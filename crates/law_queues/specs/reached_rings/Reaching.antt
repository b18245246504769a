-- The queue heads that a walk of the ring may reach, computed from the driver's content (EHCI 1.0, 4.8 and 4.8.2), and a ring whose members are
-- exactly these.
--     may_reach d rings e x    endpoint e, which is x, is in the ring, or has left since the last answered doorbell was rung; `rings`: it isn't answered yet
--     is_reached d rings n        the queue head at byte address n is the head of the ring, or that of such an endpoint
--     ReachedAt d rings n      a block begins there that the walk may reach
--     ReachedIsReached, IsReachedReached
--                              the law: it is so exactly of these blocks
--     HasQueueHeadAt d n, ReachedHasQueueHead
--                              the law: a queue head stands there of an endpoint that wasn't given back, or the head of the ring
--     AnswerReachesFewer       the law: an answer of the doorbell only makes them fewer
--     IsReachedIn narrow d r   these are exactly the members
--     NarrowRing, NarrowDrives the law: the members of a ring may be taken to be these, wherever the walk stands and whatever it has in hand
--     FollowsReached .., EventNarrows
--                              the law: so may those of the ring after an event of the walk, whether it answers the doorbell or not
--     AnswerNarrows            the law: where the doorbell is answered then, those that had left before it are members no more
use Rattle.std.specs.Prelude.{◌≡◌, ℕ, zero, suc, ◌*◌, ◌==◌, Bool, true, false, ◌&&◌, ◌||◌, List, [], ◌∷◌}
use Rattle.usb_base.specs.declared.packets.Ask.{Ask}
use Rattle.usb_base.specs.declared.packets.Reply.{Reply}
use Rattle.op_registers.specs.RegisterFile.{RegisterFile}
use Rattle.async_walk.specs.declared.state.WalkStep.{WalkStep}
use Rattle.async_walk.specs.Rows.{WalkPlace, at_event, event_row, step_of, Leads}
use Rattle.drv_table.specs.declared.content.Endpoint.{Endpoint}
use Rattle.drv_table.specs.DriverContent.{DriverContent}
use Rattle.drv_table.specs.Words.{head_block}
use Rattle.law_driver.specs.endpoint_lives.Lives.{any_at, is_one_of}
use Rattle.claims_driver.specs.Leaving.{HasOwners}
use Rattle.claims_driver.specs.Ring.{link_in}
use Rattle.law_driver.specs.ring_members.Words.{IsRing as IsRingOf}
use Rattle.claims_driver.specs.InPlace.{AreFixed}
use Rattle.law_driver.specs.queue_head_words.Overlay.{HasQueueHead}
use Rattle.law_structures.specs.lent_structures.Structures.{StructureSets}
use Rattle.law_ring.specs.Hand.{Hand}
use Rattle.claims_base.specs.Controller.{Base}
use Rattle.law_ring.specs.Ring.{IsRing}
use Rattle.law_ring.specs.Effects.{Effect, AreBytesHeard}
use Rattle.law_ring.specs.Stores.{IsWider}
use Rattle.law_driver_ring.specs.Driven.{DrivesRing}
use Rattle.claims_driver.specs.Walk.{IsReached, IsWalkIn}
use Rattle.law_driver_ring.specs.walk_members.Reached.{AreNoHeads}

-- ---- computed

abbrev pub may_reach : DriverContent → Bool → ℕ → Endpoint → Bool
may_reach d rings e x = x.linked || (is_one_of e d.waiting || (is_one_of e d.rung && rings))

abbrev pub is_reached : DriverContent → Bool → ℕ → Bool
is_reached d rings n = (n == 32 * head_block) || any_at (λ e x. (n == 32 * x.queue) && may_reach d rings e x) d.endpoints

-- ---- the blocks that the walk may reach

pub record ReachedAt (d : DriverContent) (rings : Bool) (n : ℕ) : Type 0 where
  pub block : ℕ
  pub at : n ≡ 32 * block
  pub reached : IsReached d rings block

abbrev pub ReachedIsReached : Type 0
ReachedIsReached = (d : DriverContent) (rings : Bool) (n : ℕ) → is_reached d rings n ≡ true → ReachedAt d rings n

abbrev pub IsReachedReached : Type 0
IsReachedReached = (d : DriverContent) (rings : Bool) (b : ℕ) → IsReached d rings b → is_reached d rings (32 * b) ≡ true

pub record HasQueueHeadAt (d : DriverContent) (n : ℕ) : Type 0 where
  pub block : ℕ
  pub at : n ≡ 32 * block
  pub there : HasQueueHead d block

abbrev pub ReachedHasQueueHead : Type 0
ReachedHasQueueHead = (d : DriverContent) (rings : Bool) (n : ℕ) → HasOwners d → is_reached d rings n ≡ true → HasQueueHeadAt d n

abbrev pub AnswerReachesFewer : Type 0
AnswerReachesFewer = (d : DriverContent) (rings : Bool) → IsWider (is_reached d false) (is_reached d rings)

-- ---- the members of a ring

abbrev pub IsReachedIn : (ℕ → Bool) → DriverContent → RegisterFile → Type 0
IsReachedIn narrow d r = (n : ℕ) → narrow n ≡ is_reached d r.doorbell n

abbrev pub NarrowRing : Type 0
NarrowRing = (base : Base) (member narrow : ℕ → Bool) (parts : StructureSets) (hand : Hand) (p : WalkPlace) (d : DriverContent) → IsRing base member parts hand p
    → IsRingOf (link_in p.memory) d → IsWalkIn d p.registers p.walk → IsWider narrow member → IsReachedIn narrow d p.registers → IsRing base narrow parts hand p

abbrev pub NarrowDrives : Type 0
NarrowDrives = (base : Base) (member narrow : ℕ → Bool) (parts : StructureSets) (hand : Hand) (p : WalkPlace) (d : DriverContent) → DrivesRing base member parts hand p d
    → IsRingOf (link_in p.memory) d → IsWalkIn d p.registers p.walk → IsWider narrow member → IsReachedIn narrow d p.registers → DrivesRing base narrow parts hand p d

-- ---- an event of the walk

pub record FollowsReached {W : Type 0} (transacts : W → Ask → List ℕ → Reply → W → Type 0) (base : Base) (narrow : ℕ → Bool) (parts : StructureSets) (hand : Hand) (d : DriverContent) (wire after : W)
    (new : WalkPlace) (kind : WalkStep) : Type 0 where
  pub now : StructureSets
  pub later : Hand
  pub drives : DrivesRing base narrow now later new d
  pub walk : IsWalkIn d new.registers new.walk
  pub effect : Effect transacts parts hand wire after now later kind

abbrev pub EventNarrows : {W : Type 0} → (W → Ask → List ℕ → Reply → W → Type 0) → Type 0
EventNarrows {W} transacts = (base : Base) (member narrow : ℕ → Bool) (parts : StructureSets) (hand : Hand) (p : WalkPlace) (d : DriverContent) (wire : W) (new : WalkPlace) (after : W)
    → DrivesRing base member parts hand p d → IsRingOf (link_in p.memory) d → AreFixed p.memory d → AreNoHeads d → IsWalkIn d p.registers p.walk
    → AreBytesHeard transacts wire after → Leads transacts (event_row p) (at_event p) wire new after → IsWider (is_reached d p.registers.doorbell) member → IsReachedIn narrow d new.registers
    → FollowsReached transacts base narrow parts hand d wire after new (step_of (event_row p) (at_event p))

abbrev pub AnswerNarrows : {W : Type 0} → (W → Ask → List ℕ → Reply → W → Type 0) → Type 0
AnswerNarrows {W} transacts = (base : Base) (member : ℕ → Bool) (parts : StructureSets) (hand : Hand) (p : WalkPlace) (d : DriverContent) (wire : W) (new : WalkPlace) (after : W)
    → DrivesRing base member parts hand p d → IsRingOf (link_in p.memory) d → AreFixed p.memory d → AreNoHeads d → IsWalkIn d p.registers p.walk
    → AreBytesHeard transacts wire after → Leads transacts (event_row p) (at_event p) wire new after → IsWider (is_reached d p.registers.doorbell) member → new.registers.doorbell ≡ false
    → FollowsReached transacts base (is_reached d false) parts hand d wire after new (step_of (event_row p) (at_event p))
