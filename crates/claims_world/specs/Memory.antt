-- At each moment of a script's run, whatever endpoints it opens and cancels, the words of the ring stand for the queue heads that are
-- linked in it, each once, and those of the frame list and of its members for the driver's list, also while one is linked or unlinked; each
-- endpoint that was opened and isn't cancelled is in the ring or in its frames; words 1 and 2 of the queue heads that the walk of the ring
-- may meet are those of their endpoints; this walk stands at queue heads of the ring alone, or at those that left since the last answered
-- doorbell was rung; and the controller runs with both schedules on, over this ring and this frame list, meets no fault and is refused no
-- word (EHCI 1.0, 2.3.1, 2.3.2, 2.3.6, 2.3.7, 3.1, 3.6.2, 4.6, 4.8 and 4.15.2.4).
--     linked_to command xs   the endpoints of which the queue heads are in the ring that memory shows: the newest isn't until its open's
--                            last store
--     AreOnce bs             no block is twice among these
--     ReadsRing m d          as the words of memory tell it, the ring is the head and the queue head of each endpoint that is linked there,
--                            each once, but for one whose open is unfinished; a bulk or control endpoint that was opened and isn't
--                            cancelled is linked
--     ReadsFrameList m d     as the words of memory tell it, each frame has its members of the driver's list, in order, also while one is
--                            linked or unlinked; it begins in block 0; a periodic endpoint that was opened and isn't cancelled is in its
--                            frames; and each isochronous descriptor that waits for its harvest is linked, while no command is unfinished
--     IsWalking w            the numbers of each endpoint fit their fields; the walk is among the queue heads that it may reach; and
--                            content and registers agree on the doorbell
--     IsAtWork fixed w       ring and frame list read so, queue heads have the words of their endpoints, and the controller runs: its next
--                            event isn't Idle, and isn't the fault
--     KeepsMemory s          so it is at each moment of the run of a script; the walk of the ring stands at queue heads of it alone, or at
--                            those that have left since the last answered doorbell was rung (4.8.2); Host System Error is 0, and no refusal
--                            is counted
use Rattle.std.specs.Prelude.{◌≡◌, ◌≢◌, ℕ, ◌-◌, true, false, List, [], ◌∷◌, length, take, slice_get, Option, Some}
use Rattle.script_types.specs.declared.scripts.Script.{Script}
use Rattle.word_mem.specs.Memory.{Mem}
use Rattle.drv_periodic_table.specs.Periodic.{is_periodic}
use Rattle.drv_table.specs.declared.content.Command.{Command}
use Rattle.drv_table.specs.declared.content.Command.TheVariants as unfinished
use Rattle.drv_table.specs.declared.content.Endpoint.{Endpoint}
use Rattle.drv_table.specs.DriverContent.{DriverContent}
use Rattle.drv_table.specs.Words.{head_block}
use Rattle.hc_core.specs.declared.controller.HcStep.TheVariants as steps
use Rattle.bus_wire.specs.Bus.{Fixed, fixed_of}
use Rattle.bus_world.specs.Budgets.{moment}
use Rattle.bus_world.specs.World.{World, controller_next, kind_next}
use Rattle.claims_base.specs.Controller.{GoesOn, base_of, opening_base}
use Rattle.claims_driver.specs.FrameListMembers.{LinksWaiting}
use Rattle.claims_driver.specs.FrameWords.{ListStands}
use Rattle.claims_driver.specs.InPlace.{AreFixed}
use Rattle.claims_driver.specs.Ring.{IsChain, link_in, members}
use Rattle.claims_driver.specs.Walk.{AreNumbered, IsBellIn, IsWalkIn}

-- ---- the ring in memory (4.8.1)

abbrev pub linked_to : Option Command → List Endpoint → List Endpoint
linked_to (Some (unfinished.Open queue)) xs = take (length xs - 1) xs
linked_to _ xs = xs

abbrev pub IsNone : ℕ → List ℕ → Type 0
IsNone b [] = Unit {0}
IsNone b (c ∷ bs) = (b ≢ c) × IsNone b bs

abbrev pub AreOnce : List ℕ → Type 0
AreOnce [] = Unit {0}
AreOnce (b ∷ bs) = IsNone b bs × AreOnce bs

abbrev pub ring_blocks : DriverContent → List ℕ
ring_blocks d = members (linked_to d.command d.endpoints)

pub record ReadsRing (m : Mem) (d : DriverContent) : Type 0 where
  pub all : (e : ℕ) (x : Endpoint) → slice_get d.endpoints e ≡ Some x → is_periodic x.desc.kind ≡ false → x.cancelled ≡ false → x.linked ≡ true
  pub chain : IsChain (link_in m) head_block (ring_blocks d)
  pub once : AreOnce (head_block ∷ ring_blocks d)

-- ---- the frame list in memory (3.1, 4.6)

pub record ReadsFrameList (m : Mem) (d : DriverContent) : Type 0 where
  pub begins : d.periodic.list.list ≡ 0
  pub all :
      (e : ℕ) (x : Endpoint) → slice_get d.endpoints e ≡ Some x → is_periodic x.desc.kind ≡ true → x.cancelled ≡ false
      → x.chained ≡ true
  pub waiting : LinksWaiting d
  pub words : ListStands m d

-- ---- the walk of the ring (4.8)

pub record IsWalking (w : World) : Type 0 where
  pub numbered : AreNumbered w.driver
  pub walk : IsWalkIn w.driver w.registers w.control.walk
  pub bell : IsBellIn w.driver w.registers

-- ---- the whole

pub record IsAtWork (fixed : Fixed) (w : World) : Type 0 where
  pub ring : ReadsRing w.memory w.driver
  pub list : ReadsFrameList w.memory w.driver
  -- words 1 and 2 of queue heads are those of their endpoints (3.6.2)
  pub queue_heads : AreFixed w.memory w.driver
  -- it runs, with both schedules enabled, over the frame list and the ring that the driver built
  pub registers : base_of w.registers ≡ opening_base
  pub works : kind_next w ≢ steps.Idle
  -- its next event leaves Run and Host System Error as they are, and tries no word that isn't lent to it
  pub goes_on : GoesOn w.registers w.memory (controller_next fixed w).registers (controller_next fixed w).memory

pub record RunsInPlace (fixed : Fixed) (w : World) : Type 0 where
  pub at_work : IsAtWork fixed w
  pub walking : IsWalking w
  pub no_error : w.registers.host_system_error ≡ false
  pub unrefused : w.memory.foreign ≡ 0

abbrev pub KeepsMemory : Script → Type 0
KeepsMemory s = (k : ℕ) → RunsInPlace (fixed_of s) (moment s k).world
