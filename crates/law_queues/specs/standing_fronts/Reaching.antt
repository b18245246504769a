-- The front of an endpoint's queue and its tail, the qTD at its end that isn't published: the walk doesn't go past it (EHCI 1.0, 4.10 and 4.10.2).
--     Reaches d part order out i x c   endpoint i has its front, and the qTD at c is the tail of its queue
--     ReachesWalk, ReachesIdleStore, ReachesLastStore, ReleaseLeavesTails
--                                      the laws
use Rattle.std.specs.Prelude.{◌≡◌, ◌≢◌, ℕ, ◌*◌, ◌≤◌, Bool, true, false, List, ◌∷◌, ◌++◌, Some}
use Rattle.usb_base.specs.declared.packets.Ask.{Ask}
use Rattle.usb_base.specs.declared.packets.Reply.{Reply}
use Rattle.qh_qtd.specs.declared.qtd.Qtd.{Qtd}
use Rattle.async_walk.specs.declared.state.WalkStep.{WalkStep}
use Rattle.drv_table.specs.declared.content.Endpoint.{Endpoint}
use Rattle.drv_table.specs.declared.content.Transfer.{Transfer}
use Rattle.drv_table.specs.DriverContent.{DriverContent}
use Rattle.drv_table.specs.Parts.{Parts}
use Rattle.drv_table.specs.Rows.{after_driver_row}
use Rattle.law_structures.specs.lent_structures.Structures.{Element, Structures, StructureSets}
use Rattle.law_ring.specs.Hand.{Hand}
use Rattle.law_ring.specs.Ring.{IsInHand}
use Rattle.law_ring.specs.Effects.{Effect}
use Rattle.law_ring.specs.Streams.{AreMembers}
use Rattle.law_ring.specs.Order.{IsFresh, IsSorted, IsAmong}
use Rattle.law_ring.specs.Fewer.{without_those}
use Rattle.law_ring.specs.Front.{LinksRise, LinksWithin, HasTail}
use Rattle.law_frames.specs.Met.{IsQueuePart}
use Rattle.law_driver_ring.specs.Released.{goes_of, release_row}
use Rattle.law_queues.specs.released_queues.Fronts.{StandsAt}
use Rattle.law_queues.specs.released_queues.Released.{IsReturning}
use Rattle.law_queues.specs.released_queues.Staying.{QueuesAreTold}
use Rattle.law_controller.specs.controlled_streams.Returned.{staying_of}
use Rattle.law_controller.specs.controlled_streams.Storing.{stored_parts}

pub record Reaches (d : DriverContent) (part : Structures) (order : ℕ → ℕ) (out : List ℕ) (i : ℕ) (x : Endpoint) (c : ℕ) : Type 0 where
  pub stands : StandsAt d part order out i x
  pub within : LinksWithin order c part
  pub tail : HasTail order c stands.front (32 * x.queue) part

abbrev pub ReachesWalk : {W : Type 0} → (W → Ask → List ℕ → Reply → W → Type 0) → Type 0
ReachesWalk {W} transacts = (member : ℕ → Bool) (parts : StructureSets) (hand : Hand) (reply : Reply) (wire after : W) (now : StructureSets) (later : Hand) (kind : WalkStep)
    (d : DriverContent) (order : ℕ → ℕ) (out : List ℕ) (i : ℕ) (x : Endpoint) (c : ℕ) → AreMembers member parts → IsInHand member parts reply hand
    → Effect transacts parts hand wire after now later kind → LinksRise order (parts (32 * x.queue)) → Reaches d (parts (32 * x.queue)) order out i x c
    → Reaches d (now (32 * x.queue)) order out i x c

-- a store of a qTD that isn't out and isn't active
abbrev pub ReachesIdleStore : Type 0
ReachesIdleStore = (d : DriverContent) (parts : StructureSets) (order : ℕ → ℕ) (out : List ℕ) (i e : ℕ) (x : Endpoint) (old new : Qtd) (c : ℕ) → parts (32 * x.queue) e ≡ Some (Element old)
    → old.token.active ≡ false → new.token.active ≡ false → ((a : ℕ) → IsAmong a out → a ≢ e) → Reaches d (parts (32 * x.queue)) order out i x c
    → Reaches d (stored_parts parts (32 * x.queue) e new (32 * x.queue)) order out i x c

-- the last store publishes the tail, and a later one is the tail then
abbrev pub ReachesLastStore : Type 0
ReachesLastStore = (d : DriverContent) (parts : StructureSets) (order : ℕ → ℕ) (before after : List ℕ) (i e : ℕ) (x : Endpoint) (old new : Qtd) (c : ℕ) → parts (32 * x.queue) e ≡ Some (Element old)
    → old.token.active ≡ false → new.token.active ≡ true → IsSorted order (before ++ e ∷ after) → IsFresh (parts (32 * x.queue)) new → order e ≤ order c
    → LinksWithin order c (stored_parts parts (32 * x.queue) e new (32 * x.queue)) → Reaches d (parts (32 * x.queue)) order (before ++ after) i x e
    → Reaches d (stored_parts parts (32 * x.queue) e new (32 * x.queue)) order (before ++ e ∷ after) i x c

-- the blocks of a harvested transfer are given back, wherever its queue head stands
abbrev pub ReleaseLeavesTails : Type 0
ReleaseLeavesTails = (parts : StructureSets) (p : Parts) (order : ℕ → ℕ → ℕ) (out : ℕ → List ℕ) (t : ℕ) (y : Transfer) (x : Endpoint) → QueuesAreTold parts p order out
    → IsReturning p.driver t y x → IsQueuePart (32 * x.queue) (parts (32 * x.queue))
    → (i : ℕ) (z : Endpoint) (c : ℕ) → Reaches p.driver (parts (32 * z.queue)) (order (32 * z.queue)) (out (32 * z.queue)) i z c
    → Reaches (after_driver_row (release_row t) p).driver (without_those parts (32 * x.queue) (goes_of p.driver y) (32 * z.queue)) (order (32 * z.queue))
    (staying_of (32 * x.queue) (goes_of p.driver y) out (32 * z.queue)) i z c
