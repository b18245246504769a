-- Tails of queues while no command is unfinished (EHCI 1.0, 4.10.2): the walk goes no further than the inactive qTD at the end of a queue.
--     SoundQueuesReach     the law, wherever the queue head stands, in the ring or in frames: its part is sound
--     IdleQueuesReach      the same of a queue head of the ring
use Rattle.std.specs.Prelude.{◌≡◌, ℕ, ◌*◌, Bool, List, slice_get, Some, None}
use Rattle.drv_table.specs.declared.content.Endpoint.{Endpoint}
use Rattle.drv_table.specs.DriverContent.{DriverContent}
use Rattle.claims_driver.specs.Leaving.{HasOwners}
use Rattle.law_driver.specs.chained_transfers.AsynchronousTurns.{AsynchronousTakesTurns}
use Rattle.claims_driver.specs.LentRuns.{AreLent}
use Rattle.law_structures.specs.lent_structures.Structures.{StructureSets}
use Rattle.law_structures.specs.lent_structures.Sound.{IsMember}
use Rattle.law_frames.specs.Met.{IsQueuePart}
use Rattle.law_driver_ring.specs.fed_queues.Fed.{AreFed}
use Rattle.law_driver_ring.specs.fed_queues.Places.{AreLast, AreStillOut, IsMet}
use Rattle.law_queues.specs.released_queues.Fronts.{FrontsStand}
use Rattle.law_queues.specs.standing_fronts.Reaching.{Reaches}

abbrev pub SoundQueuesReach : Type 0
SoundQueuesReach = (d : DriverContent) (parts : StructureSets) (order : ℕ → ℕ → ℕ) (out : ℕ → List ℕ) → d.command ≡ None → HasOwners d → AreLent d → AsynchronousTakesTurns d
    → AreFed d parts → AreLast d parts order → AreStillOut d out → FrontsStand d parts order out
    → (e : ℕ) (x : Endpoint) → slice_get d.endpoints e ≡ Some x → IsMet d e x → IsQueuePart (32 * x.queue) (parts (32 * x.queue))
    → Reaches d (parts (32 * x.queue)) (order (32 * x.queue)) (out (32 * x.queue)) e x (32 * x.dummy)

abbrev pub IdleQueuesReach : Type 0
IdleQueuesReach = (member : ℕ → Bool) (d : DriverContent) (parts : StructureSets) (order : ℕ → ℕ → ℕ) (out : ℕ → List ℕ) → d.command ≡ None → HasOwners d → AreLent d → AsynchronousTakesTurns d
    → AreFed d parts → AreLast d parts order → AreStillOut d out → FrontsStand d parts order out
    → (e : ℕ) (x : Endpoint) → slice_get d.endpoints e ≡ Some x → IsMet d e x → IsMember member (32 * x.queue) (parts (32 * x.queue))
    → Reaches d (parts (32 * x.queue)) (order (32 * x.queue)) (out (32 * x.queue)) e x (32 * x.dummy)
