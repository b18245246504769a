-- What an accepted command leaves of the queues of a driver of bulk and control endpoints (EHCI 1.0, 3.5.4, 3.6.2, 4.8 and 4.10).
--     NewHeadIsInRange          each field of the queue head that is written for such an endpoint is in its range
--     OpensItsOwn               where a command opens an endpoint, it is the one that the command describes
--     ReachEnds d parts order out       each queue has its front, and its tail is the inactive qTD at its end
--     ReachesOpen, ReachesAsked fronts and tails stay: what was at the end of the queue that is asked is the first qTD of the get, put or request
--     ExtentsOpen, ExtentsAsked buffers stay in their runs: nothing of what the command takes is lent yet
use Rattle.std.specs.Prelude.{◌≡◌, ℕ, ◌*◌, ◌==◌, ◌≤◌, List, slice_get, Some, Ok, if◌then◌else◌}
use Rattle.usb_base.specs.declared.commands.Cmd.{Cmd}
use Rattle.usb_base.specs.declared.commands.Cmd.TheVariants as commands
use Rattle.usb_base.specs.declared.endpoints.EpDesc.{EpDesc}
use Rattle.word_mem.specs.Memory.{Mem}
use Rattle.qh_qtd.specs.QueueHead.{IsQhInRange}
use Rattle.mem_runs.specs.Book.{holding, Stands}
use Rattle.drv_table.specs.declared.content.Endpoint.{Endpoint}
use Rattle.drv_table.specs.DriverContent.{DriverContent}
use Rattle.drv_table.specs.Words.{queue_head}
use Rattle.drv_table.specs.Accepting.{Offered}
use Rattle.drv_table.specs.Offers.{offered}
use Rattle.law_driver.specs.run_owners.Accepts.{Opens, Transfers}
use Rattle.claims_driver.specs.Owners.{views_of}
use Rattle.claims_driver.specs.Leaving.{HasOwners}
use Rattle.claims_driver.specs.Walk.{IsNumbered}
use Rattle.claims_driver.specs.LentRuns.{AreLent}
use Rattle.law_structures.specs.lent_structures.Structures.{StructureSets}
use Rattle.law_driver_ring.specs.Inventory.{sorts_of, IsDriven}
use Rattle.law_driver_ring.specs.Extents.{AreInRuns}
use Rattle.law_driver.specs.AsynchronousScripts.{IsAsynchronous, OpensAsynchronous}
use Rattle.law_driver.specs.chained_transfers.Asynchronous.{OnlyAsynchronous}
use Rattle.law_driver_ring.specs.fed_queues.Places.{IsMet}
use Rattle.law_queues.specs.standing_fronts.Reaching.{Reaches}

abbrev pub NewHeadIsInRange : Type 0
NewHeadIsInRange = (x : EpDesc) (link dummy : ℕ) → IsAsynchronous x → IsNumbered x → x.max ≤ 1024 → IsQhInRange (queue_head x link dummy)

abbrev pub OpensItsOwn : Type 0
OpensItsOwn = (d : DriverContent) (m : Mem) (cmd : Cmd) (o : Offered) → OpensAsynchronous cmd → offered d m cmd ≡ Ok o → (why : Opens d m o) → cmd ≡ commands.OpenEp why.desc

-- ---- fronts and tails

abbrev pub ReachEnds : DriverContent → StructureSets → (ℕ → ℕ → ℕ) → (ℕ → List ℕ) → Type 0
ReachEnds d parts order out =
    (e : ℕ) (x : Endpoint) → slice_get d.endpoints e ≡ Some x → IsMet d e x → Reaches d (parts (32 * x.queue)) (order (32 * x.queue)) (out (32 * x.queue)) e x (32 * x.dummy)

abbrev pub ReachesOpen : Type 0
ReachesOpen = (d : DriverContent) (m : Mem) (o : Offered) (parts : StructureSets) (order : ℕ → ℕ → ℕ) (out : ℕ → List ℕ) → Opens d m o → ReachEnds d parts order out
    → (e : ℕ) (x : Endpoint) → slice_get o.driver.endpoints e ≡ Some x → IsMet o.driver e x
    → Reaches o.driver (parts (32 * x.queue)) (order (32 * x.queue)) (out (32 * x.queue)) e x (32 * x.dummy)

abbrev pub ReachesAsked : Type 0
ReachesAsked = (d : DriverContent) (m : Mem) (o : Offered) (parts : StructureSets) (order : ℕ → ℕ → ℕ) (out : ℕ → List ℕ) → (why : Transfers d m o) → Stands (holding d.book m) → HasOwners d
    → AreLent d → OnlyAsynchronous d → ReachEnds d parts order out → (e : ℕ) (x : Endpoint) → slice_get o.driver.endpoints e ≡ Some x → IsMet o.driver e x
    → Reaches o.driver (parts (32 * x.queue)) (order (32 * x.queue)) (out (32 * x.queue)) e x (32 * (if why.number == e then why.endpoint.dummy else x.dummy))

-- ---- buffers

abbrev pub ExtentsOpen : Type 0
ExtentsOpen = (d : DriverContent) (m : Mem) (o : Offered) (parts : StructureSets) → Opens d m o → Stands (holding d.book m) → HasOwners d → IsDriven (views_of o.driver) (sorts_of parts)
    → AreInRuns (views_of d) parts → AreInRuns (views_of o.driver) parts

abbrev pub ExtentsAsked : Type 0
ExtentsAsked = (d : DriverContent) (m : Mem) (o : Offered) (parts : StructureSets) → Transfers d m o → Stands (holding d.book m) → HasOwners d → IsDriven (views_of o.driver) (sorts_of parts)
    → AreInRuns (views_of d) parts → AreInRuns (views_of o.driver) parts
