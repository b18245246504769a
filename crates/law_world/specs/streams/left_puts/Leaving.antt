-- What is told of puts stays with each step of an endpoint's leave (EHCI 1.0, 4.8.2): its cancel is accepted, one store unlinks it, the doorbell is rung and
-- listened for, and Async Advance is cleared.
--     LeaveHoldsPuts       the buffers of puts hold their bytes, where no word changes
--     LeaveOwes            what was reported of an OUT endpoint and what is still to be sent are its puts, where the buffers of puts hold their bytes
--     LeaveSends           the qTDs of an OUT endpoint that a walk may still meet are sent whole and in turn
--     LeaveStops           the queue head of an OUT endpoint that has ended is halted
--     LeaveKeepsTaken      what the device of an OUT endpoint took begins its puts
--     KeptStayStopped      queue heads that are spared stay halted, whatever becomes of those of endpoints that were given back
use Rattle.std.specs.Prelude.{◌≡◌, ℕ, ◌*◌, false, List, slice_get, Option, Some}
use Rattle.word_mem.specs.Memory.{Mem, word_at}
use Rattle.drv_table.specs.declared.content.Endpoint.{Endpoint}
use Rattle.drv_table.specs.DriverContent.{DriverContent}
use Rattle.law_driver.specs.chained_transfers.AsynchronousTurns.{AsynchronousTakesTurns}
use Rattle.law_structures.specs.lent_structures.Structures.{StructureSets}
use Rattle.law_ring.specs.Hand.{Hand}
use Rattle.law_ring.specs.Sparing.{SparesHead}
use Rattle.law_ring.specs.OutBus.{Taker}
use Rattle.law_queues.specs.leaving_drivers.Before.{IsAsBefore, NearFewer}
use Rattle.law_world.specs.streams.put_laws.HeldPuts.{HoldsPuts}
use Rattle.law_world.specs.streams.put_laws.Sent.{SentStand}
use Rattle.law_world.specs.streams.put_laws.Owed.{Owes}
use Rattle.law_world.specs.streams.put_laws.OwedTaken.{TakenBegin, EndedAreStopped}

abbrev pub LeaveHoldsPuts : Type 0
LeaveHoldsPuts = (d f : DriverContent) (m new : Mem) (puts : ℕ → List ℕ) → IsAsBefore d f → ((at : ℕ) → word_at new at ≡ word_at m at) → HoldsPuts d m puts → HoldsPuts f new puts

abbrev pub LeaveOwes : Type 0
LeaveOwes = (d f : DriverContent) (m new : Mem) (puts reported : ℕ → List ℕ) → AsynchronousTakesTurns d → IsAsBefore d f → HoldsPuts d m puts → HoldsPuts f new puts
    → Owes d m puts reported → Owes f new puts reported

abbrev pub LeaveSends : Type 0
LeaveSends = (d f : DriverContent) (hand : Hand) (parts : StructureSets) (order : ℕ → ℕ → ℕ) (out : ℕ → List ℕ) → IsAsBefore d f → NearFewer d f
    → SentStand d order out hand parts → SentStand f order out hand parts

abbrev pub LeaveStops : Type 0
LeaveStops = (d f : DriverContent) (parts : StructureSets) → IsAsBefore d f → EndedAreStopped d parts → EndedAreStopped f parts

abbrev pub LeaveKeepsTaken : {W : Type 0} → (W → ℕ → ℕ → Option Taker) → Type 0
LeaveKeepsTaken {W} taker = (d f : DriverContent) (puts : ℕ → List ℕ) (wire : W) → IsAsBefore d f → TakenBegin taker d puts wire → TakenBegin taker f puts wire

abbrev pub KeptStayStopped : Type 0
KeptStayStopped = (d : DriverContent) (parts now : StructureSets) → ((e : ℕ) (x : Endpoint) → slice_get d.endpoints e ≡ Some x → x.gone ≡ false → SparesHead parts now (32 * x.queue))
    → EndedAreStopped d parts → EndedAreStopped d now
