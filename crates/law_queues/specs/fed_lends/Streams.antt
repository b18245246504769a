-- Laws of the lend of a transfer, beside the streams of a ring's IN endpoints (EHCI 1.0, 4.10; USB 2.0, 8.6).
--     LendLeavesReports   its qTDs but the first are out too, and are told no bytes
--     LendLeavesPipes     both sides of each pipe agree as before: its qTDs ask for INs where the queue head has a stream, and for none where it has none; those of
--                         a control endpoint may ask for both, as it has no stream
use Rattle.std.specs.Prelude.{◌≡◌, ◌≢◌, ℕ, ◌*◌, ◌<◌, ◌≤◌, ◌⊎◌, Bool, true, false, List, ◌∷◌, ◌++◌, length, Option}
use Rattle.std.specs.List.{AllByRecursion}
use Rattle.word_mem.specs.Memory.{Mem}
use Rattle.mem_runs.specs.declared.slots.Slot.{Slot}
use Rattle.drv_table.specs.declared.content.Stage.{Stage}
use Rattle.drv_table.specs.DriverContent.{DriverContent}
use Rattle.drv_table.specs.Harvests.{note_at}
use Rattle.claims_driver.specs.Owners.{EndpointRuns, TransferRuns, note_in}
use Rattle.law_structures.specs.lent_structures.Structures.{StructureSets}
use Rattle.law_ring.specs.QueueParts.{IsQueuePart}
use Rattle.law_ring.specs.Hand.{Hand}
use Rattle.law_ring.specs.Told.{Endpoint}
use Rattle.law_ring.specs.Bus.{Sender}
use Rattle.law_ring.specs.Pipes.{ArePiped}
use Rattle.law_controller.specs.controlled_streams.Reported.{IsReported}
use Rattle.law_driver.specs.chained_transfers.Out.{pieces_from}
use Rattle.law_driver_ring.specs.fed_queues.Places.{IsLast}
use Rattle.law_driver_ring.specs.Written.{AwaitsLend}
use Rattle.law_driver_ring.specs.TransferLaws.{HasPieces}
use Rattle.law_queues.specs.fed_lends.Numbers.{numbered}

-- the qTDs but the first, from this block on
abbrev pub second : DriverContent → TransferRuns → ℕ
second d y = (note_at d.notes y.first).next

abbrev pub new_order : DriverContent → TransferRuns → List Stage → ℕ → (ℕ → ℕ) → ℕ → ℕ
new_order d y ss k order = numbered d.notes ss (second d y) k order

abbrev pub new_out : DriverContent → TransferRuns → List Stage → List ℕ
new_out d y ss = pieces_from (note_in d.notes) (second d y) (length ss)

abbrev pub LendLeavesReports : Type 0
LendLeavesReports = (d : DriverContent) (m : Mem) (t : ℕ) (y : TransferRuns) (x : EndpointRuns) (s : Stage) (ss : List Stage) (slot : ℕ → Slot) (parts now : StructureSets)
    (order : ℕ → ℕ) (out : List ℕ) (hand : Hand) (acc : List (List ℕ)) (reported : List ℕ) (k : ℕ) → AwaitsLend d m t y x s ss → HasPieces d slot parts now y x s ss
    → IsQueuePart (32 * x.queue) (parts (32 * x.queue)) → IsLast order (parts (32 * x.queue)) (32 * y.first) → order (32 * y.first) < k
    → (old : IsReported order out hand parts (32 * x.queue) acc reported) → old.place ≤ k
    → IsReported (new_order d y ss k order) (out ++ new_out d y ss) hand now (32 * x.queue) acc reported

-- the new end of the queue is its last qTD
abbrev pub LendEndsQueue : Type 0
LendEndsQueue = (d : DriverContent) (m : Mem) (t : ℕ) (y : TransferRuns) (x : EndpointRuns) (s : Stage) (ss : List Stage) (slot : ℕ → Slot) (parts now : StructureSets) (order : ℕ → ℕ) (k : ℕ)
    → AwaitsLend d m t y x s ss → HasPieces d slot parts now y x s ss → IsLast order (parts (32 * x.queue)) (32 * y.first) → order (32 * y.first) < k
    → IsLast (new_order d y ss k order) (now (32 * x.queue)) (32 * x.dummy)

abbrev pub LendLeavesPipes : {W : Type 0} → (W → ℕ → ℕ → Option Sender) → Type 0
LendLeavesPipes {W} sender = (d : DriverContent) (m : Mem) (t : ℕ) (y : TransferRuns) (x : EndpointRuns) (s : Stage) (ss : List Stage) (slot : ℕ → Slot) (parts now : StructureSets)
    (stream : ℕ → ℕ → Bool) (packets : ℕ → ℕ → List (List ℕ)) (member streams : ℕ → Bool) (ends : ℕ → Endpoint) (acc : ℕ → List (List ℕ)) (hand : Hand) (wire : W)
    → AwaitsLend d m t y x s ss → HasPieces d slot parts now y x s ss
    → ((streams (32 * x.queue) ≡ true) × AllByRecursion (λ r. r.pid ≡ 1) (s ∷ ss))
    ⊎ (((streams (32 * x.queue) ≡ false) × AllByRecursion (λ r. r.pid ≢ 1) (s ∷ ss)) ⊎ ((streams (32 * x.queue) ≡ false) × (stream (ends (32 * x.queue)).addr (ends (32 * x.queue)).ep ≡ false)))
    → ArePiped stream packets sender member streams ends acc parts hand wire → ArePiped stream packets sender member streams ends acc now hand wire
