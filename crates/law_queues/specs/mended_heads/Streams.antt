-- What the store that a stalled control endpoint is owed leaves of the streams of OUT endpoints and of what is reported of IN endpoints (EHCI 1.0, 4.10; USB 2.0, 8.6):
-- none of them has the queue head that is mended.
--     MendLeavesOutPipe      the pipe of an OUT endpoint
--     MendLeavesReports      the reports
use Rattle.std.specs.Prelude.{◌≡◌, ◌≢◌, ℕ, ◌*◌, Bool, false, List, Option}
use Rattle.drv_table.specs.Parts.{Parts as DriverParts}
use Rattle.law_structures.specs.lent_structures.Structures.{StructureSets}
use Rattle.law_ring.specs.Hand.{Hand}
use Rattle.law_ring.specs.Told.{Endpoint as Told}
use Rattle.law_ring.specs.OutBus.{Taker}
use Rattle.law_ring.specs.OutPipes.{IsOutPipe}
use Rattle.law_controller.specs.controlled_streams.Reported.{AreReported}
use Rattle.law_queues.specs.mended_heads.Mended.{IsAtMend, parts_then, hand_then}

abbrev pub MendLeavesOutPipe : Type 0
MendLeavesOutPipe = (taker : Option Taker) (known : List ℕ) (hand : Hand) (n : ℕ) (x : Told) (p : DriverParts) (parts : StructureSets) (out : ℕ → List ℕ) → (k : IsAtMend p parts out)
    → n ≢ 32 * k.stalled.queue → IsOutPipe taker known parts hand n x → IsOutPipe taker known (parts_then k) (hand_then k hand) n x

abbrev pub MendLeavesReports : Type 0
MendLeavesReports = (heads : ℕ → Bool) (order : ℕ → ℕ → ℕ) (sent : ℕ → List ℕ) (acc : ℕ → List (List ℕ)) (reported : ℕ → List ℕ) (hand : Hand) (p : DriverParts) (parts : StructureSets)
    (out : ℕ → List ℕ) → (k : IsAtMend p parts out) → heads (32 * k.stalled.queue) ≡ false → AreReported heads order sent hand parts acc reported
    → AreReported heads order sent (hand_then k hand) (parts_then k) acc reported
