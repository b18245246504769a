-- The stores that a stalled control endpoint is owed (EHCI 1.0, 3.6.3 and 4.10.3; USB 2.0, 8.5.3.4) go to its queue head, and leave what is told of OUT endpoints.
--     MendIsInHead     the word that is stored is one of a queue head
--     MendSends        the qTDs of each OUT endpoint that the walk may meet are sent whole and in turn
--     MendStops        the queue heads of those that have ended are halted
use Rattle.std.specs.Prelude.{◌≡◌, ℕ, List}
use Rattle.drv_table.specs.declared.content.Mend.{Mend}
use Rattle.drv_table.specs.declared.rows.DriverRow.TheVariants as rows
use Rattle.drv_table.specs.Parts.{Parts as DriverParts}
use Rattle.drv_table.specs.Rows.{driver_row}
use Rattle.claims_driver.specs.Leaving.{HasOwners}
use Rattle.law_driver.specs.chained_transfers.AsynchronousTurns.{AsynchronousTakesTurns}
use Rattle.law_structures.specs.lent_structures.Structures.{StructureSets}
use Rattle.law_ring.specs.Hand.{Hand}
use Rattle.law_queues.specs.mended_heads.Mended.{IsAtMend, next_of, parts_then, hand_then}
use Rattle.law_world.specs.streams.put_laws.HeldLaws.{IsInHead}
use Rattle.law_world.specs.streams.put_laws.Sent.{SentStand}
use Rattle.law_world.specs.streams.put_laws.OwedTaken.{EndedAreStopped}

abbrev pub MendIsInHead : Type 0
MendIsInHead = (p : DriverParts) (parts : StructureSets) (out : ℕ → List ℕ) → IsAtMend p parts out → (w : Mend) → driver_row p ≡ rows.Mend w → IsInHead parts w.at

abbrev pub MendSends : Type 0
MendSends = (p : DriverParts) (parts : StructureSets) (hand : Hand) (order : ℕ → ℕ → ℕ) (out : ℕ → List ℕ) → HasOwners p.driver → AsynchronousTakesTurns p.driver
    → (k : IsAtMend p parts out) → SentStand p.driver order out hand parts → SentStand (next_of p).driver order out (hand_then k hand) (parts_then k)

abbrev pub MendStops : Type 0
MendStops = (p : DriverParts) (parts : StructureSets) (out : ℕ → List ℕ) → HasOwners p.driver → AsynchronousTakesTurns p.driver → (k : IsAtMend p parts out)
    → EndedAreStopped p.driver parts → EndedAreStopped (next_of p).driver (parts_then k)
