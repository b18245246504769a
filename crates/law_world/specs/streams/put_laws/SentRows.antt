-- Commands, and rows of the driver that store no word of a queue (EHCI 1.0, 4.10).
--     FewerAreSent       contents whose OUT endpoints are the same, of which fewer qTDs are out
--     AcceptedSends      a command is accepted
--     QuietSends         a row that stores nothing
--     HarvestSends       a harvest: the qTD that was read is out no more, if it was done
--     ReleaseSends       the blocks of a transfer are given back
use Rattle.std.specs.Prelude.{◌≡◌, ℕ, ◌*◌, ◌⊎◌, Bool, true, List, slice_get, Some}
use Rattle.word_mem.specs.Memory.{Mem}
use Rattle.drv_table.specs.declared.content.Endpoint.{Endpoint}
use Rattle.drv_table.specs.declared.content.Transfer.{Transfer}
use Rattle.drv_table.specs.declared.rows.DriverRow.TheVariants as rows
use Rattle.drv_table.specs.declared.rows.Found.{Found}
use Rattle.drv_table.specs.DriverContent.{DriverContent}
use Rattle.drv_table.specs.Accepting.{Offered}
use Rattle.drv_table.specs.Parts.{Parts}
use Rattle.drv_table.specs.Rows.{driver_row, after_driver_row}
use Rattle.claims_driver.specs.Leaving.{HasOwners}
use Rattle.law_structures.specs.lent_structures.Structures.{StructureSets}
use Rattle.law_ring.specs.Hand.{Hand}
use Rattle.law_ring.specs.Order.{IsAmong}
use Rattle.law_ring.specs.Fewer.{without_those}
use Rattle.law_ring.specs.Told.{Endpoint as Told}
use Rattle.law_driver_ring.specs.Driven.{is_quiet}
use Rattle.law_driver_ring.specs.Released.{release_row}
use Rattle.law_controller.specs.controlled_streams.Returned.{staying_of}
use Rattle.law_driver.specs.run_owners.Accepts.{Opens, Transfers}
use Rattle.law_driver.specs.chained_transfers.AsynchronousTurns.{AsynchronousTakesTurns}
use Rattle.law_driver_ring.specs.fed_queues.Places.{IsMet, AreStillOut}
use Rattle.law_queues.specs.fed_lends.Commands.{QueuesStand}
use Rattle.law_world.specs.streams.put_laws.Sent.{SentStand, OutsWere}
use Rattle.law_driver.specs.chained_transfers.Asynchronous.{OnlyAsynchronous}

-- of the queues of f
abbrev pub AreFewer : DriverContent → (ℕ → List ℕ) → (ℕ → List ℕ) → Type 0
AreFewer f out later = (e : ℕ) (z : Endpoint) (a : ℕ) → slice_get f.endpoints e ≡ Some z → IsMet f e z → IsAmong a (later (32 * z.queue)) → IsAmong a (out (32 * z.queue))

abbrev pub FewerAreSent : Type 0
FewerAreSent = (d f : DriverContent) (hand : Hand) (parts : StructureSets) (order : ℕ → ℕ → ℕ) (out later : ℕ → List ℕ) → OutsWere d f → AreFewer f out later
    → SentStand d order out hand parts → SentStand f order later hand parts

abbrev pub AcceptedSends : Type 0
AcceptedSends = (d : DriverContent) (m : Mem) (o : Offered) (hand : Hand) (parts : StructureSets) (order : ℕ → ℕ → ℕ) (out : ℕ → List ℕ) → Opens d m o ⊎ Transfers d m o
    → SentStand d order out hand parts → SentStand o.driver order out hand parts

abbrev pub QuietSends : Type 0
QuietSends = (p : Parts) (hand : Hand) (parts : StructureSets) (order : ℕ → ℕ → ℕ) (out later : ℕ → List ℕ) → is_quiet (driver_row p) ≡ true → OnlyAsynchronous p.driver
    → AreFewer (after_driver_row (driver_row p) p).driver out later → SentStand p.driver order out hand parts → SentStand (after_driver_row (driver_row p) p).driver order later hand parts

abbrev pub HarvestSends : Type 0
HarvestSends = (p : Parts) (e t : ℕ) (found : Found) (hand : Hand) (member streams : ℕ → Bool) (ends : ℕ → Told) (parts : StructureSets) (order : ℕ → ℕ → ℕ) (out later : ℕ → List ℕ)
    → driver_row p ≡ rows.Harvest e t found → HasOwners p.driver → AsynchronousTakesTurns p.driver → QueuesStand p.driver member streams ends parts order out
    → AreStillOut (after_driver_row (driver_row p) p).driver later → SentStand p.driver order out hand parts
    → SentStand (after_driver_row (driver_row p) p).driver order later hand parts

-- of any structures of the queue head at n
abbrev pub ReleaseSends : Type 0
ReleaseSends = (p : Parts) (t : ℕ) (y : Transfer) (hand : Hand) (parts : StructureSets) (order : ℕ → ℕ → ℕ) (out : ℕ → List ℕ) (n : ℕ) (goes : ℕ → Bool) → slice_get p.driver.transfers t ≡ Some y
    → SentStand p.driver order out hand parts
    → SentStand (after_driver_row (release_row t) p).driver order (staying_of n goes out) hand (without_those parts n goes)
