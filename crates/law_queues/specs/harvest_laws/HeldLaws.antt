-- What is held back of each endpoint where a command is accepted, and where a transfer is given back (EHCI 1.0, 4.8 and 4.10): nothing of a new transfer is
-- harvested, and what was held back of the others stays.
use Rattle.std.specs.Prelude.{◌≡◌, ℕ, true, false, List, length, slice_get, slice_set, Some, None}
use Rattle.word_mem.specs.Memory.{Mem}
use Rattle.mem_runs.specs.Book.{holding, Stands}
use Rattle.law_structures.specs.lent_structures.Structures.{StructureSets}
use Rattle.law_ring.specs.Hand.{Hand}
use Rattle.drv_table.specs.declared.content.Endpoint.{Endpoint}
use Rattle.drv_table.specs.declared.content.Transfer.{Transfer}
use Rattle.drv_table.specs.DriverContent.{DriverContent}
use Rattle.drv_table.specs.Accepting.{Offered}
use Rattle.claims_driver.specs.Leaving.{HasOwners}
use Rattle.law_driver.specs.run_owners.Accepts.{Opens}
use Rattle.claims_driver.specs.Owners.{note_in}
use Rattle.law_driver.specs.chained_transfers.Turns.{AreAtPlaces}
use Rattle.law_driver.specs.chained_transfers.Accepted.{IsAsked}
use Rattle.law_driver.specs.chained_transfers.Asynchronous.{IsRequested}
use Rattle.law_queues.specs.told_endpoints.Steps.{Clears}
use Rattle.law_queues.specs.harvest_laws.Holds.{HoldsEach}
use Rattle.law_driver.specs.endpoint_lives.Lives.{told_end}

-- nothing is held back of an endpoint that is opened
abbrev pub OpenHolds : Type 0
OpenHolds = (d : DriverContent) (m : Mem) (o : Offered) (hand : Hand) (parts : StructureSets) (held later : ℕ → List ℕ) → Opens d m o → Clears (length d.endpoints) held later
    → HoldsEach d hand parts held
    → HoldsEach o.driver hand parts later

-- each transfer that isn't reported is there still, and so is the next one of each endpoint
abbrev pub AreThere : DriverContent → Type 0
AreThere d = (e t : ℕ) (x : Endpoint) → slice_get d.endpoints e ≡ Some x → told_end x ≡ None → x.next ≡ Some t
    → (y : Transfer) × (slice_get d.transfers t ≡ Some y) × (y.reported ≡ false) × (y.released ≡ false)

-- a get or a put is accepted
abbrev pub AskedHolds : Type 0
AskedHolds = (d : DriverContent) (m : Mem) (o : Offered) (hand : Hand) (parts : StructureSets) (held : ℕ → List ℕ) → IsAsked d m o → Stands (holding d.book m) → HasOwners d → AreThere d
    → AreAtPlaces (note_in d.notes) d.transfers
    → HoldsEach d hand parts held → HoldsEach o.driver hand parts held

-- a request of a control endpoint
abbrev pub RequestedHolds : Type 0
RequestedHolds = (d : DriverContent) (m : Mem) (o : Offered) (hand : Hand) (parts : StructureSets) (held : ℕ → List ℕ) → IsRequested d m o → Stands (holding d.book m) → HasOwners d → AreThere d
    → AreAtPlaces (note_in d.notes) d.transfers
    → HoldsEach d hand parts held → HoldsEach o.driver hand parts held

-- a reported transfer is given back
abbrev pub ReturnHolds : Type 0
ReturnHolds = (d new : DriverContent) (t : ℕ) (y : Transfer) (hand : Hand) (parts : StructureSets) (held : ℕ → List ℕ) → slice_get d.transfers t ≡ Some y → y.reported ≡ true → AreThere d
    → new.endpoints ≡ d.endpoints → new.transfers ≡ slice_set d.transfers t (record y { released = true }) → new.notes ≡ d.notes → HoldsEach d hand parts held → HoldsEach new hand parts held
