-- What a harvest reads of a put (EHCI 1.0, 4.10 and 4.15).
--     MovesAll found n     where the token that was read tells that the qTD is done and not halted, all its n bytes were moved
--     ReadsPut ..          the next harvest reads a qTD of a put
--     PutsMoveAll          so it is of each qTD of a put that is read
--     PutsLeaveNone        .. its token counts all bytes
--     DoneIsTold           .. and the bytes told of it are those of its buffer
--     PutsAreTold          .. of each that is read
use Rattle.std.specs.Prelude.{◌≡◌, ℕ, ◌*◌, Bool, false, List, Some}
use Rattle.usb_base.specs.declared.reports.What.TheVariants as lines
use Rattle.qh_qtd.specs.declared.qtd.Qtd.{Qtd}
use Rattle.drv_table.specs.declared.rows.Found.{Found}
use Rattle.drv_table.specs.declared.rows.Found.TheVariants as founds
use Rattle.drv_table.specs.Harvests.{note_at, token_in, moved_of}
use Rattle.drv_table.specs.Parts.{Parts}
use Rattle.law_driver.specs.run_owners.Due.{IsHarvestDue}
use Rattle.law_structures.specs.lent_structures.Structures.{Element, StructureSets, Tells}
use Rattle.law_structures.specs.lent_structures.Sound.{IsMember}
use Rattle.law_ring.specs.Hand.{Hand}
use Rattle.law_ring.specs.Told.{Told}
use Rattle.claims_driver.specs.Scripts.{receives}
use Rattle.law_driver.specs.chained_transfers.AsynchronousTurns.{AsynchronousTakesTurns}
use Rattle.law_driver_ring.specs.fed_queues.Fed.{AreFed}
use Rattle.law_queues.specs.whole_sends.Whole.{AreSentWhole, buffer_at}
use Rattle.law_world.specs.streams.put_laws.Sent.{SentStand}

abbrev pub MovesAll : Found → ℕ → Type 0
MovesAll (founds.Moved k) n = k ≡ n
MovesAll (founds.Ended k lines.Done) n = k ≡ n
MovesAll _ n = Unit {0}

-- what the driver reads, and of whose queue
pub record ReadsPut (p : Parts) (e t : ℕ) (found : Found) (hand : Hand) (parts : StructureSets) (order : ℕ → ℕ → ℕ) (out : ℕ → List ℕ) : Type 0 where
  pub due : IsHarvestDue p e t found
  pub turns : AsynchronousTakesTurns p.driver
  pub tells : Tells p.memory parts
  pub fed : AreFed p.driver parts
  pub sends : receives due.endpoint.desc.name.way ≡ false
  pub sent : SentStand p.driver order out hand parts

abbrev pub PutsMoveAll : Type 0
PutsMoveAll = (p : Parts) (e t : ℕ) (found : Found) (hand : Hand) (parts : StructureSets) (order : ℕ → ℕ → ℕ) (out : ℕ → List ℕ) → (k : ReadsPut p e t found hand parts order out)
    → MovesAll found (note_at p.driver.notes k.due.transfer.place).told

abbrev pub PutsLeaveNone : Type 0
PutsLeaveNone = (p : Parts) (e t : ℕ) (found : Found) (hand : Hand) (parts : StructureSets) (order : ℕ → ℕ → ℕ) (out : ℕ → List ℕ) → (k : ReadsPut p e t found hand parts order out)
    → (token_in p.memory k.due.transfer.place).active ≡ false → (token_in p.memory k.due.transfer.place).halted ≡ false
    → moved_of (note_at p.driver.notes k.due.transfer.place).told (token_in p.memory k.due.transfer.place).total ≡ (note_at p.driver.notes k.due.transfer.place).told

abbrev pub DoneIsTold : Type 0
DoneIsTold = (member : ℕ → Bool) (parts : StructureSets) (hand : Hand) (order : ℕ → ℕ) (out : List ℕ) (n e : ℕ) (t : Qtd) (bytes : List ℕ) → IsMember member n (parts n)
    → AreSentWhole order out hand n (parts n) → parts n e ≡ Some (Element t) → t.token.active ≡ false → t.token.halted ≡ false → Told hand parts n e bytes → bytes ≡ buffer_at (parts n) e

abbrev pub PutsAreTold : Type 0
PutsAreTold = (member : ℕ → Bool) (p : Parts) (e t : ℕ) (found : Found) (hand : Hand) (parts : StructureSets) (order : ℕ → ℕ → ℕ) (out : ℕ → List ℕ) (bytes : List ℕ)
    → (k : ReadsPut p e t found hand parts order out) → IsMember member (32 * k.due.endpoint.queue) (parts (32 * k.due.endpoint.queue))
    → (token_in p.memory k.due.transfer.place).active ≡ false → (token_in p.memory k.due.transfer.place).halted ≡ false
    → Told hand parts (32 * k.due.endpoint.queue) (32 * k.due.transfer.place) bytes → bytes ≡ buffer_at (parts (32 * k.due.endpoint.queue)) (32 * k.due.transfer.place)
