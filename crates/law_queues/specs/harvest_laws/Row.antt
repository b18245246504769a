-- What the row of a harvest leaves (EHCI 1.0, 4.10).
--     IsFoundDone ..       the qTD that is read is done, and these bytes were moved of it
--     ReadsOn d y z        the transfer after it
--     HarvestTells ..      they are told of the endpoint behind what was told before, at once or held back
use Rattle.std.specs.Prelude.{◌≡◌, ℕ, ◌-◌, ◌*◌, true, false, List, slice_get, slice_set, Some}
use Rattle.word_mem.specs.Memory.{Mem}
use Rattle.usb_base.specs.declared.packets.EpKind.TheVariants as kinds
use Rattle.law_structures.specs.lent_structures.Structures.{StructureSets, Tells}
use Rattle.law_ring.specs.Hand.{Hand}
use Rattle.law_ring.specs.QueueParts.{IsQueuePart}
use Rattle.law_ring.specs.Told.{Told}
use Rattle.drv_table.specs.declared.content.Endpoint.{Endpoint}
use Rattle.drv_table.specs.declared.content.Transfer.{Transfer}
use Rattle.drv_table.specs.DriverContent.{DriverContent}
use Rattle.drv_table.specs.Harvests.{note_at, token_in}
use Rattle.claims_driver.specs.Owners.{is_descriptor, note_in}
use Rattle.law_queues.specs.told_endpoints.Telling.{named_in, TellsEach}
use Rattle.law_queues.specs.told_endpoints.Steps.{Grows}
use Rattle.law_driver_ring.specs.told_harvests.Held.{AreRead}
use Rattle.law_queues.specs.harvest_laws.Holds.{HoldsEach}

pub record IsFoundDone (d : DriverContent) (m : Mem) (parts : StructureSets) (hand : Hand) (x : Endpoint) (y : Transfer) (bytes : List ℕ) : Type 0 where
  pub bulk : x.desc.kind ≡ kinds.Bulk
  pub queued : is_descriptor y.sort ≡ false
  pub kept : y.released ≡ false
  pub tells : Tells m parts
  pub on : IsQueuePart (32 * x.queue) (parts (32 * x.queue))
  pub read : AreRead (parts (32 * x.queue)) (note_at d.notes) y.first y.qtds
  pub off : (token_in m y.place).active ≡ false
  pub told : Told hand parts (32 * x.queue) (32 * y.place) bytes

-- the transfer is read on, or reported with its last qTD that was read
pub data ReadsOn (d : DriverContent) (y : Transfer) : Transfer → Type 0 where
  goes_on : ReadsOn d y (record y { place = (note_at d.notes y.place).next; left = y.left - 1 })
  ends : ReadsOn d y (record y { reported = true })

-- the endpoint had the same queue head before
pub record HadQueue (d : DriverContent) (k : ℕ) (z : Endpoint) : Type 0 where
  pub endpoint : Endpoint
  pub here : slice_get d.endpoints k ≡ Some endpoint
  pub same : z.queue ≡ endpoint.queue
  pub gone : z.gone ≡ endpoint.gone

pub record HarvestTells (d new : DriverContent) (hand : Hand) (parts : StructureSets) (e t : ℕ) (y : Transfer) (bytes : List ℕ) (held told : ℕ → List ℕ) : Type 0 where
  pub later : ℕ → List ℕ
  pub holds : HoldsEach new hand parts later
  pub tells : (now : ℕ → List ℕ) → Grows e bytes told now → TellsEach new.reports new.store (named_in new.endpoints) later now
  pub transfer : Transfer
  pub reads : ReadsOn d y transfer
  pub transfers : new.transfers ≡ slice_set d.transfers t transfer
  pub command : new.command ≡ d.command
  pub queues : (k : ℕ) (z : Endpoint) → slice_get new.endpoints k ≡ Some z → HadQueue d k z
  pub notes : (c : ℕ) → note_in new.notes c ≡ note_in d.notes c
