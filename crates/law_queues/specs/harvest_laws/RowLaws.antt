-- Laws of harvests (EHCI 1.0, 4.10).
--     IsReadNext d e t x y     transfer t is the next of endpoint e, and no other transfer has the qTD that is read
--     CanBeRead ..             the qTDs of the transfer and their buffers are as they were noted, and the one that is read is done
--     HarvestGoesOn ..         what its row leaves: the bytes that were moved of it are told, and the other qTDs are out still
use Rattle.std.specs.Prelude.{◌≡◌, ◌≢◌, ℕ, ◌-◌, ◌*◌, true, false, List, [], ◌++◌, slice_get, Some, None}
use Rattle.word_mem.specs.Memory.{Mem}
use Rattle.usb_base.specs.declared.packets.EpKind.TheVariants as kinds
use Rattle.law_structures.specs.lent_structures.Structures.{StructureSets, Tells}
use Rattle.law_ring.specs.Hand.{Hand}
use Rattle.law_ring.specs.QueueParts.{IsQueuePart}
use Rattle.law_ring.specs.Told.{Told}
use Rattle.law_ring.specs.Order.{Accounts}
use Rattle.claims_report.specs.Streams.{has_stream}
use Rattle.drv_table.specs.declared.content.Endpoint.{Endpoint}
use Rattle.drv_table.specs.declared.content.Transfer.{Transfer}
use Rattle.drv_table.specs.declared.rows.Found.{Found}
use Rattle.drv_table.specs.DriverContent.{DriverContent}
use Rattle.law_driver.specs.endpoint_lives.Lives.{told_end}
use Rattle.drv_table.specs.Harvests.{note_at, token_in}
use Rattle.drv_table.specs.Harvesting.{found_of, served, after_harvest}
use Rattle.claims_driver.specs.Owners.{is_descriptor, note_in}
use Rattle.law_driver.specs.chained_transfers.Turns.{IsAtPlace}
use Rattle.law_driver.specs.chained_transfers.Out.{out_now}
use Rattle.law_queues.specs.told_endpoints.Telling.{named_in, TellsEach}
use Rattle.law_driver_ring.specs.told_harvests.Held.{IsDone, IsOneFrom, AreRead}
use Rattle.law_queues.specs.harvest_laws.Holds.{IsNextOf, HoldsEach}
use Rattle.law_queues.specs.harvest_laws.Row.{HarvestTells}
use Rattle.law_queues.specs.harvest_laws.Outs.{IsOutEarlier}

pub record IsReadNext (d : DriverContent) (e t : ℕ) (x : Endpoint) (y : Transfer) : Type 0 where
  pub next : IsNextOf d e t x y
  pub command : d.command ≡ None
  pub kept : y.released ≡ false
  pub waits : (f u : ℕ) (w : Endpoint) (z : Transfer) → IsNextOf d f u w z → (z.endpoint ≡ f) × (z.reported ≡ false)
  pub unreleased : (u : ℕ) (z : Transfer) (w : Endpoint) → slice_get d.transfers u ≡ Some z → slice_get d.endpoints z.endpoint ≡ Some w → told_end w ≡ None → z.reported ≡ false → z.released ≡ false
  pub places : (u : ℕ) (z : Transfer) → slice_get d.transfers u ≡ Some z → z.reported ≡ false → z.released ≡ false → IsAtPlace (note_in d.notes) z
  pub others : (u : ℕ) (z : Transfer) → slice_get d.transfers u ≡ Some z → z.reported ≡ false → z.released ≡ false → u ≢ t → IsOneFrom (note_at d.notes) z.first z.qtds y.place → ⊥

-- nothing is told of those that were passed over
pub record CanBeRead (d : DriverContent) (m : Mem) (parts : StructureSets) (hand : Hand) (e t : ℕ) (x : Endpoint) (y : Transfer) : Type 0 where
  pub bulk : x.desc.kind ≡ kinds.Bulk
  pub queued : is_descriptor y.sort ≡ false
  pub tells : Tells m parts
  pub on : IsQueuePart (32 * x.queue) (parts (32 * x.queue))
  pub read : AreRead (parts (32 * x.queue)) (note_at d.notes) y.first y.qtds
  pub off : (token_in m y.place).active ≡ false
  pub none : (p : ℕ) (z : List ℕ) → IsOutEarlier (note_in d.notes) e t d.transfers p → Told hand parts (32 * x.queue) p z → z ≡ []

pub record HarvestGoesOn (order : ℕ → ℕ) (place : ℕ) (d new : DriverContent) (hand : Hand) (parts : StructureSets) (e t : ℕ) (x : Endpoint) (y : Transfer) (xs : List ℕ)
    (held told : ℕ → List ℕ) : Type 0 where
  pub bytes : List ℕ
  pub others : List ℕ
  pub sum : xs ≡ bytes ++ others
  pub tells : HarvestTells d new hand parts e t y bytes held told
  pub accounts : Accounts order place (out_now new e) hand parts (32 * x.queue) others
  pub beside : (k : ℕ) → k ≢ e → out_now new k ≡ out_now d k

abbrev pub HarvestIsTold : Type 0
HarvestIsTold = (order : ℕ → ℕ) (place : ℕ) (d : DriverContent) (m : Mem) (parts : StructureSets) (hand : Hand) (e t : ℕ) (x : Endpoint) (y : Transfer) (xs : List ℕ)
    (held told : ℕ → List ℕ) (found : Found)
    → IsReadNext d e t x y → CanBeRead d m parts hand e t x y → HoldsEach d hand parts held → TellsEach d.reports d.store (named_in d.endpoints) held told
    → Accounts order place (out_now d e) hand parts (32 * x.queue) xs → found ≡ found_of d m y y.sort
    → HarvestGoesOn order place d (after_harvest d m e t found (Some x) (Some y)) hand parts e t x y xs held told

-- one that isn't done is left, and the harvest looks elsewhere
abbrev pub ActiveIsLeft : Type 0
ActiveIsLeft = (d : DriverContent) (m : Mem) (e t : ℕ) (x : Endpoint) (y : Transfer) (found : Found) → IsReadNext d e t x y → is_descriptor y.sort ≡ false → (token_in m y.place).active ≡ true
    → found ≡ found_of d m y y.sort
    → after_harvest d m e t found (Some x) (Some y) ≡ served d e

-- ---- whatever else happens

-- a row that changes no endpoint, transfer or note
abbrev pub HoldsTheSame : Type 0
HoldsTheSame = (d new : DriverContent) (hand : Hand) (parts : StructureSets) (held : ℕ → List ℕ) → new.endpoints ≡ d.endpoints → new.transfers ≡ d.transfers → new.notes ≡ d.notes
    → HoldsEach d hand parts held → HoldsEach new hand parts held

-- structures change, and of the next transfers what was harvested stays done
abbrev pub HoldsStill : Type 0
HoldsStill = (d : DriverContent) (hand later : Hand) (parts now : StructureSets) (held : ℕ → List ℕ)
    → ((e t : ℕ) (x : Endpoint) (y : Transfer) (a k : ℕ) (z : List ℕ) → IsNextOf d e t x y → has_stream x.desc.kind ≡ true → IsOneFrom (note_at d.notes) y.first (y.qtds - y.left) a
    → IsDone hand parts (32 * x.queue) a k z → IsDone later now (32 * x.queue) a k z)
    → HoldsEach d hand parts held → HoldsEach d later now held
