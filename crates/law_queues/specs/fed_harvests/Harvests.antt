-- Harvests and other rows that store no word leave what is fed (EHCI 1.0, 4.10): the qTD whose token was read is out no more, where it is done.
--     IsLike d f                no command is unfinished, and what tells of the structures of queues is the same of both contents
--     IsPassed d e t p          the qTD at p is out, of a transfer of endpoint e before t
--     Harvested d f e t y       the first that no short packet passed over is harvested: which were out before it, and behind it
--     AlikeStands, UnstalledStands, HarvestStands, WaitStands     the laws: of contents alike; of a harvest that is no STALL of a control endpoint; of bulk endpoints
use Rattle.std.specs.Prelude.{◌≡◌, ◌≢◌, ℕ, ◌*◌, ◌<◌, ◌==◌, Bool, List, ◌∷◌, ◌++◌, slice_get, Some, None, if◌then◌else◌}
use Rattle.drv_table.specs.declared.content.Endpoint.{Endpoint}
use Rattle.drv_table.specs.declared.content.Transfer.{Transfer}
use Rattle.drv_table.specs.declared.rows.Found.{Found}
use Rattle.drv_table.specs.declared.rows.Found.TheVariants as founds
use Rattle.drv_table.specs.declared.rows.DriverRow.TheVariants as rows
use Rattle.drv_table.specs.DriverContent.{DriverContent}
use Rattle.drv_table.specs.Harvests.{note_at}
use Rattle.drv_table.specs.Parts.{Parts}
use Rattle.drv_table.specs.Rows.{after_driver_row}
use Rattle.law_driver.specs.run_owners.Due.{IsHarvestDue}
use Rattle.claims_driver.specs.Leaving.{HasOwners}
use Rattle.claims_driver.specs.Owners.{note_in}
use Rattle.law_structures.specs.lent_structures.Structures.{StructureSets}
use Rattle.law_ring.specs.Order.{IsAmong}
use Rattle.law_ring.specs.Told.{Endpoint as Told}
use Rattle.law_driver.specs.chained_transfers.Out.{out_of_transfer, out_now}
use Rattle.law_driver.specs.chained_transfers.InTurn.{TakesTurns}
use Rattle.law_driver.specs.chained_transfers.AsynchronousTurns.{AsynchronousTakesTurns}
use Rattle.law_driver_ring.specs.fed_queues.Places.{AreStillOut}
use Rattle.law_queues.specs.mended_heads.Stalling.{IsStall}
use Rattle.law_queues.specs.fed_lends.Commands.{QueuesStand}

pub record WasEnd (d : DriverContent) (i : ℕ) (z : Endpoint) : Type 0 where
  pub endpoint : Endpoint
  pub there : slice_get d.endpoints i ≡ Some endpoint
  pub queue : z.queue ≡ endpoint.queue
  pub dummy : z.dummy ≡ endpoint.dummy
  pub desc : z.desc ≡ endpoint.desc
  pub linked : z.linked ≡ endpoint.linked
  pub gone : z.gone ≡ endpoint.gone

pub record WasTransfer (d : DriverContent) (t : ℕ) (y : Transfer) : Type 0 where
  pub transfer : Transfer
  pub there : slice_get d.transfers t ≡ Some transfer
  pub endpoint : y.endpoint ≡ transfer.endpoint
  pub first : y.first ≡ transfer.first
  pub qtds : y.qtds ≡ transfer.qtds
  pub sort : y.sort ≡ transfer.sort
  pub released : y.released ≡ transfer.released

pub record IsLike (d f : DriverContent) : Type 0 where
  pub idle : d.command ≡ None
  pub idle_now : f.command ≡ None
  pub slots : f.book.slots ≡ d.book.slots
  pub waiting : f.waiting ≡ d.waiting
  pub rung : f.rung ≡ d.rung
  pub notes : (b : ℕ) → note_in f.notes b ≡ note_in d.notes b
  pub next : (b : ℕ) → (note_at f.notes b).next ≡ (note_at d.notes b).next
  pub buffer : (b : ℕ) → (note_at f.notes b).buffer ≡ (note_at d.notes b).buffer
  pub told : (b : ℕ) → (note_at f.notes b).told ≡ (note_at d.notes b).told
  pub ends : (i : ℕ) (z : Endpoint) → slice_get f.endpoints i ≡ Some z → WasEnd d i z
  pub ends_now : (i : ℕ) (z : Endpoint) → slice_get d.endpoints i ≡ Some z → WasEnd f i z
  pub transfers : (t : ℕ) (y : Transfer) → slice_get f.transfers t ≡ Some y → WasTransfer d t y

abbrev pub AlikeStands : Type 0
AlikeStands = (d f : DriverContent) (member streams : ℕ → Bool) (ends : ℕ → Told) (parts : StructureSets) (order : ℕ → ℕ → ℕ) (out later : ℕ → List ℕ)
    → IsLike d f → AreStillOut f later → QueuesStand d member streams ends parts order out → QueuesStand f member streams ends parts order later

-- ---- a harvest

pub record IsPassed (d : DriverContent) (e t p : ℕ) : Type 0 where
  pub number : ℕ
  pub transfer : Transfer
  pub earlier : number < t
  pub here : slice_get d.transfers number ≡ Some transfer
  pub among : IsAmong p (out_of_transfer (note_in d.notes) e 0 transfer)

pub record Harvested (d f : DriverContent) (e t : ℕ) (y : Transfer) : Type 0 where
  pub before : List ℕ
  pub behind : List ℕ
  pub was : out_now d e ≡ before ++ 32 * y.place ∷ behind
  pub now : out_now f e ≡ before ++ behind
  pub passed : (p : ℕ) → IsAmong p before → IsPassed d e t p

-- what is out afterwards of the queue head at n, and of the others as before
abbrev pub with_out : (ℕ → List ℕ) → ℕ → List ℕ → ℕ → List ℕ
with_out out n now k = if k == n then now else out k

pub record HarvestLeaves (p : Parts) (e t : ℕ) (found : Found) (due : IsHarvestDue p e t found) (member streams : ℕ → Bool) (ends : ℕ → Told) (parts : StructureSets) (order : ℕ → ℕ → ℕ)
    (out : ℕ → List ℕ) : Type 0 where
  pub harvested : Harvested p.driver (after_driver_row (rows.Harvest e t found) p).driver e t due.transfer
  pub stand : QueuesStand (after_driver_row (rows.Harvest e t found) p).driver member streams ends parts order (with_out out (32 * due.endpoint.queue) (harvested.before ++ harvested.behind))

-- no control endpoint answered STALL
abbrev pub UnstalledStands : Type 0
UnstalledStands = (p : Parts) (e t : ℕ) (found : Found) (member streams : ℕ → Bool) (ends : ℕ → Told) (parts : StructureSets) (order : ℕ → ℕ → ℕ) (out : ℕ → List ℕ)
    → (due : IsHarvestDue p e t found) → found ≢ founds.Active → (IsStall due.endpoint.desc.kind found → ⊥) → HasOwners p.driver → AsynchronousTakesTurns p.driver
    → QueuesStand p.driver member streams ends parts order out → HarvestLeaves p e t found due member streams ends parts order out

-- .. as none of bulk endpoints is
abbrev pub HarvestStands : Type 0
HarvestStands = (p : Parts) (e t : ℕ) (found : Found) (member streams : ℕ → Bool) (ends : ℕ → Told) (parts : StructureSets) (order : ℕ → ℕ → ℕ) (out : ℕ → List ℕ)
    → (due : IsHarvestDue p e t found) → found ≢ founds.Active → HasOwners p.driver → TakesTurns p.driver → QueuesStand p.driver member streams ends parts order out
    → HarvestLeaves p e t found due member streams ends parts order out

-- where it isn't done, nothing changes
abbrev pub WaitStands : Type 0
WaitStands = (p : Parts) (e t : ℕ) (member streams : ℕ → Bool) (ends : ℕ → Told) (parts : StructureSets) (order : ℕ → ℕ → ℕ) (out : ℕ → List ℕ)
    → IsHarvestDue p e t founds.Active → QueuesStand p.driver member streams ends parts order out
    → QueuesStand (after_driver_row (rows.Harvest e t founds.Active) p).driver member streams ends parts order out
