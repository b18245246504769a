-- The fronts of a driver's queues along its run (EHCI 1.0, 4.10 and 4.10.2).
--     LinksOfQueuesRise d parts order      links of each queue that the walk may meet lead to later qTDs
--     WalkKeepsFronts                      the law of each event of the walk
--     HarvestKeepsFronts                   the law of a harvest, but where a control endpoint answered STALL (USB 2.0, 8.5.3.4)
--     IsAlike d f                          both contents tell met endpoints and transfers that are to be given back alike
--     AlikeKeepFronts, IdleStoreKeepsFronts, LastStoreKeepsFronts
--                                          the laws of other rows and commands
use Rattle.std.specs.Prelude.{◌≡◌, ℕ, ◌*◌, ◌≤◌, Bool, true, false, List, slice_get, Some}
use Rattle.usb_base.specs.declared.packets.Ask.{Ask}
use Rattle.usb_base.specs.declared.packets.Reply.{Reply}
use Rattle.async_walk.specs.declared.state.WalkStep.{WalkStep}
use Rattle.qh_qtd.specs.declared.qtd.Qtd.{Qtd}
use Rattle.drv_table.specs.declared.content.Endpoint.{Endpoint}
use Rattle.drv_table.specs.declared.content.Transfer.{Transfer}
use Rattle.drv_table.specs.declared.rows.DriverRow.TheVariants as rows
use Rattle.drv_table.specs.declared.rows.Found.{Found}
use Rattle.drv_table.specs.DriverContent.{DriverContent}
use Rattle.drv_table.specs.Parts.{Parts}
use Rattle.drv_table.specs.Rows.{after_driver_row}
use Rattle.law_driver.specs.run_owners.Due.{IsHarvestDue}
use Rattle.claims_driver.specs.Leaving.{HasOwners}
use Rattle.law_driver.specs.chained_transfers.AsynchronousTurns.{AsynchronousTakesTurns}
use Rattle.law_structures.specs.lent_structures.Structures.{StructureSets, Tells}
use Rattle.law_ring.specs.Hand.{Hand}
use Rattle.law_ring.specs.Ring.{IsInHand}
use Rattle.law_ring.specs.Effects.{Effect}
use Rattle.law_ring.specs.Streams.{AreMembers}
use Rattle.law_ring.specs.Order.{IsFresh}
use Rattle.law_ring.specs.Front.{LinksRise}
use Rattle.law_driver_ring.specs.fed_queues.Fed.{AreFed}
use Rattle.law_queues.specs.mended_heads.Stalling.{IsStall}
use Rattle.law_driver_ring.specs.fed_queues.Places.{IsMet, AreStillOut}
use Rattle.law_queues.specs.released_queues.Fronts.{piece_address, FrontsStand}
use Rattle.law_controller.specs.controlled_streams.Storing.{IsStore, out_with, with_out, stored_parts}

abbrev pub LinksOfQueuesRise : DriverContent → StructureSets → (ℕ → ℕ → ℕ) → Type 0
LinksOfQueuesRise d parts order = (e : ℕ) (x : Endpoint) → slice_get d.endpoints e ≡ Some x → IsMet d e x → LinksRise (order (32 * x.queue)) (parts (32 * x.queue))

abbrev pub WalkKeepsFronts : {W : Type 0} → (W → Ask → List ℕ → Reply → W → Type 0) → Type 0
WalkKeepsFronts {W} transacts = (member : ℕ → Bool) (parts : StructureSets) (hand : Hand) (reply : Reply) (wire after : W) (now : StructureSets) (later : Hand) (kind : WalkStep)
    (d : DriverContent) (order : ℕ → ℕ → ℕ) (out : ℕ → List ℕ) → AreMembers member parts → IsInHand member parts reply hand
    → Effect transacts parts hand wire after now later kind → LinksOfQueuesRise d parts order → FrontsStand d parts order out → FrontsStand d now order out

abbrev pub HarvestKeepsFronts : Type 0
HarvestKeepsFronts = (p : Parts) (e t : ℕ) (found : Found) (parts : StructureSets) (order : ℕ → ℕ → ℕ) (out later : ℕ → List ℕ) → (due : IsHarvestDue p e t found)
    → HasOwners p.driver → AsynchronousTakesTurns p.driver → (IsStall due.endpoint.desc.kind found → ⊥) → Tells p.memory parts → AreFed p.driver parts → LinksOfQueuesRise p.driver parts order → AreStillOut p.driver out
    → AreStillOut (after_driver_row (rows.Harvest e t found) p).driver later → FrontsStand p.driver parts order out
    → FrontsStand (after_driver_row (rows.Harvest e t found) p).driver parts order later

-- ---- contents, and stores of an inactive qTD

-- a transfer that is to be given back was one before, with the same qTDs
pub record WasOwed (d f : DriverContent) (u : ℕ) (y : Transfer) : Type 0 where
  pub transfer : Transfer
  pub here : slice_get d.transfers u ≡ Some transfer
  pub endpoint : y.endpoint ≡ transfer.endpoint
  pub released : y.released ≡ transfer.released
  pub qtds : y.qtds ≡ transfer.qtds
  pub left : y.left ≡ transfer.left
  pub places : (j : ℕ) → j ≤ y.qtds → piece_address f y j ≡ piece_address d transfer j

-- a met endpoint was one before
pub record WasMet (d : DriverContent) (i : ℕ) (x : Endpoint) : Type 0 where
  pub endpoint : Endpoint
  pub here : slice_get d.endpoints i ≡ Some endpoint
  pub met : IsMet d i endpoint
  pub queue : x.queue ≡ endpoint.queue

pub record IsAlike (d f : DriverContent) : Type 0 where
  pub ends : (i : ℕ) (x : Endpoint) → slice_get f.endpoints i ≡ Some x → IsMet f i x → WasMet d i x
  pub harvested : f.harvested ≡ d.harvested
  pub owed : (i u : ℕ) (y : Transfer) → slice_get d.harvested i ≡ Some u → slice_get f.transfers u ≡ Some y → y.released ≡ false → WasOwed d f u y

-- as where a command is accepted, an event of it is made, or a register is read
abbrev pub AlikeKeepFronts : Type 0
AlikeKeepFronts = (d f : DriverContent) (parts : StructureSets) (order : ℕ → ℕ → ℕ) (out : ℕ → List ℕ) → IsAlike d f → FrontsStand d parts order out → FrontsStand f parts order out

abbrev pub IdleStoreKeepsFronts : Type 0
IdleStoreKeepsFronts = (d : DriverContent) (parts : StructureSets) (order : ℕ → ℕ → ℕ) (out : ℕ → List ℕ) (n e : ℕ) (old new : Qtd) → IsStore (order n) (out n) parts n e old new
    → new.token.active ≡ false → FrontsStand d parts order out → FrontsStand d (stored_parts parts n e new) order out

-- the last store publishes the qTD at e, past which the walk hasn't gone
abbrev pub LastStoreKeepsFronts : Type 0
LastStoreKeepsFronts = (d : DriverContent) (parts : StructureSets) (order : ℕ → ℕ → ℕ) (out : ℕ → List ℕ) (n e : ℕ) (old new : Qtd) → (s : IsStore (order n) (out n) parts n e old new)
    → new.token.active ≡ true → IsFresh (parts n) new → (stand : FrontsStand d parts order out)
    → ((i : ℕ) (x : Endpoint) (here : slice_get d.endpoints i ≡ Some x) (met : IsMet d i x) → 32 * x.queue ≡ n → (stand i x here met).front ≤ order n e)
    → FrontsStand d (stored_parts parts n e new) order (with_out out n (out_with s))
