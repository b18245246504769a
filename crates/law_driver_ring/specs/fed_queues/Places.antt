-- Which queue heads of a driver the walk may meet, which have streams, and the order of their qTDs (EHCI 1.0, 4.8 and 4.10).
--     IsThere d x                   the structures of the endpoint are there: it isn't the one of an open whose link is still to be stored, nor given back
--     IsMet d e x                   .. and the walk may meet its queue head
--     AreMet d member               the walk may meet these, and the head of the ring
--     HasHead, HasThere d n         an endpoint has its queue head there that is met, or there
--     HaveStreams d streams ends    each of them is that of the endpoint that was opened, and has a stream where data come to the host
--     IsLast order part a           the qTD at a is the last
--     AreLast d parts order         so is the end of each queue
--     AreStillOut d out                the qTDs that are out are those of the driver's content
use Rattle.std.specs.Prelude.{◌≡◌, ◌≢◌, ℕ, suc, ◌*◌, ◌<◌, ◌≤◌, ◌⊎◌, Bool, true, false, List, length, slice_get, Some}
use Rattle.qh_qtd.specs.declared.qtd.Qtd.{Qtd}
use Rattle.mem_runs.specs.Book.{slot_of}
use Rattle.drv_table.specs.declared.content.Endpoint.{Endpoint}
use Rattle.drv_table.specs.declared.content.Transfer.{Transfer}
use Rattle.drv_table.specs.declared.content.Command.TheVariants as unfinished
use Rattle.drv_table.specs.DriverContent.{DriverContent}
use Rattle.drv_table.specs.Words.{head_block, queue_head}
use Rattle.law_driver.specs.endpoint_lives.Lives.{may_meet}
use Rattle.law_structures.specs.lent_structures.Structures.{Element, Structures, StructureSets}
use Rattle.law_ring.specs.Order.{IsSorted}
use Rattle.law_ring.specs.Told.{Endpoint as Told, endpoint_of}
use Rattle.law_driver_ring.specs.Inventory.{IsLent}
use Rattle.claims_driver.specs.Scripts.{comes_in}
use Rattle.law_driver.specs.chained_transfers.Out.{out_now, out_all}

pub record IsThere (d : DriverContent) (x : Endpoint) : Type 0 where
  pub linked : d.command ≢ Some (unfinished.Open x.queue)
  pub kept : x.gone ≡ false

-- until Async Advance is cleared after the answered doorbell (EHCI 1.0, 4.8.2)
pub record IsMet (d : DriverContent) (e : ℕ) (x : Endpoint) : Type 0 where
  pub there : IsThere d x
  pub near : may_meet d e x ≡ true

-- an endpoint with its queue head at n, which is met
pub record HasHead (d : DriverContent) (n : ℕ) : Type 0 where
  pub number : ℕ
  pub endpoint : Endpoint
  pub here : slice_get d.endpoints number ≡ Some endpoint
  pub met : IsMet d number endpoint
  pub at : n ≡ 32 * endpoint.queue

-- .. or which is there
pub record HasThere (d : DriverContent) (n : ℕ) : Type 0 where
  pub number : ℕ
  pub endpoint : Endpoint
  pub here : slice_get d.endpoints number ≡ Some endpoint
  pub there : IsThere d endpoint
  pub at : n ≡ 32 * endpoint.queue

pub record AreMet (d : DriverContent) (member : ℕ → Bool) : Type 0 where
  pub head : member (32 * head_block) ≡ true
  pub each : (e : ℕ) (x : Endpoint) → slice_get d.endpoints e ≡ Some x → IsMet d e x → member (32 * x.queue) ≡ true
  pub only : (n : ℕ) → member n ≡ true → (n ≡ 32 * head_block) ⊎ HasHead d n

pub record HaveStreams (d : DriverContent) (streams : ℕ → Bool) (ends : ℕ → Told) : Type 0 where
  pub each : (e : ℕ) (x : Endpoint) → slice_get d.endpoints e ≡ Some x → IsMet d e x
      → (streams (32 * x.queue) ≡ comes_in x.desc.name.way) × (ends (32 * x.queue) ≡ endpoint_of (queue_head x.desc 0 x.dummy))
  pub only : (n : ℕ) → streams n ≡ true → HasHead d n

-- ---- order

abbrev pub IsLast : (ℕ → ℕ) → Structures → ℕ → Type 0
IsLast order part a = (b : ℕ) (t : Qtd) → part b ≡ Some (Element t) → b ≢ a → order b < order a

-- before its lend the first qTD of a transfer is still the end of the queue
pub record AreLast (d : DriverContent) (parts : StructureSets) (order : ℕ → ℕ → ℕ) : Type 0 where
  pub dummies : (e : ℕ) (x : Endpoint) → slice_get d.endpoints e ≡ Some x → x.gone ≡ false → IsLent (slot_of d.book.slots x.dummy) → IsLast (order (32 * x.queue)) (parts (32 * x.queue)) (32 * x.dummy)
  pub taken : (b : ℕ) (words : List ℕ) (t : ℕ) (y : Transfer) (x : Endpoint) → d.command ≡ Some (unfinished.Publish b words) → d.made ≡ 0 → suc t ≡ length d.transfers
      → slice_get d.transfers t ≡ Some y → y.first ≡ b
      → slice_get d.endpoints y.endpoint ≡ Some x → IsLast (order (32 * x.queue)) (parts (32 * x.queue)) (32 * b)
  -- .. and once it is lent, it has its place among those that are out
  pub sorted : (b : ℕ) (words : List ℕ) (t : ℕ) (y : Transfer) (x : Endpoint) → d.command ≡ Some (unfinished.Publish b words) → 1 ≤ d.made → suc t ≡ length d.transfers
      → slice_get d.transfers t ≡ Some y → y.first ≡ b
      → slice_get d.endpoints y.endpoint ≡ Some x → IsSorted (order (32 * x.queue)) (out_all d y.endpoint)

-- ---- what is out

abbrev pub AreStillOut : DriverContent → (ℕ → List ℕ) → Type 0
AreStillOut d out = (e : ℕ) (x : Endpoint) → slice_get d.endpoints e ≡ Some x → IsThere d x → out (32 * x.queue) ≡ out_now d e
