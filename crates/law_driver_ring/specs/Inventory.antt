-- Which structures memory has for a driver (EHCI 1.0, 3.5, 3.6, 4.6, 4.8 and 4.10): the frame list, the head of the ring, and of each endpoint with
-- a queue its queue head, the inactive qTD at the end of its queue, and the qTDs and buffers of its transfers, as far as the driver has lent their
-- runs. The owner of each is its queue head.
--     Sort, sort_of              what kind of structure one is
--     Inventory, sorts_of parts  the kind of each structure by owner and name
--     SameSorts parts now        each name has a structure of the same kind
--     AreTold v sorts b n        each of the n qTDs from block b on that is lent is told, and so is its buffer
--     IsDriverOwned v n a k      the driver has a structure of this kind there
--     IsDriven v sorts           all that the driver has lent is told, and nothing else
use Rattle.std.specs.Prelude.{◌≡◌, ℕ, zero, suc, ◌*◌, false, List, [], ◌∷◌, Option, Some, option_map}
use Rattle.mem_runs.specs.declared.slots.Slot.{Slot}
use Rattle.mem_runs.specs.declared.slots.Slot.TheVariants.{Empty, Keeps, Lends}
use Rattle.drv_table.specs.Words.{head_block}
use Rattle.claims_driver.specs.Owners.{EndpointRuns, TransferRuns, Views, IsQueueIn, IsPieceOf}
use Rattle.law_structures.specs.lent_structures.Structures.{Structure, QueueHead, Element, Buffer, Table, Isochronous, SplitIsochronous, StructureSets}

pub data Sort : Type 0 where
  OfQueueHead : Sort
  OfElement : Sort
  OfBuffer : Sort
  OfTable : Sort
  OfIsochronous : Sort
  OfSplitIsochronous : Sort

abbrev pub sort_of : Structure → Sort
sort_of (QueueHead q) = OfQueueHead
sort_of (Element t) = OfElement
sort_of (Buffer pages k bs) = OfBuffer
sort_of (Table ws) = OfTable
sort_of (Isochronous v) = OfIsochronous
sort_of (SplitIsochronous v) = OfSplitIsochronous

abbrev pub Inventory : Type 0
Inventory = ℕ → ℕ → Option Sort

abbrev pub sorts_of : StructureSets → Inventory
sorts_of parts n a = option_map sort_of (parts n a)

abbrev pub SameSorts : StructureSets → StructureSets → Type 0
SameSorts parts now = (n a : ℕ) → sorts_of now n a ≡ sorts_of parts n a

-- ---- runs

abbrev pub IsLent : Slot → Type 0
IsLent Empty = ⊥
IsLent (Keeps r) = ⊥
IsLent (Lends r) = Unit {0}

-- ---- the qTDs of a transfer

-- the buffer begins in the first of its runs
abbrev pub IsBufferTold : (ℕ → Slot) → (ℕ → Option Sort) → List ℕ → Type 0
IsBufferTold slot sorts [] = Unit {0}
IsBufferTold slot sorts (c ∷ cs) = IsLent (slot c) → sorts (32 * c) ≡ Some OfBuffer

pub record IsPieceTold (v : Views) (sorts : ℕ → Option Sort) (b : ℕ) : Type 0 where
  pub element : IsLent (v.slot b) → sorts (32 * b) ≡ Some OfElement
  pub buffer : IsBufferTold v.slot sorts (v.note b).buffer

abbrev pub AreTold : Views → (ℕ → Option Sort) → ℕ → ℕ → Type 0
AreTold v sorts b zero = Unit {0}
AreTold v sorts b (suc n) = IsPieceTold v sorts b × AreTold v sorts (v.note b).next n

-- ---- whose a structure is

-- the transfer of an endpoint with a queue, which wasn't given back
pub record IsTransferIn (v : Views) (t : ℕ) (y : TransferRuns) (x : EndpointRuns) : Type 0 where
  pub here : v.transfer t ≡ Some y
  pub held : y.released ≡ false
  pub qtds : y.isochronous ≡ false
  pub queue : IsQueueIn v y.endpoint x

pub data IsDriverOwned (v : Views) : ℕ → ℕ → Sort → Type 0 where
  the_list : IsDriverOwned v 0 0 OfTable
  the_head : IsDriverOwned v (32 * head_block) (32 * head_block) OfQueueHead
  a_queue : (e : ℕ) (x : EndpointRuns) → IsQueueIn v e x → IsLent (v.slot x.queue) → IsDriverOwned v (32 * x.queue) (32 * x.queue) OfQueueHead
  a_dummy : (e : ℕ) (x : EndpointRuns) → IsQueueIn v e x → IsLent (v.slot x.dummy) → IsDriverOwned v (32 * x.queue) (32 * x.dummy) OfElement
  a_piece : (t b : ℕ) (y : TransferRuns) (x : EndpointRuns) → IsTransferIn v t y x → IsPieceOf v.note y.first y.qtds b → IsLent (v.slot b)
      → IsDriverOwned v (32 * x.queue) (32 * b) OfElement
  a_buffer : (t b c : ℕ) (cs : List ℕ) (y : TransferRuns) (x : EndpointRuns) → IsTransferIn v t y x → IsPieceOf v.note y.first y.qtds b
      → (v.note b).buffer ≡ c ∷ cs → IsLent (v.slot c) → IsDriverOwned v (32 * x.queue) (32 * c) OfBuffer

-- ---- the whole

pub record IsDriven (v : Views) (sorts : Inventory) : Type 0 where
  pub list : sorts 0 0 ≡ Some OfTable
  pub head : sorts (32 * head_block) (32 * head_block) ≡ Some OfQueueHead
  pub queue : (e : ℕ) (x : EndpointRuns) → IsQueueIn v e x → IsLent (v.slot x.queue) → sorts (32 * x.queue) (32 * x.queue) ≡ Some OfQueueHead
  pub dummy : (e : ℕ) (x : EndpointRuns) → IsQueueIn v e x → IsLent (v.slot x.dummy) → sorts (32 * x.queue) (32 * x.dummy) ≡ Some OfElement
  pub pieces : (t : ℕ) (y : TransferRuns) (x : EndpointRuns) → IsTransferIn v t y x → AreTold v (sorts (32 * x.queue)) y.first y.qtds
  pub only : (n a : ℕ) (k : Sort) → sorts n a ≡ Some k → IsDriverOwned v n a k
