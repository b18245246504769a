-- Whose each run of blocks is (EHCI 1.0, 3.3, 3.5, 3.6, 4.6, 4.8 and 4.10): the frame list, the head of the ring, each queue head, each
-- inactive qTD at the end of a queue, and the qTDs, the isochronous descriptor and the buffers of each transfer stand in runs of their own.
-- A run is told by its first block, and has one owner: so no run is used twice. No two runs of the driver's book share a block (`Stands`).
--     Owner                             whose a run is; endpoints and transfers have their numbers
--     IsRunFor o s                      the slot s of the book has a run, as long as the owner wants it
--     SlotHas s k                       block k belongs to the slot's run
--     IsPlaced slot owner b o           the run that begins in block b is o's
--     ArePieces slot owner note t b n   the n qTDs from block b on, and their buffers, are those of transfer t
--     IsDescribed slot owner note t b   the isochronous descriptor in block b, and the runs of its buffer, are those of transfer t
--     AreOwned slot .. owner            each endpoint with a queue that wasn't given back has its queue head and its inactive qTD, and each
--                                       transfer that wasn't given back its qTDs or its descriptor, and their buffers
--     IsOwned d owner                   the same of the driver's content
--     IsPieceOf note b n c              block c is that of one of the n qTDs from block b on
--     IsOneOf c cs                      c is one of these
use Rattle.std.specs.List.{AllByRecursion}
use Rattle.std.specs.Prelude.{◌≡◌, ℕ, zero, suc, ◌⊎◌, Bool, true, false, ◌||◌, List, [], ◌∷◌, length, take, slice_get, Option, Some, if◌then◌else◌, option_map}
use Rattle.word_mem.specs.Owners.{has_block}
use Rattle.mem_runs.specs.declared.slots.Slot.{Slot}
use Rattle.mem_runs.specs.declared.slots.Slot.TheVariants.{Empty, Keeps, Lends}
use Rattle.mem_runs.specs.Book.{slot_of}
use Rattle.drv_periodic_table.specs.declared.content.DescriptorNote.{DescriptorNote}
use Rattle.drv_periodic_table.specs.Periodic.{note_at as descriptor_at}
use Rattle.drv_table.specs.declared.content.Endpoint.{Endpoint}
use Rattle.drv_table.specs.declared.content.QtdNote.{QtdNote}
use Rattle.drv_table.specs.declared.content.Sort.{Sort}
use Rattle.drv_table.specs.declared.content.Sort.TheVariants as sorts
use Rattle.drv_table.specs.declared.content.Transfer.{Transfer}
use Rattle.drv_table.specs.DriverContent.{DriverContent}
use Rattle.drv_table.specs.Harvests.{note_at}
use Rattle.drv_table.specs.Kinds.{is_iso}
use Rattle.drv_table.specs.Words.{head_block}

pub data Owner : Type 0 where
  FrameList : Owner
  Head : Owner
  QueueHead : ℕ → Owner  -- of an endpoint
  Dummy : ℕ → Owner  -- the inactive qTD at the end of an endpoint's queue
  Element : ℕ → Owner  -- a qTD of a transfer
  Described : Bool → ℕ → Owner  -- the isochronous descriptor of a transfer: a siTD, or an iTD
  Buffer : ℕ → Owner  -- a run of a buffer of a transfer

-- ---- how long the runs are

abbrev pub HasBlocks : ℕ → Slot → Type 0
HasBlocks n Empty = ⊥
HasBlocks n (Keeps r) = r.blocks ≡ n
HasBlocks n (Lends r) = r.blocks ≡ n

abbrev pub HasRun : Slot → Type 0
HasRun Empty = ⊥
HasRun (Keeps r) = Unit {0}
HasRun (Lends r) = Unit {0}

-- block k is one of the slot's run
abbrev pub SlotHas : Slot → ℕ → Type 0
SlotHas Empty k = ⊥
SlotHas (Keeps r) k = has_block r k ≡ true
SlotHas (Lends r) k = has_block r k ≡ true

-- a page, two blocks for a queue head and for an iTD, one for a qTD and for a siTD, and whatever a buffer wants
abbrev pub IsRunFor : Owner → Slot → Type 0
IsRunFor FrameList s = HasBlocks 128 s
IsRunFor Head s = HasBlocks 2 s
IsRunFor (QueueHead e) s = HasBlocks 2 s
IsRunFor (Dummy e) s = HasBlocks 1 s
IsRunFor (Element t) s = HasBlocks 1 s
IsRunFor (Described split t) s = HasBlocks (if split then 1 else 2) s
IsRunFor (Buffer t) s = HasRun s

pub record IsPlaced (slot : ℕ → Slot) (owner : ℕ → Owner) (b : ℕ) (o : Owner) : Type 0 where
  pub owned : owner b ≡ o
  pub run : IsRunFor o (slot b)

-- ---- what endpoints, transfers and notes say of runs

-- an isochronous endpoint has no queue, and one that was given back has none any more
pub record EndpointRuns : Type 0 where
  pub queue : ℕ
  pub dummy : ℕ
  pub bare : Bool

pub record TransferRuns : Type 0 where
  pub endpoint : ℕ
  pub first : ℕ
  pub qtds : ℕ
  pub isochronous : Bool
  pub released : Bool

-- the block of the next qTD, and where the runs of this one's buffer begin
pub record NoteRuns : Type 0 where
  pub next : ℕ
  pub buffer : List ℕ

abbrev pub is_descriptor : Sort → Bool
is_descriptor sorts.Descriptor = true
is_descriptor sorts.Get = false
is_descriptor sorts.Put = false
is_descriptor sorts.Request = false

abbrev pub runs_of_endpoint : Endpoint → EndpointRuns
runs_of_endpoint x = record { queue = x.queue; dummy = x.dummy; bare = is_iso x.desc.kind || x.gone }

abbrev pub runs_of_transfer : Transfer → TransferRuns
runs_of_transfer y = record { endpoint = y.endpoint; first = y.first; qtds = y.qtds; isochronous = is_descriptor y.sort; released = y.released }

abbrev pub runs_of_note : QtdNote → NoteRuns
runs_of_note n = record { next = n.next; buffer = take n.runs n.buffer }

abbrev pub endpoint_in : List Endpoint → ℕ → Option EndpointRuns
endpoint_in xs e = option_map runs_of_endpoint (slice_get xs e)

abbrev pub transfer_in : List Transfer → ℕ → Option TransferRuns
transfer_in ts t = option_map runs_of_transfer (slice_get ts t)

abbrev pub note_in : List QtdNote → ℕ → NoteRuns
note_in notes b = runs_of_note (note_at notes b)

-- which structure an isochronous descriptor is, and where the runs of its buffer begin
pub record DescriptorRuns : Type 0 where
  pub split : Bool
  pub buffer : List ℕ

abbrev pub runs_of_descriptor : DescriptorNote → DescriptorRuns
runs_of_descriptor n = record { split = n.split; buffer = take n.runs n.buffer }

abbrev pub descriptor_in : List DescriptorNote → ℕ → DescriptorRuns
descriptor_in notes b = runs_of_descriptor (descriptor_at notes b)

-- ---- whose they are

-- one qTD of a transfer, with the runs of its buffer
pub record IsPiece (slot : ℕ → Slot) (owner : ℕ → Owner) (note : NoteRuns) (t b : ℕ) : Type 0 where
  pub element : IsPlaced slot owner b (Element t)
  pub buffers : AllByRecursion (λ c. IsPlaced slot owner c (Buffer t)) note.buffer

abbrev pub ArePieces : (ℕ → Slot) → (ℕ → Owner) → (ℕ → NoteRuns) → ℕ → ℕ → ℕ → Type 0
ArePieces slot owner note t b zero = Unit {0}
ArePieces slot owner note t b (suc n) = IsPiece slot owner (note b) t b × ArePieces slot owner note t (note b).next n

pub record IsDescribed (slot : ℕ → Slot) (owner : ℕ → Owner) (note : DescriptorRuns) (t b : ℕ) : Type 0 where
  pub descriptor : IsPlaced slot owner b (Described note.split t)
  pub buffers : AllByRecursion (λ c. IsPlaced slot owner c (Buffer t)) note.buffer

-- what tells the runs: endpoints and transfers by number, the notes of qTDs and of descriptors by block
pub record Views : Type 0 where
  pub slot : ℕ → Slot
  pub endpoint : ℕ → Option EndpointRuns
  pub transfer : ℕ → Option TransferRuns
  pub note : ℕ → NoteRuns
  pub descriptor : ℕ → DescriptorRuns

pub record AreOwned (v : Views) (owner : ℕ → Owner) : Type 0 where
  pub list : IsPlaced v.slot owner 0 FrameList
  pub head : IsPlaced v.slot owner head_block Head
  pub queue : (e : ℕ) (x : EndpointRuns) → v.endpoint e ≡ Some x → x.bare ≡ false → IsPlaced v.slot owner x.queue (QueueHead e)
  pub dummy : (e : ℕ) (x : EndpointRuns) → v.endpoint e ≡ Some x → x.bare ≡ false → IsPlaced v.slot owner x.dummy (Dummy e)
  pub pieces : (t : ℕ) (y : TransferRuns) → v.transfer t ≡ Some y → y.released ≡ false → ArePieces v.slot owner v.note t y.first y.qtds
  pub described : (t : ℕ) (y : TransferRuns) → v.transfer t ≡ Some y → y.isochronous ≡ true → y.released ≡ false → IsDescribed v.slot owner (v.descriptor y.first) t y.first

abbrev pub views_of : DriverContent → Views
views_of d = record {
  slot = slot_of d.book.slots;
  endpoint = endpoint_in d.endpoints;
  transfer = transfer_in d.transfers;
  note = note_in d.notes;
  descriptor = descriptor_in d.periodic.notes;
}

pub record IsOwned (d : DriverContent) (owner : ℕ → Owner) : Type 0 where
  pub each : AreOwned (views_of d) owner
  pub sizes : length d.notes ≡ length d.book.slots
  pub as_many : length d.periodic.notes ≡ length d.book.slots

-- ---- the qTDs of a transfer

abbrev pub IsPieceOf : (ℕ → NoteRuns) → ℕ → ℕ → ℕ → Type 0
IsPieceOf note b zero c = ⊥
IsPieceOf note b (suc n) c = (c ≡ b) ⊎ IsPieceOf note (note b).next n c

-- ---- whose a structure is

pub record IsQueueIn (v : Views) (e : ℕ) (x : EndpointRuns) : Type 0 where
  pub here : v.endpoint e ≡ Some x
  pub queued : x.bare ≡ false

abbrev pub IsOneOf : ℕ → List ℕ → Type 0
IsOneOf c [] = ⊥
IsOneOf c (d ∷ ds) = (c ≡ d) ⊎ IsOneOf c ds
