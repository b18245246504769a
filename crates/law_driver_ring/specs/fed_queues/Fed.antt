-- What the structures of each endpoint's queue are by the driver's content (EHCI 1.0, 3.5, 3.6 and 4.10): the qTD and the buffer of each piece of its
-- transfers, and the inactive qTD at its end. The walk changes only the token of an active qTD, and bytes of its buffer.
--     IsAlternate sort link next end     where a short packet leads: of a get to the block `end`; of a request nowhere, or from its data to the status behind them; else nowhere
--     is_request sort                the transfer is a control request, of which the first qTD is a SETUP
--     sized sort i note              the note of the piece number i with all bytes of its buffer: a SETUP has eight, and tells none of them
--     IsNotedQtd sort t note end     the qTD t is the one that was noted so, of a transfer of this sort whose last one leads to the block `end`
--     IsPieceFed sort part note b end     .. and stands in block b, with its buffer
--     unpublished_of d t y           how many of the first qTDs of transfer t aren't published
--     IsPublished d parts b words    the qTD in block b is being published with these words: so many of them are stored
--     AreFed d parts                 each published piece is fed, and so is the end of each queue
use Rattle.std.specs.Prelude.{◌≡◌, ℕ, suc, ◌+◌, ◌-◌, ◌*◌, ◌%◌, ◌/◌, ◌<◌, ◌≤◌, ◌⊎◌, zero, Bool, true, false, nat_eq, List, slice_get, slice_index, length, Some, None, if◌then◌else◌}
use Rattle.link_words.specs.declared.fields.ShortLink.{ShortLink}
use Rattle.link_words.specs.Links.{no_qtd}
use Rattle.qh_qtd.specs.declared.qtd.Qtd.{Qtd}
use Rattle.qh_qtd.specs.Qtd.{qtd_words, IsQtdInRange}
use Rattle.mem_bytes.specs.Bytes.{place as byte_address}
use Rattle.mem_runs.specs.Book.{slot_of}
use Rattle.drv_table.specs.declared.content.Endpoint.{Endpoint}
use Rattle.drv_table.specs.declared.content.Transfer.{Transfer}
use Rattle.drv_table.specs.declared.content.QtdNote.{QtdNote}
use Rattle.drv_table.specs.declared.content.Sort.{Sort}
use Rattle.drv_table.specs.declared.content.Sort.TheVariants as sorts
use Rattle.drv_table.specs.declared.content.Command.TheVariants as unfinished
use Rattle.drv_table.specs.DriverContent.{DriverContent}
use Rattle.drv_table.specs.Words.{to_qtd, dummy_qtd}
use Rattle.drv_table.specs.Harvests.{note_at, buffer_address}
use Rattle.claims_driver.specs.Owners.{note_in}
use Rattle.law_structures.specs.lent_structures.Structures.{Element, Structures, StructureSets}
use Rattle.law_structures.specs.lent_structures.Sound.{element_pages, HasBuffer}
use Rattle.law_ring.specs.Effects.{buffer_of}
use Rattle.law_driver_ring.specs.Inventory.{IsLent}
use Rattle.law_driver_ring.specs.Published.{partly, IsPublishable}
use Rattle.law_driver.specs.chained_transfers.Bulk.{pid_by}
use Rattle.law_driver.specs.chained_transfers.Chains.{piece_at}
use Rattle.law_driver.specs.chained_transfers.Out.{unpublished}

-- ---- one qTD

abbrev pub IsAlternate : Sort → ShortLink → ℕ → ℕ → Type 0
IsAlternate sorts.Get link next end = link ≡ to_qtd end
IsAlternate sorts.Request link next end = (link ≡ no_qtd) ⊎ (link ≡ to_qtd next)
IsAlternate _ link next end = link ≡ no_qtd

-- its links and the place of its buffer, which the walk never changes
pub record IsNotedQtd (sort : Sort) (t : Qtd) (note : QtdNote) (end : ℕ) : Type 0 where
  pub next : t.next ≡ to_qtd note.next
  pub alternate : IsAlternate sort t.alternate note.next end
  pub offset : t.offset ≡ 32 * (slice_index note.buffer 0 % 128)
  pub page0 : t.page0 ≡ slice_index note.buffer 0 / 128
  pub page1 : t.page1 ≡ slice_index note.buffer 1 / 128
  pub page2 : t.page2 ≡ slice_index note.buffer 2 / 128
  pub page3 : t.page3 ≡ slice_index note.buffer 3 / 128
  pub page4 : t.page4 ≡ slice_index note.buffer 4 / 128

abbrev pub is_request : Sort → Bool
is_request sorts.Request = true
is_request _ = false

-- a SETUP has eight bytes (USB 2.0, 8.5.3)
abbrev pub size_of : Sort → ℕ → ℕ → ℕ
size_of sort zero told = if is_request sort then 8 else told
size_of sort (suc i) told = told

abbrev pub sized : Sort → ℕ → QtdNote → QtdNote
sized sort i note = record note { told = size_of sort i note.told }

-- until it is done, its token counts all bytes
pub record IsPieceFed (sort : Sort) (part : Structures) (note : QtdNote) (b end : ℕ) : Type 0 where
  pub qtd : Qtd
  pub here : part (32 * b) ≡ Some (Element qtd)
  pub noted : IsNotedQtd sort qtd note end
  pub buffer : 0 < note.told → HasBuffer part qtd note.told
  pub long : length (buffer_of part qtd) ≡ note.told
  pub places : (j : ℕ) → j < note.told → buffer_address note j ≡ byte_address (element_pages qtd) (qtd.offset + j)
  pub fresh : qtd.token.active ≡ true → qtd.token.total ≡ note.told
  -- without bytes there is no buffer
  pub blank : note.told ≡ 0 → slice_index note.buffer 0 ≡ 0

-- ---- the newest transfer, which is being published

abbrev pub unpublished_of : DriverContent → ℕ → Transfer → ℕ
unpublished_of d t y = if nat_eq (suc t) (length d.transfers) then unpublished d.command d.made y.qtds else 0

-- its first qTD asks for all its bytes the way of its endpoint, and its buffer is there once it was lent
pub record IsPublished (d : DriverContent) (parts : StructureSets) (b : ℕ) (words : List ℕ) : Type 0 where
  pub number : ℕ
  pub transfer : Transfer
  pub endpoint : Endpoint
  pub newest : suc number ≡ length d.transfers
  pub there : slice_get d.transfers number ≡ Some transfer
  pub fresh : (transfer.reported ≡ false) × (transfer.released ≡ false)
  pub place : (transfer.first ≡ b) × (transfer.place ≡ b) × (transfer.left ≡ transfer.qtds)
  pub here : slice_get d.endpoints transfer.endpoint ≡ Some endpoint
  pub going : endpoint.ended ≡ None
  pub qtd : Qtd
  pub are : words ≡ qtd_words qtd
  pub range : IsQtdInRange qtd
  pub noted : IsNotedQtd transfer.sort qtd (note_at d.notes b) (piece_at (note_in d.notes) b transfer.qtds)
  pub active : qtd.token.active ≡ true
  pub pid : qtd.token.pid ≡ pid_by endpoint.desc.name.way
  pub total : qtd.token.total ≡ size_of transfer.sort 0 (note_at d.notes b).told
  pub stored : parts (32 * endpoint.queue) (32 * b) ≡ Some (Element (partly qtd (d.made - 1)))
  pub places : (j : ℕ) → j < size_of transfer.sort 0 (note_at d.notes b).told → buffer_address (note_at d.notes b) j ≡ byte_address (element_pages qtd) (qtd.offset + j)
  pub blank : size_of transfer.sort 0 (note_at d.notes b).told ≡ 0 → slice_index (note_at d.notes b).buffer 0 ≡ 0
  pub few : d.made ≤ 8
  pub long : 1 ≤ d.made → length (buffer_of (parts (32 * endpoint.queue)) qtd) ≡ size_of transfer.sort 0 (note_at d.notes b).told
  pub may : 1 ≤ d.made → IsPublishable (parts (32 * endpoint.queue)) (32 * b) qtd

-- ---- all of them

pub record AreFed (d : DriverContent) (parts : StructureSets) : Type 0 where
  pub dummies : (e : ℕ) (x : Endpoint) → slice_get d.endpoints e ≡ Some x → x.gone ≡ false → IsLent (slot_of d.book.slots x.dummy) → parts (32 * x.queue) (32 * x.dummy) ≡ Some (Element dummy_qtd)
  pub pieces : (t i : ℕ) (y : Transfer) (x : Endpoint) → slice_get d.transfers t ≡ Some y → y.released ≡ false → slice_get d.endpoints y.endpoint ≡ Some x
      → unpublished_of d t y ≤ i → i < y.qtds
      → IsPieceFed y.sort (parts (32 * x.queue)) (sized y.sort i (note_at d.notes (piece_at (note_in d.notes) y.first i))) (piece_at (note_in d.notes) y.first i) (piece_at (note_in d.notes) y.first y.qtds)
  pub publishes : (b : ℕ) (words : List ℕ) → d.command ≡ Some (unfinished.Publish b words) → IsPublished d parts b words
