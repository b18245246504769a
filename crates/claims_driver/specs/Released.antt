-- What the driver gives back (EHCI 1.0, 4.8.2, 4.10 and 4.12): a transfer that was harvested, a queue head and its transfers once the advance
-- interrupt was heard for it, and what was unlinked from the frame list once its frame has passed.
--     IsSlotFreed s m, IsFreed slot m b    each block of the slot's run, or of the run that begins in block b, is Free
--     AreFreed slot m bs                   .. of each of these runs
--     ArePiecesFreed slot note m b n       of n qTDs from block b on, and of their buffers
--     IsTransferFreed d m y                of a transfer: its qTDs and their buffers
--     IsQueueFreed d m e x                 of an endpoint with a queue: its queue head, its inactive qTD, and each transfer that it still
--                                          has
--     IsDescriptorFreed d m y              of a transfer: its isochronous descriptor and its buffer
--     AreWaitingFreed d m e                of an isochronous endpoint: each descriptor that wasn't reported
--     IsPlacedFreed d m e x iso, IsRemovedFreed d m what
--                                          .. of a periodic endpoint; of what was unlinked from the frame list
--     IsReleased d m row                   what this row of the driver gives back is Free in m
use Rattle.std.specs.List.{AllByRecursion}
use Rattle.std.specs.Prelude.{◌≡◌, ℕ, zero, suc, Bool, true, false, List, [], ◌∷◌, slice_get, Some, IfSome}
use Rattle.word_mem.specs.declared.blocks.BlockState.TheVariants.{Free}
use Rattle.word_mem.specs.Memory.{Mem}
use Rattle.mem_runs.specs.declared.slots.Slot.{Slot}
use Rattle.mem_runs.specs.Book.{slot_of}
use Rattle.drv_periodic_table.specs.declared.content.Removed.{Removed}
use Rattle.drv_periodic_table.specs.declared.content.Removed.TheVariants as removed
use Rattle.drv_table.specs.declared.content.Endpoint.{Endpoint}
use Rattle.drv_table.specs.declared.content.Transfer.{Transfer}
use Rattle.drv_table.specs.declared.rows.DriverRow.{DriverRow}
use Rattle.drv_table.specs.declared.rows.DriverRow.TheVariants as rows
use Rattle.drv_table.specs.DriverContent.{DriverContent, waits_for}
use Rattle.drv_table.specs.Releases.{is_held_of}
use Rattle.drv_table.specs.Kinds.{is_iso}
use Rattle.claims_driver.specs.Owners.{NoteRuns, SlotHas, descriptor_in, note_in}

abbrev pub IsSlotFreed : Slot → Mem → Type 0
IsSlotFreed s m = (k : ℕ) → SlotHas s k → slice_get m.states k ≡ Some Free

abbrev pub IsFreed : (ℕ → Slot) → Mem → ℕ → Type 0
IsFreed slot m b = IsSlotFreed (slot b) m

abbrev pub AreFreed : (ℕ → Slot) → Mem → List ℕ → Type 0
AreFreed slot m bs = AllByRecursion (IsFreed slot m) bs

unfoldable pub ArePiecesFreed : (ℕ → Slot) → (ℕ → NoteRuns) → Mem → ℕ → ℕ → Type 0
ArePiecesFreed slot note m b zero = Unit {0}
ArePiecesFreed slot note m b (suc n) = AreFreed slot m (b ∷ (note b).buffer) × ArePiecesFreed slot note m (note b).next n

abbrev pub IsTransferFreed : DriverContent → Mem → Transfer → Type 0
IsTransferFreed d m y = ArePiecesFreed (slot_of d.book.slots) (note_in d.notes) m y.first y.qtds

pub record IsQueueFreed (d : DriverContent) (m : Mem) (e : ℕ) (x : Endpoint) : Type 0 where
  pub queue : AreFreed (slot_of d.book.slots) m (x.queue ∷ x.dummy ∷ [])
  pub transfers : (t : ℕ) (y : Transfer) → slice_get d.transfers t ≡ Some y → is_held_of e y ≡ true → IsTransferFreed d m y

abbrev pub IsDescriptorFreed : DriverContent → Mem → Transfer → Type 0
IsDescriptorFreed d m y = AreFreed (slot_of d.book.slots) m (y.first ∷ (descriptor_in d.periodic.notes y.first).buffer)

abbrev pub AreWaitingFreed : DriverContent → Mem → ℕ → Type 0
AreWaitingFreed d m e = (t : ℕ) (y : Transfer) → slice_get d.transfers t ≡ Some y → waits_for e y ≡ true → IsDescriptorFreed d m y

abbrev pub IsPlacedFreed : DriverContent → Mem → ℕ → Endpoint → Bool → Type 0
IsPlacedFreed d m e x true = AreWaitingFreed d m e
IsPlacedFreed d m e x false = IsQueueFreed d m e x

abbrev pub IsRemovedFreed : DriverContent → Mem → Removed → Type 0
IsRemovedFreed d m (removed.Descriptor t) = IfSome (slice_get d.transfers t) (IsDescriptorFreed d m)
IsRemovedFreed d m (removed.Endpoint e) = IfSome (slice_get d.endpoints e) (λ x. IsPlacedFreed d m e x (is_iso x.desc.kind))

abbrev pub IsReleased : DriverContent → Mem → DriverRow → Type 0
IsReleased d m (rows.ReleaseTransfer t) = IfSome (slice_get d.transfers t) (IsTransferFreed d m)
IsReleased d m (rows.ReleaseEndpoint e) = IfSome (slice_get d.endpoints e) (IsQueueFreed d m e)
IsReleased d m (rows.ReleaseRemoved what) = IsRemovedFreed d m what
IsReleased d m _ = Unit {0}
