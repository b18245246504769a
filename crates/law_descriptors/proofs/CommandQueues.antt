-- What a driver has of its queues stays, where their endpoints, transfers and notes are told alike, and of their runs the same are lent.
use Rattle.std.proofs.Common.{◌≡◌, ℕ, zero, suc, ◌*◌, false, List, [], ◌∷◌, Option, Some, ap, refl, sym, subst, ◌∙◌, inl, inr}
use Rattle.mem_runs.specs.declared.slots.Slot.{Slot}
use Rattle.claims_driver.specs.Owners.{SlotHas, EndpointRuns, TransferRuns, NoteRuns, Views, IsPieceOf, IsQueueIn}
use Rattle.law_structures.specs.lent_structures.Structures.{StructureSets}
use Rattle.law_driver_ring.specs.Inventory.{Sort, Inventory, sorts_of, IsLent, IsBufferTold, AreTold, IsTransferIn, IsDriverOwned, the_list, the_head, a_queue, a_dummy, a_piece, a_buffer, IsDriven}
use Rattle.law_driver_ring.specs.Extents.{AreInRuns}
use Rattle.law_driver_ring.proofs.Following.{extents_follow}

-- the one is lent where the other is
pub record AreLentAlike (s t : Slot) : Type 0 where
  pub on : IsLent s → IsLent t
  pub back : IsLent t → IsLent s

pub record QueuesStay (v w : Views) : Type 0 where
  pub runs : (c k : ℕ) → SlotHas (v.slot c) k → SlotHas (w.slot c) k
  pub endpoints : (e : ℕ) → w.endpoint e ≡ v.endpoint e
  pub notes : (b : ℕ) → w.note b ≡ v.note b
  pub here : (t : ℕ) (y : TransferRuns) → y.isochronous ≡ false → v.transfer t ≡ Some y → w.transfer t ≡ Some y
  pub was : (t : ℕ) (y : TransferRuns) → y.isochronous ≡ false → w.transfer t ≡ Some y → v.transfer t ≡ Some y
  pub queue : (e : ℕ) (x : EndpointRuns) → IsQueueIn v e x → AreLentAlike (v.slot x.queue) (w.slot x.queue)
  pub dummy : (e : ℕ) (x : EndpointRuns) → IsQueueIn v e x → AreLentAlike (v.slot x.dummy) (w.slot x.dummy)
  pub piece : (t b : ℕ) (y : TransferRuns) (x : EndpointRuns) → IsTransferIn v t y x → IsPieceOf v.note y.first y.qtds b → AreLentAlike (v.slot b) (w.slot b)
  pub buffer : (t b c : ℕ) (cs : List ℕ) (y : TransferRuns) (x : EndpointRuns) → IsTransferIn v t y x → IsPieceOf v.note y.first y.qtds b → (v.note b).buffer ≡ c ∷ cs → AreLentAlike (v.slot c) (w.slot c)

-- the same without what is told of how far their runs reach
pub record QueuesAlike (v w : Views) : Type 0 where
  pub endpoints : (e : ℕ) → w.endpoint e ≡ v.endpoint e
  pub notes : (b : ℕ) → w.note b ≡ v.note b
  pub here : (t : ℕ) (y : TransferRuns) → y.isochronous ≡ false → v.transfer t ≡ Some y → w.transfer t ≡ Some y
  pub was : (t : ℕ) (y : TransferRuns) → y.isochronous ≡ false → w.transfer t ≡ Some y → v.transfer t ≡ Some y
  pub queue : (e : ℕ) (x : EndpointRuns) → IsQueueIn v e x → AreLentAlike (v.slot x.queue) (w.slot x.queue)
  pub dummy : (e : ℕ) (x : EndpointRuns) → IsQueueIn v e x → AreLentAlike (v.slot x.dummy) (w.slot x.dummy)
  pub piece : (t b : ℕ) (y : TransferRuns) (x : EndpointRuns) → IsTransferIn v t y x → IsPieceOf v.note y.first y.qtds b → AreLentAlike (v.slot b) (w.slot b)
  pub buffer : (t b c : ℕ) (cs : List ℕ) (y : TransferRuns) (x : EndpointRuns) → IsTransferIn v t y x → IsPieceOf v.note y.first y.qtds b → (v.note b).buffer ≡ c ∷ cs → AreLentAlike (v.slot c) (w.slot c)

queues_alike : (v w : Views) → QueuesStay v w → QueuesAlike v w
queues_alike v w k = record { endpoints = k.endpoints; notes = k.notes; here = k.here; was = k.was; queue = k.queue; dummy = k.dummy; piece = k.piece; buffer = k.buffer }

module _ (v w : Views) (k : QueuesAlike v w) where
  queue_back : (e : ℕ) (x : EndpointRuns) → IsQueueIn w e x → IsQueueIn v e x
  queue_back e x is = record { here = sym (k.endpoints e) ∙ is.here; queued = is.queued }

  queue_on : (e : ℕ) (x : EndpointRuns) → IsQueueIn v e x → IsQueueIn w e x
  queue_on e x is = record { here = k.endpoints e ∙ is.here; queued = is.queued }

  pub transfer_back : (t : ℕ) (y : TransferRuns) (x : EndpointRuns) → IsTransferIn w t y x → IsTransferIn v t y x
  transfer_back t y x is = record { here = k.was t y is.qtds is.here; held = is.held; qtds = is.qtds; queue = queue_back y.endpoint x is.queue }

  transfer_on : (t : ℕ) (y : TransferRuns) (x : EndpointRuns) → IsTransferIn v t y x → IsTransferIn w t y x
  transfer_on t y x is = record { here = k.here t y is.qtds is.here; held = is.held; qtds = is.qtds; queue = queue_on y.endpoint x is.queue }

  piece_on : (b n c : ℕ) → IsPieceOf v.note b n c → IsPieceOf w.note b n c
  piece_on b zero c is = is
  piece_on b (suc n) c (inl same) = inl same
  piece_on b (suc n) c (inr is) = inr (subst (λ (r : NoteRuns). IsPieceOf w.note r.next n c) (sym (k.notes b)) (piece_on (v.note b).next n c is))

  pub piece_back : (b n c : ℕ) → IsPieceOf w.note b n c → IsPieceOf v.note b n c
  piece_back b zero c is = is
  piece_back b (suc n) c (inl same) = inl same
  piece_back b (suc n) c (inr is) = inr (piece_back (v.note b).next n c (subst (λ (r : NoteRuns). IsPieceOf w.note r.next n c) (k.notes b) is))

  -- ---- the inventory

  buffer_told : (sorts : ℕ → Option Sort) (ds : List ℕ) → ((c : ℕ) (cs : List ℕ) → ds ≡ c ∷ cs → AreLentAlike (v.slot c) (w.slot c)) → IsBufferTold v.slot sorts ds → IsBufferTold w.slot sorts ds
  buffer_told sorts [] alike told = tt
  buffer_told sorts (c ∷ cs) alike told = λ lent. told ((alike c cs refl).back lent)

  are_told : (t : ℕ) (y : TransferRuns) (x : EndpointRuns) (sorts : ℕ → Option Sort) (b n : ℕ) → IsTransferIn v t y x → ((c : ℕ) → IsPieceOf v.note b n c → IsPieceOf v.note y.first y.qtds c) → AreTold v sorts b n → AreTold w sorts b n
  are_told t y x sorts b zero is among told = tt
  are_told t y x sorts b (suc n) is among told = (
    record {
      element = λ lent. told.0.element ((k.piece t b y x is (among b (inl refl))).back lent);
      buffer = subst (λ (r : NoteRuns). IsBufferTold w.slot sorts r.buffer) (sym (k.notes b))
          (buffer_told sorts (v.note b).buffer (λ c cs first. k.buffer t b c cs y x is (among b (inl refl)) first) told.0.buffer);
    },
    subst (λ (r : NoteRuns). AreTold w sorts r.next n) (sym (k.notes b)) (are_told t y x sorts (v.note b).next n is (λ c piece. among c (inr piece)) told.1),
  )

  owned_on : (n a : ℕ) (s : Sort) → IsDriverOwned v n a s → IsDriverOwned w n a s
  owned_on _ _ _ the_list = the_list
  owned_on _ _ _ the_head = the_head
  owned_on _ _ _ (a_queue e x is lent) = a_queue e x (queue_on e x is) ((k.queue e x is).on lent)
  owned_on _ _ _ (a_dummy e x is lent) = a_dummy e x (queue_on e x is) ((k.dummy e x is).on lent)
  owned_on _ _ _ (a_piece t b y x is piece lent) = a_piece t b y x (transfer_on t y x is) (piece_on y.first y.qtds b piece) ((k.piece t b y x is piece).on lent)
  owned_on _ _ _ (a_buffer t b c cs y x is piece first lent) =
      a_buffer t b c cs y x (transfer_on t y x is) (piece_on y.first y.qtds b piece) (ap (λ (r : NoteRuns). r.buffer) (k.notes b) ∙ first) ((k.buffer t b c cs y x is piece first).on lent)

  pub driven_alike : (sorts : Inventory) → IsDriven v sorts → IsDriven w sorts
  driven_alike sorts d = record {
    list = d.list;
    head = d.head;
    queue = λ e x is lent. let was = queue_back e x is in d.queue e x was ((k.queue e x was).back lent);
    dummy = λ e x is lent. let was = queue_back e x is in d.dummy e x was ((k.dummy e x was).back lent);
    pieces = λ t y x is. let was = transfer_back t y x is in are_told t y x (sorts (32 * x.queue)) y.first y.qtds was (λ c piece. piece) (d.pieces t y x was);
    only = λ n a s there. owned_on n a s (d.only n a s there);
  }

pub driven_stays : (v w : Views) → QueuesStay v w → (sorts : Inventory) → IsDriven v sorts → IsDriven w sorts
driven_stays v w k sorts d = driven_alike v w (queues_alike v w k) sorts d

pub extents_stay : (v w : Views) → QueuesStay v w → (parts : StructureSets) → IsDriven w (sorts_of parts) → AreInRuns v parts → AreInRuns w parts
extents_stay v w k parts driven lies =
    let alike = queues_alike v w k in
    extents_follow v w parts
    (record {
      slots = k.runs;
      buffered = λ t b c cs y x is piece first lent.
          record { transfer = transfer_back v w alike t y x is; piece = piece_back v w alike y.first y.qtds b piece; first = ap (λ (r : NoteRuns). r.buffer) (sym (k.notes b)) ∙ first };
    }) driven lies
