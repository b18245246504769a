-- An endpoint of the ring is opened, or cancelled: the inventory stays.
use Rattle.std.proofs.Common.{◌≡◌, ◌≢◌, ℕ, zero, suc, ◌*◌, ◌<◌, ◌⊎◌, true, List, [], ◌∷◌, length, get_or, slice_get, Option, Some, None, option_map, Ok, ap, refl, sym, subst, ◌∙◌, ⊎_elim, arith}
use Rattle.std.proofs.lemmas.Option.{same_Some}
use Rattle.law_driver_ring.proofs.Common.{piece_on}
use Rattle.law_common.proofs.Lists.{pushed_there}
use Rattle.usb_base.specs.declared.endpoints.EpDesc.{EpDesc}
use Rattle.word_mem.specs.Memory.{Mem}
use Rattle.mem_runs.specs.declared.slots.Slot.{Slot}
use Rattle.mem_runs.specs.Book.{Holding, holding}
use Rattle.drv_table.specs.declared.content.Endpoint.{Endpoint}
use Rattle.drv_table.specs.declared.content.Transfer.{Transfer}
use Rattle.drv_table.specs.DriverContent.{DriverContent}
use Rattle.drv_table.specs.Offers.{new_endpoint, accepted_open}
use Rattle.drv_table.specs.Accepting.{take_runs}
use Rattle.drv_table.specs.CancelOffers.{accepted_cancel, first_end}
use Rattle.claims_driver.specs.Owners.{EndpointRuns, TransferRuns, NoteRuns, Views, runs_of_endpoint, runs_of_transfer, transfer_in, views_of, IsQueueIn}
use Rattle.claims_driver.specs.Leaving.{HasOwners}
use Rattle.law_driver.proofs.lemmas.run_owners.Taking.{AreTaken}
use Rattle.law_driver.proofs.lemmas.run_owners.Accepted.{push_case}
use Rattle.law_driver.proofs.lemmas.run_owners.Stays.{endpoint_stays}
use Rattle.law_driver_ring.specs.Inventory.{Sort, Inventory, IsLent, IsBufferTold, AreTold, IsTransferIn, IsDriverOwned, the_list, the_head, a_queue, a_dummy, a_piece, a_buffer, IsDriven}
use Rattle.law_driver_ring.proofs.Viewing.{SameViews}
use Rattle.law_driver_ring.proofs.Taken.{TakesOn, takes_on, new_not_lent}

-- ---- the same notes, with no more that is lent

pub buffer_on : (slot now : ℕ → Slot) (sorts : ℕ → Option Sort) (cs : List ℕ) → TakesOn slot now → IsBufferTold slot sorts cs → IsBufferTold now sorts cs
buffer_on slot now sorts [] takes told = tt
buffer_on slot now sorts (c ∷ cs) takes told = λ lent. told (subst IsLent (takes.before c lent) lent)

pub told_on : (v w : Views) (sorts : ℕ → Option Sort) (b n : ℕ) → TakesOn v.slot w.slot → ((c : ℕ) → w.note c ≡ v.note c) → AreTold v sorts b n → AreTold w sorts b n
told_on v w sorts b zero takes notes told = tt
told_on v w sorts b (suc n) takes notes told = (
  record {
    element = λ lent. told.0.element (subst IsLent (takes.before b lent) lent);
    buffer = subst (λ (x : NoteRuns). IsBufferTold w.slot sorts x.buffer) (sym (notes b)) (buffer_on v.slot w.slot sorts (v.note b).buffer takes told.0.buffer);
  },
  subst (λ (x : NoteRuns). AreTold w sorts x.next n) (sym (notes b)) (told_on v w sorts (v.note b).next n takes notes told.1),
)

-- ---- one endpoint more

-- the views of a content with one endpoint more, of which nothing is lent
pub record OneMore (v w : Views) (y : EndpointRuns) (count : ℕ) : Type 0 where
  pub takes : TakesOn v.slot w.slot
  pub old : (e : ℕ) (x : EndpointRuns) → v.endpoint e ≡ Some x → w.endpoint e ≡ Some x
  pub endpoints : (e : ℕ) (x : EndpointRuns) → w.endpoint e ≡ Some x → (v.endpoint e ≡ Some x) ⊎ ((e ≡ count) × (x ≡ y))
  pub queue : IsLent (w.slot y.queue) → ⊥
  pub dummy : IsLent (w.slot y.dummy) → ⊥
  pub transfers : (t : ℕ) → w.transfer t ≡ v.transfer t
  pub notes : (b : ℕ) → w.note b ≡ v.note b
  pub within : (t : ℕ) (z : TransferRuns) → v.transfer t ≡ Some z → z.endpoint ≢ count

lent_on : (v w : Views) (c : ℕ) → TakesOn v.slot w.slot → IsLent (v.slot c) → IsLent (w.slot c)
lent_on v w c takes lent = subst IsLent (sym (takes.after c lent)) lent

lent_back : (v w : Views) (c : ℕ) → TakesOn v.slot w.slot → IsLent (w.slot c) → IsLent (v.slot c)
lent_back v w c takes lent = subst IsLent (takes.before c lent) lent

queue_on : (v w : Views) (y : EndpointRuns) (count e : ℕ) (x : EndpointRuns) → OneMore v w y count → IsQueueIn v e x → IsQueueIn w e x
queue_on v w y count e x more is = record { here = more.old e x is.here; queued = is.queued }

transfer_on : (v w : Views) (y : EndpointRuns) (count t : ℕ) (z : TransferRuns) (x : EndpointRuns) → OneMore v w y count → IsTransferIn v t z x → IsTransferIn w t z x
transfer_on v w y count t z x more is = record { here = more.transfers t ∙ is.here; held = is.held; qtds = is.qtds; queue = queue_on v w y count z.endpoint x more is.queue }

transfer_back : (v w : Views) (y : EndpointRuns) (count t : ℕ) (z : TransferRuns) (x : EndpointRuns) → OneMore v w y count → IsTransferIn w t z x → IsTransferIn v t z x
transfer_back v w y count t z x more is =
    let there = sym (more.transfers t) ∙ is.here in
    record {
      here = there;
      held = is.held;
      qtds = is.qtds;
      queue = record {
        here = ⊎_elim (λ (old : v.endpoint z.endpoint ≡ Some x). old) (λ (new : (z.endpoint ≡ count) × (x ≡ y)). absurd (more.within t z there new.0)) (more.endpoints z.endpoint x is.queue.here);
        queued = is.queue.queued;
      };
    }

owned_on : (v w : Views) (y : EndpointRuns) (count n a : ℕ) (k : Sort) → OneMore v w y count → IsDriverOwned v n a k → IsDriverOwned w n a k
owned_on v w y count _ _ _ more the_list = the_list
owned_on v w y count _ _ _ more the_head = the_head
owned_on v w y count _ _ _ more (a_queue e x is lent) = a_queue e x (queue_on v w y count e x more is) (lent_on v w x.queue more.takes lent)
owned_on v w y count _ _ _ more (a_dummy e x is lent) = a_dummy e x (queue_on v w y count e x more is) (lent_on v w x.dummy more.takes lent)
owned_on v w y count _ _ _ more (a_piece t b z x is piece lent) =
    a_piece t b z x (transfer_on v w y count t z x more is) (piece_on v.note w.note z.first z.qtds b more.notes piece) (lent_on v w b more.takes lent)
owned_on v w y count _ _ _ more (a_buffer t b c cs z x is piece first lent) =
    a_buffer t b c cs z x (transfer_on v w y count t z x more is) (piece_on v.note w.note z.first z.qtds b more.notes piece) (ap (λ (u : NoteRuns). u.buffer) (more.notes b) ∙ first) (lent_on v w c more.takes lent)

pub driven_more : (v w : Views) (y : EndpointRuns) (count : ℕ) (sorts : Inventory) → OneMore v w y count → IsDriven v sorts → IsDriven w sorts
driven_more v w y count sorts more k = record {
  list = k.list;
  head = k.head;
  queue = λ e x is lent.
      ⊎_elim (λ (old : v.endpoint e ≡ Some x). k.queue e x (record { here = old; queued = is.queued }) (lent_back v w x.queue more.takes lent))
      (λ (new : (e ≡ count) × (x ≡ y)). absurd (more.queue (subst (λ (z : EndpointRuns). IsLent (w.slot z.queue)) new.1 lent))) (more.endpoints e x is.here);
  dummy = λ e x is lent.
      ⊎_elim (λ (old : v.endpoint e ≡ Some x). k.dummy e x (record { here = old; queued = is.queued }) (lent_back v w x.dummy more.takes lent))
      (λ (new : (e ≡ count) × (x ≡ y)). absurd (more.dummy (subst (λ (z : EndpointRuns). IsLent (w.slot z.dummy)) new.1 lent))) (more.endpoints e x is.here);
  pieces = λ t z x is. told_on v w (sorts (32 * x.queue)) z.first z.qtds more.takes more.notes (k.pieces t z x (transfer_back v w y count t z x more is));
  only = λ n a s there. owned_on v w y count n a s more (k.only n a s there);
}

-- ---- an open

-- the transfer of a view
transfer_there : (ts : List Transfer) (t : ℕ) (z : TransferRuns) (n : ℕ) → ((i : ℕ) (u : Transfer) → slice_get ts i ≡ Some u → u.endpoint < n) → transfer_in ts t ≡ Some z → z.endpoint < n
transfer_there ts t z n low there = by_item (slice_get ts t) refl there
  where
    by_item : (o : Option Transfer) → slice_get ts t ≡ o → option_map runs_of_transfer o ≡ Some z → z.endpoint < n
    by_item None is none = absurd (cc)
    by_item (Some u) is some = subst (λ (r : TransferRuns). r.endpoint < n) (same_Some (runs_of_transfer u) z some) (low t u is)

pub open_one_more : (d : DriverContent) (m : Mem) (x : EpDesc) (g : Holding) (bs : List ℕ) → HasOwners d → take_runs (holding d.book m) (2 ∷ 1 ∷ []) ≡ Ok g → AreTaken (holding d.book m) g (2 ∷ 1 ∷ []) bs
    → OneMore (views_of d) (views_of (accepted_open d x g (get_or bs 0 0) (get_or bs 1 0)).driver) (runs_of_endpoint (new_endpoint x (get_or bs 0 0) (get_or bs 1 0))) (length d.endpoints)
open_one_more d m x g bs has runs taken =
    let two : 1 < length bs = omega (arith, taken.long) in
    let y = new_endpoint x (get_or bs 0 0) (get_or bs 1 0) in
    record {
      takes = takes_on (holding d.book m) g (2 ∷ 1 ∷ []) bs runs taken;
      old = λ e z there. pushed_there runs_of_endpoint d.endpoints y e z there;
      endpoints = λ e z there. push_case runs_of_endpoint d.endpoints y e z there;
      queue = λ lent. new_not_lent 0 runs taken (omega (arith, two)) lent;
      dummy = λ lent. new_not_lent 1 runs taken two lent;
      transfers = λ t. refl;
      notes = λ b. refl;
      within = λ t z there same. let low = transfer_there d.transfers t z (length d.endpoints) has.orderly.within there in omega (arith, low, same);
    }

-- ---- a cancel

pub cancel_views : (d : DriverContent) (e : ℕ) (x : Endpoint) → slice_get d.endpoints e ≡ Some x → SameViews (views_of d) (views_of (accepted_cancel d e x))
cancel_views d e x here = record {
  slot = λ c. refl;
  endpoint = endpoint_stays d e x (record x { cancelled = true; ended = first_end x.ended }) here refl;
  transfer = λ t. refl;
  note = λ b. refl;
}
