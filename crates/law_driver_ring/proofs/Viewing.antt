-- What the driver has is told by views of its content; rows that change none of these leave the inventory.
use Rattle.std.proofs.Common.{◌≡◌, ℕ, zero, suc, ◌*◌, Bool, true, false, cond, nat_lt, ◌-◌, length, slice_get, List, [], ◌∷◌, Option, Some, None, ap, refl, sym, subst, ◌∙◌}
use Rattle.std.specs.Prelude.{is_none}
use Rattle.law_driver_ring.proofs.Common.{piece_on}
use Rattle.usb_base.specs.declared.endpoints.EpName.{EpName}
use Rattle.usb_base.specs.declared.endpoints.EndCause.{EndCause}
use Rattle.word_mem.specs.Memory.{Mem}
use Rattle.mem_runs.specs.Book.{Book, slot_of}
use Rattle.drv_table.specs.declared.content.Endpoint.{Endpoint}
use Rattle.drv_table.specs.declared.content.Transfer.{Transfer}
use Rattle.drv_table.specs.declared.content.Command.{Command}
use Rattle.drv_table.specs.declared.content.Command.TheVariants as unfinished
use Rattle.drv_table.specs.declared.rows.Found.{Found}
use Rattle.drv_table.specs.declared.rows.Found.TheVariants as founds
use Rattle.drv_table.specs.DriverContent.{DriverContent, waits_for}
use Rattle.drv_table.specs.Harvests.{is_stall, end_of, noted}
use Rattle.drv_periodic_table.specs.Linking.{begun_next}
use Rattle.drv_table.specs.Commands.{events_of, links, removes_members, list_after, leave_ring, leave_frames, no_command, finished, or_finished, linked_on, advanced_by, advance}
use Rattle.drv_table.specs.Harvesting.{served, told_with, behind_one, behind, after_end, harvested_as, after_harvest}
use Rattle.claims_driver.specs.Owners.{EndpointRuns, TransferRuns, NoteRuns, Views, views_of, IsQueueIn}
use Rattle.law_driver.proofs.lemmas.run_owners.Stays.{StaysPlaced, advanced, harvest_stays}
use Rattle.law_driver_ring.specs.Inventory.{Sort, Inventory, IsLent, IsBufferTold, AreTold, IsTransferIn, IsDriverOwned, the_list, the_head, a_queue, a_dummy, a_piece, a_buffer, IsDriven}

-- ---- the same views

pub record SameViews (v w : Views) : Type 0 where
  pub slot : (c : ℕ) → w.slot c ≡ v.slot c
  pub endpoint : (e : ℕ) → w.endpoint e ≡ v.endpoint e
  pub transfer : (t : ℕ) → w.transfer t ≡ v.transfer t
  pub note : (b : ℕ) → w.note b ≡ v.note b

lent_back : (v w : Views) (c : ℕ) → SameViews v w → IsLent (w.slot c) → IsLent (v.slot c)
lent_back v w c same lent = subst IsLent (same.slot c) lent

lent_on : (v w : Views) (c : ℕ) → SameViews v w → IsLent (v.slot c) → IsLent (w.slot c)
lent_on v w c same lent = subst IsLent (sym (same.slot c)) lent

queue_back : (v w : Views) (e : ℕ) (x : EndpointRuns) → SameViews v w → IsQueueIn w e x → IsQueueIn v e x
queue_back v w e x same k = record { here = sym (same.endpoint e) ∙ k.here; queued = k.queued }

queue_on : (v w : Views) (e : ℕ) (x : EndpointRuns) → SameViews v w → IsQueueIn v e x → IsQueueIn w e x
queue_on v w e x same k = record { here = same.endpoint e ∙ k.here; queued = k.queued }

transfer_back : (v w : Views) (t : ℕ) (y : TransferRuns) (x : EndpointRuns) → SameViews v w → IsTransferIn w t y x → IsTransferIn v t y x
transfer_back v w t y x same k = record { here = sym (same.transfer t) ∙ k.here; held = k.held; qtds = k.qtds; queue = queue_back v w y.endpoint x same k.queue }

transfer_on : (v w : Views) (t : ℕ) (y : TransferRuns) (x : EndpointRuns) → SameViews v w → IsTransferIn v t y x → IsTransferIn w t y x
transfer_on v w t y x same k = record { here = same.transfer t ∙ k.here; held = k.held; qtds = k.qtds; queue = queue_on v w y.endpoint x same k.queue }

buffer_on : (v w : Views) (sorts : ℕ → Option Sort) (cs : List ℕ) → SameViews v w → IsBufferTold v.slot sorts cs → IsBufferTold w.slot sorts cs
buffer_on v w sorts [] same told = tt
buffer_on v w sorts (c ∷ cs) same told = λ lent. told (lent_back v w c same lent)

told_on : (v w : Views) (sorts : ℕ → Option Sort) (b n : ℕ) → SameViews v w → AreTold v sorts b n → AreTold w sorts b n
told_on v w sorts b zero same told = tt
told_on v w sorts b (suc n) same told = (
  record {
    element = λ lent. told.0.element (lent_back v w b same lent);
    buffer = subst (λ (x : NoteRuns). IsBufferTold w.slot sorts x.buffer) (sym (same.note b)) (buffer_on v w sorts (v.note b).buffer same told.0.buffer);
  },
  subst (λ (x : NoteRuns). AreTold w sorts x.next n) (sym (same.note b)) (told_on v w sorts (v.note b).next n same told.1),
)

owned_on : (v w : Views) (n a : ℕ) (k : Sort) → SameViews v w → IsDriverOwned v n a k → IsDriverOwned w n a k
owned_on v w _ _ _ same the_list = the_list
owned_on v w _ _ _ same the_head = the_head
owned_on v w _ _ _ same (a_queue e x is lent) = a_queue e x (queue_on v w e x same is) (lent_on v w x.queue same lent)
owned_on v w _ _ _ same (a_dummy e x is lent) = a_dummy e x (queue_on v w e x same is) (lent_on v w x.dummy same lent)
owned_on v w _ _ _ same (a_piece t b y x is piece lent) =
    a_piece t b y x (transfer_on v w t y x same is) (piece_on v.note w.note y.first y.qtds b same.note piece) (lent_on v w b same lent)
owned_on v w _ _ _ same (a_buffer t b c cs y x is piece first lent) =
    a_buffer t b c cs y x (transfer_on v w t y x same is) (piece_on v.note w.note y.first y.qtds b same.note piece) (ap (λ (z : NoteRuns). z.buffer) (same.note b) ∙ first) (lent_on v w c same lent)

pub driven_views : (v w : Views) (sorts : Inventory) → SameViews v w → IsDriven v sorts → IsDriven w sorts
driven_views v w sorts same k = record {
  list = k.list;
  head = k.head;
  queue = λ e x is lent. k.queue e x (queue_back v w e x same is) (lent_back v w x.queue same lent);
  dummy = λ e x is lent. k.dummy e x (queue_back v w e x same is) (lent_back v w x.dummy same lent);
  pieces = λ t y x is. told_on v w (sorts (32 * x.queue)) y.first y.qtds same (k.pieces t y x (transfer_back v w t y x same is));
  only = λ n a s there. owned_on v w n a s same (k.only n a s there);
}

-- ---- the book stays

cond_book : (b : Bool) (d e f : DriverContent) → e.book ≡ d.book → f.book ≡ d.book → (cond b e f).book ≡ d.book
cond_book true d e f one two = one
cond_book false d e f one two = two

leave_ring_book : (d : DriverContent) (e : ℕ) (o : Option Endpoint) → (leave_ring d e o).book ≡ d.book
leave_ring_book d e None = refl
leave_ring_book d e (Some x) = cond_book x.linked d _ d refl refl

leave_frames_book : (d : DriverContent) (e : ℕ) (o : Option Endpoint) → (leave_frames d e o).book ≡ d.book
leave_frames_book d e None = refl
leave_frames_book d e (Some x) = cond_book x.chained d _ d refl refl

finished_book : (d : DriverContent) (c : Command) → (finished d c).book ≡ d.book
finished_book d (unfinished.Unlink e b link) = leave_ring_book (no_command d) e (slice_get d.endpoints e)
finished_book d (unfinished.Unchain e) = leave_frames_book (no_command d) e (slice_get d.endpoints e)
finished_book d _ = refl

or_finished_book : (d : DriverContent) (c : Command) → (or_finished d c).book ≡ d.book
or_finished_book d c = cond_book (is_none d.periodic.list.work) d (finished d c) d (finished_book d c) refl

linked_on_book : (d : DriverContent) (c : Command) → (linked_on d c).book ≡ d.book
linked_on_book d c = or_finished_book (record d { made = length (events_of c); periodic = begun_next (removes_members c) (record d.periodic { list = list_after d c }) }) c

advanced_book : (d : DriverContent) (o : Option Command) → (advanced_by d o).book ≡ d.book
advanced_book d None = refl
advanced_book d (Some c) =
    cond_book (nat_lt (suc d.made) (length (events_of c))) d _ _ refl (cond_book (links c) d (linked_on d c) (finished d c) (linked_on_book d c) (finished_book d c))

behind_one_book : (d : DriverContent) (e : ℕ) (name : EpName) (k : ℕ) (o : Option Transfer) → (behind_one d e name k o).book ≡ d.book
behind_one_book d e name k None = refl
behind_one_book d e name k (Some x) = cond_book (waits_for e x) d _ d refl refl

behind_book : (d : DriverContent) (e : ℕ) (name : EpName) (k n : ℕ) → (behind d e name k n).book ≡ d.book
unfolding behind
behind_book d e name k zero = refl
behind_book d e name k (suc n) = behind_book (behind_one d e name k (slice_get d.transfers k)) e name (suc k) n ∙ behind_one_book d e name k (slice_get d.transfers k)

after_end_book : (d : DriverContent) (e t : ℕ) (x : Endpoint) (stall : Bool) (o : Option EndCause) → (after_end d e t x stall o).book ≡ d.book
after_end_book d e t x stall (Some cause) = refl
after_end_book d e t x true None = behind_book _ e x.desc.name (suc t) (length d.transfers - suc t)
after_end_book d e t x false None = refl

harvested_book : (d : DriverContent) (m : Mem) (e t : ℕ) (x : Endpoint) (y : Transfer) (found : Found) → (harvested_as d m e t x y found).book ≡ d.book
harvested_book d m e t x y (founds.Ended n what) =
    after_end_book (told_with d m t y what x.desc.name (noted d.notes y.place n)) e t x (is_stall what) (end_of x.desc.kind what)
harvested_book d m e t x y _ = refl

harvest_book : (d : DriverContent) (m : Mem) (e t : ℕ) (found : Found) (o : Option Endpoint) (q : Option Transfer) → (after_harvest d m e t found o q).book ≡ d.book
harvest_book d m e t found None q = refl
harvest_book d m e t found (Some x) None = refl
harvest_book d m e t found (Some x) (Some y) = cond_book (waits_for e y) d (served (harvested_as d m e t x y found) e) d (harvested_book d m e t x y found) refl

-- ---- so views stay

pub views_stay : (d e : DriverContent) → e.book ≡ d.book → StaysPlaced d e → SameViews (views_of d) (views_of e)
views_stay d e book stays = record {
  slot = λ c. ap (λ (k : Book). slot_of k.slots c) book;
  endpoint = stays.same.endpoints;
  transfer = stays.same.transfers;
  note = stays.same.notes;
}

pub advance_views : (d : DriverContent) → SameViews (views_of d) (views_of (advance d))
advance_views d = views_stay d (advance d) (advanced_book d d.command) (advanced d)

pub harvest_views : (d : DriverContent) (m : Mem) (e t : ℕ) (found : Found) → SameViews (views_of d) (views_of (after_harvest d m e t found (slice_get d.endpoints e) (slice_get d.transfers t)))
harvest_views d m e t found =
    views_stay d (after_harvest d m e t found (slice_get d.endpoints e) (slice_get d.transfers t)) (harvest_book d m e t found (slice_get d.endpoints e) (slice_get d.transfers t))
    (harvest_stays d m e t found (slice_get d.endpoints e) (slice_get d.transfers t) refl refl)

pub same_views : (v : Views) → SameViews v v
same_views v = record { slot = λ c. refl; endpoint = λ e. refl; transfer = λ t. refl; note = λ b. refl }
