-- What the driver's events store in queue heads.
use Rattle.std.proofs.Common.{◌≡◌, ◌≢◌, ℕ, zero, suc, ◌+◌, ◌*◌, ◌/◌, ◌<◌, ◌≤◌, false, List, [], ◌∷◌, take, drop, slice_get, slice_index, Option, Some, None, option_map, ap, sym, subst, ◌∙◌, ⊎_elim, inl, inr, refl, arith}
use Rattle.std.specs.Prelude.{◌⊎◌}
use Rattle.std.specs.List.{AllByRecursion}
use Rattle.std.proofs.lemmas.Bool.{cases_eq}
use Rattle.std.proofs.lemmas.Option.{same_Some}
use Rattle.law_driver.proofs.Common.{maybe, get_drop, all_got}
use Rattle.word_mem.specs.Memory.{Mem, IsShaped, word_at}
use Rattle.word_mem.proofs.Holders.{has_block_from}
use Rattle.mem_runs.specs.Book.{Book, Holding, holding, Stands, IsAt, slot_of, can_store, store}
use Rattle.mem_runs.specs.declared.slots.Slot.{Slot}
use Rattle.mem_runs.specs.declared.slots.Slot.TheVariants.{Empty, Keeps, Lends}
use Rattle.drv_table.specs.declared.content.Endpoint.{Endpoint}
use Rattle.drv_table.specs.declared.content.Transfer.{Transfer}
use Rattle.drv_table.specs.declared.content.Mend.{Mend}
use Rattle.drv_table.specs.declared.content.Command.{Command}
use Rattle.drv_table.specs.declared.content.Command.TheVariants as unfinished
use Rattle.drv_table.specs.declared.rows.DriverRow.{DriverRow}
use Rattle.drv_table.specs.declared.rows.DriverRow.TheVariants as rows
use Rattle.drv_members.specs.Members.{Members}
use Rattle.drv_periodic.specs.declared.work.Store.{Store}
use Rattle.drv_periodic.specs.Periodic.{Periodic, next_store}
use Rattle.drv_periodic_table.specs.declared.content.DescriptorNote.{DescriptorNote}
use Rattle.drv_periodic_table.specs.declared.content.Removed.{Removed}
use Rattle.drv_periodic_table.specs.declared.content.Removed.TheVariants as removed
use Rattle.drv_periodic_table.specs.Periodic.{descriptor_member}
use Rattle.drv_periodic_table.specs.Linking.{new_link}
use Rattle.drv_table.specs.DriverContent.{DriverContent}
use Rattle.drv_table.specs.Words.{head_block}
use Rattle.drv_table.specs.Accepting.{oldest_of}
use Rattle.drv_table.specs.Parts.{Parts}
use Rattle.drv_table.specs.Commands.{events_of}
use Rattle.drv_table.specs.Rows.{driver_row, after_driver_row}
use Rattle.drv_table.specs.Releases.{after_transfer, after_endpoint, freed_by, free_qtds, free_endpoint}
use Rattle.drv_table.specs.Removals.{stored_link, descriptor_leaving, after_unlink, after_descriptor, after_placed, after_removed, free_descriptor, free_placed}
use Rattle.drv_table.specs.FrameChoice.{linked_descriptors, linked_by}
use Rattle.claims_driver.specs.Owners.{Owner, FrameList, Head, QueueHead, Element, Described, HasBlocks, HasRun, SlotHas, IsPlaced, runs_of_transfer, descriptor_in}
use Rattle.law_driver.specs.run_owners.Due.{IsDue}
use Rattle.claims_driver.specs.Leaving.{HasOwners}
use Rattle.law_driver.proofs.lemmas.run_owners.Reasons.{each_event_is_due}
use Rattle.law_driver.proofs.lemmas.run_owners.Runs.{placed_run}
use Rattle.law_driver.proofs.lemmas.run_owners.Laws.{events_keep_owners}
use Rattle.claims_driver.specs.Ring.{link_in}
use Rattle.law_driver.specs.ring_members.Words.{IsDescribing, IsMending, IsRing}
use Rattle.law_driver.specs.in_place.InPlace.{IsSound}
use Rattle.law_driver.proofs.lemmas.ring_members.Aside.{AreApart as ListApart, IsListApart, list_apart}
use Rattle.law_driver.proofs.lemmas.ring_members.Lists.{IsApartStore, store_is_apart}
use Rattle.law_driver.proofs.lemmas.queue_head_words.Events.{past_list}
use Rattle.law_driver.proofs.lemmas.ring_members.Links.{LeadsTo, oldest_is}
use Rattle.law_driver.proofs.lemmas.ring_members.Stores.{slots_apart}
use Rattle.law_driver.proofs.lemmas.ring_members.Freed.{LeavesRest, lent_words, rest_qtds, rest_endpoint, rest_descriptor, rest_placed}
use Rattle.law_driver.proofs.lemmas.ring_members.Placed.{has_first, has_queue, queue_placed, queue_run, head_run_there, in_ring_alive}
use Rattle.law_driver.proofs.lemmas.ring_members.Events.{first_mend, open_store, unlink_store, stands_as, block_of, is_element, not_element, chain_never, iso_never, unchain_never, begun_members, dropped_get}
use Rattle.law_driver.specs.queue_head_words.Overlay.{HasQueueHead, of_ring, of_endpoint, stored_address, IsMendOf, StoresAt, LeavesWord}

-- ---- where a queue head lies

pub record QueueRun (d : DriverContent) (has : HasOwners d) (b : ℕ) : Type 0 where
  pub owner : Owner
  pub there : IsPlaced (slot_of d.book.slots) has.owner b owner
  pub off : is_element owner ≡ false
  pub other : owner ≢ FrameList
  pub two : HasBlocks 2 (slot_of d.book.slots b)

pub run_at : (d : DriverContent) (has : HasOwners d) (b : ℕ) → HasQueueHead d b → QueueRun d has b
unfolding is_element
run_at d has b (of_ring is) =
    let p = subst (λ k. IsPlaced (slot_of d.book.slots) has.owner k Head) (sym is) has.owned.each.head in
    record { owner = Head; there = p; off = refl; other = λ same. absurd (cc); two = p.run }
run_at d has b (of_endpoint e x here queued alive is) =
    let p = subst (λ k. IsPlaced (slot_of d.book.slots) has.owner k (QueueHead e)) is (queue_placed d e x has here (has_queue x queued alive)) in
    record { owner = QueueHead e; there = p; off = refl; other = λ same. absurd (cc); two = p.run }

pub in_two : (s : Slot) (b k : ℕ) → IsAt b s → HasBlocks 2 s → b ≤ k → k < b + 2 → SlotHas s k
in_two Empty b k at two low high = two
in_two (Keeps r) b k at two low high = has_block_from r k (omega (arith, at.0, low)) (omega (arith, at.0, two, high))
in_two (Lends r) b k at two low high = has_block_from r k (omega (arith, at.0, low)) (omega (arith, at.0, two, high))

-- a run that begins in one of the two blocks of another is that run
same_run : (h : Holding) (b c : ℕ) → Stands h → HasBlocks 2 (slot_of h.book.slots b) → HasRun (slot_of h.book.slots c) → b ≤ c → c < b + 2 → c ≡ b
same_run h b c stands two run low high =
    ⊎_elim (λ (same : c ≡ b). same)
    (λ (differs : c ≢ b). absurd (slots_apart h stands b c c differs (in_two (slot_of h.book.slots b) b c (stands.placed b) two low high) (has_first h c stands run)))
    (cases_eq c b)

-- ---- the addresses of a command's stores

-- those of a qTD lie in its block
publish_within : (b : ℕ) (words : List ℕ) (made c at v : ℕ) → slice_get (events_of (unfinished.Publish b words)) made ≡ Some (rows.Store c at v) → (32 * b ≤ at) × (at < 32 * b + 32)
publish_within b words (suc zero) c at v e = let w : 32 * b + 4 * 0 ≡ at = cc in (omega (arith, w), omega (arith, w))
publish_within b words (suc (suc zero)) c at v e = let w : 32 * b + 4 * 1 ≡ at = cc in (omega (arith, w), omega (arith, w))
publish_within b words (suc (suc (suc zero))) c at v e = let w : 32 * b + 4 * 3 ≡ at = cc in (omega (arith, w), omega (arith, w))
publish_within b words (suc (suc (suc (suc zero)))) c at v e = let w : 32 * b + 4 * 4 ≡ at = cc in (omega (arith, w), omega (arith, w))
publish_within b words (suc (suc (suc (suc (suc zero))))) c at v e = let w : 32 * b + 4 * 5 ≡ at = cc in (omega (arith, w), omega (arith, w))
publish_within b words (suc (suc (suc (suc (suc (suc zero)))))) c at v e = let w : 32 * b + 4 * 6 ≡ at = cc in (omega (arith, w), omega (arith, w))
publish_within b words (suc (suc (suc (suc (suc (suc (suc zero))))))) c at v e = let w : 32 * b + 4 * 7 ≡ at = cc in (omega (arith, w), omega (arith, w))
publish_within b words (suc (suc (suc (suc (suc (suc (suc (suc zero)))))))) c at v e = let w : 32 * b + 4 * 2 ≡ at = cc in (omega (arith, w), omega (arith, w))
publish_within b words _ c at v e = absurd (cc)

-- the queue head, or the head, that leads to one that leaves has a run
oldest_run : (d : DriverContent) (n : ℕ) → HasOwners d → HasRun (slot_of d.book.slots (oldest_of (drop n d.endpoints)))
oldest_run d n has =
    ⊎_elim (λ (head : oldest_of (drop n d.endpoints) ≡ head_block). subst (λ k. HasRun (slot_of d.book.slots k)) (sym head) (head_run_there d has))
    (λ (l : LeadsTo (drop n d.endpoints) (oldest_of (drop n d.endpoints))).
    let at : slice_get d.endpoints (n + l.number) ≡ Some l.endpoint = sym (get_drop d.endpoints n l.number) ∙ l.here in
    subst (λ k. HasRun (slot_of d.book.slots k)) l.queue (queue_run d (n + l.number) l.endpoint has at (in_ring_alive d (n + l.number) l.endpoint has.orderly at l.linked)))
    (oldest_is (drop n d.endpoints))

-- a command's store within a queue head is one to its link
command_stores : (p : Parts) (c : Command) (b q at v : ℕ) → p.driver.command ≡ Some c → slice_get (events_of c) p.driver.made ≡ Some (rows.Store q at v) → Stands (holding p.driver.book p.memory) → HasOwners p.driver → IsRing (link_in p.memory) p.driver → HasQueueHead p.driver b → 32 * b ≤ at → at < 32 * b + 48 → at ≡ 32 * b
command_stores p (unfinished.Open f) b q at v is next stands has ring there low high =
    let d = p.driver in
    let s = open_store f d.made q at v next in
    let word = s.1.0.1 in
    let same = same_run (holding d.book p.memory) b head_block stands (run_at d has b there).two (head_run_there d has) (omega (arith, word, high)) (omega (arith, word, high)) in
    omega (arith, word, same)
command_stores p (unfinished.Publish f words) b q at v is next stands has ring there low high =
    let d = p.driver in
    let h = holding d.book p.memory in
    let u = stands_as (link_in p.memory) d (unfinished.Publish f words) is ring in
    let here = block_of d has (link_in p.memory) f u in
    let w = publish_within f words d.made q at v next in
    let r = run_at d has b there in
    let same = same_run h b f stands r.two (placed_run f (Element u.number) here) (omega (arith, w.0, w.1, low, high)) (omega (arith, w.0, w.1, low, high)) in
    absurd (not_element u.number r.owner r.off (sym r.there.owned ∙ ap has.owner (sym same) ∙ here.owned))
command_stores p (unfinished.Unlink e f link) b q at v is next stands has ring there low high =
    let d = p.driver in
    let s = unlink_store e f link d.made q at v next in
    let u = stands_as (link_in p.memory) d (unfinished.Unlink e f link) is ring in
    let run : HasRun (slot_of d.book.slots f) = subst (λ k. HasRun (slot_of d.book.slots k)) (sym u.from) (oldest_run d (suc e) has) in
    let word = s.1.0.1 in
    let same = same_run (holding d.book p.memory) b f stands (run_at d has b there).two run (omega (arith, word, low, high)) (omega (arith, word, low, high)) in
    omega (arith, word, same)
command_stores p unfinished.Chain b q at v is next stands has ring there low high = absurd (chain_never p.driver.made q at v next)
command_stores p (unfinished.Iso e t count) b q at v is next stands has ring there low high = absurd (iso_never e t count p.driver.made q at v next)
command_stores p (unfinished.Unchain e) b q at v is next stands has ring there low high = absurd (unchain_never e p.driver.made q at v next)

-- and so is one of the frame list: it goes to the list, or to the first word of a run
link_stores : (p : Parts) (b q at : ℕ) → IsApartStore p.driver q at → Stands (holding p.driver.book p.memory) → HasOwners p.driver → HasQueueHead p.driver b → 32 * b ≤ at → at < 32 * b + 48 → at ≡ 32 * b
link_stores p b q at apart stands has there low high =
    let d = p.driver in
    let h = holding d.book p.memory in
    let r = run_at d has b there in
    ⊎_elim
    (λ (w : (q ≡ 0) × (at < 4096)).
    let past = past_list h has.owner b r.owner stands has.owned.each.list r.there r.other in
    absurd (omega (arith, w.1, past, low)))
    (λ (w : HasRun (slot_of d.book.slots q) × (at ≡ 32 * q)).
    let word = w.1 in
    let same = same_run h b q stands r.two w.0 (omega (arith, word, low, high)) (omega (arith, word, low, high)) in
    omega (arith, word, same)) apart.there

-- ---- a store after a stalled request

mend_queue : (w : Mend) (b : ℕ) → IsMending w → 32 * b ≤ w.at → w.at < 32 * b + 48 → w.queue ≡ b
mend_queue w b mending low high =
    ⊎_elim (λ (one : w.at ≡ 32 * w.queue + 16). omega (arith, one, low, high))
    (λ (rest : (w.at ≡ 32 * w.queue + 20) ⊎ (w.at ≡ 32 * w.queue + 24)).
    ⊎_elim (λ (one : w.at ≡ 32 * w.queue + 20). omega (arith, one, low, high)) (λ (one : w.at ≡ 32 * w.queue + 24). omega (arith, one, low, high)) rest) mending

mends : (p : Parts) (w : Mend) (b : ℕ) → slice_get p.driver.mends 0 ≡ Some w → IsMending w → w.queue ≡ b → IsMendOf p (rows.Mend w) b w.at
mends p w b owed mending same = record {
  mend = w;
  is = refl;
  owed = owed;
  queue = same;
  address = refl;
  word = subst (λ q. (w.at ≡ 32 * q + 16) ⊎ ((w.at ≡ 32 * q + 20) ⊎ (w.at ≡ 32 * q + 24))) same mending;
}

row_stores : (row : DriverRow) (p : Parts) (b at : ℕ) → IsDue p row → Stands (holding p.driver.book p.memory) → HasOwners p.driver → IsListApart p.driver → IsRing (link_in p.memory) p.driver → HasQueueHead p.driver b → 32 * b ≤ at → at < 32 * b + 48 → stored_address row ≡ Some at → (at ≡ 32 * b) ⊎ IsMendOf p row b at
row_stores (rows.Store q to v) p b at (inl due) stands has apart ring there low high is =
    let same : to ≡ at = same_Some to at is in
    inl (command_stores p due.command b q at v due.unfinished (subst (λ a. slice_get (events_of due.command) p.driver.made ≡ Some (rows.Store q a v)) same due.next) stands has ring there low high)
row_stores (rows.Store q to v) p b at (inr due) stands has apart ring there low high is =
    let same : to ≡ at = same_Some to at is in
    let store = store_is_apart p.driver p.driver.periodic.list due.store has apart.list apart.members due.next in
    let one : due.store.block ≡ q = cc in
    let two : due.store.at ≡ to = cc in
    inl (link_stores p b q at (subst (IsApartStore p.driver q) (two ∙ same) (subst (λ k. IsApartStore p.driver k due.store.at) one store)) stands has there low high)
row_stores (rows.Mend w) p b at due stands has apart ring there low high is =
    let same : w.at ≡ at = same_Some w.at at is in
    let mending = first_mend p.driver.mends w due.1 ring.mends in
    inr (subst (λ a. IsMendOf p (rows.Mend w) b a) same (mends p w b due.1 mending (mend_queue w b mending (omega (arith, same, low)) (omega (arith, same, high)))))
row_stores _ p b at due stands has apart ring there low high is = absurd (cc)

pub stores_are_links_and_mends : (p : Parts) (b at : ℕ) → IsSound p.memory p.driver → HasQueueHead p.driver b → 32 * b ≤ at → at < 32 * b + 48 → stored_address (driver_row p) ≡ Some at → StoresAt p b at
stores_are_links_and_mends p b at sound there low high is =
    row_stores (driver_row p) p b at (each_event_is_due p) sound.stands sound.owners (list_apart p.driver p.memory sound.stands sound.shape sound.owners sound.listed) sound.ring there low high is

-- ---- what any event leaves

store_apart : (k : Book) (m : Mem) (q at v other : ℕ) → at / 4 ≢ other / 4 → word_at (store k m q at v) other ≡ word_at m other
store_apart k m q at v other differs = maybe m at v other (can_store (slot_of k.slots q) at) differs

-- the word i of the queue head in block b is as before, or a store after a stalled request writes it
abbrev pub IsLeft : DriverRow → Parts → ℕ → ℕ → Type 0
IsLeft row p b i = (word_at (after_driver_row row p).memory (32 * b + 4 * i) ≡ word_at p.memory (32 * b + 4 * i)) ⊎ IsMendOf p row b (32 * b + 4 * i)

mend_leaves : (p : Parts) (w : Mend) (b i : ℕ) → slice_get p.driver.mends 0 ≡ Some w → IsMending w → i < 12 → IsLeft (rows.Mend w) p b i
mend_leaves p w b i owed mending small =
    ⊎_elim
    (λ (same : w.at ≡ 32 * b + 4 * i).
    inr (subst (λ a. IsMendOf p (rows.Mend w) b a) same (mends p w b owed mending (mend_queue w b mending (omega (arith, same)) (omega (arith, same, small))))))
    (λ (differs : w.at ≢ 32 * b + 4 * i).
    inl (store_apart p.driver.book p.memory w.queue w.at w.value (32 * b + 4 * i)
    (λ word.
    differs
    (⊎_elim (λ (one : w.at ≡ 32 * w.queue + 16). omega (arith, one, word))
    (λ (rest : (w.at ≡ 32 * w.queue + 20) ⊎ (w.at ≡ 32 * w.queue + 24)).
    ⊎_elim (λ (one : w.at ≡ 32 * w.queue + 20). omega (arith, one, word)) (λ (one : w.at ≡ 32 * w.queue + 24). omega (arith, one, word)) rest) mending))))
    (cases_eq w.at (32 * b + 4 * i))

-- the words of a queue head that has its run once others were given back
rest_left : (h : Holding) (d : DriverContent) (m : Mem) (b i : ℕ) → LeavesRest h (holding d.book m) → (has : HasOwners d) → HasQueueHead d b → i < 12 → word_at m (32 * b + 4 * i) ≡ word_at h.memory (32 * b + 4 * i)
rest_left h d m b i rest has there small =
    rest.words b (32 * b + 4 * i) (in_two (slot_of d.book.slots b) b ((32 * b + 4 * i) / 32) (rest.stands.placed b) (run_at d has b there).two (omega arith) (omega (arith, small)))

transfer_left : (p : Parts) (t b i : ℕ) (o : Option Transfer) → Stands (holding p.driver.book p.memory) → IsShaped p.memory → HasOwners (after_transfer p t o (freed_by p.driver (holding p.driver.book p.memory) o)).driver → HasQueueHead (after_transfer p t o (freed_by p.driver (holding p.driver.book p.memory) o)).driver b → i < 12 → word_at (after_transfer p t o (freed_by p.driver (holding p.driver.book p.memory) o)).memory (32 * b + 4 * i) ≡ word_at p.memory (32 * b + 4 * i)
transfer_left p t b i None stands shape has there small = refl
transfer_left p t b i (Some x) stands shape has there small =
    let h = holding p.driver.book p.memory in
    let g = free_qtds p.driver.notes h x.first x.qtds in
    rest_left h _ g.memory b i (rest_qtds p.driver.notes h x.first x.qtds stands shape) has there small

endpoint_left : (p : Parts) (e b i : ℕ) (o : Option Endpoint) → Stands (holding p.driver.book p.memory) → IsShaped p.memory → HasOwners (after_endpoint p e o).driver → HasQueueHead (after_endpoint p e o).driver b → i < 12 → word_at (after_endpoint p e o).memory (32 * b + 4 * i) ≡ word_at p.memory (32 * b + 4 * i)
endpoint_left p e b i None stands shape has there small = refl
endpoint_left p e b i (Some x) stands shape has there small =
    let h = holding p.driver.book p.memory in
    let g = free_endpoint p.driver e x h in
    rest_left h _ g.memory b i (rest_endpoint p.driver e x h stands shape) has there small

descriptor_left : (p : Parts) (t b i : ℕ) (o : Option Transfer) → Stands (holding p.driver.book p.memory) → IsShaped p.memory → HasOwners (after_descriptor p t o).driver → HasQueueHead (after_descriptor p t o).driver b → i < 12 → word_at (after_descriptor p t o).memory (32 * b + 4 * i) ≡ word_at p.memory (32 * b + 4 * i)
descriptor_left p t b i None stands shape has there small = refl
descriptor_left p t b i (Some x) stands shape has there small =
    let h = holding p.driver.book p.memory in
    rest_left h _ (free_descriptor p.driver.periodic.notes h x.first).memory b i (rest_descriptor p.driver.periodic.notes h x.first stands shape) has there small

placed_left : (p : Parts) (e b i : ℕ) (o : Option Endpoint) → Stands (holding p.driver.book p.memory) → IsShaped p.memory → HasOwners (after_placed p e o).driver → HasQueueHead (after_placed p e o).driver b → i < 12 → word_at (after_placed p e o).memory (32 * b + 4 * i) ≡ word_at p.memory (32 * b + 4 * i)
placed_left p e b i None stands shape has there small = refl
placed_left p e b i (Some x) stands shape has there small =
    let h = holding p.driver.book p.memory in
    rest_left h _ (free_placed p.driver e x h).memory b i (rest_placed p.driver e x h stands shape) has there small

removed_left : (p : Parts) (what : Removed) (b i : ℕ) → Stands (holding p.driver.book p.memory) → IsShaped p.memory → HasOwners (after_removed p what).driver → HasQueueHead (after_removed p what).driver b → i < 12 → word_at (after_removed p what).memory (32 * b + 4 * i) ≡ word_at p.memory (32 * b + 4 * i)
removed_left p (removed.Descriptor t) b i stands shape has there small = descriptor_left p t b i (slice_get p.driver.transfers t) stands shape has there small
removed_left p (removed.Endpoint e) b i stands shape has there small = placed_left p e b i (slice_get p.driver.endpoints e) stands shape has there small

-- a store of the frame list
linked_apart : (p : Parts) (q at v b i : ℕ) → IsApartStore p.driver q at → Stands (holding p.driver.book p.memory) → HasOwners p.driver → HasQueueHead p.driver b → 1 ≤ i → i < 12 → word_at (store p.driver.book p.memory q at v) (32 * b + 4 * i) ≡ word_at p.memory (32 * b + 4 * i)
linked_apart p q at v b i apart stands has there from small =
    store_apart p.driver.book p.memory q at v (32 * b + 4 * i)
    (λ word.
    let link = link_stores p b q at apart stands has there (omega (arith, word)) (omega (arith, word, small)) in
    omega (arith, word, link, from))

maybe_left : (p : Parts) (list : Periodic) (o : Option Store) (b i : ℕ) → next_store list ≡ o → list.list ≡ 0 → ListApart p.driver list.members.schedule → Stands (holding p.driver.book p.memory) → HasOwners p.driver → HasQueueHead p.driver b → 1 ≤ i → i < 12 → word_at (stored_link p.driver.book p.memory o) (32 * b + 4 * i) ≡ word_at p.memory (32 * b + 4 * i)
maybe_left p list None b i next begins apart stands has there from small = refl
maybe_left p list (Some s) b i next begins apart stands has there from small =
    linked_apart p s.block s.at s.value b i (store_is_apart p.driver list s has begins apart next) stands has there from small

-- a first word of a run is a queue head's link, or lies outside of it
first_words_only : (k : Book) (list : Periodic) (notes : List DescriptorNote) (ts : List Transfer) (m : Mem) (b i : ℕ) → AllByRecursion (λ (y : Transfer). b ≤ y.first → y.first < b + 2 → y.first ≡ b) ts → 1 ≤ i → i < 12 → word_at (linked_descriptors k list notes ts m) (32 * b + 4 * i) ≡ word_at m (32 * b + 4 * i)
unfolding linked_descriptors
first_words_only k list notes [] m b i starts from small = refl
first_words_only k list notes (y ∷ ts) m b i starts from small =
    let v = new_link list (descriptor_member notes y.first) in
    first_words_only k list notes ts (store k m y.first (32 * y.first) v) b i starts.1 from small
    ∙ store_apart k m y.first (32 * y.first) v (32 * b + 4 * i)
    (λ word. let same = starts.0 (omega (arith, word, from)) (omega (arith, word, small)) in omega (arith, word, same, from))

-- new descriptors begin runs of their own
starts : (p : Parts) (t n : ℕ) → Stands (holding p.driver.book p.memory) → (has : HasOwners p.driver) → IsDescribing (link_in p.memory) p.driver.endpoints p.driver.transfers t n → (b : ℕ) → HasQueueHead p.driver b → AllByRecursion (λ (y : Transfer). b ≤ y.first → y.first < b + 2 → y.first ≡ b) (take n (drop t p.driver.transfers))
starts p t n stands has describing b there =
    let d = p.driver in
    all_got (λ (y : Transfer). b ≤ y.first → y.first < b + 2 → y.first ≡ b) (take n (drop t d.transfers))
    (λ i y here low high.
    let new = describing.described i y here in
    let is = has.owned.each.described (t + i) (runs_of_transfer y) (ap (option_map runs_of_transfer) (dropped_get t n d.transfers i y here)) new.0 new.1 in
    same_run (holding d.book p.memory) b y.first stands (run_at d has b there).two (placed_run y.first (Described (descriptor_in d.periodic.notes y.first).split (t + i)) is.descriptor) low high)

-- the links of new descriptors go to their first words
linked_left : (p : Parts) (o : Option Command) (b i : ℕ) → p.driver.command ≡ o → Stands (holding p.driver.book p.memory) → (has : HasOwners p.driver) → IsRing (link_in p.memory) p.driver → HasQueueHead p.driver b → 1 ≤ i → i < 12 → word_at (linked_by p.driver p.memory o) (32 * b + 4 * i) ≡ word_at p.memory (32 * b + 4 * i)
linked_left p (Some (unfinished.Iso e t count)) b i is stands has ring there from small =
    first_words_only p.driver.book p.driver.periodic.list p.driver.periodic.notes (take count (drop t p.driver.transfers)) p.memory b i (starts p t count stands has (stands_as (link_in p.memory) p.driver (unfinished.Iso e t count) is ring) b there) from small
linked_left p _ b i is stands has ring there from small = refl

unlinked_left : (p : Parts) (t b i : ℕ) (o : Option Transfer) → Stands (holding p.driver.book p.memory) → HasOwners p.driver → IsListApart p.driver → HasQueueHead p.driver b → 1 ≤ i → i < 12 → word_at (after_unlink p t o).memory (32 * b + 4 * i) ≡ word_at p.memory (32 * b + 4 * i)
unlinked_left p t b i None stands has apart there from small = refl
unlinked_left p t b i (Some x) stands has apart there from small =
    let d = p.driver in
    let list = descriptor_leaving d x in
    let same = begun_members d.periodic.list (descriptor_member d.periodic.notes x.first) in
    maybe_left p list (next_store list) b i refl (same.0 ∙ apart.list) (subst (λ (k : Members). ListApart d k.schedule) (sym same.1) apart.members) stands has there from small

row_leaves : (row : DriverRow) (p : Parts) (b i : ℕ) → IsDue p row → Stands (holding p.driver.book p.memory) → IsShaped p.memory → HasOwners p.driver → HasOwners (after_driver_row row p).driver → IsListApart p.driver → IsRing (link_in p.memory) p.driver → HasQueueHead p.driver b → HasQueueHead (after_driver_row row p).driver b → 1 ≤ i → i < 12 → IsLeft row p b i
row_leaves rows.Lend p b i due stands shape has after apart ring there later from small =
    inl (ap (λ ws. slice_index ws ((32 * b + 4 * i) / 4)) (lent_words (holding p.driver.book p.memory)))
row_leaves (rows.Store q to v) p b i (inl due) stands shape has after apart ring there later from small =
    inl (store_apart p.driver.book p.memory q to v (32 * b + 4 * i)
    (λ word.
    let link = command_stores p due.command b q to v due.unfinished due.next stands has ring there (omega (arith, word)) (omega (arith, word, small)) in
    omega (arith, word, link, from)))
row_leaves (rows.Store q to v) p b i (inr due) stands shape has after apart ring there later from small =
    let one : due.store.block ≡ q = cc in
    let two : due.store.at ≡ to = cc in
    let store = store_is_apart p.driver p.driver.periodic.list due.store has apart.list apart.members due.next in
    inl (linked_apart p q to v b i (subst (IsApartStore p.driver q) two (subst (λ k. IsApartStore p.driver k due.store.at) one store)) stands has there from small)
row_leaves rows.LendDescriptors p b i due stands shape has after apart ring there later from small =
    let m = linked_by p.driver p.memory p.driver.command in
    inl (ap (λ ws. slice_index ws ((32 * b + 4 * i) / 4)) (lent_words (holding p.driver.book m)) ∙ linked_left p p.driver.command b i refl stands has ring there from small)
row_leaves (rows.Unlink t) p b i due stands shape has after apart ring there later from small = inl (unlinked_left p t b i (slice_get p.driver.transfers t) stands has apart there from small)
row_leaves (rows.ReleaseRemoved what) p b i due stands shape has after apart ring there later from small = inl (removed_left p what b i stands shape after later small)
row_leaves (rows.Mend w) p b i due stands shape has after apart ring there later from small = mend_leaves p w b i due.1 (first_mend p.driver.mends w due.1 ring.mends) small
row_leaves (rows.ReleaseTransfer t) p b i due stands shape has after apart ring there later from small =
    inl (transfer_left p t b i (slice_get p.driver.transfers t) stands shape after later small)
row_leaves (rows.ReleaseEndpoint e) p b i due stands shape has after apart ring there later from small =
    inl (endpoint_left p e b i (slice_get p.driver.endpoints e) stands shape after later small)
row_leaves _ p b i due stands shape has after apart ring there later from small = inl refl

pub events_leave_the_overlay : (p : Parts) (b i : ℕ) → IsSound p.memory p.driver → HasQueueHead p.driver b → HasQueueHead (after_driver_row (driver_row p) p).driver b → 1 ≤ i → i < 12 → LeavesWord p b i
events_leave_the_overlay p b i sound there later from small =
    row_leaves (driver_row p) p b i (each_event_is_due p) sound.stands sound.shape sound.owners (events_keep_owners p sound.owners) (list_apart p.driver p.memory sound.stands sound.shape sound.owners sound.listed) sound.ring there later from small
