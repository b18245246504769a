-- The links of the queue heads that the walk of the ring may reach stay with each event of the driver, but for the two stores by which one is linked or unlinked.
use Rattle.std.proofs.Common.{◌≡◌, ◌≢◌, ℕ, ◌+◌, ◌*◌, ◌/◌, Bool, true, false, cond, List, [], ◌∷◌, ◌++◌, take, drop, slice_get, slice_index, Option, Some, None, option_map, ap, sym, subst, ◌∙◌, ⊎_elim, inl, inr, refl, arith}
use Rattle.std.specs.Prelude.{◌⊎◌}
use Rattle.std.specs.List.{AllByRecursion}
use Rattle.std.proofs.lemmas.Bool.{false≢true}
use Rattle.std.proofs.lemmas.List.{get_or-set_other}
use Rattle.law_driver.proofs.Common.{ring_queue, all_got, among_later}
use Rattle.word_mem.specs.Memory.{Mem, IsShaped, with_word}
use Rattle.mem_runs.specs.Book.{Book, Holding, holding, Stands, slot_of, can_store, store, lend_taken}
use Rattle.drv_table.specs.declared.content.Endpoint.{Endpoint}
use Rattle.drv_table.specs.declared.content.Transfer.{Transfer}
use Rattle.drv_table.specs.declared.content.Mend.{Mend}
use Rattle.drv_table.specs.declared.content.Command.{Command}
use Rattle.drv_table.specs.declared.content.Command.TheVariants as unfinished
use Rattle.drv_table.specs.declared.rows.DriverRow.{DriverRow}
use Rattle.drv_table.specs.declared.rows.DriverRow.TheVariants as rows
use Rattle.drv_members.specs.Members.{Members}
use Rattle.drv_periodic.specs.declared.work.Store.{Store}
use Rattle.drv_periodic.specs.Periodic.{Periodic, next_store}
use Rattle.drv_periodic_table.specs.declared.content.DescriptorNote.{DescriptorNote}
use Rattle.drv_periodic_table.specs.declared.content.Removed.{Removed}
use Rattle.drv_periodic_table.specs.declared.content.Removed.TheVariants as removed
use Rattle.drv_periodic_table.specs.Periodic.{is_periodic, descriptor_member}
use Rattle.drv_periodic_table.specs.Linking.{new_link}
use Rattle.drv_table.specs.DriverContent.{DriverContent}
use Rattle.drv_table.specs.Words.{head_block}
use Rattle.drv_table.specs.Parts.{Parts}
use Rattle.drv_table.specs.Commands.{events_of}
use Rattle.drv_table.specs.FrameChoice.{linked_descriptors, linked_by}
use Rattle.drv_table.specs.Rows.{after_driver_row}
use Rattle.drv_table.specs.Releases.{after_transfer, after_endpoint, freed_by, free_qtds, free_endpoint}
use Rattle.drv_table.specs.Removals.{stored_link, descriptor_leaving, after_unlink, after_descriptor, after_placed, after_removed, free_descriptor, free_placed}
use Rattle.claims_driver.specs.Owners.{Owner, Head, QueueHead, Element, Described, HasRun, SlotHas, runs_of_transfer}
use Rattle.claims_driver.specs.Leaving.{IsOrderly, HasOwners}
use Rattle.law_driver.specs.run_owners.Due.{IsDue, IsLinkOf}
use Rattle.law_driver.proofs.lemmas.run_owners.Runs.{placed_run}
use Rattle.law_driver.proofs.lemmas.run_owners.Orders.{times_both}
use Rattle.claims_driver.specs.Ring.{link_in, IsQueueOf, IsAmong}
use Rattle.law_driver.specs.ring_members.Words.{IsPublishing, IsDescribing, IsMending, IsRing}
use Rattle.law_driver.specs.in_place.InPlace.{IsSound}
use Rattle.law_driver.proofs.lemmas.ring_members.Aside.{IsOffRing, AreApart as ListApart, IsListApart, list_apart}
use Rattle.law_driver.proofs.lemmas.ring_members.Lists.{store_is_apart}
use Rattle.law_driver.proofs.lemmas.ring_members.Stores.{AreApart, slots_apart, store_elsewhere}
use Rattle.law_driver.proofs.lemmas.ring_members.Freed.{LeavesRest, lent_words, rest_qtds, rest_endpoint, rest_descriptor, rest_placed}
use Rattle.law_driver.proofs.lemmas.ring_members.Placed.{has_word, has_queue, left_ring, linked_alive, queue_placed, queue_run, head_run_there}
use Rattle.law_driver.proofs.lemmas.ring_members.Events.{KeepsFirsts, KeepsRing, stored_apart, stands_as, dropped_get, publish_store, block_of, first_mend, begun_members}
use Rattle.claims_driver.specs.Walk.{IsReached, at_head, at_member, at_waiting, at_rung, IsBellIn}
use Rattle.law_driver_ring.proofs.lemmas.walk_members.Leading.{among_front}
use Rattle.law_microframes.proofs.lemmas.time.ReachedBefore.{row_back}

-- ---- whom the walk may reach is a queue head that wasn't given back

pub record IsAlive (d : DriverContent) (b : ℕ) : Type 0 where
  pub number : ℕ
  pub endpoint : Endpoint
  pub here : slice_get d.endpoints number ≡ Some endpoint
  pub ring : is_periodic endpoint.desc.kind ≡ false
  pub alive : endpoint.gone ≡ false
  pub queue : endpoint.queue ≡ b

left_there : (d : DriverContent) (e b : ℕ) → IsOrderly d → IsQueueOf d.endpoints e b → IsAmong e (d.rung ++ d.waiting) → IsAlive d b
left_there d e b order at among =
    let l = left_ring d e at.endpoint (d.rung ++ d.waiting) order (omega (arith, times_both e d.rung d.waiting)) among at.here in
    record { number = e; endpoint = at.endpoint; here = at.here; ring = l.0; alive = l.1; queue = at.queue }

pub reached_alive : (d : DriverContent) (rings : Bool) (b : ℕ) → IsOrderly d → IsReached d rings b → (b ≡ head_block) ⊎ IsAlive d b
reached_alive d rings b order (at_head h) = inl h
reached_alive d rings b order (at_member e at on) =
    let l = linked_alive d e at.endpoint order at.here on in inr (record { number = e; endpoint = at.endpoint; here = at.here; ring = l.0; alive = l.1; queue = at.queue })
reached_alive d rings b order (at_waiting e at among) = inr (left_there d e b order at (among_later e d.rung d.waiting among))
reached_alive d rings b order (at_rung e at among on) = inr (left_there d e b order at (among_front e d.rung d.waiting among))

pub alive_run : (d : DriverContent) (b : ℕ) → HasOwners d → (a : IsAlive d b) → HasRun (slot_of d.book.slots a.endpoint.queue)
alive_run d b has a = queue_run d a.number a.endpoint has a.here (has_queue a.endpoint (ring_queue a.endpoint.desc.kind a.ring) a.alive)

pub reached_run : (d : DriverContent) (rings : Bool) (b : ℕ) → HasOwners d → IsReached d rings b → HasRun (slot_of d.book.slots b)
reached_run d rings b has reached =
    ⊎_elim (λ (h : b ≡ head_block). subst (λ (k : ℕ). HasRun (slot_of d.book.slots k)) (sym h) (head_run_there d has))
    (λ (a : IsAlive d b). subst (λ (k : ℕ). HasRun (slot_of d.book.slots k)) a.queue (alive_run d b has a)) (reached_alive d rings b has.orderly reached)

ring_word : (word now : ℕ → ℕ) (d : DriverContent) (rings : Bool) (b : ℕ) → IsOrderly d → KeepsRing d word now → IsReached d rings b → now b ≡ word b
ring_word word now d rings b order keeps reached =
    ⊎_elim (λ (h : b ≡ head_block). ap now h ∙ keeps.1 ∙ ap word (sym h))
    (λ (a : IsAlive d b). ap now (sym a.queue) ∙ keeps.0 a.number a.endpoint a.here a.ring a.alive ∙ ap word a.queue) (reached_alive d rings b order reached)

first_word : (word now : ℕ → ℕ) (d : DriverContent) (rings : Bool) (b : ℕ) → HasOwners d → KeepsFirsts d word now → IsReached d rings b → now b ≡ word b
first_word word now d rings b has keeps reached = keeps b (reached_run d rings b has reached)

abbrev pub WordsStay : Parts → Parts → Type 0
WordsStay p new = (b : ℕ) → IsReached new.driver new.registers.doorbell b → link_in new.memory b ≡ link_in p.memory b

-- ---- lending

lent_same : (h : Holding) (b : ℕ) → link_in (lend_taken h).memory b ≡ link_in h.memory b
lent_same h b = ap (λ (ws : List ℕ). slice_index ws (32 * b / 4)) (lent_words h)

-- ---- a word of a qTD is stored

no_head : (t : ℕ) → Head ≡ Element t → ⊥
no_head t same = cc

no_queue : (e t : ℕ) → QueueHead e ≡ Element t → ⊥
no_queue e t same = cc

element_apart : (d : DriverContent) (rings : Bool) (q b t : ℕ) → (has : HasOwners d) → has.owner b ≡ Element t → IsReached d rings q → q ≢ b
element_apart d rings q b t has owned reached same =
    ⊎_elim (λ (h : q ≡ head_block). no_head t (sym has.owned.each.head.owned ∙ ap has.owner (sym h ∙ same) ∙ owned))
    (λ (a : IsAlive d q).
    no_queue a.number t
    (sym (queue_placed d a.number a.endpoint has a.here (has_queue a.endpoint (ring_queue a.endpoint.desc.kind a.ring) a.alive)).owned ∙ ap has.owner (a.queue ∙ same) ∙ owned))
    (reached_alive d rings q has.orderly reached)

pub publish_words : (p : Parts) (rings : Bool) (f : ℕ) (words : List ℕ) (b at v q : ℕ) → p.driver.command ≡ Some (unfinished.Publish f words)
    → slice_get (events_of (unfinished.Publish f words)) p.driver.made ≡ Some (rows.Store b at v) → IsSound p.memory p.driver → IsReached p.driver rings q
    → link_in (store p.driver.book p.memory b at v) q ≡ link_in p.memory q
publish_words p rings f words b at v q is next sound reached =
    let d = p.driver in
    let h = holding d.book p.memory in
    let u : IsPublishing (link_in p.memory) d.endpoints d.transfers f = stands_as (link_in p.memory) d (unfinished.Publish f words) is sound.ring in
    let here = block_of d sound.owners (link_in p.memory) f u in
    store_elsewhere d.book p.memory b q at v (32 * q) (slots_apart h sound.stands)
    (element_apart d rings q b u.number sound.owners (ap sound.owners.owner (publish_store f words d.made b at v next) ∙ here.owned) reached)
    (has_word h q sound.stands (reached_run d rings q sound.owners reached))

-- ---- a store of the frame list

pub link_words : (p : Parts) (rings : Bool) (b at v q : ℕ) → IsLinkOf p (rows.Store b at v) → IsSound p.memory p.driver → IsReached p.driver rings q
    → link_in (store p.driver.book p.memory b at v) q ≡ link_in p.memory q
link_words p rings b at v q is sound reached =
    let d = p.driver in
    let apart : IsListApart d = list_apart d p.memory sound.stands sound.shape sound.owners sound.listed in
    let same : is.store.block ≡ b = cc in
    let off = subst (IsOffRing d) same (store_is_apart d d.periodic.list is.store sound.owners apart.list apart.members is.next).off in
    ring_word (link_in p.memory) (link_in (store d.book p.memory b at v)) d rings q sound.owners.orderly (stored_apart p b at v sound.stands sound.owners off) reached

-- ---- what is owed to a stalled endpoint

mend_word : (k : Book) (m : Mem) (w : Mend) (c : ℕ) → IsMending w → link_in (store k m w.queue w.at w.value) c ≡ link_in m c
mend_word k m w c mending = at (can_store (slot_of k.slots w.queue) w.at)
  where
    apart : 32 * c / 4 ≢ w.at / 4
    apart same =
        ⊎_elim (λ (one : w.at ≡ 32 * w.queue + 16). omega (arith, one, same))
        (λ (rest : (w.at ≡ 32 * w.queue + 20) ⊎ (w.at ≡ 32 * w.queue + 24)).
        ⊎_elim (λ (one : w.at ≡ 32 * w.queue + 20). omega (arith, one, same)) (λ (one : w.at ≡ 32 * w.queue + 24). omega (arith, one, same)) rest) mending

    at : (b : Bool) → link_in (cond b (with_word m w.at w.value) m) c ≡ link_in m c
    at true = get_or-set_other m.words (w.at / 4) (32 * c / 4) w.value 0 apart
    at false = refl

-- ---- new descriptors are lent, with their links

described_elsewhere : (k : Book) (list : Periodic) (notes : List DescriptorNote) (ts : List Transfer) (m : Mem) (c : ℕ) → AreApart k.slots → SlotHas (slot_of k.slots c) (32 * c / 32)
    → AllByRecursion (λ (y : Transfer). c ≢ y.first) ts → link_in (linked_descriptors k list notes ts m) c ≡ link_in m c
unfolding linked_descriptors
described_elsewhere k list notes [] m c apart here differ = refl
described_elsewhere k list notes (y ∷ ts) m c apart here differ =
    let v = new_link list (descriptor_member notes y.first) in
    described_elsewhere k list notes ts (store k m y.first (32 * y.first) v) c apart here differ.1 ∙ store_elsewhere k m y.first c (32 * y.first) v (32 * c) apart differ.0 here

head_described : (split : Bool) (t : ℕ) → Head ≡ Described split t → ⊥
head_described split t same = cc

queue_described : (e : ℕ) (split : Bool) (t : ℕ) → QueueHead e ≡ Described split t → ⊥
queue_described e split t same = cc

off_described : (d : DriverContent) (word : ℕ → ℕ) (t n c : ℕ) (o : Owner) → (has : HasOwners d) → IsDescribing word d.endpoints d.transfers t n → has.owner c ≡ o
    → ((split : Bool) (u : ℕ) → o ≡ Described split u → ⊥) → AllByRecursion (λ (y : Transfer). c ≢ y.first) (take n (drop t d.transfers))
off_described d word t n c o has describing owned never =
    all_got (λ (y : Transfer). c ≢ y.first) (take n (drop t d.transfers))
    (λ i y there same.
    let new = describing.described i y there in
    let is = has.owned.each.described (t + i) (runs_of_transfer y) (ap (option_map runs_of_transfer) (dropped_get t n d.transfers i y there)) new.0 new.1 in
    never _ (t + i) (sym owned ∙ ap has.owner same ∙ is.descriptor.owned))

linked_by_apart : (p : Parts) (o : Option Command) → p.driver.command ≡ o → Stands (holding p.driver.book p.memory) → (has : HasOwners p.driver) → IsRing (link_in p.memory) p.driver
    → KeepsRing p.driver (link_in p.memory) (link_in (linked_by p.driver p.memory o))
linked_by_apart p None is stands has old = (λ e x here ring alive. refl, refl)
linked_by_apart p (Some (unfinished.Open q)) is stands has old = (λ e x here ring alive. refl, refl)
linked_by_apart p (Some (unfinished.Publish b words)) is stands has old = (λ e x here ring alive. refl, refl)
linked_by_apart p (Some (unfinished.Unlink e b link)) is stands has old = (λ e x here ring alive. refl, refl)
linked_by_apart p (Some unfinished.Chain) is stands has old = (λ e x here ring alive. refl, refl)
linked_by_apart p (Some (unfinished.Unchain e)) is stands has old = (λ e x here ring alive. refl, refl)
linked_by_apart p (Some (unfinished.Iso e t count)) is stands has old =
    let d = p.driver in
    let h = holding d.book p.memory in
    let s : IsDescribing (link_in p.memory) d.endpoints d.transfers t count = stands_as (link_in p.memory) d (unfinished.Iso e t count) is old in
    let ts = take count (drop t d.transfers) in (
      (λ f x here ring alive.
          let q = queue_placed d f x has here (has_queue x (ring_queue x.desc.kind ring) alive) in
          described_elsewhere d.book d.periodic.list d.periodic.notes ts p.memory x.queue (slots_apart h stands) (has_word h x.queue stands (placed_run x.queue (QueueHead f) q))
          (off_described d (link_in p.memory) t count x.queue (QueueHead f) has s q.owned (queue_described f))),
      described_elsewhere d.book d.periodic.list d.periodic.notes ts p.memory head_block (slots_apart h stands) (has_word h head_block stands (head_run_there d has))
          (off_described d (link_in p.memory) t count head_block Head has s has.owned.each.head.owned head_described),
    )

-- ---- a harvested descriptor is unlinked

unlinked_store : (p : Parts) (list : Periodic) (o : Option Store) → next_store list ≡ o → list.list ≡ 0 → ListApart p.driver list.members.schedule → Stands (holding p.driver.book p.memory)
    → HasOwners p.driver → KeepsRing p.driver (link_in p.memory) (link_in (stored_link p.driver.book p.memory o))
unlinked_store p list None next begins off stands has = (λ e x here ring alive. refl, refl)
unlinked_store p list (Some s) next begins off stands has = stored_apart p s.block s.at s.value stands has (store_is_apart p.driver list s has begins off next).off

unlinked_words : (p : Parts) (t : ℕ) (o : Option Transfer) (rings : Bool) (b : ℕ) → IsSound p.memory p.driver → IsReached p.driver rings b → link_in (after_unlink p t o).memory b ≡ link_in p.memory b
unlinked_words p t None rings b sound reached = refl
unlinked_words p t (Some x) rings b sound reached =
    let d = p.driver in
    let apart : IsListApart d = list_apart d p.memory sound.stands sound.shape sound.owners sound.listed in
    let list = descriptor_leaving d x in
    let same = begun_members d.periodic.list (descriptor_member d.periodic.notes x.first) in
    let keeps = unlinked_store p list (next_store list) refl (same.0 ∙ apart.list) (subst (λ (k : Members). ListApart d k.schedule) (sym same.1) apart.members) sound.stands sound.owners in
    ring_word (link_in p.memory) (link_in (stored_link d.book p.memory (next_store list))) d rings b sound.owners.orderly keeps reached

-- ---- what is given back

first_words : (h g : Holding) → LeavesRest h g → (c : ℕ) → HasRun (slot_of g.book.slots c) → link_in g.memory c ≡ link_in h.memory c
first_words h g rest c run = rest.words c (32 * c) (has_word g c rest.stands run)

transfer_words : (p : Parts) (t : ℕ) (o : Option Transfer) → Stands (holding p.driver.book p.memory) → IsShaped p.memory
    → HasOwners (after_transfer p t o (freed_by p.driver (holding p.driver.book p.memory) o)).driver → WordsStay p (after_transfer p t o (freed_by p.driver (holding p.driver.book p.memory) o))
transfer_words p t None stands shape after = λ b r. refl
transfer_words p t (Some x) stands shape after = λ b r.
    let h = holding p.driver.book p.memory in
    first_word (link_in p.memory) (link_in (free_qtds p.driver.notes h x.first x.qtds).memory) _ _ b after
    (first_words h (free_qtds p.driver.notes h x.first x.qtds) (rest_qtds p.driver.notes h x.first x.qtds stands shape)) r

endpoint_words : (p : Parts) (e : ℕ) (o : Option Endpoint) → Stands (holding p.driver.book p.memory) → IsShaped p.memory → HasOwners (after_endpoint p e o).driver
    → WordsStay p (after_endpoint p e o)
endpoint_words p e None stands shape after = λ b r. refl
endpoint_words p e (Some x) stands shape after = λ b r.
    let h = holding p.driver.book p.memory in
    first_word (link_in p.memory) (link_in (free_endpoint p.driver e x h).memory) _ _ b after (first_words h (free_endpoint p.driver e x h) (rest_endpoint p.driver e x h stands shape)) r

descriptor_words : (p : Parts) (t : ℕ) (o : Option Transfer) → Stands (holding p.driver.book p.memory) → IsShaped p.memory → HasOwners (after_descriptor p t o).driver
    → WordsStay p (after_descriptor p t o)
descriptor_words p t None stands shape after = λ b r. refl
descriptor_words p t (Some x) stands shape after = λ b r.
    let h = holding p.driver.book p.memory in
    first_word (link_in p.memory) (link_in (free_descriptor p.driver.periodic.notes h x.first).memory) _ _ b after
    (first_words h (free_descriptor p.driver.periodic.notes h x.first) (rest_descriptor p.driver.periodic.notes h x.first stands shape)) r

placed_words : (p : Parts) (e : ℕ) (o : Option Endpoint) → Stands (holding p.driver.book p.memory) → IsShaped p.memory → HasOwners (after_placed p e o).driver
    → WordsStay p (after_placed p e o)
placed_words p e None stands shape after = λ b r. refl
placed_words p e (Some x) stands shape after = λ b r.
    let h = holding p.driver.book p.memory in
    first_word (link_in p.memory) (link_in (free_placed p.driver e x h).memory) _ _ b after (first_words h (free_placed p.driver e x h) (rest_placed p.driver e x h stands shape)) r

removed_words : (p : Parts) (what : Removed) → Stands (holding p.driver.book p.memory) → IsShaped p.memory → HasOwners (after_removed p what).driver → WordsStay p (after_removed p what)
removed_words p (removed.Descriptor t) stands shape after = descriptor_words p t (slice_get p.driver.transfers t) stands shape after
removed_words p (removed.Endpoint e) stands shape after = placed_words p e (slice_get p.driver.endpoints e) stands shape after

-- ---- each row but a store

abbrev pub is_store : DriverRow → Bool
is_store (rows.Store b at v) = true
is_store _ = false

pub other_words : (row : DriverRow) (p : Parts) → is_store row ≡ false → IsDue p row → IsSound p.memory p.driver → IsBellIn p.driver p.registers → HasOwners (after_driver_row row p).driver
    → WordsStay p (after_driver_row row p)
other_words rows.Lend p other due sound bell after = λ b r. lent_same (holding p.driver.book p.memory) b
other_words (rows.Store b at v) p other due sound bell after = absurd (false≢true (sym other))
other_words (rows.Mend w) p other due sound bell after = λ b r. mend_word p.driver.book p.memory w b (first_mend p.driver.mends w due.1 sound.ring.mends)
other_words rows.LendDescriptors p other due sound bell after = λ b r.
    lent_same (holding p.driver.book (linked_by p.driver p.memory p.driver.command)) b
    ∙ ring_word (link_in p.memory) (link_in (linked_by p.driver p.memory p.driver.command)) p.driver p.registers.doorbell b sound.owners.orderly
    (linked_by_apart p p.driver.command refl sound.stands sound.owners sound.ring) (row_back rows.LendDescriptors p due bell b r)
other_words (rows.Unlink t) p other due sound bell after = λ b r.
    unlinked_words p t (slice_get p.driver.transfers t) p.registers.doorbell b sound (row_back (rows.Unlink t) p due bell b r)
other_words (rows.ReleaseRemoved what) p other due sound bell after = removed_words p what sound.stands sound.shape after
other_words (rows.ReleaseTransfer t) p other due sound bell after = transfer_words p t (slice_get p.driver.transfers t) sound.stands sound.shape after
other_words (rows.ReleaseEndpoint e) p other due sound bell after = endpoint_words p e (slice_get p.driver.endpoints e) sound.stands sound.shape after
other_words _ p other due sound bell after = λ b r. refl
