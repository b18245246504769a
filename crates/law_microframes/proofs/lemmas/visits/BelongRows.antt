-- An event of the driver leaves the words of each descriptor that it has before and after it, but for its link (EHCI 1.0, 3.3, 3.3.1 and 4.6).
use Rattle.std.proofs.Common.{◌≡◌, ◌≢◌, ℕ, ◌+◌, ◌*◌, ◌/◌, ◌<◌, ◌≤◌, Bool, true, false, List, [], ◌∷◌, drop, take, slice_get, slice_index, Option, Some, None, option_map, if◌then◌else◌, ap, refl, sym, subst, ◌∙◌, ⊎_elim, inl, inr, arith}
use Rattle.std.specs.Prelude.{◌⊎◌}
use Rattle.std.proofs.lemmas.Bool.{cases_eq}
use Rattle.law_driver.proofs.Common.{maybe, not_list}
use Rattle.word_mem.specs.Memory.{Mem, IsShaped, word_at}
use Rattle.mem_runs.specs.Book.{holding, Stands, slot_of, can_store, store}
use Rattle.drv_members.specs.Members.{Members}
use Rattle.drv_periodic.specs.declared.work.Store.{Store}
use Rattle.drv_periodic.specs.Periodic.{Periodic, next_store}
use Rattle.drv_periodic_table.specs.declared.content.DescriptorNote.{DescriptorNote}
use Rattle.drv_periodic_table.specs.declared.content.Removed.{Removed}
use Rattle.drv_periodic_table.specs.declared.content.Removed.TheVariants as removed
use Rattle.drv_periodic_table.specs.Periodic.{note_at, descriptor_member}
use Rattle.drv_periodic_table.specs.Linking.{new_link}
use Rattle.drv_table.specs.declared.content.Endpoint.{Endpoint}
use Rattle.drv_table.specs.declared.content.Transfer.{Transfer}
use Rattle.drv_table.specs.declared.content.Mend.{Mend}
use Rattle.drv_table.specs.declared.content.Command.{Command}
use Rattle.drv_table.specs.declared.content.Command.TheVariants as unfinished
use Rattle.drv_table.specs.declared.rows.DriverRow.{DriverRow}
use Rattle.drv_table.specs.declared.rows.DriverRow.TheVariants as rows
use Rattle.drv_table.specs.DriverContent.{DriverContent}
use Rattle.drv_table.specs.Parts.{Parts}
use Rattle.drv_table.specs.Rows.{driver_row, after_driver_row}
use Rattle.drv_table.specs.Commands.{events_of}
use Rattle.drv_table.specs.FrameChoice.{linked_descriptors, linked_by}
use Rattle.drv_table.specs.Releases.{after_transfer, after_endpoint, freed_by}
use Rattle.drv_table.specs.Removals.{stored_link, descriptor_leaving, after_unlink, after_descriptor, after_placed, after_removed}
use Rattle.claims_driver.specs.Owners.{Described, HasBlocks, HasRun, SlotHas, IsPlaced, is_descriptor, runs_of_transfer, views_of}
use Rattle.law_driver.specs.run_owners.Due.{IsDue}
use Rattle.claims_driver.specs.Leaving.{HasOwners}
use Rattle.claims_driver.specs.Ring.{link_in}
use Rattle.law_driver.specs.ring_members.Words.{IsPublishing, IsRing}
use Rattle.law_driver.proofs.lemmas.ring_members.Stores.{slots_apart, store_elsewhere}
use Rattle.law_driver.proofs.lemmas.ring_members.Freed.{lent_words, rest_qtds, rest_endpoint, rest_descriptor, rest_placed}
use Rattle.law_driver.proofs.lemmas.ring_members.Events.{open_store, unlink_store, publish_store, stands_as, block_of, is_element, not_element, chain_never, iso_never, unchain_never, begun_members}
use Rattle.law_driver.proofs.lemmas.ring_members.Aside.{AreApart as ListApart, IsListApart, list_apart}
use Rattle.law_driver.proofs.lemmas.run_owners.Reasons.{each_event_is_due}
use Rattle.law_driver.proofs.lemmas.queue_head_words.Stored.{in_two}
use Rattle.law_driver.specs.in_place.InPlace.{IsInPlace}
use Rattle.law_driver.proofs.lemmas.in_place.Laws.{events_keep_all_in_place}
use Rattle.law_microframes.specs.visits.DescriptorFields.{IsMendedAt, ItdWordsStay}
use Rattle.law_driver.proofs.lemmas.ring_members.Lists.{IsApartStore, store_is_apart}

abbrev IsOther : DriverRow → Type 0
IsOther (rows.Mend w) = ⊥
IsOther _ = Unit {0}

not_mend : (row : DriverRow) (w : Mend) → IsOther row → row ≡ rows.Mend w → ⊥
not_mend row w other same = subst IsOther same other

-- word i of the descriptor of transfer t, which stands in block b
module _ (p : Parts) (b t i : ℕ) (split : Bool) (stands : Stands (holding p.driver.book p.memory)) (shape : IsShaped p.memory) (has : HasOwners p.driver) (ring : IsRing (link_in p.memory) p.driver) (apart : IsListApart p.driver) (placed : IsPlaced (slot_of p.driver.book.slots) has.owner b (Described split t)) (inside : SlotHas (slot_of p.driver.book.slots b) ((32 * b + 4 * i) / 32)) (later : 1 ≤ i) where
  abbrev d : DriverContent
  d = p.driver

  abbrev Same : Mem → Type 0
  Same new = word_at new (32 * b + 4 * i) ≡ word_at p.memory (32 * b + 4 * i)

  -- a store elsewhere, or to the first word
  stored : (m : Mem) (q at v : ℕ) → (q ≡ b → at ≡ 32 * b) → word_at (store p.driver.book m q at v) (32 * b + 4 * i) ≡ word_at m (32 * b + 4 * i)
  stored m q at v first =
      ⊎_elim
      (λ (own : b ≡ q).
      let word = first (sym own) in
      maybe m at v (32 * b + 4 * i) (can_store (slot_of d.book.slots q) at) (λ same. omega (arith, same, word, later)))
      (λ (other : b ≢ q). store_elsewhere d.book m q b at v (32 * b + 4 * i) (slots_apart (holding d.book p.memory) stands) other inside) (cases_eq b q)

  command_stored : (c : Command) (q at v : ℕ) → p.driver.command ≡ Some c → slice_get (events_of c) p.driver.made ≡ Some (rows.Store q at v) → Same (store p.driver.book p.memory q at v)
  unfolding is_element
  command_stored (unfinished.Open f) q at v is next =
      let s = open_store f d.made q at v next in
      let one = s.1.0.0 in
      let two = s.1.0.1 in
      stored p.memory q at v (λ same. omega (arith, one, two, same))
  command_stored (unfinished.Publish f words) q at v is next =
      let u = subst (λ k. IsPublishing (link_in p.memory) d.endpoints d.transfers k) (sym (publish_store f words d.made q at v next)) (stands_as (link_in p.memory) d (unfinished.Publish f words) is ring) in
      let here = block_of d has (link_in p.memory) q u in
      stored p.memory q at v (λ same. absurd (not_element u.number (Described split t) refl (sym placed.owned ∙ ap has.owner (sym same) ∙ here.owned)))
  command_stored (unfinished.Unlink e f link) q at v is next =
      let s = unlink_store e f link d.made q at v next in
      let one = s.1.0.0 in
      let two = s.1.0.1 in
      stored p.memory q at v (λ same. omega (arith, one, two, same))
  command_stored unfinished.Chain q at v is next = absurd (chain_never d.made q at v next)
  command_stored (unfinished.Iso e u count) q at v is next = absurd (iso_never e u count d.made q at v next)
  command_stored (unfinished.Unchain e) q at v is next = absurd (unchain_never e d.made q at v next)

  -- a store of the frame list
  list_stored : (q at v : ℕ) → IsApartStore p.driver q at → Same (store p.driver.book p.memory q at v)
  list_stored q at v k =
      stored p.memory q at v
      (λ same.
      ⊎_elim (λ (w : (q ≡ 0) × (at < 4096)). absurd (not_list split t (sym has.owned.each.list.owned ∙ ap has.owner (sym w.0 ∙ same) ∙ placed.owned)))
      (λ (w : HasRun (slot_of p.driver.book.slots q) × (at ≡ 32 * q)). w.1 ∙ ap (λ (k : ℕ). 32 * k) same) k.there)

  maybe_stored : (list : Periodic) (o : Option Store) → next_store list ≡ o → list.list ≡ 0 → ListApart p.driver list.members.schedule → Same (stored_link p.driver.book p.memory o)
  maybe_stored list None next begins members = refl
  maybe_stored list (Some s) next begins members = list_stored s.block s.at s.value (store_is_apart d list s has begins members next)

  unlinked : (u : ℕ) (o : Option Transfer) → Same (after_unlink p u o).memory
  unlinked u None = refl
  unlinked u (Some x) =
      let list = descriptor_leaving d x in
      let same = begun_members d.periodic.list (descriptor_member d.periodic.notes x.first) in
      maybe_stored list (next_store list) refl (same.0 ∙ apart.list) (subst (λ (k : Members). ListApart d k.schedule) (sym same.1) apart.members)

  described : (list : Periodic) (notes : List DescriptorNote) (ts : List Transfer) (m : Mem) → word_at (linked_descriptors p.driver.book list notes ts m) (32 * b + 4 * i) ≡ word_at m (32 * b + 4 * i)
  unfolding linked_descriptors
  described list notes [] m = refl
  described list notes (y ∷ ts) m =
      let v = new_link list (descriptor_member notes y.first) in
      described list notes ts (store d.book m y.first (32 * y.first) v) ∙ stored m y.first (32 * y.first) v (λ same. ap (λ (k : ℕ). 32 * k) same)

  linked : (o : Option Command) → Same (linked_by p.driver p.memory o)
  linked (Some (unfinished.Iso e u count)) = described d.periodic.list d.periodic.notes (take count (drop u d.transfers)) p.memory
  linked _ = refl

  -- ---- what is given back is in other runs

  abbrev Has : Parts → Type 0
  Has q = SlotHas (slot_of q.driver.book.slots b) ((32 * b + 4 * i) / 32)

  transfer_left : (u : ℕ) (o : Option Transfer) → Has (after_transfer p u o (freed_by p.driver (holding p.driver.book p.memory) o)) → Same (after_transfer p u o (freed_by p.driver (holding p.driver.book p.memory) o)).memory
  transfer_left u None there = refl
  transfer_left u (Some x) there = (rest_qtds d.notes (holding d.book p.memory) x.first x.qtds stands shape).words b (32 * b + 4 * i) there

  endpoint_left : (e : ℕ) (o : Option Endpoint) → Has (after_endpoint p e o) → Same (after_endpoint p e o).memory
  endpoint_left e None there = refl
  endpoint_left e (Some x) there = (rest_endpoint d e x (holding d.book p.memory) stands shape).words b (32 * b + 4 * i) there

  descriptor_left : (u : ℕ) (o : Option Transfer) → Has (after_descriptor p u o) → Same (after_descriptor p u o).memory
  descriptor_left u None there = refl
  descriptor_left u (Some x) there = (rest_descriptor d.periodic.notes (holding d.book p.memory) x.first stands shape).words b (32 * b + 4 * i) there

  placed_left : (e : ℕ) (o : Option Endpoint) → Has (after_placed p e o) → Same (after_placed p e o).memory
  placed_left e None there = refl
  placed_left e (Some x) there = (rest_placed d e x (holding d.book p.memory) stands shape).words b (32 * b + 4 * i) there

  removed_left : (what : Removed) → Has (after_removed p what) → Same (after_removed p what).memory
  removed_left (removed.Descriptor u) there = descriptor_left u (slice_get p.driver.transfers u) there
  removed_left (removed.Endpoint e) there = placed_left e (slice_get p.driver.endpoints e) there

  -- ---- any row, where what a stalled endpoint is owed is stored elsewhere

  pub row_leaves : (row : DriverRow) → IsDue p row → ((w : Mend) → row ≡ rows.Mend w → w.queue ≢ b) → SlotHas (slot_of (after_driver_row row p).driver.book.slots b) ((32 * b + 4 * i) / 32)
      → word_at (after_driver_row row p).memory (32 * b + 4 * i) ≡ word_at p.memory (32 * b + 4 * i)
  row_leaves rows.Lend due other there = ap (λ ws. slice_index ws ((32 * b + 4 * i) / 4)) (lent_words (holding d.book p.memory))
  row_leaves (rows.Store q at v) (inl due) other there = command_stored due.command q at v due.unfinished due.next
  row_leaves (rows.Store q at v) (inr due) other there =
      let one : due.store.block ≡ q = cc in
      let two : due.store.at ≡ at = cc in
      let k = store_is_apart d d.periodic.list due.store has apart.list apart.members due.next in
      list_stored q at v (subst (IsApartStore d q) two (subst (λ k. IsApartStore d k due.store.at) one k))
  row_leaves (rows.Mend w) due other there = stored p.memory w.queue w.at w.value (λ same. absurd (other w refl same))
  row_leaves (rows.ReleaseTransfer u) due other there = transfer_left u (slice_get d.transfers u) there
  row_leaves (rows.ReleaseEndpoint e) due other there = endpoint_left e (slice_get d.endpoints e) there
  row_leaves rows.LendDescriptors due other there =
      ap (λ ws. slice_index ws ((32 * b + 4 * i) / 4)) (lent_words (holding d.book (linked_by d p.memory d.command))) ∙ linked d.command
  row_leaves (rows.Unlink u) due other there = unlinked u (slice_get d.transfers u)
  row_leaves (rows.ReleaseRemoved what) due other there = removed_left what there
  row_leaves _ due other there = refl

-- ---- an iTD that is there before and after

module _ (p : Parts) (t i : ℕ) (y z : Transfer) (place : IsInPlace p.memory p.driver) (small : i < 16) where
  abbrev next : Parts
  next = after_driver_row (driver_row p) p

  in_place_then : IsInPlace (after_driver_row (driver_row p) p).memory (after_driver_row (driver_row p) p).driver
  in_place_then = events_keep_all_in_place p place

  two_blocks : (d : DriverContent) (has : HasOwners d) (v : Transfer) → slice_get d.transfers t ≡ Some v → is_descriptor v.sort ≡ true → v.released ≡ false → (note_at d.periodic.notes v.first).split ≡ false
      → HasBlocks 2 (slot_of d.book.slots v.first)
  two_blocks d has v there sort held split =
      subst (λ (c : Bool). HasBlocks (if c then 1 else 2) (slot_of d.book.slots v.first)) split
      (has.owned.each.described t (runs_of_transfer v) (ap (option_map runs_of_transfer) there) sort held).descriptor.run

  inside_of : (d : DriverContent) (m : Mem) (b : ℕ) → Stands (holding d.book m) → HasBlocks 2 (slot_of d.book.slots b) → SlotHas (slot_of d.book.slots b) ((32 * b + 4 * i) / 32)
  inside_of d m b stands two = in_two (slot_of d.book.slots b) b ((32 * b + 4 * i) / 32) (stands.placed b) two (omega arith) (omega (arith, small))

  abbrev Stays : Type 0
  Stays = (word_at (after_driver_row (driver_row p) p).memory (32 * y.first + 4 * i) ≡ word_at p.memory (32 * y.first + 4 * i)) ⊎ IsMendedAt p y.first

  module _ (there : slice_get p.driver.transfers t ≡ Some y) (sort : is_descriptor y.sort ≡ true) (held : y.released ≡ false) (split : (note_at p.driver.periodic.notes y.first).split ≡ false)
      (has_then : SlotHas (slot_of (after_driver_row (driver_row p) p).driver.book.slots y.first) ((32 * y.first + 4 * i) / 32)) (later : 1 ≤ i) where
    leaves : ((w : Mend) → driver_row p ≡ rows.Mend w → w.queue ≢ y.first) → word_at (after_driver_row (driver_row p) p).memory (32 * y.first + 4 * i) ≡ word_at p.memory (32 * y.first + 4 * i)
    leaves other =
        let sound = place.sound in
        let o = sound.owners.owned.each.described t (runs_of_transfer y) (ap (option_map runs_of_transfer) there) sort held in
        row_leaves p y.first t i ((views_of p.driver).descriptor y.first).split sound.stands sound.shape sound.owners sound.ring
        (list_apart p.driver p.memory sound.stands sound.shape sound.owners sound.listed) o.descriptor
        (inside_of p.driver p.memory y.first sound.stands (two_blocks p.driver sound.owners y there sort held split)) later (driver_row p) (each_event_is_due p) other has_then

    no_mend : (row : DriverRow) → driver_row p ≡ row → Stays
    no_mend (rows.Mend w) is =
        ⊎_elim {C = (word_at (after_driver_row (driver_row p) p).memory (32 * y.first + 4 * i) ≡ word_at p.memory (32 * y.first + 4 * i)) ⊎ IsMendedAt p y.first}
        (λ (same : w.queue ≡ y.first). inr (record { mend = w; row = is; queue = same }))
        (λ (differs : w.queue ≢ y.first).
        inl (leaves (λ v row same. differs (ap (λ (u : Mend). u.queue) (mend_same w v (sym is ∙ row)) ∙ same)))) (cases_eq w.queue y.first)
      where
        mend_same : (w v : Mend) → rows.Mend w ≡ rows.Mend v → w ≡ v
        mend_same w v same = cc
    no_mend row is = inl (leaves (λ v mends same. not_mend row v tt (sym is ∙ mends)))

pub itd_words_stay : ItdWordsStay
itd_words_stay p t i y z place there sort held split after sort_then held_then first split_then later small =
    let later_place = in_place_then p t i y z place small in
    let d = (after_driver_row (driver_row p) p).driver in
    let has_then = inside_of p t i y z place small d (after_driver_row (driver_row p) p).memory z.first later_place.sound.stands (two_blocks p t i y z place small d later_place.sound.owners z after sort_then held_then split_then) in
    no_mend p t i y z place small there sort held split (subst (λ (b : ℕ). SlotHas (slot_of d.book.slots b) ((32 * b + 4 * i) / 32)) first has_then) later (driver_row p) refl
