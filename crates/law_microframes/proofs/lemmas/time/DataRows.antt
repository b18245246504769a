-- An event of the driver leaves the token of each qTD that it has before and after it, or stores it: it publishes the first qTD of a transfer (EHCI 1.0, 3.5.3, 4.6 and 4.10.2).
use Rattle.std.proofs.Common.{get_or, set, zero, suc, ◌≡◌, ◌≢◌, ℕ, ◌+◌, ◌*◌, ◌/◌, ◌<◌, Bool, true, false, cond, List, [], ◌∷◌, drop, take, slice_get, slice_index, Option, Some, None, ap, refl, sym, subst, ◌∙◌, ⊎_elim, inl, inr, arith}
use Rattle.std.specs.Prelude.{◌⊎◌}
use Rattle.std.proofs.lemmas.Bool.{cases_eq}
use Rattle.std.specs.List.{AllByRecursion}
use Rattle.std.proofs.lemmas.Option.{same_Some}
use Rattle.law_driver.proofs.Common.{maybe}
use Rattle.word_mem.specs.Memory.{Mem, IsShaped, word_at, with_word}
use Rattle.mem_runs.specs.Book.{holding, Stands, slot_of, can_store, store}
use Rattle.drv_members.specs.Members.{Members}
use Rattle.drv_periodic.specs.declared.work.Store.{Store}
use Rattle.drv_periodic.specs.Periodic.{Periodic, next_store}
use Rattle.drv_periodic_table.specs.declared.content.DescriptorNote.{DescriptorNote}
use Rattle.drv_periodic_table.specs.declared.content.Removed.{Removed}
use Rattle.drv_periodic_table.specs.declared.content.Removed.TheVariants as removed
use Rattle.drv_periodic_table.specs.Periodic.{descriptor_member}
use Rattle.drv_periodic_table.specs.Linking.{new_link}
use Rattle.drv_table.specs.declared.content.Endpoint.{Endpoint}
use Rattle.drv_table.specs.declared.content.Transfer.{Transfer}
use Rattle.drv_table.specs.declared.content.Mend.{Mend}
use Rattle.drv_table.specs.declared.content.Command.{Command}
use Rattle.drv_table.specs.declared.content.Command.TheVariants as unfinished
use Rattle.drv_table.specs.declared.rows.DriverRow.{DriverRow}
use Rattle.drv_table.specs.declared.rows.DriverRow.TheVariants as rows
use Rattle.drv_table.specs.DriverContent.{DriverContent}
use Rattle.drv_table.specs.Parts.{Parts}
use Rattle.drv_table.specs.Commands.{events_of}
use Rattle.drv_table.specs.FrameChoice.{linked_descriptors, linked_by}
use Rattle.drv_table.specs.Rows.{after_driver_row}
use Rattle.drv_table.specs.Releases.{after_transfer, after_endpoint, freed_by}
use Rattle.drv_table.specs.Removals.{stored_link, descriptor_leaving, after_unlink, after_descriptor, after_placed, after_removed}
use Rattle.claims_driver.specs.Owners.{FrameList, Element, HasRun, SlotHas, IsPlaced}
use Rattle.law_driver.specs.run_owners.Due.{IsDue}
use Rattle.claims_driver.specs.Leaving.{HasOwners}
use Rattle.claims_driver.specs.Ring.{link_in}
use Rattle.law_driver.specs.ring_members.Words.{IsMending, IsRing}
use Rattle.law_driver.proofs.lemmas.ring_members.Stores.{slots_apart, store_elsewhere}
use Rattle.law_driver.proofs.lemmas.ring_members.Freed.{lent_words, rest_qtds, rest_endpoint, rest_descriptor, rest_placed}
use Rattle.law_driver.proofs.lemmas.ring_members.Events.{open_store, unlink_store, publish_store, chain_never, iso_never, unchain_never, begun_members}
use Rattle.law_driver.proofs.lemmas.ring_members.Aside.{AreApart as ListApart, IsListApart}
use Rattle.law_driver.proofs.lemmas.ring_members.Lists.{IsApartStore, store_is_apart}
use Rattle.law_microframes.proofs.lemmas.time.DataWords.{set_either}

-- the row publishes the qTD in block b: its token was stored
pub record IsTokenStored (p : Parts) (new : Mem) (b : ℕ) : Type 0 where
  pub words : List ℕ
  pub command : p.driver.command ≡ Some (unfinished.Publish b words)
  pub word : word_at new (32 * b + 8) ≡ slice_index words 2

-- the token is the last word that is stored
publish_at : (b : ℕ) (words : List ℕ) (made c at v : ℕ) → slice_get (events_of (unfinished.Publish b words)) made ≡ Some (rows.Store c at v)
    → (at / 4 ≢ (32 * b + 8) / 4) ⊎ ((at ≡ 32 * b + 8) × (v ≡ slice_index words 2))
publish_at b words (suc zero) c at v e = let w : 32 * b + 4 * 0 ≡ at = cc in inl (λ hit. omega (arith, w, hit))
publish_at b words (suc (suc zero)) c at v e = let w : 32 * b + 4 * 1 ≡ at = cc in inl (λ hit. omega (arith, w, hit))
publish_at b words (suc (suc (suc zero))) c at v e = let w : 32 * b + 4 * 3 ≡ at = cc in inl (λ hit. omega (arith, w, hit))
publish_at b words (suc (suc (suc (suc zero)))) c at v e = let w : 32 * b + 4 * 4 ≡ at = cc in inl (λ hit. omega (arith, w, hit))
publish_at b words (suc (suc (suc (suc (suc zero))))) c at v e = let w : 32 * b + 4 * 5 ≡ at = cc in inl (λ hit. omega (arith, w, hit))
publish_at b words (suc (suc (suc (suc (suc (suc zero)))))) c at v e = let w : 32 * b + 4 * 6 ≡ at = cc in inl (λ hit. omega (arith, w, hit))
publish_at b words (suc (suc (suc (suc (suc (suc (suc zero))))))) c at v e = let w : 32 * b + 4 * 7 ≡ at = cc in inl (λ hit. omega (arith, w, hit))
publish_at b words (suc (suc (suc (suc (suc (suc (suc (suc zero)))))))) c at v e =
    let w : 32 * b + 4 * 2 ≡ at = cc in
    let value : slice_index words 2 ≡ v = cc in
    inr (omega (arith, w), sym value)
publish_at b words _ c at v e = absurd (cc)

-- the token of the qTD in block b, of transfer t
module _ (p : Parts) (b t : ℕ) (stands : Stands (holding p.driver.book p.memory)) (shape : IsShaped p.memory) (has : HasOwners p.driver) (ring : IsRing (link_in p.memory) p.driver)
    (apart : IsListApart p.driver) (placed : IsPlaced (slot_of p.driver.book.slots) has.owner b (Element t)) (inside : SlotHas (slot_of p.driver.book.slots b) ((32 * b + 8) / 32)) where
  abbrev d : DriverContent
  d = p.driver

  abbrev Same : Mem → Type 0
  Same new = word_at new (32 * b + 8) ≡ word_at p.memory (32 * b + 8)

  abbrev Left : Mem → Type 0
  Left new = Same new ⊎ IsTokenStored p new b

  -- a store elsewhere, or to another word
  stored : (m : Mem) (q at v : ℕ) → (q ≡ b → at / 4 ≢ (32 * b + 8) / 4) → word_at (store p.driver.book m q at v) (32 * b + 8) ≡ word_at m (32 * b + 8)
  stored m q at v differs =
      ⊎_elim (λ (own : b ≡ q). maybe m at v (32 * b + 8) (can_store (slot_of d.book.slots q) at) (differs (sym own)))
      (λ (other : b ≢ q). store_elsewhere d.book m q b at v (32 * b + 8) (slots_apart (holding d.book p.memory) stands) other inside) (cases_eq b q)

  -- .. or of the first word of its run
  first_stored : (m : Mem) (q at v : ℕ) → (q ≡ b → at ≡ 32 * q) → word_at (store p.driver.book m q at v) (32 * b + 8) ≡ word_at m (32 * b + 8)
  first_stored m q at v first = stored m q at v (λ same hit. let word = first same in omega (arith, word, same, hit))

  token_stored : (words : List ℕ) (q at v : ℕ) → p.driver.command ≡ Some (unfinished.Publish b words) → at ≡ 32 * b + 8 → v ≡ slice_index words 2
      → (can : Bool) → can_store (slot_of p.driver.book.slots q) at ≡ can → Left (store p.driver.book p.memory q at v)
  token_stored words q at v is hit value false can = inl (ap (λ (c : Bool). word_at (cond c (with_word p.memory at v) p.memory) (32 * b + 8)) can)
  token_stored words q at v is hit value true can =
      let made : word_at (store d.book p.memory q at v) (32 * b + 8) ≡ word_at (with_word p.memory at v) (32 * b + 8)
      = ap (λ (c : Bool). word_at (cond c (with_word p.memory at v) p.memory) (32 * b + 8)) can in
      let here : word_at (with_word p.memory at v) (32 * b + 8) ≡ get_or (set p.memory.words (at / 4) v) (at / 4) 0 = ap (λ (k : ℕ). get_or (set p.memory.words (at / 4) v) (k / 4) 0) (sym hit) in
      ⊎_elim (λ (new : get_or (set p.memory.words (at / 4) v) (at / 4) 0 ≡ v). inr (record { words = words; command = is; word = made ∙ here ∙ new ∙ value }))
      (λ (old : get_or (set p.memory.words (at / 4) v) (at / 4) 0 ≡ get_or p.memory.words (at / 4) 0).
      inl (made ∙ here ∙ old ∙ ap (λ (k : ℕ). get_or p.memory.words (k / 4) 0) hit)) (set_either p.memory.words (at / 4) v)

  publish_stored : (f : ℕ) (words : List ℕ) (q at v : ℕ) → p.driver.command ≡ Some (unfinished.Publish f words)
      → slice_get (events_of (unfinished.Publish f words)) p.driver.made ≡ Some (rows.Store q at v) → Left (store p.driver.book p.memory q at v)
  publish_stored f words q at v is next =
      let block : q ≡ f = publish_store f words d.made q at v next in
      ⊎_elim (λ (differs : at / 4 ≢ (32 * f + 8) / 4). inl (stored p.memory q at v (λ same. subst (λ (k : ℕ). at / 4 ≢ (32 * k + 8) / 4) (sym block ∙ same) differs)))
      (λ (hit : (at ≡ 32 * f + 8) × (v ≡ slice_index words 2)).
      ⊎_elim {C = Left (store p.driver.book p.memory q at v)}
      (λ (own : f ≡ b).
      token_stored words q at v (subst (λ (k : ℕ). p.driver.command ≡ Some (unfinished.Publish k words)) own is) (subst (λ (k : ℕ). at ≡ 32 * k + 8) own hit.0) hit.1
      (can_store (slot_of d.book.slots q) at) refl)
      (λ (other : f ≢ b). inl (stored p.memory q at v (λ same. absurd (other (sym block ∙ same))))) (cases_eq f b)) (publish_at f words d.made q at v next)

  command_stored : (c : Command) (q at v : ℕ) → p.driver.command ≡ Some c → slice_get (events_of c) p.driver.made ≡ Some (rows.Store q at v) → Left (store p.driver.book p.memory q at v)
  command_stored (unfinished.Open f) q at v is next =
      let s = open_store f d.made q at v next in
      let one = s.1.0.0 in
      let two = s.1.0.1 in
      inl (first_stored p.memory q at v (λ same. omega (arith, one, two, same)))
  command_stored (unfinished.Publish f words) q at v is next = publish_stored f words q at v is next
  command_stored (unfinished.Unlink e f link) q at v is next =
      let s = unlink_store e f link d.made q at v next in
      let one = s.1.0.0 in
      let two = s.1.0.1 in
      inl (first_stored p.memory q at v (λ same. omega (arith, one, two, same)))
  command_stored unfinished.Chain q at v is next = absurd (chain_never d.made q at v next)
  command_stored (unfinished.Iso e u count) q at v is next = absurd (iso_never e u count d.made q at v next)
  command_stored (unfinished.Unchain e) q at v is next = absurd (unchain_never e d.made q at v next)

  list_not : FrameList ≡ Element t → ⊥
  list_not same = cc

  -- a store of the frame list
  list_stored : (q at v : ℕ) → IsApartStore p.driver q at → Same (store p.driver.book p.memory q at v)
  list_stored q at v k =
      first_stored p.memory q at v
      (λ same.
      ⊎_elim (λ (w : (q ≡ 0) × (at < 4096)). absurd (list_not (sym has.owned.each.list.owned ∙ ap has.owner (sym w.0 ∙ same) ∙ placed.owned)))
      (λ (w : HasRun (slot_of p.driver.book.slots q) × (at ≡ 32 * q)). w.1) k.there)

  maybe_stored : (list : Periodic) (o : Option Store) → next_store list ≡ o → list.list ≡ 0 → ListApart p.driver list.members.schedule → Same (stored_link p.driver.book p.memory o)
  maybe_stored list None next begins members = refl
  maybe_stored list (Some s) next begins members = list_stored s.block s.at s.value (store_is_apart d list s has begins members next)

  unlinked : (u : ℕ) (o : Option Transfer) → Same (after_unlink p u o).memory
  unlinked u None = refl
  unlinked u (Some x) =
      let list = descriptor_leaving d x in
      let same = begun_members d.periodic.list (descriptor_member d.periodic.notes x.first) in
      maybe_stored list (next_store list) refl (same.0 ∙ apart.list) (subst (λ (k : Members). ListApart d k.schedule) (sym same.1) apart.members)

  described : (list : Periodic) (notes : List DescriptorNote) (ts : List Transfer) (m : Mem) → word_at (linked_descriptors p.driver.book list notes ts m) (32 * b + 8) ≡ word_at m (32 * b + 8)
  unfolding linked_descriptors
  described list notes [] m = refl
  described list notes (y ∷ ts) m =
      let v = new_link list (descriptor_member notes y.first) in
      described list notes ts (store d.book m y.first (32 * y.first) v) ∙ first_stored m y.first (32 * y.first) v (λ same. refl)

  linked : (o : Option Command) → Same (linked_by p.driver p.memory o)
  linked (Some (unfinished.Iso e u count)) = described d.periodic.list d.periodic.notes (take count (drop u d.transfers)) p.memory
  linked _ = refl

  -- words 4 to 6 of a queue head
  mended : (w : Mend) → IsMending w → Same (store p.driver.book p.memory w.queue w.at w.value)
  mended w is =
      stored p.memory w.queue w.at w.value
      (λ same hit.
      ⊎_elim (λ (one : w.at ≡ 32 * w.queue + 16). omega (arith, one, same, hit))
      (λ (rest : (w.at ≡ 32 * w.queue + 20) ⊎ (w.at ≡ 32 * w.queue + 24)).
      ⊎_elim (λ (one : w.at ≡ 32 * w.queue + 20). omega (arith, one, same, hit)) (λ (one : w.at ≡ 32 * w.queue + 24). omega (arith, one, same, hit)) rest) is)

  -- ---- what is given back is in other runs

  abbrev Has : Parts → Type 0
  Has q = SlotHas (slot_of q.driver.book.slots b) ((32 * b + 8) / 32)

  transfer_left : (u : ℕ) (o : Option Transfer) → Has (after_transfer p u o (freed_by p.driver (holding p.driver.book p.memory) o)) → Same (after_transfer p u o (freed_by p.driver (holding p.driver.book p.memory) o)).memory
  transfer_left u None there = refl
  transfer_left u (Some x) there = (rest_qtds d.notes (holding d.book p.memory) x.first x.qtds stands shape).words b (32 * b + 8) there

  endpoint_left : (e : ℕ) (o : Option Endpoint) → Has (after_endpoint p e o) → Same (after_endpoint p e o).memory
  endpoint_left e None there = refl
  endpoint_left e (Some x) there = (rest_endpoint d e x (holding d.book p.memory) stands shape).words b (32 * b + 8) there

  descriptor_left : (u : ℕ) (o : Option Transfer) → Has (after_descriptor p u o) → Same (after_descriptor p u o).memory
  descriptor_left u None there = refl
  descriptor_left u (Some x) there = (rest_descriptor d.periodic.notes (holding d.book p.memory) x.first stands shape).words b (32 * b + 8) there

  placed_left : (e : ℕ) (o : Option Endpoint) → Has (after_placed p e o) → Same (after_placed p e o).memory
  placed_left e None there = refl
  placed_left e (Some x) there = (rest_placed d e x (holding d.book p.memory) stands shape).words b (32 * b + 8) there

  removed_left : (what : Removed) → Has (after_removed p what) → Same (after_removed p what).memory
  removed_left (removed.Descriptor u) there = descriptor_left u (slice_get p.driver.transfers u) there
  removed_left (removed.Endpoint e) there = placed_left e (slice_get p.driver.endpoints e) there

  -- ---- any row

  first_mending : (ws : List Mend) (w : Mend) → AllByRecursion IsMending ws → slice_get ws 0 ≡ Some w → IsMending w
  first_mending [] w all is = absurd (cc)
  first_mending (v ∷ ws) w all is = subst IsMending (same_Some v w is) all.0

  pub row_leaves : (row : DriverRow) → IsDue p row → SlotHas (slot_of (after_driver_row row p).driver.book.slots b) ((32 * b + 8) / 32)
      → (word_at (after_driver_row row p).memory (32 * b + 8) ≡ word_at p.memory (32 * b + 8)) ⊎ IsTokenStored p (after_driver_row row p).memory b
  row_leaves rows.Lend due there = inl (ap (λ ws. slice_index ws ((32 * b + 8) / 4)) (lent_words (holding d.book p.memory)))
  row_leaves (rows.Store q at v) (inl due) there = command_stored due.command q at v due.unfinished due.next
  row_leaves (rows.Store q at v) (inr due) there =
      let one : due.store.block ≡ q = cc in
      let two : due.store.at ≡ at = cc in
      let k = store_is_apart d d.periodic.list due.store has apart.list apart.members due.next in
      inl (list_stored q at v (subst (IsApartStore d q) two (subst (λ k. IsApartStore d k due.store.at) one k)))
  row_leaves (rows.Mend w) due there = inl (mended w (first_mending d.mends w ring.mends due.1))
  row_leaves (rows.ReleaseTransfer u) due there = inl (transfer_left u (slice_get d.transfers u) there)
  row_leaves (rows.ReleaseEndpoint e) due there = inl (endpoint_left e (slice_get d.endpoints e) there)
  row_leaves rows.LendDescriptors due there =
      inl (ap (λ ws. slice_index ws ((32 * b + 8) / 4)) (lent_words (holding d.book (linked_by d p.memory d.command))) ∙ linked d.command)
  row_leaves (rows.Unlink u) due there = inl (unlinked u (slice_get d.transfers u))
  row_leaves (rows.ReleaseRemoved what) due there = inl (removed_left what there)
  row_leaves _ due there = inl refl
