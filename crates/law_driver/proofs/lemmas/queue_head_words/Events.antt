-- Each event of the driver leaves the fixed words of queue heads.
use Rattle.std.proofs.Common.{◌≡◌, ◌≢◌, ℕ, suc, ◌+◌, ◌*◌, ◌/◌, ◌<◌, ◌≤◌, Bool, true, false, ◌||◌, cond, nat_lt, List, [], ◌∷◌, ◌++◌, length, take, drop, set, slice_get, slice_index, Option, Some, None, ap, sym, subst, ◌∙◌, ⊎_elim, inl, inr, refl, arith, append_assoc}
use Rattle.std.specs.Prelude.{◌⊎◌, is_none}
use Rattle.std.proofs.lemmas.Bool.{cases_eq, cases_lt, false≢true}
use Rattle.std.proofs.lemmas.Option.{same_Some}
use Rattle.law_driver.proofs.Common.{maybe, among_later}
use Rattle.law_common.proofs.Lists.{set_here, set_there, append_none}
use Rattle.usb_base.specs.declared.endpoints.EpDesc.{EpDesc}
use Rattle.word_mem.specs.Memory.{Mem, IsShaped, word_at}
use Rattle.word_mem.proofs.Holders.{has_block_from}
use Rattle.mem_runs.specs.declared.slots.Slot.{Slot}
use Rattle.mem_runs.specs.declared.slots.Slot.TheVariants.{Empty, Keeps, Lends}
use Rattle.mem_runs.specs.Book.{Book, Holding, holding, Stands, IsAt, slot_of, can_store, store, lend_taken}
use Rattle.drv_table.specs.declared.content.Endpoint.{Endpoint}
use Rattle.drv_table.specs.declared.content.Transfer.{Transfer}
use Rattle.drv_table.specs.declared.content.Mend.{Mend}
use Rattle.drv_table.specs.declared.content.Command.{Command}
use Rattle.drv_table.specs.declared.content.Command.TheVariants as unfinished
use Rattle.drv_table.specs.declared.rows.DriverRow.{DriverRow}
use Rattle.drv_table.specs.declared.rows.DriverRow.TheVariants as rows
use Rattle.drv_members.specs.Members.{Members}
use Rattle.drv_periodic.specs.declared.work.Store.{Store}
use Rattle.drv_periodic.specs.Periodic.{Periodic, next_store}
use Rattle.drv_periodic_table.specs.declared.content.DescriptorNote.{DescriptorNote}
use Rattle.drv_periodic_table.specs.declared.content.Removed.{Removed}
use Rattle.drv_periodic_table.specs.declared.content.Removed.TheVariants as removed
use Rattle.drv_periodic_table.specs.Periodic.{descriptor_member}
use Rattle.drv_periodic_table.specs.Linking.{new_link, begun_next}
use Rattle.drv_table.specs.DriverContent.{DriverContent}
use Rattle.drv_table.specs.Words.{head_block}
use Rattle.drv_table.specs.Parts.{Parts}
use Rattle.drv_table.specs.Kinds.{is_iso}
use Rattle.drv_table.specs.Commands.{events_of, links, removes_members, leave_ring, leave_frames, removal_of, no_command, finished, list_after, or_finished, linked_on, advanced_by, advance}
use Rattle.drv_table.specs.FrameChoice.{framed_notes, with_notes, placement_at, framed_by, linked_descriptors, linked_by}
use Rattle.drv_table.specs.Rows.{driver_row, after_driver_row}
use Rattle.drv_table.specs.Releases.{after_transfer, after_endpoint, freed_by, free_qtds, free_endpoint, cancel_told}
use Rattle.drv_table.specs.Removals.{stored_link, descriptor_leaving, after_unlink, after_descriptor, after_placed, after_removed, free_descriptor, free_placed}
use Rattle.claims_driver.specs.Owners.{Owner, FrameList, Head, QueueHead, HasBlocks, HasRun, SlotHas, IsPlaced}
use Rattle.law_driver.specs.run_owners.Due.{IsDue}
use Rattle.claims_driver.specs.Leaving.{HasOwners}
use Rattle.law_driver.proofs.lemmas.run_owners.Orders.{times_both, set_case}
use Rattle.law_driver.proofs.lemmas.run_owners.Released.{cancel_same}
use Rattle.law_driver.proofs.lemmas.run_owners.Reasons.{each_event_is_due}
use Rattle.law_driver.proofs.lemmas.run_owners.Laws.{events_keep_owners}
use Rattle.law_driver.proofs.lemmas.run_owners.Runs.{placed_run}
use Rattle.claims_driver.specs.Ring.{link_in, IsAmong, first, later}
use Rattle.law_driver.specs.ring_members.Words.{IsPublishing, IsMending, IsRing}
use Rattle.law_driver.specs.in_place.InPlace.{IsSound}
use Rattle.law_driver.proofs.lemmas.ring_members.Links.{RingOf, SameRing}
use Rattle.law_driver.proofs.lemmas.ring_members.Stores.{slots_apart, store_elsewhere}
use Rattle.law_driver.proofs.lemmas.ring_members.Freed.{LeavesRest, lent_words, rest_qtds, rest_endpoint, rest_descriptor, rest_placed}
use Rattle.law_driver.proofs.lemmas.ring_members.Placed.{has_first, queue_run, queue_placed, head_run_there, in_ring_alive, left_alive}
use Rattle.law_driver.proofs.lemmas.ring_members.Harvests.{endpoint_set, harvest_stays, told_stays}
use Rattle.law_driver.proofs.lemmas.ring_members.Events.{ring_back, first_mend, open_store, unlink_store, publish_store, stands_as, block_of, is_element, not_element, chain_never, iso_never, unchain_never, begun_members}
use Rattle.law_driver.proofs.lemmas.ring_members.Aside.{AreApart as ListApart, IsListApart, list_apart}
use Rattle.law_driver.proofs.lemmas.ring_members.Lists.{IsApartStore, store_is_apart}
use Rattle.claims_driver.specs.InPlace.{characteristics, capabilities, IsMet, IsFixed, AreFixed}

-- ---- words that stay

-- words 1 and 2 of block b are as before
pub record FixedStay (m n : Mem) (b : ℕ) : Type 0 where
  pub first : word_at n (32 * b + 4) ≡ word_at m (32 * b + 4)
  pub second : word_at n (32 * b + 8) ≡ word_at m (32 * b + 8)

still : (m n : Mem) (b x y : ℕ) → FixedStay m n b → IsFixed m b x y → IsFixed n b x y
still m n b x y stay fixed = record { characteristics = stay.first ∙ fixed.characteristics; capabilities = stay.second ∙ fixed.capabilities }

-- a queue head that may be met wasn't given back
pub met_alive : (d : DriverContent) (e : ℕ) (x : Endpoint) → HasOwners d → slice_get d.endpoints e ≡ Some x → IsMet d e x → is_iso x.desc.kind || x.gone ≡ false
met_alive d e x has here met =
    ⊎_elim (λ (on : x.linked ≡ true). in_ring_alive d e x has.orderly here on)
    (λ (among : IsAmong e (d.rung ++ d.waiting)). (left_alive d e x (d.rung ++ d.waiting) has.orderly (omega (arith, times_both e d.rung d.waiting)) among here).0) met

-- each that may be met now could be met before, and its words are as before
pub fixed_kept : (m n : Mem) (d e : DriverContent) → ((f : ℕ) (x : Endpoint) → slice_get e.endpoints f ≡ Some x → IsMet e f x → (y : Endpoint) × (slice_get d.endpoints f ≡ Some y) × IsMet d f y × (y.queue ≡ x.queue) × (y.desc ≡ x.desc) × FixedStay m n x.queue) → FixedStay m n head_block → AreFixed m d → AreFixed n e
fixed_kept m n d e each head old = record {
  each = λ f x here met.
      let w = each f x here met in
      still m n x.queue (characteristics x.desc) (capabilities x.desc) w.5
      (subst (λ (z : EpDesc). IsFixed m x.queue (characteristics z) (capabilities z)) w.4
      (subst (λ q. IsFixed m q (characteristics w.0.desc) (capabilities w.0.desc)) w.3 (old.each f w.0 w.1 w.2)));
  head = still m n head_block _ _ head old.head;
}

-- the same where the ring is as before
pub fixed_same : (m n : Mem) (d e : DriverContent) → SameRing d.endpoints e.endpoints → ((f : ℕ) → IsAmong f (e.rung ++ e.waiting) → IsAmong f (d.rung ++ d.waiting)) → ((f : ℕ) (x : Endpoint) → slice_get e.endpoints f ≡ Some x → IsMet e f x → FixedStay m n x.queue) → FixedStay m n head_block → AreFixed m d → AreFixed n e
fixed_same m n d e same among words head old =
    fixed_kept m n d e
    (λ f x here met.
    let b = ring_back d.endpoints e.endpoints f x same here in (
      b.endpoint,
      b.here,
      ⊎_elim (λ (on : x.linked ≡ true). inl (ap (λ (r : RingOf). r.linked) b.same ∙ on)) (λ (a : IsAmong f (e.rung ++ e.waiting)). inr (among f a)) met,
      ap (λ (r : RingOf). r.queue) b.same,
      ap (λ (r : RingOf). r.desc) b.same,
      words f x here met,
    ))
    head old

-- ---- words of other addresses

-- a store to the first word of a run
pub first_leaves : (k : Book) (m : Mem) (b c v : ℕ) → FixedStay m (store k m b (32 * b) v) c
first_leaves k m b c v = record {
  first = maybe m (32 * b) v (32 * c + 4) (can_store (slot_of k.slots b) (32 * b)) (λ same. omega (arith, same));
  second = maybe m (32 * b) v (32 * c + 8) (can_store (slot_of k.slots b) (32 * b)) (λ same. omega (arith, same));
}

mend_leaves : (k : Book) (m : Mem) (w : Mend) (c : ℕ) → IsMending w → FixedStay m (store k m w.queue w.at w.value) c
mend_leaves k m w c mending = record {
  first = maybe m w.at w.value (32 * c + 4) (can_store (slot_of k.slots w.queue) w.at)
      (λ same.
      ⊎_elim (λ (one : w.at ≡ 32 * w.queue + 16). omega (arith, one, same))
      (λ (rest : (w.at ≡ 32 * w.queue + 20) ⊎ (w.at ≡ 32 * w.queue + 24)).
      ⊎_elim (λ (one : w.at ≡ 32 * w.queue + 20). omega (arith, one, same)) (λ (one : w.at ≡ 32 * w.queue + 24). omega (arith, one, same)) rest) mending);
  second = maybe m w.at w.value (32 * c + 8) (can_store (slot_of k.slots w.queue) w.at)
      (λ same.
      ⊎_elim (λ (one : w.at ≡ 32 * w.queue + 16). omega (arith, one, same))
      (λ (rest : (w.at ≡ 32 * w.queue + 20) ⊎ (w.at ≡ 32 * w.queue + 24)).
      ⊎_elim (λ (one : w.at ≡ 32 * w.queue + 20). omega (arith, one, same)) (λ (one : w.at ≡ 32 * w.queue + 24). omega (arith, one, same)) rest) mending);
}

-- the addresses lie in the first block of the run
pub has_fixed : (h : Holding) (b k : ℕ) → k < 32 → Stands h → HasRun (slot_of h.book.slots b) → SlotHas (slot_of h.book.slots b) ((32 * b + k) / 32)
has_fixed h b k below stands run = let e : b ≡ (32 * b + k) / 32 = omega arith in subst (λ j. SlotHas (slot_of h.book.slots b) j) e (has_first h b stands run)

-- what is written to another run
pub other_leaves : (h : Holding) (n : Mem) (c : ℕ) → Stands h → HasRun (slot_of h.book.slots c) → ((other : ℕ) → SlotHas (slot_of h.book.slots c) (other / 32) → word_at n other ≡ word_at h.memory other) → FixedStay h.memory n c
other_leaves h n c stands run same = record {
  first = same (32 * c + 4) (has_fixed h c 4 (omega arith) stands run);
  second = same (32 * c + 8) (has_fixed h c 8 (omega arith) stands run);
}

rest_leaves : (h g : Holding) (c : ℕ) → LeavesRest h g → HasRun (slot_of g.book.slots c) → FixedStay h.memory g.memory c
rest_leaves h g c rest run = record {
  first = rest.words c (32 * c + 4) (has_fixed g c 4 (omega arith) rest.stands run);
  second = rest.words c (32 * c + 8) (has_fixed g c 8 (omega arith) rest.stands run);
}

words_same : (m n : Mem) (c : ℕ) → n.words ≡ m.words → FixedStay m n c
words_same m n c same = record { first = ap (λ ws. slice_index ws ((32 * c + 4) / 4)) same; second = ap (λ ws. slice_index ws ((32 * c + 8) / 4)) same }

-- ---- the command goes on

-- what a command's event leaves of the ring's endpoints: all, or one leaves the ring
pub record GoesBy (d e : DriverContent) : Type 0 where
  pub each : (f : ℕ) (x : Endpoint) → slice_get e.endpoints f ≡ Some x → IsMet e f x → (y : Endpoint) × (slice_get d.endpoints f ≡ Some y) × IsMet d f y × (y.queue ≡ x.queue) × (y.desc ≡ x.desc)

goes_same : (d e : DriverContent) → e.endpoints ≡ d.endpoints → e.rung ≡ d.rung → e.waiting ≡ d.waiting → GoesBy d e
goes_same d e xs rs ws = record {
  each = λ f x here met. (
    x,
    sym (ap (λ (ys : List Endpoint). slice_get ys f) xs) ∙ here,
    ⊎_elim (λ (on : x.linked ≡ true). inl on)
        (λ (a : IsAmong f (e.rung ++ e.waiting)). inr (subst (λ (vs : List ℕ). IsAmong f (d.rung ++ vs)) ws (subst (λ (vs : List ℕ). IsAmong f (vs ++ e.waiting)) rs a))) met,
    refl,
    refl,
  );
}

among_last : (f g : ℕ) (es : List ℕ) → IsAmong f es → es ≡ g ∷ [] → f ≡ g
among_last f g [] among is = elim among [ ]
among_last f g (h ∷ es) (first _) is = cc
among_last f g (h ∷ es) (later _ _ rest) is = none es rest (ap (drop 1) is)
  where
    none : (ks : List ℕ) → IsAmong f ks → ks ≡ [] → f ≡ g
    none [] a e = elim a [ ]
    none (k ∷ ks) a e = absurd (cc)

among_back : (f g : ℕ) (es : List ℕ) → f ≢ g → IsAmong f (es ++ g ∷ []) → IsAmong f es
among_back f g [] differs among = absurd (differs (among_last f g (g ∷ []) among refl))
among_back f g (h ∷ es) differs (first _) = first es
among_back f g (h ∷ es) differs (later _ _ rest) = later h es (among_back f g es differs rest)

goes_left : (d : DriverContent) (e : ℕ) (o : Option Endpoint) → slice_get d.endpoints e ≡ o → GoesBy d (leave_ring d e o)
goes_left d e None here = goes_same d d refl refl refl
goes_left d e (Some x) here = at x.linked refl
  where
    at : (b : Bool) → x.linked ≡ b → GoesBy d (cond b (record d { waiting = d.waiting ++ e ∷ []; endpoints = set d.endpoints e (record x { linked = false }) }) d)
    at true on = record {
      each = λ f z there met.
          ⊎_elim
          (λ (same : f ≡ e).
          let is : z ≡ record x { linked = false } = same_Some z (record x { linked = false }) (sym there ∙ ap (slice_get (set d.endpoints e (record x { linked = false }))) same ∙ set_here d.endpoints e x (record x { linked = false }) here) in
          (x, ap (slice_get d.endpoints) same ∙ here, inl on, ap (λ (v : Endpoint). v.queue) (sym is), ap (λ (v : Endpoint). v.desc) (sym is)))
          (λ (differs : f ≢ e). (
            z,
            sym (set_there d.endpoints e f (record x { linked = false }) differs) ∙ there,
            ⊎_elim (λ (l : z.linked ≡ true). inl l)
                (λ (a : IsAmong f (d.rung ++ (d.waiting ++ e ∷ []))).
                inr (among_back f e (d.rung ++ d.waiting) differs (subst (λ (es : List ℕ). IsAmong f es) (sym (append_assoc d.rung d.waiting (e ∷ []))) a))) met,
            refl,
            refl,
          )) (cases_eq f e);
    }
    at false off = goes_same d d refl refl refl

goes_both : (d e f : DriverContent) → GoesBy d e → GoesBy e f → GoesBy d f
goes_both d e f one two = record {
  each = λ i x here met.
      let w = two.each i x here met in
      let v = one.each i w.0 w.1 w.2 in
      (v.0, v.1, v.2, v.3 ∙ w.3, v.4 ∙ w.4);
}

-- the endpoint left its frames
goes_framed : (d : DriverContent) (e : ℕ) (o : Option Endpoint) → slice_get d.endpoints e ≡ o → GoesBy d (leave_frames d e o)
goes_framed d e None here = goes_same d d refl refl refl
goes_framed d e (Some x) here = at x.chained
  where
    at : (b : Bool) → GoesBy d (cond b (record d { endpoints = set d.endpoints e (record x { chained = false }); periodic = record d.periodic { removals = d.periodic.removals ++ removal_of (removed.Endpoint e) ∷ [] } }) d)
    at true = record {
      each = λ f z there met.
          set_case (λ j (v : Endpoint). IsMet d j v → (u : Endpoint) × (slice_get d.endpoints j ≡ Some u) × IsMet d j u × (u.queue ≡ v.queue) × (u.desc ≡ v.desc)) d.endpoints e f x (record x { chained = false }) z here there
          (λ m2. (x, here, m2, refl, refl))
          (λ differs was m2. (z, was, m2, refl, refl)) met;
    }
    at false = goes_same d d refl refl refl

goes_done : (d : DriverContent) (c : Command) → GoesBy d (finished d c)
goes_done d (unfinished.Unlink e b link) = record { each = (goes_left (no_command d) e (slice_get d.endpoints e) refl).each }
goes_done d (unfinished.Unchain e) = record { each = (goes_framed (no_command d) e (slice_get d.endpoints e) refl).each }
goes_done d _ = goes_same d (no_command d) refl refl refl

goes_either : (d x y : DriverContent) (b : Bool) → GoesBy d x → GoesBy d y → GoesBy d (cond b x y)
goes_either d x y true one two = one
goes_either d x y false one two = two

pub goes_or_done : (d : DriverContent) (c : Command) → GoesBy d (or_finished d c)
goes_or_done d c = goes_either d (finished d c) d (is_none d.periodic.list.work) (goes_done d c) (goes_same d d refl refl refl)

goes_linked : (d : DriverContent) (c : Command) → GoesBy d (linked_on d c)
goes_linked d c =
    let e = record d { made = length (events_of c); periodic = begun_next (removes_members c) (record d.periodic { list = list_after d c }) } in
    goes_both d e (linked_on d c) (goes_same d e refl refl refl) (goes_or_done e c)

goes_on : (d : DriverContent) → GoesBy d (advance d)
goes_on d = by d.command
  where
    by : (o : Option Command) → GoesBy d (advanced_by d o)
    by None = goes_same d d refl refl refl
    by (Some c) =
        goes_either d (record d { made = suc d.made }) (cond (links c) (linked_on d c) (finished d c)) (nat_lt (suc d.made) (length (events_of c))) (goes_same d _ refl refl refl)
        (goes_either d (linked_on d c) (finished d c) (links c) (goes_linked d c) (goes_done d c))

goes_noted : (d : DriverContent) (n : ℕ) (o : Option Command) → GoesBy d (framed_by d n o)
goes_noted d n (Some (unfinished.Iso e t count)) =
    let f = with_notes d n (take count (drop t d.transfers)) (framed_notes d n e t count (placement_at d e)) in
    goes_both d f (advance f) (goes_same d f refl refl refl) (goes_on f)
goes_noted d n _ = goes_same d d refl refl refl

-- ---- each row

pub fixed_by : (m n : Mem) (d e : DriverContent) → GoesBy d e → ((f : ℕ) (x : Endpoint) → slice_get d.endpoints f ≡ Some x → IsMet d f x → FixedStay m n x.queue) → FixedStay m n head_block → AreFixed m d → AreFixed n e
fixed_by m n d e goes words head old =
    fixed_kept m n d e
    (λ f x here met.
    let w = goes.each f x here met in
    (w.0, w.1, w.2, w.3, w.4, subst (λ q. FixedStay m n q) w.3 (words f w.0 w.1 w.2)))
    head old

-- the queue heads that may be met, and the head, have runs
met_run : (d : DriverContent) (f : ℕ) (x : Endpoint) → HasOwners d → slice_get d.endpoints f ≡ Some x → IsMet d f x → HasRun (slot_of d.book.slots x.queue)
met_run d f x has here met = queue_run d f x has here (met_alive d f x has here met)

-- a store of the command
store_leaves : (p : Parts) (c : Command) (b at v : ℕ) → p.driver.command ≡ Some c → slice_get (events_of c) p.driver.made ≡ Some (rows.Store b at v) → Stands (holding p.driver.book p.memory) → (has : HasOwners p.driver) → IsRing (link_in p.memory) p.driver → (q : ℕ) (o : Owner) → IsPlaced (slot_of p.driver.book.slots) has.owner q o → is_element o ≡ false → FixedStay p.memory (store p.driver.book p.memory b at v) q
unfolding is_element
store_leaves p (unfinished.Open f) b at v is next stands has old q o placed off =
    let s = open_store f p.driver.made b at v next in
    subst (λ k. FixedStay p.memory (store p.driver.book p.memory k at v) q) (sym s.1.0.0)
    (subst (λ k. FixedStay p.memory (store p.driver.book p.memory head_block k v) q) (sym s.1.0.1) (first_leaves p.driver.book p.memory head_block q v))
store_leaves p (unfinished.Publish f words) b at v is next stands has old q o placed off =
    let d = p.driver in
    let h = holding d.book p.memory in
    let u = subst (λ k. IsPublishing (link_in p.memory) d.endpoints d.transfers k) (sym (publish_store f words d.made b at v next)) (stands_as (link_in p.memory) d (unfinished.Publish f words) is old) in
    let here = block_of d has (link_in p.memory) b u in
    other_leaves h (store d.book p.memory b at v) q stands (placed_run q o placed)
    (λ other inside. store_elsewhere d.book p.memory b q at v other (slots_apart h stands) (λ same. not_element u.number o off (sym placed.owned ∙ ap has.owner same ∙ here.owned)) inside)
store_leaves p (unfinished.Unlink e f link) b at v is next stands has old q o placed off =
    let s = unlink_store e f link p.driver.made b at v next in
    subst (λ k. FixedStay p.memory (store p.driver.book p.memory k at v) q) (sym s.1.0.0)
    (subst (λ k. FixedStay p.memory (store p.driver.book p.memory f k v) q) (sym s.1.0.1) (first_leaves p.driver.book p.memory f q v))
store_leaves p unfinished.Chain b at v is next stands has old q o placed off = absurd (chain_never p.driver.made b at v next)
store_leaves p (unfinished.Iso e t count) b at v is next stands has old q o placed off = absurd (iso_never e t count p.driver.made b at v next)
store_leaves p (unfinished.Unchain e) b at v is next stands has old q o placed off = absurd (unchain_never e p.driver.made b at v next)

is_list : Owner → Bool
is_list FrameList = true
is_list _ = false

-- a store of the frame list
link_leaves : (k : Book) (m : Mem) (b at v q : ℕ) → ((b ≡ 0) × (at < 4096)) ⊎ (at ≡ 32 * b) → 128 ≤ q → FixedStay m (store k m b at v) q
link_leaves k m b at v q where_is past =
    ⊎_elim
    (λ (w : (b ≡ 0) × (at < 4096)).
    record {
      first = maybe m at v (32 * q + 4) (can_store (slot_of k.slots b) at) (λ same. omega (arith, same, w.1, past));
      second = maybe m at v (32 * q + 8) (can_store (slot_of k.slots b) at) (λ same. omega (arith, same, w.1, past));
    })
    (λ (w : at ≡ 32 * b). subst (λ k2. FixedStay m (store k m b k2 v) q) (sym w) (first_leaves k m b q v)) where_is

-- no other run begins in the frame list, which has 128 blocks
pub past_list : (h : Holding) (owner : ℕ → Owner) (q : ℕ) (o : Owner) → Stands h → IsPlaced (slot_of h.book.slots) owner 0 FrameList → IsPlaced (slot_of h.book.slots) owner q o → o ≢ FrameList → 128 ≤ q
past_list h owner q o stands list placed differs =
    ⊎_elim
    (λ (inside : q < 128).
    absurd (slots_apart h stands 0 q q (λ same. differs (sym placed.owned ∙ ap owner same ∙ list.owned)) (in_list (slot_of h.book.slots 0) q (stands.placed 0) list.run inside) (has_first h q stands (placed_run q o placed))))
    (λ (past : 128 ≤ q). past) (cases_lt q 128)
  where
    in_list : (s : Slot) (k : ℕ) → IsAt 0 s → HasBlocks 128 s → k < 128 → SlotHas s k
    in_list Empty k at long below = long
    in_list (Keeps r) k at long below = has_block_from r k (omega (arith, at.0)) (omega (arith, at.0, long, below))
    in_list (Lends r) k at long below = has_block_from r k (omega (arith, at.0)) (omega (arith, at.0, long, below))

-- a store of the frame list, or of a member's link
stored_leaves : (p : Parts) (s : Store) → IsApartStore p.driver s.block s.at → Stands (holding p.driver.book p.memory) → (has : HasOwners p.driver) → (q : ℕ) (o : Owner) → IsPlaced (slot_of p.driver.book.slots) has.owner q o → o ≢ FrameList → FixedStay p.memory (store p.driver.book p.memory s.block s.at s.value) q
stored_leaves p s apart stands has q o placed differs =
    link_leaves p.driver.book p.memory s.block s.at s.value q
    (⊎_elim (λ (w : (s.block ≡ 0) × (s.at < 4096)). inl w) (λ (w : HasRun (slot_of p.driver.book.slots s.block) × (s.at ≡ 32 * s.block)). inr w.1) apart.there)
    (past_list (holding p.driver.book p.memory) has.owner q o stands has.owned.each.list placed differs)

-- what is stored of a list's stores, if anything
maybe_leaves : (p : Parts) (list : Periodic) (o : Option Store) → next_store list ≡ o → list.list ≡ 0 → ListApart p.driver list.members.schedule → Stands (holding p.driver.book p.memory) → (has : HasOwners p.driver) → (q : ℕ) (w : Owner) → IsPlaced (slot_of p.driver.book.slots) has.owner q w → w ≢ FrameList → FixedStay p.memory (stored_link p.driver.book p.memory o) q
maybe_leaves p list None next begins apart stands has q w placed differs = words_same p.memory p.memory q refl
maybe_leaves p list (Some s) next begins apart stands has q w placed differs = stored_leaves p s (store_is_apart p.driver list s has begins apart next) stands has q w placed differs

-- the links of new descriptors are their first words
described_leaves : (k : Book) (list : Periodic) (notes : List DescriptorNote) (ts : List Transfer) (m : Mem) (q : ℕ) → FixedStay m (linked_descriptors k list notes ts m) q
unfolding linked_descriptors
described_leaves k list notes [] m q = words_same m m q refl
described_leaves k list notes (y ∷ ts) m q =
    let v = new_link list (descriptor_member notes y.first) in
    let rest = described_leaves k list notes ts (store k m y.first (32 * y.first) v) q in
    let one = first_leaves k m y.first q v in
    record { first = rest.first ∙ one.first; second = rest.second ∙ one.second }

linked_leaves : (d : DriverContent) (m : Mem) (o : Option Command) (q : ℕ) → FixedStay m (linked_by d m o) q
linked_leaves d m (Some (unfinished.Iso e t count)) q = described_leaves d.book d.periodic.list d.periodic.notes (take count (drop t d.transfers)) m q
linked_leaves d m _ q = words_same m m q refl

then_lent : (m n o : Mem) (q : ℕ) → FixedStay m n q → o.words ≡ n.words → FixedStay m o q
then_lent m n o q one same = let two = words_same n o q same in record { first = two.first ∙ one.first; second = two.second ∙ one.second }

descriptor_fixed : (p : Parts) (t : ℕ) (o : Option Transfer) → Stands (holding p.driver.book p.memory) → IsShaped p.memory → HasOwners (after_descriptor p t o).driver → AreFixed p.memory p.driver → AreFixed (after_descriptor p t o).memory (after_descriptor p t o).driver
descriptor_fixed p t None stands shape after old = old
descriptor_fixed p t (Some x) stands shape after old =
    let h = holding p.driver.book p.memory in
    let g = free_descriptor p.driver.periodic.notes h x.first in
    let rest = rest_descriptor p.driver.periodic.notes h x.first stands shape in
    fixed_same p.memory g.memory p.driver _ (λ i. refl) (λ f a. a) (λ f y here met. rest_leaves h g y.queue rest (met_run _ f y after here met)) (rest_leaves h g head_block rest (head_run_there _ after)) old

placed_fixed : (p : Parts) (e : ℕ) (o : Option Endpoint) → slice_get p.driver.endpoints e ≡ o → Stands (holding p.driver.book p.memory) → IsShaped p.memory → HasOwners (after_placed p e o).driver → AreFixed p.memory p.driver → AreFixed (after_placed p e o).memory (after_placed p e o).driver
placed_fixed p e None here stands shape after old = old
placed_fixed p e (Some x) here stands shape after old =
    let d = p.driver in
    let h = holding d.book p.memory in
    let g = free_placed d e x h in
    let told = cancel_told d p.memory e x in
    let s = told_stays d p.memory e x in
    let there : slice_get told.endpoints e ≡ Some x = ap (λ (xs : List Endpoint). slice_get xs e) (cancel_same d p.memory e x).endpoints ∙ here in
    let rest = rest_placed d e x h stands shape in
    fixed_same p.memory g.memory d _ (λ i. endpoint_set told.endpoints e x (record x { gone = true }) there refl i ∙ s.endpoints i)
    (λ f a. subst (λ (vs : List ℕ). IsAmong f (d.rung ++ vs)) s.waiting (subst (λ (vs : List ℕ). IsAmong f (vs ++ told.waiting)) s.rung a))
    (λ f y at met. rest_leaves h g y.queue rest (met_run _ f y after at met)) (rest_leaves h g head_block rest (head_run_there _ after)) old

removed_fixed : (p : Parts) (what : Removed) → Stands (holding p.driver.book p.memory) → IsShaped p.memory → HasOwners (after_removed p what).driver → AreFixed p.memory p.driver → AreFixed (after_removed p what).memory (after_removed p what).driver
removed_fixed p (removed.Descriptor t) stands shape after old = descriptor_fixed p t (slice_get p.driver.transfers t) stands shape after old
removed_fixed p (removed.Endpoint e) stands shape after old = placed_fixed p e (slice_get p.driver.endpoints e) refl stands shape after old

unlinked_fixed : (p : Parts) (t : ℕ) (o : Option Transfer) → Stands (holding p.driver.book p.memory) → (has : HasOwners p.driver) → IsListApart p.driver → AreFixed p.memory p.driver → AreFixed (after_unlink p t o).memory (after_unlink p t o).driver
unfolding is_list
unlinked_fixed p t None stands has apart old = old
unlinked_fixed p t (Some x) stands has apart old =
    let d = p.driver in
    let list = descriptor_leaving d x in
    let same = begun_members d.periodic.list (descriptor_member d.periodic.notes x.first) in
    let members = subst (λ (k : Members). ListApart d k.schedule) (sym same.1) apart.members in
    let stays : (q : ℕ) (w : Owner) → IsPlaced (slot_of d.book.slots) has.owner q w → is_list w ≡ false → FixedStay p.memory (stored_link d.book p.memory (next_store list)) q = λ q w placed none.
    maybe_leaves p list (next_store list) refl (same.0 ∙ apart.list) members stands has q w placed (λ is. false≢true (sym none ∙ ap is_list is)) in
    fixed_same p.memory (stored_link d.book p.memory (next_store list)) d _ (λ i. refl) (λ f a. a)
    (λ f y here met. stays y.queue (QueueHead f) (queue_placed d f y has here (met_alive d f y has here met)) refl)
    (stays head_block Head has.owned.each.head refl) old

transfer_fixed : (p : Parts) (t : ℕ) (o : Option Transfer) → Stands (holding p.driver.book p.memory) → IsShaped p.memory → HasOwners (after_transfer p t o (freed_by p.driver (holding p.driver.book p.memory) o)).driver → AreFixed p.memory p.driver → AreFixed (after_transfer p t o (freed_by p.driver (holding p.driver.book p.memory) o)).memory (after_transfer p t o (freed_by p.driver (holding p.driver.book p.memory) o)).driver
transfer_fixed p t None stands shape after old = old
transfer_fixed p t (Some x) stands shape after old =
    let h = holding p.driver.book p.memory in
    let g = free_qtds p.driver.notes h x.first x.qtds in
    let rest = rest_qtds p.driver.notes h x.first x.qtds stands shape in
    fixed_same p.memory g.memory p.driver _ (λ i. refl) (λ f a. a) (λ f y here met. rest_leaves h g y.queue rest (met_run _ f y after here met)) (rest_leaves h g head_block rest (head_run_there _ after)) old

endpoint_fixed : (p : Parts) (e : ℕ) (o : Option Endpoint) → slice_get p.driver.endpoints e ≡ o → Stands (holding p.driver.book p.memory) → IsShaped p.memory → HasOwners (after_endpoint p e o).driver → AreFixed p.memory p.driver → AreFixed (after_endpoint p e o).memory (after_endpoint p e o).driver
endpoint_fixed p e None here stands shape after old = old
endpoint_fixed p e (Some x) here stands shape after old =
    let d = p.driver in
    let h = holding d.book p.memory in
    let g = free_endpoint d e x h in
    let told = cancel_told d p.memory e x in
    let s = told_stays d p.memory e x in
    let there : slice_get told.endpoints e ≡ Some x = ap (λ (xs : List Endpoint). slice_get xs e) (cancel_same d p.memory e x).endpoints ∙ here in
    let rest = rest_endpoint d e x h stands shape in
    fixed_same p.memory g.memory d _ (λ i. endpoint_set told.endpoints e x (record x { gone = true }) there refl i ∙ s.endpoints i)
    (λ f a. subst (λ (vs : List ℕ). IsAmong f (d.rung ++ vs)) s.waiting (subst (λ (vs : List ℕ). IsAmong f (vs ++ told.waiting)) s.rung a))
    (λ f y at met. rest_leaves h g y.queue rest (met_run _ f y after at met)) (rest_leaves h g head_block rest (head_run_there _ after)) old

-- what a row stores, where it is a store of a command
stored_by : Book → Mem → DriverRow → Mem
stored_by k m (rows.Store b at v) = store k m b at v
stored_by k m _ = m

pub row_fixed : (row : DriverRow) (p : Parts) → IsDue p row → Stands (holding p.driver.book p.memory) → IsShaped p.memory → HasOwners p.driver → HasOwners (after_driver_row row p).driver → IsListApart p.driver → IsRing (link_in p.memory) p.driver → AreFixed p.memory p.driver → AreFixed (after_driver_row row p).memory (after_driver_row row p).driver
unfolding is_element is_list stored_by
row_fixed rows.Lend p due stands shape has after apart ring old =
    let h = holding p.driver.book p.memory in
    fixed_by p.memory (lend_taken h).memory p.driver _ (record { each = (goes_on (record p.driver { book = (lend_taken h).book })).each }) (λ f x here met. words_same p.memory (lend_taken h).memory x.queue (lent_words h)) (words_same p.memory (lend_taken h).memory head_block (lent_words h)) old
row_fixed (rows.Store b at v) p (inr due) stands shape has after apart ring old =
    let d = p.driver in
    let s = due.store in
    let is = store_is_apart d d.periodic.list s has apart.list apart.members due.next in
    let stays : (q : ℕ) (w : Owner) → IsPlaced (slot_of d.book.slots) has.owner q w → is_list w ≡ false → FixedStay p.memory (store d.book p.memory b at v) q = λ q w placed none.
    subst (λ (row : DriverRow). FixedStay p.memory (stored_by d.book p.memory row) q) (sym due.is) (stored_leaves p s is stands has q w placed (λ e. false≢true (sym none ∙ ap is_list e))) in
    fixed_by p.memory (store d.book p.memory b at v) d (advance d) (goes_on d)
    (λ f x here met. stays x.queue (QueueHead f) (queue_placed d f x has here (met_alive d f x has here met)) refl)
    (stays head_block Head has.owned.each.head refl) old
row_fixed (rows.Store b at v) p (inl due) stands shape has after apart ring old =
    let d = p.driver in
    fixed_by p.memory (store d.book p.memory b at v) d (advance d) (goes_on d)
    (λ f x here met. store_leaves p due.command b at v due.unfinished due.next stands has ring x.queue (QueueHead f) (queue_placed d f x has here (met_alive d f x has here met)) refl)
    (store_leaves p due.command b at v due.unfinished due.next stands has ring head_block Head has.owned.each.head refl) old
row_fixed (rows.Mend w) p due stands shape has after apart ring old =
    let mending = first_mend p.driver.mends w due.1 ring.mends in
    fixed_same p.memory _ p.driver _ (λ i. refl) (λ f a. a) (λ f x here met. mend_leaves p.driver.book p.memory w x.queue mending) (mend_leaves p.driver.book p.memory w head_block mending) old
row_fixed rows.Frames p due stands shape has after apart ring old =
    fixed_by p.memory p.memory p.driver _ (goes_noted p.driver p.registers.frame_index p.driver.command) (λ f x here met. words_same p.memory p.memory x.queue refl) (words_same p.memory p.memory head_block refl) old
row_fixed rows.LendDescriptors p due stands shape has after apart ring old =
    let m = linked_by p.driver p.memory p.driver.command in
    let h = holding p.driver.book m in
    fixed_by p.memory (lend_taken h).memory p.driver _ (record { each = (goes_on (record p.driver { book = (lend_taken h).book })).each })
    (λ f x here met. then_lent p.memory m (lend_taken h).memory x.queue (linked_leaves p.driver p.memory p.driver.command x.queue) (lent_words h))
    (then_lent p.memory m (lend_taken h).memory head_block (linked_leaves p.driver p.memory p.driver.command head_block) (lent_words h)) old
row_fixed (rows.Unlink t) p due stands shape has after apart ring old = unlinked_fixed p t (slice_get p.driver.transfers t) stands has apart old
row_fixed (rows.ReleaseRemoved what) p due stands shape has after apart ring old = removed_fixed p what stands shape after old
row_fixed (rows.ReleaseTransfer t) p due stands shape has after apart ring old = transfer_fixed p t (slice_get p.driver.transfers t) stands shape after old
row_fixed (rows.ReleaseEndpoint e) p due stands shape has after apart ring old = endpoint_fixed p e (slice_get p.driver.endpoints e) refl stands shape after old
row_fixed rows.ClearAdvance p due stands shape has after apart ring old =
    fixed_same p.memory p.memory p.driver _ (λ i. refl) (λ f a. among_later f p.driver.rung p.driver.waiting a) (λ f x here met. words_same p.memory p.memory x.queue refl) (words_same p.memory p.memory head_block refl) old
row_fixed rows.RingBell p due stands shape has after apart ring old =
    fixed_same p.memory p.memory p.driver _ (λ i. refl) (λ f a. subst (λ (es : List ℕ). IsAmong f es) (append_none (p.driver.rung ++ p.driver.waiting)) a) (λ f x here met. words_same p.memory p.memory x.queue refl) (words_same p.memory p.memory head_block refl) old
row_fixed (rows.Harvest e t found) p due stands shape has after apart ring old =
    let s = harvest_stays p.driver p.memory e t found (slice_get p.driver.endpoints e) (slice_get p.driver.transfers t) refl in
    fixed_same p.memory p.memory p.driver (after_driver_row (rows.Harvest e t found) p).driver s.endpoints
    (λ f a. subst (λ (vs : List ℕ). IsAmong f (p.driver.rung ++ vs)) s.waiting (subst (λ (vs : List ℕ). IsAmong f (vs ++ (after_driver_row (rows.Harvest e t found) p).driver.waiting)) s.rung a))
    (λ f x here met. words_same p.memory p.memory x.queue refl) (words_same p.memory p.memory head_block refl) old
row_fixed _ p due stands shape has after apart ring old = record { each = old.each; head = old.head }

pub events_keep_the_fixed_words : (p : Parts) → IsSound p.memory p.driver → AreFixed p.memory p.driver → AreFixed (after_driver_row (driver_row p) p).memory (after_driver_row (driver_row p) p).driver
events_keep_the_fixed_words p sound old =
    row_fixed (driver_row p) p (each_event_is_due p) sound.stands sound.shape sound.owners (events_keep_owners p sound.owners) (list_apart p.driver p.memory sound.stands sound.shape sound.owners sound.listed) sound.ring old
