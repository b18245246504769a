-- Each event of the driver keeps the ring standing for its content.
use Rattle.std.proofs.Common.{◌≡◌, ◌≢◌, ℕ, zero, suc, ◌+◌, ◌*◌, ◌/◌, ◌≤◌, Bool, true, false, ◌||◌, cond, nat_lt, List, [], ◌∷◌, ◌++◌, length, take, drop, set, slice_get, slice_index, Option, Some, None, option_map, ap, sym, subst, ◌∙◌, ⊎_elim, inl, inr, refl, arith, append_assoc}
use Rattle.std.specs.Prelude.{◌⊎◌, is_none}
use Rattle.std.specs.List.{AllByRecursion}
use Rattle.std.proofs.lemmas.Bool.{cases_eq, false≢true}
use Rattle.std.proofs.lemmas.Option.{same_Some, slice_get-map}
use Rattle.std.proofs.lemmas.List.{get_or-set_other}
use Rattle.law_common.proofs.Lists.{append_none, set_here, set_there}
use Rattle.law_driver.proofs.Common.{pushed, newest_get, all_got, lend_never, stored_as, ring_queue, get_drop}
use Rattle.word_mem.specs.Memory.{Mem, IsShaped, with_word}
use Rattle.mem_runs.specs.Book.{Book, Holding, holding, Stands, slot_of, can_store, store, lend_taken}
use Rattle.mem_runs.specs.declared.slots.Slot.{Slot}
use Rattle.drv_table.specs.declared.content.Endpoint.{Endpoint}
use Rattle.drv_table.specs.declared.content.Transfer.{Transfer}
use Rattle.drv_table.specs.declared.content.Mend.{Mend}
use Rattle.drv_table.specs.declared.content.Command.{Command}
use Rattle.drv_table.specs.declared.content.Command.TheVariants as unfinished
use Rattle.drv_table.specs.declared.rows.DriverRow.{DriverRow}
use Rattle.drv_table.specs.declared.rows.DriverRow.TheVariants as rows
use Rattle.drv_chains.specs.declared.members.Member.{Member}
use Rattle.drv_members.specs.Members.{Members}
use Rattle.drv_periodic.specs.declared.work.Store.{Store}
use Rattle.drv_periodic.specs.Periodic.{Periodic, next_store, removing}
use Rattle.drv_periodic_table.specs.declared.content.DescriptorNote.{DescriptorNote}
use Rattle.drv_periodic_table.specs.declared.content.Removed.{Removed}
use Rattle.drv_periodic_table.specs.declared.content.Removed.TheVariants as removed
use Rattle.drv_periodic_table.specs.Periodic.{is_periodic, descriptor_member}
use Rattle.drv_periodic_table.specs.Linking.{may_unlink, unlinking, new_link, begun_next}
use Rattle.drv_table.specs.DriverContent.{DriverContent}
use Rattle.drv_table.specs.Words.{head_block, queue_head_link}
use Rattle.drv_table.specs.Accepting.{oldest_of}
use Rattle.drv_table.specs.Parts.{Parts}
use Rattle.drv_table.specs.Kinds.{is_iso}
use Rattle.drv_table.specs.Commands.{store_order, events_of, links, removes_members, leave_ring, leave_frames, no_command, removal_of, finished, list_after, or_finished, linked_on, advanced_by, advance}
use Rattle.drv_table.specs.FrameChoice.{framed_notes, with_notes, placement_at, framed_by, linked_descriptors, linked_by}
use Rattle.drv_table.specs.Rows.{driver_row, after_driver_row}
use Rattle.drv_table.specs.Releases.{after_transfer, after_endpoint, freed_by, free_qtds, free_endpoint, cancel_told}
use Rattle.drv_table.specs.Removals.{stored_link, descriptor_leaving, after_unlink, after_descriptor, after_placed, after_removed, free_descriptor, free_placed}
use Rattle.law_driver.proofs.lemmas.run_owners.Runs.{placed_run}
use Rattle.claims_driver.specs.Owners.{Owner, Head, QueueHead, Element, Described, HasRun, SlotHas, IsPlaced, NoteRuns, ArePieces, runs_of_transfer, note_in}
use Rattle.claims_driver.specs.Leaving.{IsOrderly, HasOwners}
use Rattle.law_driver.specs.run_owners.Due.{IsDue, IsNextOf, IsLinkOf}
use Rattle.law_driver.proofs.lemmas.run_owners.Orders.{times_both}
use Rattle.law_driver.proofs.lemmas.run_owners.Released.{cancel_same}
use Rattle.law_driver.proofs.lemmas.run_owners.Laws.{events_keep_owners}
use Rattle.law_driver.proofs.lemmas.run_owners.Reasons.{each_event_is_due}
use Rattle.claims_driver.specs.Ring.{link_in}
use Rattle.law_driver.specs.ring_members.Words.{AreLinked, AreLeaving, IsOpening, IsUnlinking, IsPublishing, IsDescribing, StandsFor, IsMending, IsRing}
use Rattle.law_driver.specs.in_place.InPlace.{IsSound}
use Rattle.law_driver.proofs.lemmas.ring_members.Aside.{IsOffRing, AreApart as ListApart, IsListApart, list_apart}
use Rattle.law_driver.proofs.lemmas.ring_members.Lists.{store_is_apart}
use Rattle.law_driver.proofs.lemmas.ring_members.Links.{RingOf, ring_of, SameRing, LeadsTo, linked_kept, linked_same, passed, joined, oldest_is, oldest_not}
use Rattle.law_driver.proofs.lemmas.ring_members.Stores.{AreApart, slots_apart, store_elsewhere}
use Rattle.law_driver.proofs.lemmas.ring_members.Freed.{LeavesRest, lent_words, rest_qtds, rest_endpoint, rest_descriptor, rest_placed}
use Rattle.law_driver.proofs.lemmas.ring_members.Leaving.{same_go_on, leaving_kept, leaving_rest, leaving_more, LeavesOne, link_at, last_leaves}
use Rattle.law_driver.proofs.lemmas.ring_members.Placed.{has_word, has_queue, left_ring, linked_alive, stored_here, stored_there, in_ring_alive, queue_placed, queue_run, head_run_there, queue_off_head, queues_apart, ring_distinct, left_alive}
use Rattle.law_driver.proofs.lemmas.ring_members.Harvests.{endpoint_set, all_rest, told_stays, harvest_stays}

-- ---- the words of queue heads stay

-- each run that is left has its first word as before
abbrev pub KeepsFirsts : DriverContent → (ℕ → ℕ) → (ℕ → ℕ) → Type 0
KeepsFirsts e word now = (c : ℕ) → HasRun (slot_of e.book.slots c) → now c ≡ word c

pub linked_still : (word now : ℕ → ℕ) (e : DriverContent) (b : ℕ) → HasOwners e → KeepsFirsts e word now → AreLinked word b e.endpoints → AreLinked now b e.endpoints
linked_still word now e b has keeps linked =
    linked_kept word now b e.endpoints (λ i x here on. keeps x.queue (queue_run e i x has here (in_ring_alive e i x has.orderly here on))) (keeps head_block (head_run_there e has)) linked

pub record RingBack (xs : List Endpoint) (f : ℕ) (x : Endpoint) : Type 0 where
  pub endpoint : Endpoint
  pub here : slice_get xs f ≡ Some endpoint
  pub same : ring_of endpoint ≡ ring_of x

ring_back_at : (xs : List Endpoint) (f : ℕ) (x : Endpoint) (o : Option Endpoint) → slice_get xs f ≡ o → Some (ring_of x) ≡ option_map ring_of o → RingBack xs f x
ring_back_at xs f x None here e = absurd (cc)
ring_back_at xs f x (Some y) here e = record { endpoint = y; here = here; same = sym (same_Some (ring_of x) (ring_of y) e) }

pub ring_back : (xs ys : List Endpoint) (f : ℕ) (x : Endpoint) → SameRing xs ys → slice_get ys f ≡ Some x → RingBack xs f x
ring_back xs ys f x same here = ring_back_at xs f x (slice_get xs f) refl (sym (ap (option_map ring_of) here) ∙ same f)

-- bulk and control endpoints that weren't cancelled are in the ring
abbrev pub AreKept : List Endpoint → Type 0
AreKept xs = (f : ℕ) (x : Endpoint) → slice_get xs f ≡ Some x → is_periodic x.desc.kind ≡ false → x.cancelled ≡ false → x.linked ≡ true

pub kept_still : (xs ys : List Endpoint) → SameRing xs ys → AreKept xs → AreKept ys
kept_still xs ys same kept f x here ring fresh =
    let b = ring_back xs ys f x same here in
    ap (λ (r : RingOf). r.linked) (sym b.same) ∙ kept f b.endpoint b.here (ap (λ (r : RingOf). is_periodic r.desc.kind) b.same ∙ ring) (ap (λ (r : RingOf). r.cancelled) b.same ∙ fresh)

pub leaving_still : (word now : ℕ → ℕ) (xs : List Endpoint) (e : DriverContent) → HasOwners e → KeepsFirsts e word now → SameRing xs e.endpoints → AreLeaving word xs (e.rung ++ e.waiting) → AreLeaving now e.endpoints (e.rung ++ e.waiting)
leaving_still word now xs e has keeps same all =
    leaving_kept word now xs e.endpoints (e.rung ++ e.waiting) (same_go_on xs e.endpoints same)
    (λ f y among here.
    let g = same_go_on xs e.endpoints same f y here in
    let l = left_alive e f g.endpoint (e.rung ++ e.waiting) has.orderly (omega (arith, times_both f e.rung e.waiting)) among g.here in
    ap now (sym g.queue) ∙ keeps g.endpoint.queue (queue_run e f g.endpoint has g.here l.0) ∙ ap word g.queue)
    all

-- where no command is unfinished, and nothing of the ring changes
pub idle_ring : (word now : ℕ → ℕ) (d e : DriverContent) → d.command ≡ None → e.command ≡ None → HasOwners e → KeepsFirsts e word now → SameRing d.endpoints e.endpoints → AreLeaving word d.endpoints (e.rung ++ e.waiting) → AllByRecursion IsMending e.mends → IsRing word d → IsRing now e
idle_ring word now d e idle none has keeps same leaving mends old =
    let linked : AreLinked word head_block d.endpoints = subst (λ (o : Option Command). StandsFor word d.endpoints d.transfers o) idle old.ring in
    record {
      ring = subst (λ (o : Option Command). StandsFor now e.endpoints e.transfers o) (sym none) (linked_still word now e head_block has keeps (linked_same word head_block d.endpoints e.endpoints same linked));
      leaving = leaving_still word now d.endpoints e has keeps same leaving;
      mends = mends;
      kept = kept_still d.endpoints e.endpoints same old.kept;
    }

unfoldable pub is_element : Owner → Bool
is_element (Element t) = true
is_element _ = false

-- ---- the command goes on

advance_by : (P : DriverContent → Type 0) (d : DriverContent) (c : Command) → d.command ≡ Some c → (nat_lt (suc d.made) (length (events_of c)) ≡ true → P (record d { made = suc d.made })) → (nat_lt (suc d.made) (length (events_of c)) ≡ false → P (cond (links c) (linked_on d c) (finished d c))) → P (advance d)
advance_by P d c is one two = subst (λ (o : Option Command). P (advanced_by d o)) (sym is) (at (nat_lt (suc d.made) (length (events_of c))) refl)
  where
    at : (b : Bool) → nat_lt (suc d.made) (length (events_of c)) ≡ b → P (cond b (record d { made = suc d.made }) (cond (links c) (linked_on d c) (finished d c)))
    at true e = one e
    at false e = two e

-- the ring, with the words of all queue heads as before, goes on standing for the same command
same_command : (word now : ℕ → ℕ) (d : DriverContent) (n : ℕ) → (StandsFor word d.endpoints d.transfers d.command → StandsFor now d.endpoints d.transfers d.command) → HasOwners d → KeepsFirsts d word now → IsRing word d → IsRing now (record d { made = n })
same_command word now d n ring has keeps old = record {
  ring = ring old.ring;
  leaving = leaving_still word now d.endpoints d has keeps (λ i. refl) old.leaving;
  mends = old.mends;
  kept = old.kept;
}

-- the command is done, and the endpoints are as before
done_command : (word now : ℕ → ℕ) (d : DriverContent) → AreLinked now head_block d.endpoints → HasOwners d → KeepsFirsts d word now → IsRing word d → IsRing now (no_command d)
done_command word now d ring has keeps old = record {
  ring = ring;
  leaving = leaving_still word now d.endpoints d has keeps (λ i. refl) old.leaving;
  mends = old.mends;
  kept = old.kept;
}

-- ---- the frame list goes on: the ring stays

links_ring : (word : ℕ → ℕ) (xs : List Endpoint) (ts : List Transfer) (c : Command) → links c ≡ true → StandsFor word xs ts (Some c) → AreLinked word head_block xs
links_ring word xs ts unfinished.Chain on s = s
links_ring word xs ts (unfinished.Iso e t count) on s = s.ring
links_ring word xs ts (unfinished.Unchain e) on s = s
links_ring word xs ts _ on s = absurd (false≢true on)

-- the command is done, and no word differs
none_left : (word : ℕ → ℕ) (d : DriverContent) → AreLinked word head_block d.endpoints → IsRing word d → IsRing word (no_command d)
none_left word d ring old = record { ring = ring; leaving = old.leaving; mends = old.mends; kept = old.kept }

frames_left : (word : ℕ → ℕ) (d : DriverContent) (e : ℕ) (o : Option Endpoint) → slice_get d.endpoints e ≡ o → AreLinked word head_block d.endpoints → IsRing word d → IsRing word (leave_frames (no_command d) e o)
frames_left word d e None here ring old = none_left word d ring old
frames_left word d e (Some x) here ring old = at x.chained
  where
    at : (b : Bool) → IsRing word (cond b (record (no_command d) { endpoints = set d.endpoints e (record x { chained = false }); periodic = record d.periodic { removals = d.periodic.removals ++ removal_of (removed.Endpoint e) ∷ [] } }) (no_command d))
    at true =
        let same = endpoint_set d.endpoints e x (record x { chained = false }) here refl in
        record {
          ring = linked_same word head_block d.endpoints (set d.endpoints e (record x { chained = false })) same ring;
          leaving = leaving_kept word word d.endpoints (set d.endpoints e (record x { chained = false })) (d.rung ++ d.waiting) (same_go_on d.endpoints (set d.endpoints e (record x { chained = false })) same) (λ f z among there. refl) old.leaving;
          mends = old.mends;
          kept = kept_still d.endpoints (set d.endpoints e (record x { chained = false })) same old.kept;
        }
    at false = none_left word d ring old

finished_ring : (word : ℕ → ℕ) (d : DriverContent) (c : Command) → links c ≡ true → AreLinked word head_block d.endpoints → IsRing word d → IsRing word (finished d c)
finished_ring word d unfinished.Chain on ring old = none_left word d ring old
finished_ring word d (unfinished.Iso e t count) on ring old = none_left word d ring old
finished_ring word d (unfinished.Unchain e) on ring old = frames_left word d e (slice_get d.endpoints e) refl ring old
finished_ring word d _ on ring old = absurd (false≢true on)

pub or_finished_ring : (word : ℕ → ℕ) (d : DriverContent) (c : Command) → d.command ≡ Some c → links c ≡ true → IsRing word d → IsRing word (or_finished d c)
or_finished_ring word d c is on old = at (is_none d.periodic.list.work)
  where
    at : (b : Bool) → IsRing word (cond b (finished d c) d)
    at true = finished_ring word d c on (links_ring word d.endpoints d.transfers c on (subst (λ (o : Option Command). StandsFor word d.endpoints d.transfers o) is old.ring)) old
    at false = old

linked_on_ring : (word : ℕ → ℕ) (d : DriverContent) (c : Command) → d.command ≡ Some c → links c ≡ true → IsRing word d → IsRing word (linked_on d c)
linked_on_ring word d c is on old =
    or_finished_ring word (record d { made = length (events_of c); periodic = begun_next (removes_members c) (record d.periodic { list = list_after d c }) }) c is on
    (record { ring = old.ring; leaving = old.leaving; mends = old.mends; kept = old.kept })

-- one more event of a command that links members was made
links_on : (word : ℕ → ℕ) (d : DriverContent) (c : Command) → d.command ≡ Some c → links c ≡ true → IsRing word d → IsRing word (advance d)
links_on word d c is on old =
    advance_by (IsRing word) d c is (λ more. record { ring = old.ring; leaving = old.leaving; mends = old.mends; kept = old.kept })
    (λ last. subst (λ b. IsRing word (cond b (linked_on d c) (finished d c))) (sym on) (linked_on_ring word d c is on old))

framed_ring : (word : ℕ → ℕ) (d : DriverContent) (n : ℕ) (o : Option Command) → d.command ≡ o → IsRing word d → IsRing word (framed_by d n o)
framed_ring word d n (Some (unfinished.Iso e t count)) is old =
    let f = with_notes d n (take count (drop t d.transfers)) (framed_notes d n e t count (placement_at d e)) in
    links_on word f (unfinished.Iso e t count) is refl (record { ring = old.ring; leaving = old.leaving; mends = old.mends; kept = old.kept })
framed_ring word d n _ is old = old

-- the words of the ring's queue heads stay
abbrev pub KeepsRing : DriverContent → (ℕ → ℕ) → (ℕ → ℕ) → Type 0
KeepsRing d word now = ((e : ℕ) (x : Endpoint) → slice_get d.endpoints e ≡ Some x → is_periodic x.desc.kind ≡ false → x.gone ≡ false → now x.queue ≡ word x.queue) × (now head_block ≡ word head_block)

pub linked_apart : (word now : ℕ → ℕ) (d : DriverContent) → IsOrderly d → KeepsRing d word now → AreLinked word head_block d.endpoints → AreLinked now head_block d.endpoints
linked_apart word now d order keeps linked =
    linked_kept word now head_block d.endpoints (λ i x here on. let l = linked_alive d i x order here on in keeps.0 i x here l.0 l.1) keeps.1 linked

pub leaving_apart : (word now : ℕ → ℕ) (d : DriverContent) → IsOrderly d → KeepsRing d word now → AreLeaving word d.endpoints (d.rung ++ d.waiting) → AreLeaving now d.endpoints (d.rung ++ d.waiting)
leaving_apart word now d order keeps all =
    leaving_kept word now d.endpoints d.endpoints (d.rung ++ d.waiting) (same_go_on d.endpoints d.endpoints (λ i. refl))
    (λ f y among here.
    let l = left_ring d f y (d.rung ++ d.waiting) order (omega (arith, times_both f d.rung d.waiting)) among here in
    keeps.0 f y here l.0 l.1) all

-- .. while a command links members, or none is unfinished
pub command_apart : (word now : ℕ → ℕ) (d : DriverContent) (c : Command) → links c ≡ true → IsOrderly d → KeepsRing d word now → StandsFor word d.endpoints d.transfers (Some c) → StandsFor now d.endpoints d.transfers (Some c)
command_apart word now d unfinished.Chain on order keeps s = linked_apart word now d order keeps s
command_apart word now d (unfinished.Iso e t count) on order keeps s = record { ring = linked_apart word now d order keeps s.ring; described = s.described }
command_apart word now d (unfinished.Unchain e) on order keeps s = linked_apart word now d order keeps s
command_apart word now d _ on order keeps s = absurd (false≢true on)

ring_apart : (word now : ℕ → ℕ) (d : DriverContent) (c : Command) → d.command ≡ Some c → links c ≡ true → IsOrderly d → KeepsRing d word now → IsRing word d → IsRing now d
ring_apart word now d c is on order keeps old = record {
  ring = subst (λ (o : Option Command). StandsFor now d.endpoints d.transfers o) (sym is)
      (command_apart word now d c on order keeps (subst (λ (o : Option Command). StandsFor word d.endpoints d.transfers o) is old.ring));
  leaving = leaving_apart word now d order keeps old.leaving;
  mends = old.mends;
  kept = old.kept;
}

idle_apart : (word now : ℕ → ℕ) (d : DriverContent) → d.command ≡ None → IsOrderly d → KeepsRing d word now → IsRing word d → IsRing now d
idle_apart word now d idle order keeps old = record {
  ring = subst (λ (o : Option Command). StandsFor now d.endpoints d.transfers o) (sym idle)
      (linked_apart word now d order keeps (subst (λ (o : Option Command). StandsFor word d.endpoints d.transfers o) idle old.ring));
  leaving = leaving_apart word now d order keeps old.leaving;
  mends = old.mends;
  kept = old.kept;
}

-- a store into a run off the ring
pub stored_apart : (p : Parts) (b at v : ℕ) → Stands (holding p.driver.book p.memory) → HasOwners p.driver → IsOffRing p.driver b → KeepsRing p.driver (link_in p.memory) (link_in (store p.driver.book p.memory b at v))
stored_apart p b at v stands has off =
    let d = p.driver in
    let h = holding d.book p.memory in (
      (λ e x here ring alive.
          store_elsewhere d.book p.memory b x.queue at v (32 * x.queue) (slots_apart h stands) (off.endpoints e x here ring alive)
          (has_word h x.queue stands (queue_run d e x has here (has_queue x (ring_queue x.desc.kind ring) alive)))),
      store_elsewhere d.book p.memory b head_block at v (32 * head_block) (slots_apart h stands) off.head (has_word h head_block stands (head_run_there d has)),
    )

-- ---- the links of new descriptors

pub stands_as : (word : ℕ → ℕ) (d : DriverContent) (c : Command) → d.command ≡ Some c → IsRing word d → StandsFor word d.endpoints d.transfers (Some c)
stands_as word d c is old = subst (λ (o : Option Command). StandsFor word d.endpoints d.transfers o) is old.ring

is_described : Owner → Bool
is_described (Described split t) = true
is_described _ = false

described_elsewhere : (k : Book) (list : Periodic) (notes : List DescriptorNote) (ts : List Transfer) (m : Mem) (c : ℕ) → AreApart k.slots → SlotHas (slot_of k.slots c) (32 * c / 32) → AllByRecursion (λ (y : Transfer). c ≢ y.first) ts → link_in (linked_descriptors k list notes ts m) c ≡ link_in m c
unfolding linked_descriptors
described_elsewhere k list notes [] m c apart here differ = refl
described_elsewhere k list notes (y ∷ ts) m c apart here differ =
    let v = new_link list (descriptor_member notes y.first) in
    described_elsewhere k list notes ts (store k m y.first (32 * y.first) v) c apart here differ.1
    ∙ store_elsewhere k m y.first c (32 * y.first) v (32 * c) apart differ.0 here

pub dropped_get : (t n : ℕ) (ts : List Transfer) (i : ℕ) (y : Transfer) → slice_get (take n (drop t ts)) i ≡ Some y → slice_get ts (t + i) ≡ Some y
dropped_get zero zero ts i y there = absurd (cc)
dropped_get zero (suc n) [] i y there = absurd (cc)
dropped_get zero (suc n) (x ∷ ts) zero y there = there
dropped_get zero (suc n) (x ∷ ts) (suc i) y there =
    let e : 0 + suc i ≡ suc (0 + i) = omega arith in
    ap (λ j. slice_get (x ∷ ts) j) e ∙ dropped_get zero n ts i y there
dropped_get (suc t) zero [] i y there = absurd (cc)
dropped_get (suc t) (suc n) [] i y there = absurd (cc)
dropped_get (suc t) n (x ∷ ts) i y there =
    let e : suc t + i ≡ suc (t + i) = omega arith in
    ap (λ j. slice_get (x ∷ ts) j) e ∙ dropped_get t n ts i y there

-- a queue head, or the head, begins in no block of a new descriptor
off_described : (d : DriverContent) (word : ℕ → ℕ) (t n c : ℕ) (o : Owner) → (has : HasOwners d) → IsDescribing word d.endpoints d.transfers t n → IsPlaced (slot_of d.book.slots) has.owner c o → is_described o ≡ false → AllByRecursion (λ (y : Transfer). c ≢ y.first) (take n (drop t d.transfers))
unfolding is_described
off_described d word t n c o has describing placed off =
    all_got (λ (y : Transfer). c ≢ y.first) (take n (drop t d.transfers))
    (λ i y there same.
    let new = describing.described i y there in
    let is = has.owned.each.described (t + i) (runs_of_transfer y) (ap (option_map runs_of_transfer) (dropped_get t n d.transfers i y there)) new.0 new.1 in
    false≢true (sym off ∙ ap is_described (sym placed.owned) ∙ ap (λ k. is_described (has.owner k)) same ∙ ap is_described is.descriptor.owned))

linked_by_apart : (p : Parts) (o : Option Command) → p.driver.command ≡ o → Stands (holding p.driver.book p.memory) → (has : HasOwners p.driver) → IsRing (link_in p.memory) p.driver → KeepsRing p.driver (link_in p.memory) (link_in (linked_by p.driver p.memory o))
unfolding is_described
linked_by_apart p None is stands has old = (λ e x here ring alive. refl, refl)
linked_by_apart p (Some (unfinished.Open q)) is stands has old = (λ e x here ring alive. refl, refl)
linked_by_apart p (Some (unfinished.Publish b words)) is stands has old = (λ e x here ring alive. refl, refl)
linked_by_apart p (Some (unfinished.Unlink e b link)) is stands has old = (λ e x here ring alive. refl, refl)
linked_by_apart p (Some unfinished.Chain) is stands has old = (λ e x here ring alive. refl, refl)
linked_by_apart p (Some (unfinished.Unchain e)) is stands has old = (λ e x here ring alive. refl, refl)
linked_by_apart p (Some (unfinished.Iso e t count)) is stands has old =
    let d = p.driver in
    let h = holding d.book p.memory in
    let s = stands_as (link_in p.memory) d (unfinished.Iso e t count) is old in
    let ts = take count (drop t d.transfers) in (
      (λ f x here ring alive.
          let q = queue_placed d f x has here (has_queue x (ring_queue x.desc.kind ring) alive) in
          described_elsewhere d.book d.periodic.list d.periodic.notes ts p.memory x.queue (slots_apart h stands) (has_word h x.queue stands (placed_run x.queue (QueueHead f) q))
          (off_described d (link_in p.memory) t count x.queue (QueueHead f) has s q refl)),
      described_elsewhere d.book d.periodic.list d.periodic.notes ts p.memory head_block (slots_apart h stands) (has_word h head_block stands (head_run_there d has))
          (off_described d (link_in p.memory) t count head_block Head has s has.owned.each.head refl),
    )

-- only descriptors are lent by that row
lends_descriptors : (c : Command) (made : ℕ) → slice_get (events_of c) made ≡ Some rows.LendDescriptors → links c ≡ true
lends_descriptors (unfinished.Open q) zero e = absurd (cc)
lends_descriptors (unfinished.Open q) (suc zero) e = absurd (cc)
lends_descriptors (unfinished.Open q) (suc (suc n)) e = absurd (cc)
lends_descriptors (unfinished.Publish b words) zero e = absurd (cc)
lends_descriptors (unfinished.Publish b words) (suc n) e =
    absurd (mapped_never (λ i. 32 * b + 4 * i) (λ i. slice_index words i) b (slice_get store_order n) (sym (slice_get-map _ store_order n) ∙ e))
  where
    mapped_never : (f g : ℕ → ℕ) (b : ℕ) (o : Option ℕ) → option_map (λ i. rows.Store b (f i) (g i)) o ≡ Some rows.LendDescriptors → ⊥
    mapped_never f g b None e = cc
    mapped_never f g b (Some i) e = cc
lends_descriptors (unfinished.Unlink e b link) zero f = absurd (cc)
lends_descriptors (unfinished.Unlink e b link) (suc n) f = absurd (cc)
lends_descriptors unfinished.Chain made e = refl
lends_descriptors (unfinished.Iso e t count) made f = refl
lends_descriptors (unfinished.Unchain e) made f = refl

-- ---- lending

lend_first : (q made : ℕ) → slice_get (events_of (unfinished.Open q)) made ≡ Some rows.Lend → made ≡ 0
lend_first q zero e = refl
lend_first q (suc zero) e = absurd (cc)
lend_first q (suc (suc n)) e = absurd (cc)

publishing_ring : (word : ℕ → ℕ) (xs : List Endpoint) (ts : List Transfer) (b : ℕ) → IsPublishing word xs ts b → AreLinked word head_block xs
publishing_ring word xs ts b p = p.ring

lend_ring_by : (word : ℕ → ℕ) (d : DriverContent) (c : Command) → d.command ≡ Some c → slice_get (events_of c) d.made ≡ Some rows.Lend → IsRing word d → IsRing word (advance d)
lend_ring_by word d (unfinished.Open q) is next old =
    advance_by (IsRing word) d (unfinished.Open q) is
    (λ more. record { ring = old.ring; leaving = old.leaving; mends = old.mends; kept = old.kept })
    (λ last. absurd (false≢true (sym last ∙ ap (λ n. nat_lt (suc n) 2) (lend_first q d.made next))))
lend_ring_by word d (unfinished.Publish b words) is next old =
    advance_by (IsRing word) d (unfinished.Publish b words) is
    (λ more. record { ring = old.ring; leaving = old.leaving; mends = old.mends; kept = old.kept })
    (λ last. record { ring = publishing_ring word d.endpoints d.transfers b (subst (λ (o : Option Command). StandsFor word d.endpoints d.transfers o) is old.ring); leaving = old.leaving; mends = old.mends; kept = old.kept })
lend_ring_by word d (unfinished.Unlink f b link) is next old = absurd (lend_never f b link d.made next)
lend_ring_by word d unfinished.Chain is next old = links_on word d unfinished.Chain is refl old
lend_ring_by word d (unfinished.Iso e t count) is next old = links_on word d (unfinished.Iso e t count) is refl old
lend_ring_by word d (unfinished.Unchain e) is next old = links_on word d (unfinished.Unchain e) is refl old

-- ---- storing

pub open_store : (q made b at v : ℕ) → slice_get (events_of (unfinished.Open q)) made ≡ Some (rows.Store b at v) → (made ≡ 1) × (((b ≡ head_block) × (at ≡ 32 * head_block)) × (v ≡ queue_head_link q))
open_store q (suc zero) b at v e = (refl, ((cc, cc), cc))
open_store q _ b at v e = absurd (cc)

pub unlink_store : (f b link made c at v : ℕ) → slice_get (events_of (unfinished.Unlink f b link)) made ≡ Some (rows.Store c at v) → (made ≡ 0) × (((c ≡ b) × (at ≡ 32 * b)) × (v ≡ link))
unlink_store f b link zero c at v e = (refl, ((cc, cc), cc))
unlink_store f b link (suc n) c at v e = absurd (cc)

mapped_store : (f : ℕ → ℕ) (g : ℕ → ℕ) (b c at v : ℕ) (o : Option ℕ) → option_map (λ i. rows.Store b (f i) (g i)) o ≡ Some (rows.Store c at v) → c ≡ b
mapped_store f g b c at v None e = absurd (cc)
mapped_store f g b c at v (Some i) e = let s : rows.Store b (f i) (g i) ≡ rows.Store c at v = same_Some _ _ e in cc

pub publish_store : (b : ℕ) (words : List ℕ) (made c at v : ℕ) → slice_get (events_of (unfinished.Publish b words)) made ≡ Some (rows.Store c at v) → c ≡ b
publish_store b words zero c at v e = absurd (cc)
publish_store b words (suc n) c at v e =
    mapped_store (λ i. 32 * b + 4 * i) (λ i. slice_index words i) b c at v (slice_get store_order n) (sym (slice_get-map _ store_order n) ∙ e)

pub chain_never : (made b at v : ℕ) → slice_get (events_of unfinished.Chain) made ≡ Some (rows.Store b at v) → ⊥
chain_never zero b at v e = cc
chain_never (suc n) b at v e = cc

pub iso_never : (f t count made b at v : ℕ) → slice_get (events_of (unfinished.Iso f t count)) made ≡ Some (rows.Store b at v) → ⊥
iso_never f t count (suc zero) b at v e = cc
iso_never f t count _ b at v e = cc

pub unchain_never : (f made b at v : ℕ) → slice_get (events_of (unfinished.Unchain f)) made ≡ Some (rows.Store b at v) → ⊥
unchain_never f made b at v e = cc

-- -- an open

open_done : (word now : ℕ → ℕ) (d : DriverContent) (q : ℕ) → HasOwners d → IsOpening word d.endpoints q → now head_block ≡ queue_head_link q → ((c : ℕ) → c ≢ head_block → now c ≡ word c) → AreLinked now head_block d.endpoints
open_done word now d q has o head others =
    let get : (i : ℕ) (x : Endpoint) → slice_get o.older i ≡ Some x → slice_get d.endpoints i ≡ Some x = λ i x here. ap (λ (xs : List Endpoint). slice_get xs i) o.all ∙ pushed o.older o.new i x here in
    let new : slice_get d.endpoints (length o.older) ≡ Some o.new = ap (λ (xs : List Endpoint). slice_get xs (length o.older)) o.all ∙ newest_get o.older o.new in
    let off : (i : ℕ) (x : Endpoint) → slice_get d.endpoints i ≡ Some x → x.linked ≡ true → x.queue ≢ head_block = λ i x here on. queue_off_head d i x has here (in_ring_alive d i x has.orderly here on) in
    subst (λ (xs : List Endpoint). AreLinked now head_block xs) (sym o.all)
    (joined word now head_block o.older o.new o.linked
    (λ i x here on. others x.queue (off i x (get i x here) on))
    (others o.new.queue (off (length o.older) o.new new o.linked) ∙ ap word o.here ∙ o.link)
    (head ∙ ap queue_head_link (sym o.here))
    o.ring)

-- -- a cancel

pub leaves_one : (xs : List Endpoint) (e : ℕ) (x : Endpoint) → slice_get xs e ≡ Some x → LeavesOne xs (set xs e (record x { linked = false })) e
leaves_one xs e x here = record {
  itself = λ y at. record { endpoint = record x { linked = false }; here = set_here xs e x (record x { linked = false }) here; queue = ap (λ (z : Endpoint). z.queue) (same_Some x y (sym here ∙ at)) };
  others = λ f y differs at. set_there xs e f (record x { linked = false }) differs ∙ at;
}

unlink_done : (word now : ℕ → ℕ) (d : DriverContent) (e b link : ℕ) (x : Endpoint) → HasOwners d → IsUnlinking word d.endpoints e b link → slice_get d.endpoints e ≡ Some x → x.linked ≡ true → x.cancelled ≡ true → now b ≡ link → ((c : ℕ) → c ≢ b → now c ≡ word c) → IsRing word d → IsRing now (record (no_command d) { waiting = d.waiting ++ e ∷ []; endpoints = set d.endpoints e (record x { linked = false }) })
unlink_done word now d e b link x has u here on cancelled stored others old =
    let y : Endpoint = record x { linked = false } in
    let ys = set d.endpoints e y in
    let one = leaves_one d.endpoints e x here in
    let away : (f : ℕ) (z : Endpoint) → slice_get d.endpoints f ≡ Some z → is_iso z.desc.kind || z.gone ≡ false → (z.linked ≡ false ⊎ (f ≡ e)) → z.queue ≢ b = λ f z there alive out same.
    oldest_not z.queue (drop (suc e) d.endpoints) (λ h. queue_off_head d f z has there alive (sym h))
    (λ i w at also.
    let g : slice_get d.endpoints (suc e + i) ≡ Some w = sym (get_drop d.endpoints (suc e) i) ∙ at in
    queues_apart d (suc e + i) f w z has g (in_ring_alive d (suc e + i) w has.orderly g also) there alive
    (λ k. ⊎_elim
    (λ (off : z.linked ≡ false). false≢true (sym off ∙ ap (λ (v : Endpoint). v.linked) (same_Some z w (sym there ∙ ap (slice_get d.endpoints) (sym k) ∙ g)) ∙ also))
    (λ (itself : f ≡ e). omega (arith, k, itself)) out))
    (sym u.from ∙ sym same) in
    record {
      ring = passed word now head_block d.endpoints e x here on (ring_distinct d has) u.ring (ap now (sym u.from) ∙ stored ∙ u.over) (λ c differs. others c (λ same. differs (same ∙ u.from)));
      leaving = subst (λ (es : List ℕ). AreLeaving now ys es) (append_assoc d.rung d.waiting (e ∷ []))
          (leaving_more word now d.endpoints ys (d.rung ++ d.waiting) e one
          (λ f z among there.
          let l = left_alive d f z (d.rung ++ d.waiting) has.orderly (omega (arith, times_both f d.rung d.waiting)) among there in
          others z.queue (away f z there l.0 (inl l.1)))
          (last_leaves now d.endpoints ys e x here one
          (others x.queue (away e x here (in_ring_alive d e x has.orderly here on) (inr refl)) ∙ link_at word head_block d.endpoints e x here on u.ring))
          old.leaving);
      mends = old.mends;
      kept = λ f z there ring fresh.
          ⊎_elim
          (λ (same : f ≡ e).
          let is = same_Some z y (sym there ∙ ap (slice_get ys) same ∙ set_here d.endpoints e x y here) in
          absurd (false≢true (sym fresh ∙ ap (λ (v : Endpoint). v.cancelled) is ∙ cancelled)))
          (λ (differs : f ≢ e). old.kept f z (sym (set_there d.endpoints e f y differs) ∙ there) ring fresh) (cases_eq f e);
    }

leave_when : (P : DriverContent → Type 0) (d : DriverContent) (e : ℕ) (x : Endpoint) (o : Option Endpoint) → o ≡ Some x → x.linked ≡ true → P (record d { waiting = d.waiting ++ e ∷ []; endpoints = set d.endpoints e (record x { linked = false }) }) → P (leave_ring d e o)
leave_when P d e x o here on p =
    subst (λ (q : Option Endpoint). P (leave_ring d e q)) (sym here)
    (subst (λ (b : Bool). P (cond b (record d { waiting = d.waiting ++ e ∷ []; endpoints = set d.endpoints e (record x { linked = false }) }) d)) (sym on) p)

-- -- each of them

first_piece : (slot : ℕ → Slot) (owner : ℕ → Owner) (note : ℕ → NoteRuns) (t b n : ℕ) → 1 ≤ n → ArePieces slot owner note t b n → IsPlaced slot owner b (Element t)
first_piece slot owner note t b zero some pieces = absurd (omega arith)
first_piece slot owner note t b (suc n) some pieces = pieces.0.element

-- the runs of queue heads are others than that of a transfer's qTD
pub not_element : (t : ℕ) (o : Owner) → is_element o ≡ false → o ≢ Element t
unfolding is_element
not_element t o off same = false≢true (sym off ∙ ap is_element same)

pub block_of : (d : DriverContent) (has : HasOwners d) (word : ℕ → ℕ) (b : ℕ) (u : IsPublishing word d.endpoints d.transfers b) → IsPlaced (slot_of d.book.slots) has.owner b (Element u.number)
block_of d has word b u =
    let pieces = has.owned.each.pieces u.number (runs_of_transfer u.transfer) (ap (option_map runs_of_transfer) u.there) u.released in
    subst (λ k. IsPlaced (slot_of d.book.slots) has.owner k (Element u.number)) u.first
    (first_piece (slot_of d.book.slots) has.owner (note_in d.notes) u.number u.transfer.first u.transfer.qtds u.some pieces)

-- the words of queue heads and of the head stay where a qTD is stored
qtd_stored : (p : Parts) (b at v : ℕ) (t : ℕ) → Stands (holding p.driver.book p.memory) → (has : HasOwners p.driver) → IsPlaced (slot_of p.driver.book.slots) has.owner b (Element t) → (c : ℕ) (o : Owner) → IsPlaced (slot_of p.driver.book.slots) has.owner c o → is_element o ≡ false → link_in (store p.driver.book p.memory b at v) c ≡ link_in p.memory c
qtd_stored p b at v t stands has here c o there off =
    let h = holding p.driver.book p.memory in
    store_elsewhere p.driver.book p.memory b c at v (32 * c) (slots_apart h stands)
    (λ same. not_element t o off (sym there.owned ∙ ap has.owner same ∙ here.owned)) (has_word h c stands (placed_run c o there))

publish_ring : (p : Parts) (b at v : ℕ) → Stands (holding p.driver.book p.memory) → (has : HasOwners p.driver) → IsPublishing (link_in p.memory) p.driver.endpoints p.driver.transfers b → AreLinked (link_in (store p.driver.book p.memory b at v)) head_block p.driver.endpoints
unfolding is_element
publish_ring p b at v stands has u =
    let d = p.driver in
    let here = block_of d has (link_in p.memory) b u in
    linked_kept (link_in p.memory) (link_in (store d.book p.memory b at v)) head_block d.endpoints
    (λ i x there on. qtd_stored p b at v u.number stands has here x.queue (QueueHead i) (queue_placed d i x has there (in_ring_alive d i x has.orderly there on)) refl)
    (qtd_stored p b at v u.number stands has here head_block Head has.owned.each.head refl)
    u.ring

publish_leaving : (p : Parts) (b at v : ℕ) → Stands (holding p.driver.book p.memory) → (has : HasOwners p.driver) → IsPublishing (link_in p.memory) p.driver.endpoints p.driver.transfers b → AreLeaving (link_in p.memory) p.driver.endpoints (p.driver.rung ++ p.driver.waiting) → AreLeaving (link_in (store p.driver.book p.memory b at v)) p.driver.endpoints (p.driver.rung ++ p.driver.waiting)
unfolding is_element
publish_leaving p b at v stands has u all =
    let d = p.driver in
    let here = block_of d has (link_in p.memory) b u in
    leaving_kept (link_in p.memory) (link_in (store d.book p.memory b at v)) d.endpoints d.endpoints (d.rung ++ d.waiting) (same_go_on d.endpoints d.endpoints (λ i. refl))
    (λ f y among there.
    let l = left_alive d f y (d.rung ++ d.waiting) has.orderly (omega (arith, times_both f d.rung d.waiting)) among there in
    qtd_stored p b at v u.number stands has here y.queue (QueueHead f) (queue_placed d f y has there l.0) refl)
    all

open_leaving : (word now : ℕ → ℕ) (d : DriverContent) → HasOwners d → ((c : ℕ) → c ≢ head_block → now c ≡ word c) → AreLeaving word d.endpoints (d.rung ++ d.waiting) → AreLeaving now d.endpoints (d.rung ++ d.waiting)
open_leaving word now d has others all =
    leaving_kept word now d.endpoints d.endpoints (d.rung ++ d.waiting) (same_go_on d.endpoints d.endpoints (λ i. refl))
    (λ f y among there.
    let l = left_alive d f y (d.rung ++ d.waiting) has.orderly (omega (arith, times_both f d.rung d.waiting)) among there in
    others y.queue (queue_off_head d f y has there l.0))
    all

store_ring_by : (p : Parts) (c : Command) (b at v : ℕ) → p.driver.command ≡ Some c → slice_get (events_of c) p.driver.made ≡ Some (rows.Store b at v) → Stands (holding p.driver.book p.memory) → IsShaped p.memory → HasOwners p.driver → IsRing (link_in p.memory) p.driver → IsRing (link_in (store p.driver.book p.memory b at v)) (advance p.driver)
store_ring_by p (unfinished.Open q) b at v is next stands shape has old =
    let d = p.driver in
    let h = holding d.book p.memory in
    let s = open_store q d.made b at v next in
    let o = stands_as (link_in p.memory) d (unfinished.Open q) is old in
    stored_as (λ m. IsRing (link_in m) (advance d)) d.book p.memory b head_block at (32 * head_block) v (queue_head_link q) s.1.0.0 s.1.0.1 s.1.1
    (let now = link_in (store d.book p.memory head_block (32 * head_block) (queue_head_link q)) in
    let others : (c : ℕ) → c ≢ head_block → now c ≡ link_in p.memory c = λ c differs. stored_there d.book p.memory head_block (queue_head_link q) c differs in
    advance_by (IsRing now) d (unfinished.Open q) is
    (λ more. absurd (false≢true (ap (λ n. nat_lt (suc n) 2) (sym s.0) ∙ more)))
    (λ last. record {
      ring = open_done (link_in p.memory) now d q has o (stored_here h head_block (queue_head_link q) stands shape (head_run_there d has)) others;
      leaving = open_leaving (link_in p.memory) now d has others old.leaving;
      mends = old.mends;
      kept = old.kept;
    }))
store_ring_by p (unfinished.Publish f words) b at v is next stands shape has old =
    let d = p.driver in
    let word = link_in p.memory in
    let now = link_in (store d.book p.memory b at v) in
    let u = subst (λ k. IsPublishing word d.endpoints d.transfers k) (sym (publish_store f words d.made b at v next)) (stands_as word d (unfinished.Publish f words) is old) in
    let ring = publish_ring p b at v stands has u in
    let leaving = publish_leaving p b at v stands has u old.leaving in
    advance_by (IsRing now) d (unfinished.Publish f words) is
    (λ more. record {
      ring = subst (λ (o : Option Command). StandsFor now d.endpoints d.transfers o) (sym is)
          (subst (λ k. IsPublishing now d.endpoints d.transfers k) (publish_store f words d.made b at v next)
          (record { ring = ring; number = u.number; transfer = u.transfer; there = u.there; first = u.first; released = u.released; some = u.some }));
      leaving = leaving;
      mends = old.mends;
      kept = old.kept;
    })
    (λ last. record { ring = ring; leaving = leaving; mends = old.mends; kept = old.kept })
store_ring_by p (unfinished.Unlink e f link) b at v is next stands shape has old =
    let d = p.driver in
    let h = holding d.book p.memory in
    let s = unlink_store e f link d.made b at v next in
    let u = stands_as (link_in p.memory) d (unfinished.Unlink e f link) is old in
    stored_as (λ m. IsRing (link_in m) (advance d)) d.book p.memory b f at (32 * f) v link s.1.0.0 s.1.0.1 s.1.1
    (let now = link_in (store d.book p.memory f (32 * f) link) in
    let run : HasRun (slot_of d.book.slots f) =
    subst (λ k. HasRun (slot_of d.book.slots k)) (sym u.from)
    (⊎_elim (λ (head : oldest_of (drop (suc e) d.endpoints) ≡ head_block). subst (λ k. HasRun (slot_of d.book.slots k)) (sym head) (head_run_there d has))
    (λ (l : LeadsTo (drop (suc e) d.endpoints) (oldest_of (drop (suc e) d.endpoints))).
    let at : slice_get d.endpoints (suc e + l.number) ≡ Some l.endpoint = sym (get_drop d.endpoints (suc e) l.number) ∙ l.here in
    subst (λ k. HasRun (slot_of d.book.slots k)) l.queue (queue_run d (suc e + l.number) l.endpoint has at (in_ring_alive d (suc e + l.number) l.endpoint has.orderly at l.linked)))
    (oldest_is (drop (suc e) d.endpoints))) in
    advance_by (IsRing now) d (unfinished.Unlink e f link) is
    (λ more. absurd (false≢true (ap (λ n. nat_lt (suc n) 1) (sym s.0) ∙ more)))
    (λ last. leave_when (IsRing now) (no_command d) e u.endpoint (slice_get d.endpoints e) u.here u.linked
    (unlink_done (link_in p.memory) now d e f link u.endpoint has u u.here u.linked u.cancelled (stored_here h f link stands shape run) (λ c differs. stored_there d.book p.memory f link c differs) old)))
store_ring_by p unfinished.Chain b at v is next stands shape has old = absurd (chain_never p.driver.made b at v next)
store_ring_by p (unfinished.Iso e t count) b at v is next stands shape has old = absurd (iso_never e t count p.driver.made b at v next)
store_ring_by p (unfinished.Unchain e) b at v is next stands shape has old = absurd (unchain_never e p.driver.made b at v next)

-- a store of the frame list
link_ring : (p : Parts) (b at v : ℕ) → IsLinkOf p (rows.Store b at v) → Stands (holding p.driver.book p.memory) → HasOwners p.driver → IsListApart p.driver → IsRing (link_in p.memory) p.driver → IsRing (link_in (store p.driver.book p.memory b at v)) (advance p.driver)
link_ring p b at v is stands has apart old =
    let d = p.driver in
    let same : is.store.block ≡ b = cc in
    let off = subst (IsOffRing d) same (store_is_apart d d.periodic.list is.store has apart.list apart.members is.next).off in
    links_on (link_in (store d.book p.memory b at v)) d is.command is.unfinished is.links
    (ring_apart (link_in p.memory) (link_in (store d.book p.memory b at v)) d is.command is.unfinished is.links has.orderly (stored_apart p b at v stands has off) old)

-- ---- the other rows

mend_word : (k : Book) (m : Mem) (w : Mend) (c : ℕ) → IsMending w → link_in (store k m w.queue w.at w.value) c ≡ link_in m c
mend_word k m w c mending = at (can_store (slot_of k.slots w.queue) w.at)
  where
    apart : 32 * c / 4 ≢ w.at / 4
    apart same =
        ⊎_elim (λ (one : w.at ≡ 32 * w.queue + 16). omega (arith, one, same))
        (λ (rest : (w.at ≡ 32 * w.queue + 20) ⊎ (w.at ≡ 32 * w.queue + 24)).
        ⊎_elim (λ (one : w.at ≡ 32 * w.queue + 20). omega (arith, one, same)) (λ (one : w.at ≡ 32 * w.queue + 24). omega (arith, one, same)) rest) mending

    at : (b : Bool) → link_in (cond b (with_word m w.at w.value) m) c ≡ link_in m c
    at true = get_or-set_other m.words (w.at / 4) (32 * c / 4) w.value 0 apart
    at false = refl

pub first_mend : (ws : List Mend) (w : Mend) → slice_get ws 0 ≡ Some w → AllByRecursion IsMending ws → IsMending w
first_mend [] w here all = absurd (cc)
first_mend (x ∷ ws) w here all = let same : x ≡ w = cc in subst IsMending same all.0

same_leaving : (word : ℕ → ℕ) (xs : List Endpoint) (rs qs ws vs : List ℕ) → qs ≡ rs → vs ≡ ws → AreLeaving word xs (rs ++ ws) → AreLeaving word xs (qs ++ vs)
same_leaving word xs rs qs ws vs one two all =
    subst (λ (us : List ℕ). AreLeaving word xs (us ++ vs)) (sym one) (subst (λ (us : List ℕ). AreLeaving word xs (rs ++ us)) (sym two) all)

-- the first words of the runs that are left
first_words : (h g : Holding) → LeavesRest h g → (c : ℕ) → HasRun (slot_of g.book.slots c) → link_in g.memory c ≡ link_in h.memory c
first_words h g rest c run = rest.words c (32 * c) (has_word g c rest.stands run)

transfer_ring : (p : Parts) (t : ℕ) (o : Option Transfer) → p.driver.command ≡ None → Stands (holding p.driver.book p.memory) → IsShaped p.memory → HasOwners (after_transfer p t o (freed_by p.driver (holding p.driver.book p.memory) o)).driver → IsRing (link_in p.memory) p.driver → IsRing (link_in (after_transfer p t o (freed_by p.driver (holding p.driver.book p.memory) o)).memory) (after_transfer p t o (freed_by p.driver (holding p.driver.book p.memory) o)).driver
transfer_ring p t None idle stands shape after old = old
transfer_ring p t (Some x) idle stands shape after old =
    let h = holding p.driver.book p.memory in
    let g = free_qtds p.driver.notes h x.first x.qtds in
    idle_ring (link_in p.memory) (link_in g.memory) p.driver _ idle idle after (first_words h g (rest_qtds p.driver.notes h x.first x.qtds stands shape)) (λ i. refl) old.leaving old.mends old

endpoint_ring : (p : Parts) (e : ℕ) (o : Option Endpoint) → slice_get p.driver.endpoints e ≡ o → p.driver.command ≡ None → Stands (holding p.driver.book p.memory) → IsShaped p.memory → HasOwners (after_endpoint p e o).driver → IsRing (link_in p.memory) p.driver → IsRing (link_in (after_endpoint p e o).memory) (after_endpoint p e o).driver
endpoint_ring p e None here idle stands shape after old = old
endpoint_ring p e (Some x) here idle stands shape after old =
    let d = p.driver in
    let h = holding d.book p.memory in
    let g = free_endpoint d e x h in
    let told = cancel_told d p.memory e x in
    let s = told_stays d p.memory e x in
    let there : slice_get told.endpoints e ≡ Some x = ap (λ (xs : List Endpoint). slice_get xs e) (cancel_same d p.memory e x).endpoints ∙ here in
    idle_ring (link_in p.memory) (link_in g.memory) d _ idle (s.command ∙ idle) after (first_words h g (rest_endpoint d e x h stands shape))
    (λ i. endpoint_set told.endpoints e x (record x { gone = true }) there refl i ∙ s.endpoints i)
    (same_leaving (link_in p.memory) d.endpoints d.rung _ d.waiting _ s.rung s.waiting old.leaving) (s.mends old.mends) old

descriptor_ring : (p : Parts) (t : ℕ) (o : Option Transfer) → p.driver.command ≡ None → Stands (holding p.driver.book p.memory) → IsShaped p.memory → HasOwners (after_descriptor p t o).driver → IsRing (link_in p.memory) p.driver → IsRing (link_in (after_descriptor p t o).memory) (after_descriptor p t o).driver
descriptor_ring p t None idle stands shape after old = old
descriptor_ring p t (Some x) idle stands shape after old =
    let h = holding p.driver.book p.memory in
    let g = free_descriptor p.driver.periodic.notes h x.first in
    idle_ring (link_in p.memory) (link_in g.memory) p.driver _ idle idle after (first_words h g (rest_descriptor p.driver.periodic.notes h x.first stands shape)) (λ i. refl) old.leaving old.mends old

placed_ring : (p : Parts) (e : ℕ) (o : Option Endpoint) → slice_get p.driver.endpoints e ≡ o → p.driver.command ≡ None → Stands (holding p.driver.book p.memory) → IsShaped p.memory → HasOwners (after_placed p e o).driver → IsRing (link_in p.memory) p.driver → IsRing (link_in (after_placed p e o).memory) (after_placed p e o).driver
placed_ring p e None here idle stands shape after old = old
placed_ring p e (Some x) here idle stands shape after old =
    let d = p.driver in
    let h = holding d.book p.memory in
    let g = free_placed d e x h in
    let told = cancel_told d p.memory e x in
    let s = told_stays d p.memory e x in
    let there : slice_get told.endpoints e ≡ Some x = ap (λ (xs : List Endpoint). slice_get xs e) (cancel_same d p.memory e x).endpoints ∙ here in
    idle_ring (link_in p.memory) (link_in g.memory) d _ idle (s.command ∙ idle) after (first_words h g (rest_placed d e x h stands shape))
    (λ i. endpoint_set told.endpoints e x (record x { gone = true }) there refl i ∙ s.endpoints i)
    (same_leaving (link_in p.memory) d.endpoints d.rung _ d.waiting _ s.rung s.waiting old.leaving) (s.mends old.mends) old

removed_ring : (p : Parts) (what : Removed) → p.driver.command ≡ None → Stands (holding p.driver.book p.memory) → IsShaped p.memory → HasOwners (after_removed p what).driver → IsRing (link_in p.memory) p.driver → IsRing (link_in (after_removed p what).memory) (after_removed p what).driver
removed_ring p (removed.Descriptor t) idle stands shape after old = descriptor_ring p t (slice_get p.driver.transfers t) idle stands shape after old
removed_ring p (removed.Endpoint e) idle stands shape after old = placed_ring p e (slice_get p.driver.endpoints e) refl idle stands shape after old

-- a harvested descriptor is unlinked
unlinked_store : (p : Parts) (list : Periodic) (o : Option Store) → next_store list ≡ o → list.list ≡ 0 → ListApart p.driver list.members.schedule → Stands (holding p.driver.book p.memory) → HasOwners p.driver → KeepsRing p.driver (link_in p.memory) (link_in (stored_link p.driver.book p.memory o))
unlinked_store p list None next begins off stands has = (λ e x here ring alive. refl, refl)
unlinked_store p list (Some s) next begins off stands has = stored_apart p s.block s.at s.value stands has (store_is_apart p.driver list s has begins off next).off

pub begun_members : (list : Periodic) (m : Member) → (((unlinking list m).list ≡ list.list) × ((unlinking list m).members ≡ list.members))
begun_members list m = at (may_unlink list m)
  where
    at : (b : Bool) → (((cond b (removing list m) list).list ≡ list.list) × ((cond b (removing list m) list).members ≡ list.members))
    at true = (refl, refl)
    at false = (refl, refl)

unlinked_ring : (p : Parts) (t : ℕ) (o : Option Transfer) → p.driver.command ≡ None → Stands (holding p.driver.book p.memory) → HasOwners p.driver → IsListApart p.driver → IsRing (link_in p.memory) p.driver → IsRing (link_in (after_unlink p t o).memory) (after_unlink p t o).driver
unlinked_ring p t None idle stands has apart old = old
unlinked_ring p t (Some x) idle stands has apart old =
    let d = p.driver in
    let list = descriptor_leaving d x in
    let m = descriptor_member d.periodic.notes x.first in
    let same = begun_members d.periodic.list m in
    let keeps = unlinked_store p list (next_store list) refl (same.0 ∙ apart.list) (subst (λ (k : Members). ListApart d k.schedule) (sym same.1) apart.members) stands has in
    let now = idle_apart (link_in p.memory) (link_in (stored_link d.book p.memory (next_store list))) d idle has.orderly keeps old in
    record { ring = now.ring; leaving = now.leaving; mends = now.mends; kept = now.kept }

lent_words_ring : (h : Holding) (d : DriverContent) → IsRing (link_in h.memory) d → IsRing (link_in (lend_taken h).memory) d
lent_words_ring h d old = subst (λ (ws : List ℕ). IsRing (λ b. slice_index ws (32 * b / 4)) d) (sym (lent_words h)) old

lend_descriptors_ring : (p : Parts) → IsNextOf p rows.LendDescriptors → Stands (holding p.driver.book p.memory) → HasOwners p.driver → IsRing (link_in p.memory) p.driver → IsRing (link_in (after_driver_row rows.LendDescriptors p).memory) (after_driver_row rows.LendDescriptors p).driver
lend_descriptors_ring p due stands has old =
    let d = p.driver in
    let c = due.command in
    let on = lends_descriptors c d.made due.next in
    let m = linked_by d p.memory d.command in
    let h = holding d.book m in
    let e = record d { book = (lend_taken h).book } in
    let there = ring_apart (link_in p.memory) (link_in m) d c due.unfinished on has.orderly (linked_by_apart p d.command refl stands has old) old in
    lent_words_ring h (advance e) (links_on (link_in m) e c due.unfinished on (record { ring = there.ring; leaving = there.leaving; mends = there.mends; kept = there.kept }))

pub row_ring : (row : DriverRow) (p : Parts) → IsDue p row → Stands (holding p.driver.book p.memory) → IsShaped p.memory → HasOwners p.driver → HasOwners (after_driver_row row p).driver → IsListApart p.driver → IsRing (link_in p.memory) p.driver → IsRing (link_in (after_driver_row row p).memory) (after_driver_row row p).driver
row_ring rows.Lend p due stands shape has after apart old =
    let h = holding p.driver.book p.memory in
    let d = record p.driver { book = (lend_taken h).book } in
    subst (λ (ws : List ℕ). IsRing (λ b. slice_index ws (32 * b / 4)) (advance d)) (sym (lent_words h))
    (lend_ring_by (link_in p.memory) d due.command due.unfinished due.next (record { ring = old.ring; leaving = old.leaving; mends = old.mends; kept = old.kept }))
row_ring (rows.Store b at v) p (inl due) stands shape has after apart old = store_ring_by p due.command b at v due.unfinished due.next stands shape has old
row_ring (rows.Store b at v) p (inr due) stands shape has after apart old = link_ring p b at v due stands has apart old
row_ring rows.Frames p due stands shape has after apart old = framed_ring (link_in p.memory) p.driver p.registers.frame_index p.driver.command refl old
row_ring rows.LendDescriptors p due stands shape has after apart old = lend_descriptors_ring p due stands has old
row_ring (rows.Unlink t) p due stands shape has after apart old = unlinked_ring p t (slice_get p.driver.transfers t) due.idle stands has apart old
row_ring (rows.ReleaseRemoved what) p due stands shape has after apart old = removed_ring p what due.idle stands shape after old
row_ring (rows.Mend w) p due stands shape has after apart old =
    idle_ring (link_in p.memory) _ p.driver _ due.0 due.0 after (λ c run. mend_word p.driver.book p.memory w c (first_mend p.driver.mends w due.1 old.mends)) (λ i. refl) old.leaving (all_rest p.driver.mends old.mends) old
row_ring (rows.ReleaseTransfer t) p due stands shape has after apart old = transfer_ring p t (slice_get p.driver.transfers t) due.idle stands shape after old
row_ring (rows.ReleaseEndpoint e) p due stands shape has after apart old = endpoint_ring p e (slice_get p.driver.endpoints e) refl due.idle stands shape after old
row_ring rows.ClearAdvance p due stands shape has after apart old =
    idle_ring (link_in p.memory) (link_in p.memory) p.driver _ due.0 due.0 after (λ c run. refl) (λ i. refl) (leaving_rest (link_in p.memory) p.driver.endpoints p.driver.rung p.driver.waiting old.leaving) old.mends old
row_ring rows.RingBell p due stands shape has after apart old =
    idle_ring (link_in p.memory) (link_in p.memory) p.driver _ due.0 due.0 after (λ c run. refl) (λ i. refl)
    (subst (λ (es : List ℕ). AreLeaving (link_in p.memory) p.driver.endpoints es) (sym (append_none (p.driver.rung ++ p.driver.waiting))) old.leaving) old.mends old
row_ring (rows.Harvest e t found) p due stands shape has after apart old =
    let s = harvest_stays p.driver p.memory e t found (slice_get p.driver.endpoints e) (slice_get p.driver.transfers t) refl in
    idle_ring (link_in p.memory) (link_in p.memory) p.driver _ due.idle (s.command ∙ due.idle) after (λ c run. refl) s.endpoints
    (same_leaving (link_in p.memory) p.driver.endpoints p.driver.rung _ p.driver.waiting _ s.rung s.waiting old.leaving) (s.mends old.mends) old
row_ring _ p due stands shape has after apart old = record { ring = old.ring; leaving = old.leaving; mends = old.mends; kept = old.kept }

pub events_keep_the_ring : (p : Parts) → IsSound p.memory p.driver → IsRing (link_in (after_driver_row (driver_row p) p).memory) (after_driver_row (driver_row p) p).driver
events_keep_the_ring p sound =
    row_ring (driver_row p) p (each_event_is_due p) sound.stands sound.shape sound.owners (events_keep_owners p sound.owners) (list_apart p.driver p.memory sound.stands sound.shape sound.owners sound.listed) sound.ring
