-- Descriptors are lent with their links, and the first begins to be linked.
use Rattle.std.proofs.Common.{◌≡◌, ◌≢◌, ℕ, zero, suc, ◌+◌, ◌-◌, ◌*◌, ◌/◌, ◌<◌, ◌≤◌, Bool, true, false, cond, if◌then◌else◌, List, [], ◌∷◌, length, take, drop, slice_get, slice_index, nat_eq, Option, Some, None, inr, ap, refl, sym, subst, ◌∙◌, ⊎_elim, arith}
use Rattle.std.specs.Prelude.{is_none, not, ◌&&◌, nat_lt, option_map}
use Rattle.std.specs.List.{AllByRecursion}
use Rattle.std.proofs.lemmas.Bool.{false≢true, cases_eq, lt-ltb}
use Rattle.std.proofs.lemmas.List.{get_or-set_same}
use Rattle.std.proofs.lemmas.Option.{same_Some, slice_get_within, slice_get-map}
use Rattle.law_driver.proofs.Common.{stored_many, all_got}
use Rattle.law_frame_list.proofs.Common.{dropped_at}
use Rattle.law_common.proofs.Lists.{all_more}
use Rattle.word_mem.specs.Memory.{Mem, word_at, with_word}
use Rattle.mem_runs.specs.Book.{Book, Holding, holding, slot_of, can_store, store, lend_taken}
use Rattle.drv_chains.specs.declared.members.Descriptor.{Descriptor}
use Rattle.drv_chains.specs.declared.members.QueueHead.{QueueHead as Queue}
use Rattle.drv_chains.specs.declared.members.Member.{Member}
use Rattle.drv_chains.specs.declared.members.Member.TheVariants.{Once}
use Rattle.drv_chains.specs.declared.members.Predecessor.TheVariants.{Element as Frame, After}
use Rattle.drv_chains.specs.Chains.{Schedule, has_name, id_of, chain, first_of, successor}
use Rattle.drv_members.specs.Members.{takes, has_room, with_member, frame_of}
use Rattle.drv_periodic.specs.declared.work.Work.{Work}
use Rattle.drv_periodic.specs.Periodic.{Periodic, link_to, address_of, after_store}
use Rattle.drv_periodic_table.specs.declared.content.DescriptorNote.{DescriptorNote}
use Rattle.drv_periodic_table.specs.Periodic.{note_at, descriptor_member, descriptor_name}
use Rattle.drv_periodic_table.specs.Linking.{may_link, new_link, begun_next}
use Rattle.drv_table.specs.declared.content.Transfer.{Transfer}
use Rattle.drv_table.specs.declared.content.Command.{Command}
use Rattle.drv_table.specs.declared.content.Command.TheVariants as unfinished
use Rattle.drv_table.specs.declared.rows.DriverRow.{DriverRow}
use Rattle.drv_table.specs.declared.rows.DriverRow.TheVariants as rows
use Rattle.drv_table.specs.DriverContent.{DriverContent}
use Rattle.drv_table.specs.Parts.{Parts}
use Rattle.drv_table.specs.Rows.{driver_row, after_driver_row}
use Rattle.drv_table.specs.Commands.{events_of, store_order, advance, advanced_by, linked_on, or_finished, no_command}
use Rattle.drv_table.specs.FrameChoice.{linked_descriptors, linked_by}
use Rattle.claims_driver.specs.Owners.{Described, HasRun, SlotHas}
use Rattle.law_driver.specs.run_owners.Due.{IsDue, IsNextOf}
use Rattle.law_driver.proofs.lemmas.run_owners.Reasons.{each_event_is_due}
use Rattle.law_driver.proofs.lemmas.run_owners.Runs.{placed_run}
use Rattle.law_driver.specs.in_place.InPlace.{IsSound}
use Rattle.law_driver.proofs.lemmas.ring_members.Stores.{AreApart, slots_apart, store_elsewhere}
use Rattle.law_driver.proofs.lemmas.ring_members.Placed.{has_word, can_begin, word_inside}
use Rattle.law_driver.proofs.lemmas.ring_members.Events.{dropped_get}
use Rattle.law_driver.proofs.lemmas.ring_members.Freed.{lent_words}
use Rattle.claims_driver.specs.FrameListMembers.{member_of}
use Rattle.law_driver.specs.listed_members.Members.{is_in_names, to_come, IsStanding, IsQueueOf, IsWaitingOf, IsDescribing}
use Rattle.law_driver.proofs.lemmas.listed_members.Standing.{IsSeen, seen, descriptor_placed, descriptor_block}
use Rattle.law_driver.proofs.lemmas.listed_members.Schedules.{unnamed}
use Rattle.law_driver.proofs.lemmas.listed_members.Unlinks.{seen_block, below_frames}
use Rattle.claims_driver.specs.DueMembers.{HasOneEach}
use Rattle.law_frame_list.proofs.lemmas.list_spread.Spreading.{IsHis, his, slot_has}
use Rattle.law_frame_words.specs.list_words.Spared.{LeavesList}
use Rattle.claims_driver.specs.FrameWords.{ListStands}
use Rattle.law_frame_list.specs.list_driver.Keeping.{LeadsOn, AreLeading, IsToLink, AreToLink}
use Rattle.law_frame_list.proofs.lemmas.list_stands.Listing.{it_stands_where_its_words_are_left}
use Rattle.law_frame_list.proofs.lemmas.list_steps.Stepping.{PeriodicStands, next_stands}
use Rattle.law_frame_list.proofs.lemmas.list_queued.Leading.{AreOnces, new_next, leads_by, next_leads}
use Rattle.law_frame_list.proofs.lemmas.list_queued.Apart.{standing_apart, queue_apart, member_apart, list_apart, way_of, frames_apart, are_onces, named_itself}
use Rattle.law_frame_list.proofs.lemmas.list_queued.Linked.{leads_if}

-- ---- the row of a command with descriptors

record IsIsoLend (c : Command) (made : ℕ) : Type 0 where
  endpoint : ℕ
  first : ℕ
  count : ℕ
  is : c ≡ unfinished.Iso endpoint first count
  at : made ≡ 1

lends_iso : (c : Command) (made : ℕ) → slice_get (events_of c) made ≡ Some rows.LendDescriptors → IsIsoLend c made
lends_iso (unfinished.Open q) zero e = absurd (cc)
lends_iso (unfinished.Open q) (suc zero) e = absurd (cc)
lends_iso (unfinished.Open q) (suc (suc n)) e = absurd (cc)
lends_iso (unfinished.Publish b words) zero e = absurd (cc)
lends_iso (unfinished.Publish b words) (suc n) e =
    absurd (mapped_never (λ i. 32 * b + 4 * i) (λ i. slice_index words i) b (slice_get store_order n) (sym (slice_get-map _ store_order n) ∙ e))
  where
    mapped_never : (f g : ℕ → ℕ) (b : ℕ) (o : Option ℕ) → option_map (λ i. rows.Store b (f i) (g i)) o ≡ Some rows.LendDescriptors → ⊥
    mapped_never f g b None e = cc
    mapped_never f g b (Some i) e = cc
lends_iso (unfinished.Unlink f b link) zero e = absurd (cc)
lends_iso (unfinished.Unlink f b link) (suc n) e = absurd (cc)
lends_iso unfinished.Chain zero e = absurd (cc)
lends_iso unfinished.Chain (suc n) e = absurd (cc)
lends_iso (unfinished.Iso f t count) zero e = absurd (cc)
lends_iso (unfinished.Iso f t count) (suc zero) e = record { endpoint = f; first = t; count = count; is = refl; at = refl }
lends_iso (unfinished.Iso f t count) (suc (suc n)) e = absurd (cc)
lends_iso (unfinished.Unchain f) made e = absurd (cc)

-- ---- links are written

written_here : (k : Book) (m : Mem) (b v : ℕ) → can_store (slot_of k.slots b) (32 * b) ≡ true → 32 * b / 4 < length m.words → word_at (store k m b (32 * b) v) (32 * b) ≡ v
written_here k m b v can inside = ap (λ (t : Bool). word_at (cond t (with_word m (32 * b) v) m) (32 * b)) can ∙ get_or-set_same m.words (32 * b / 4) v 0 inside

links_elsewhere : (k : Book) (l : Periodic) (notes : List DescriptorNote) (ts : List Transfer) (m : Mem) (c at : ℕ) → AreApart k.slots → SlotHas (slot_of k.slots c) (at / 32) → AllByRecursion (λ (t : Transfer). c ≢ t.first) ts → word_at (linked_descriptors k l notes ts m) at ≡ word_at m at
unfolding linked_descriptors
links_elsewhere k l notes [] m c at apart here all = refl
links_elsewhere k l notes (t ∷ ts) m c at apart here all =
    let v = new_link l (descriptor_member notes t.first) in
    links_elsewhere k l notes ts (store k m t.first (32 * t.first) v) c at apart here all.1 ∙ store_elsewhere k m t.first c (32 * t.first) v at apart all.0 here

record CanWrite (k : Book) (m : Mem) (b : ℕ) : Type 0 where
  apart : AreApart k.slots
  has : SlotHas (slot_of k.slots b) (32 * b / 32)
  can : can_store (slot_of k.slots b) (32 * b) ≡ true
  inside : 32 * b / 4 < length m.words

can_still : (k : Book) (m : Mem) (b c at v : ℕ) → CanWrite k m b → CanWrite k (store k m c at v) b
can_still k m b c at v w = record { apart = w.apart; has = w.has; can = w.can; inside = (let n = stored_many k m c at v in let i = w.inside in omega (arith, n, i)) }

-- a link that is written stays, also where another store has the same
link_stays : (k : Book) (l : Periodic) (notes : List DescriptorNote) (ts : List Transfer) (m : Mem) (b : ℕ) → CanWrite k m b → word_at m (32 * b) ≡ new_link l (descriptor_member notes b) → word_at (linked_descriptors k l notes ts m) (32 * b) ≡ new_link l (descriptor_member notes b)
unfolding linked_descriptors
link_stays k l notes [] m b w is = is
link_stays k l notes (t ∷ ts) m b w is =
    let v = new_link l (descriptor_member notes t.first) in
    link_stays k l notes ts (store k m t.first (32 * t.first) v) b (can_still k m b t.first (32 * t.first) v w)
    (⊎_elim
    (λ (same : t.first ≡ b).
    subst (λ (c : ℕ). word_at (store k m c (32 * c) (new_link l (descriptor_member notes c))) (32 * b) ≡ new_link l (descriptor_member notes b)) (sym same) (written_here k m b (new_link l (descriptor_member notes b)) w.can w.inside))
    (λ (differs : t.first ≢ b). store_elsewhere k m t.first b (32 * t.first) v (32 * b) w.apart (λ same. differs (sym same)) w.has ∙ is) (cases_eq t.first b))

link_written : (k : Book) (l : Periodic) (notes : List DescriptorNote) (ts : List Transfer) (m : Mem) (i : ℕ) (y : Transfer) → slice_get ts i ≡ Some y → CanWrite k m y.first → word_at (linked_descriptors k l notes ts m) (32 * y.first) ≡ new_link l (descriptor_member notes y.first)
unfolding linked_descriptors
link_written k l notes [] m i y there w = absurd (cc)
link_written k l notes (t ∷ ts) m zero y there w =
    let v = new_link l (descriptor_member notes t.first) in
    let same : t ≡ y = same_Some t y there in
    link_stays k l notes ts (store k m t.first (32 * t.first) v) y.first (can_still k m y.first t.first (32 * t.first) v w)
    (subst (λ (z : Transfer). word_at (store k m z.first (32 * z.first) (new_link l (descriptor_member notes z.first))) (32 * y.first) ≡ new_link l (descriptor_member notes y.first)) (sym same) (written_here k m y.first (new_link l (descriptor_member notes y.first)) w.can w.inside))
link_written k l notes (t ∷ ts) m (suc i) y there w =
    let v = new_link l (descriptor_member notes t.first) in
    link_written k l notes ts (store k m t.first (32 * t.first) v) i y there (can_still k m y.first t.first (32 * t.first) v w)

-- ---- of each descriptor of the command

taken_get : (n i : ℕ) (ts : List Transfer) (y : Transfer) → i < n → slice_get ts i ≡ Some y → slice_get (take n ts) i ≡ Some y
taken_get zero i ts y small there = absurd (omega (arith, small))
taken_get (suc n) i [] y small there = absurd (cc)
taken_get (suc n) zero (t ∷ ts) y small there = there
taken_get (suc n) (suc i) (t ∷ ts) y small there = taken_get n i ts y (omega (arith, small)) there

pub taken_there : (n f i : ℕ) (ts : List Transfer) (y : Transfer) → i < n → slice_get ts (f + i) ≡ Some y → slice_get (take n (drop f ts)) i ≡ Some y
taken_there n f i ts y small there = taken_get n i (drop f ts) y small (dropped_at f i ts ∙ there)

-- what holds where its row comes next
record IsLending (m : Mem) (d : DriverContent) (e first count : ℕ) : Type 0 where
  is : d.command ≡ Some (unfinished.Iso e first count)
  at : d.made ≡ 1
  sound : IsSound m d
  to : IsToLink d first

abbrev lent_ones : DriverContent → ℕ → ℕ → List Transfer
lent_ones d first count = take count (drop first d.transfers)

blocks_apart : (m : Mem) (d : DriverContent) (e first count c : ℕ) → IsLending m d e first count → ((x : Member) → IsWaitingOf d e first x → is_in_names (id_of x) d.periodic.queued ≡ true → c ≢ id_of x / 32) → AllByRecursion (λ (t : Transfer). c ≢ t.first) (lent_ones d first count)
blocks_apart m d e first count c h others =
    let way : IsDescribing d e first count = way_of d e first count h.is h.sound.listed in
    all_got (λ (t : Transfer). c ≢ t.first) (take count (drop first d.transfers))
    (λ i y there.
    let here : slice_get d.transfers (first + i) ≡ Some y = dropped_get first count d.transfers i y there in
    let z = way.each (first + i) (omega arith) (slice_get_within d.transfers (first + i) y here) in
    let w : IsWaitingOf d e first (member_of d.periodic z.0) = record { number = first + i; placed = z.0; here = z.1.0; later = (omega arith); endpoint = z.1.1.0; waits = z.1.1.1; is = refl } in
    λ same. others (member_of d.periodic z.0) w (h.to.all h.at (first + i) z.0 (omega arith) z.1.0)
    (same ∙ sym (seen_block d.endpoints d.transfers (first + i) y z.0 here z.1.0) ∙ sym (descriptor_block d.periodic z.0.block)))

abbrev linked_now : Mem → DriverContent → ℕ → ℕ → Mem
linked_now m d first count = linked_descriptors d.book d.periodic.list d.periodic.notes (lent_ones d first count) m

lend_leaves : (m : Mem) (d : DriverContent) (e first count : ℕ) → IsLending m d e first count → LeavesList d.periodic.list (word_at m) (word_at (linked_now m d first count))
lend_leaves m d e first count h (Frame f) its =
    let at : address_of d.periodic.list.list (Frame f) ≡ 32 * 0 + 4 * f = ap (λ (l : ℕ). address_of l (Frame f)) h.sound.listed.list.list in
    ap (word_at (linked_descriptors d.book d.periodic.list d.periodic.notes (lent_ones d first count) m)) at
    ∙ links_elsewhere d.book d.periodic.list d.periodic.notes (lent_ones d first count) m 0 (32 * 0 + 4 * f) (slots_apart (holding d.book m) h.sound.stands)
    (slot_has (slot_of d.book.slots 0) 0 128 ((32 * 0 + 4 * f) / 32) (h.sound.stands.placed 0) h.sound.owners.owned.each.list.run (omega arith) (omega (arith, its)))
    (blocks_apart m d e first count 0 h (λ x w named. list_apart d e first x h.sound.owners w))
    ∙ sym (ap (word_at m) at)
lend_leaves m d e first count h (After y) its =
    let own : IsHis d h.sound.owners.owner (id_of y / 32) = his d y h.sound.owners h.sound.listed its in
    let some = own.run.1.0 in
    links_elsewhere d.book d.periodic.list d.periodic.notes (lent_ones d first count) m (id_of y / 32) (id_of y / 32 * 32) (slots_apart (holding d.book m) h.sound.stands)
    (slot_has (slot_of d.book.slots (id_of y / 32)) (id_of y / 32) own.run.0 (id_of y / 32 * 32 / 32) (h.sound.stands.placed (id_of y / 32)) own.run.1.1 (omega arith) (omega (arith, some)))
    (blocks_apart m d e first count (id_of y / 32) h (λ x w named. member_apart d e first count x h.is h.sound.owners h.sound.listed w named y its))

-- ---- it may be linked

some_named : (id : ℕ) (ms : List Member) → is_in_names id ms ≡ true → 1 ≤ length ms
some_named id [] named = absurd (false≢true named)
some_named id (x ∷ xs) named = omega arith

may_be : (m : Mem) (d : DriverContent) (e first count : ℕ) (k : Descriptor) → IsLending m d e first count → IsWaitingOf d e first (Once k) → k.frame < 1024 → is_in_names k.id d.periodic.queued ≡ true → may_link d.periodic.list (Once k) ≡ true
may_be m d e first count k h w small named =
    let l : Periodic = d.periodic.list in
    let s : Schedule = l.members.schedule in
    let listed = h.sound.listed in
    let free : has_name s k.id ≡ false =
    unnamed s k.id
    (all_more (λ (x : Descriptor). IsStanding d (Once x)) (λ (x : Descriptor). x.id ≡ k.id → ⊥) s.descriptors (λ x stands same. standing_apart d e first count (Once k) h.is h.sound.owners w named x stands (ap (λ n. n / 32) same)) listed.list.members.descriptors)
    (all_more (IsQueueOf d) (λ (x : Queue). x.id ≡ k.id → ⊥) s.queues (λ x stands same. queue_apart d e first (Once k) h.sound.owners w x stands (ap (λ n. n / 32) same)) listed.list.members.queues) in
    let come : to_come d.command d.made d.periodic.queued ≡ length d.periodic.queued = ap (λ (o : Option Command). to_come o d.made d.periodic.queued) h.is ∙ ap (λ (n : ℕ). if nat_eq n 0 then count else length d.periodic.queued) h.at in
    let some = some_named k.id d.periodic.queued named in
    let place : has_room l.members (Once k) ≡ true = lt-ltb (length s.descriptors) l.members.descriptor_room (omega (arith, come, some, listed.list.many, listed.list.room)) in
    ap (λ (o : Option Work). is_none o && takes l.members (Once k)) h.to.idle ∙ ap (λ b. b && (not (has_name s k.id) && has_room l.members (Once k))) (below_frames k.frame small)
    ∙ ap (λ b. not b && has_room l.members (Once k)) free ∙ place

-- ---- its link

own_link : (m : Mem) (d : DriverContent) (e first count : ℕ) (x : Member) → IsLending m d e first count → IsWaitingOf d e first x → word_at (linked_now m d first count) (id_of x / 32 * 32) ≡ new_link d.periodic.list x
own_link m d e first count x h w =
    let way : IsDescribing d e first count = way_of d e first count h.is h.sound.listed in
    let s : IsSeen d.endpoints d.transfers w.number w.placed = seen d.endpoints d.transfers w.number w.placed w.here in
    let b = s.transfer.first in
    let within = slice_get_within d.transfers w.number s.transfer s.there in
    let number : first + (w.number - first) ≡ w.number = let later = w.later in omega (arith, later) in
    let there : slice_get (take count (drop first d.transfers)) (w.number - first) ≡ Some s.transfer =
    taken_there count first (w.number - first) d.transfers s.transfer (let all = way.all in let later = w.later in omega (arith, all, within, later)) (ap (slice_get d.transfers) number ∙ s.there) in
    let run : HasRun (slot_of d.book.slots b) =
    subst (λ c. HasRun (slot_of d.book.slots c)) s.block (placed_run w.placed.block (Described (note_at d.periodic.notes w.placed.block).split w.number) (descriptor_placed d w.number w.placed h.sound.owners w.here (inr w.waits))) in
    let member : descriptor_member d.periodic.notes b ≡ x = ap (descriptor_member d.periodic.notes) (sym s.block) ∙ w.is in
    let block : id_of x / 32 ≡ b = ap (λ (y : Member). id_of y / 32) (sym member) ∙ descriptor_block d.periodic b in
    let at : id_of x / 32 * 32 ≡ 32 * b = omega (arith, block) in
    ap (word_at (linked_descriptors d.book d.periodic.list d.periodic.notes (take count (drop first d.transfers)) m)) at
    ∙ link_written d.book d.periodic.list d.periodic.notes (take count (drop first d.transfers)) m (w.number - first) s.transfer there
    (record {
      apart = slots_apart (holding d.book m) h.sound.stands;
      has = has_word (holding d.book m) b h.sound.stands run;
      can = can_begin (holding d.book m) b h.sound.stands run;
      inside = word_inside (holding d.book m) b h.sound.stands h.sound.shape run;
    })
    ∙ ap (new_link d.periodic.list) member

link_is : (p : Periodic) (k : Descriptor) → may_link p (Once k) ≡ true → new_link p (Once k) ≡ link_to (first_of (chain p.members.schedule k.frame))
link_is p k may =
    ap (λ (t : Bool). if t then link_to (successor (with_member p.members.schedule (Once k)) (Once k) k.frame) else 1) may ∙ ap link_to (new_next p.members.schedule k)

one_leads : (m : Mem) (d : DriverContent) (e first count : ℕ) (word : ℕ → ℕ) (x : Member) → IsLending m d e first count → ((at : ℕ) → word at ≡ word_at (linked_now m d first count) at) → IsWaitingOf d e first x → is_in_names (id_of x) d.periodic.queued ≡ true
    → LeadsOn word d.periodic.list x
one_leads m d e first count word x h words w named =
    let b = w.placed.block in
    let k : Descriptor = record { id = descriptor_name (note_at d.periodic.notes b) b; frame = (note_at d.periodic.notes b).frame } in
    let is : Once k ≡ x = w.is in
    let may : may_link d.periodic.list (Once k) ≡ true = may_be m d e first count k h (subst (IsWaitingOf d e first) (sym is) w) (h.sound.listed.list.frames b) (ap (λ (y : Member). is_in_names (id_of y) d.periodic.queued) is ∙ named) in
    words (id_of x / 32 * 32) ∙ own_link m d e first count x h w ∙ ap (new_link d.periodic.list) (sym is) ∙ link_is d.periodic.list k may ∙ ap (λ (y : Member). link_to (first_of (chain d.periodic.list.members.schedule (frame_of y)))) is

all_lead : (m : Mem) (d : DriverContent) (e first count : ℕ) (word : ℕ → ℕ) (xs : List Member) → IsLending m d e first count → ((at : ℕ) → word at ≡ word_at (linked_now m d first count) at) → AllByRecursion (IsWaitingOf d e first) xs
    → AllByRecursion (λ x. is_in_names (id_of x) d.periodic.queued ≡ true) xs → AllByRecursion (LeadsOn word d.periodic.list) xs
all_lead m d e first count word [] h words all named = tt
all_lead m d e first count word (x ∷ xs) h words all named = (one_leads m d e first count word x h words all.0 named.0, all_lead m d e first count word xs h words all.1 named.1)

-- ---- what stands then

-- the first begins to be linked
pub goes_on : (d : DriverContent) (book : Book) (e first count : ℕ) → d.command ≡ Some (unfinished.Iso e first count) → d.made ≡ 1
    → advance (record d { book = book }) ≡ or_finished (record d { book = book; made = 2; periodic = begun_next false d.periodic }) (unfinished.Iso e first count)
goes_on d book e first count is at =
    ap (λ (o : Option Command). advanced_by (record d { book = book }) o) is
    ∙ ap (λ (n : ℕ). if nat_lt (suc n) 2 then record d { book = book; made = suc d.made } else linked_on (record d { book = book }) (unfinished.Iso e first count)) at
    ∙ ap (λ (n : ℕ). or_finished (record d { book = book; made = 2; periodic = begun_next false (record d.periodic { list = if nat_lt n 2 then d.periodic.list else after_store d.periodic.list }) }) (unfinished.Iso e first count)) at

stands_if : (m : Mem) (g : DriverContent) (e first count : ℕ) → ListStands m g → ListStands m (or_finished g (unfinished.Iso e first count))
stands_if m g e first count old = by (is_none g.periodic.list.work)
  where
    by : (b : Bool) → ListStands m (if b then no_command g else g)
    by true = record { order = old.order; words = old.words }
    by false = old

same_words : (m : Mem) (d : DriverContent) (e first count : ℕ) → IsLending m d e first count → (at : ℕ) → word_at (lend_taken (holding d.book (linked_by d m d.command))).memory at ≡ word_at (linked_now m d first count) at
same_words m d e first count h at =
    ap (λ (ws : List ℕ). slice_index ws (at / 4)) (lent_words (holding d.book (linked_by d m d.command))) ∙ ap (λ (o : Option Command). word_at (linked_by d m o) at) h.is

record StandsThen (p : Parts) : Type 0 where
  list : ListStands p.memory p.driver → ListStands (after_driver_row rows.LendDescriptors p).memory (after_driver_row rows.LendDescriptors p).driver
  queued : AreLeading (after_driver_row rows.LendDescriptors p).memory (after_driver_row rows.LendDescriptors p).driver

stands_then : (p : Parts) (e first count : ℕ) → IsLending p.memory p.driver e first count → HasOneEach p.driver → StandsThen p
stands_then p e first count h one =
    let d : DriverContent = p.driver in
    let g : Holding = lend_taken (holding d.book (linked_by d p.memory d.command)) in
    let words = same_words p.memory d e first count h in
    let way : IsDescribing d e first count = way_of d e first count h.is h.sound.listed in
    let onces = are_onces d e first d.periodic.queued way.members in
    let on : AllByRecursion (LeadsOn (word_at g.memory) d.periodic.list) d.periodic.queued = all_lead p.memory d e first count (word_at g.memory) d.periodic.queued h words way.members (named_itself d.periodic.queued) in
    let made : 1 ≤ d.made = let at = h.at in omega (arith, at) in
    let new : DriverContent = record d { book = g.book; made = 2; periodic = begun_next false d.periodic } in
    record {
      list = λ old.
          subst (ListStands g.memory) (sym (goes_on d g.book e first count h.is h.at))
          (let left : ListStands g.memory d = it_stands_where_its_words_are_left d p.memory g.memory (λ w its. words (address_of d.periodic.list.list w) ∙ lend_leaves p.memory d e first count h w its) old in
          let now : PeriodicStands (word_at g.memory) (begun_next false d.periodic).list =
          next_stands (word_at g.memory) false d.periodic (record { order = left.order; words = left.words })
          (λ x xs queued adds may.
          leads_by (word_at g.memory) d.periodic.list x (subst AreOnces queued onces).0 (subst (λ (ms : List Member). AllByRecursion (LeadsOn (word_at g.memory) d.periodic.list) ms) queued on).0 may) in
          stands_if g.memory new e first count (record { order = now.order; words = now.words }));
      queued =
          subst (AreLeading g.memory) (sym (goes_on d g.book e first count h.is h.at))
          (leads_if g.memory new e first count
          (next_leads (word_at g.memory) d.periodic (frames_apart d e first count d.periodic.queued h.is made one way.members way.once) onces on));
    }

lending : (p : Parts) → driver_row p ≡ rows.LendDescriptors → IsSound p.memory p.driver → HasOneEach p.driver → AreToLink p.driver → StandsThen p
lending p is sound one to =
    let due : IsNextOf p rows.LendDescriptors = subst (IsDue p) is (each_event_is_due p) in
    let i : IsIsoLend due.command p.driver.made = lends_iso due.command p.driver.made due.next in
    let unfinished_is : p.driver.command ≡ Some (unfinished.Iso i.endpoint i.first i.count) = due.unfinished ∙ ap Some i.is in
    stands_then p i.endpoint i.first i.count
    (record { is = unfinished_is; at = i.at; sound = sound; to = to i.endpoint i.first i.count unfinished_is (let at = i.at in omega (arith, at)) }) one

pub lend_stands : (p : Parts) → driver_row p ≡ rows.LendDescriptors → IsSound p.memory p.driver → HasOneEach p.driver → AreToLink p.driver → ListStands p.memory p.driver
    → ListStands (after_driver_row (driver_row p) p).memory (after_driver_row (driver_row p) p).driver
lend_stands p is sound one to old =
    subst (λ (r : DriverRow). ListStands (after_driver_row r p).memory (after_driver_row r p).driver) (sym is) ((lending p is sound one to).list old)

pub lend_leads : (p : Parts) → driver_row p ≡ rows.LendDescriptors → IsSound p.memory p.driver → HasOneEach p.driver → AreToLink p.driver → AreLeading (after_driver_row (driver_row p) p).memory (after_driver_row (driver_row p) p).driver
lend_leads p is sound one to = subst (λ (r : DriverRow). AreLeading (after_driver_row r p).memory (after_driver_row r p).driver) (sym is) (lending p is sound one to).queued
