-- The links of a frame list stay, and those of a driver's are among its structures.
use Rattle.std.proofs.Common.{◌≡◌, ℕ, ◌+◌, ◌*◌, ◌/◌, Bool, true, false, not, ◌||◌, List, [], ◌∷◌, slice_get, Option, Some, option_map, ap, refl, sym, subst, ◌∙◌, ⊎_elim, inl, inr, arith}
use Rattle.std.specs.Prelude.{◌⊎◌}
use Rattle.std.specs.List.{AllByRecursion}
use Rattle.std.proofs.lemmas.Bool.{false≢true, and_parts, cases_Bool}
use Rattle.std.proofs.lemmas.Option.{same_Some}
use Rattle.law_common.proofs.Booleans.{not_on}
use Rattle.word_mem.specs.Runs.{Run}
use Rattle.word_mem.specs.Memory.{Mem, word_at, is_lent, reaches}
use Rattle.mem_runs.specs.declared.slots.Slot.{Slot}
use Rattle.mem_runs.specs.declared.slots.Slot.TheVariants as slots
use Rattle.mem_runs.specs.Book.{holding, slot_of, Stands}
use Rattle.mem_runs.proofs.Standing.{keeps_at, keeps_all}
use Rattle.drv_chains.specs.declared.members.QueueHead.{QueueHead as Queue}
use Rattle.drv_chains.specs.declared.members.Member.{Member}
use Rattle.drv_chains.specs.declared.members.Member.TheVariants.{Once, Each}
use Rattle.drv_chains.specs.declared.members.Predecessor.TheVariants.{Element as Frame, After}
use Rattle.drv_chains.specs.Chains.{id_of}
use Rattle.drv_members.specs.Members.{is_linked}
use Rattle.drv_periodic.specs.Periodic.{Periodic, address_of}
use Rattle.qh_qtd.specs.declared.queue_head.Qh.{Qh}
use Rattle.drv_table.specs.declared.content.Endpoint.{Endpoint}
use Rattle.drv_table.specs.declared.content.Transfer.{Transfer}
use Rattle.drv_table.specs.DriverContent.{DriverContent}
use Rattle.claims_driver.specs.Owners.{QueueHead as QueueHeadOf, HasBlocks, IsPlaced, runs_of_endpoint, runs_of_transfer, IsDescribed, descriptor_in, views_of, IsQueueIn}
use Rattle.claims_driver.specs.Leaving.{HasOwners}
use Rattle.claims_driver.specs.FrameListMembers.{Framed, Placed, placed_in, is_chained, framed_in, is_among}
use Rattle.law_driver.specs.listed_members.Members.{IsStanding, IsQueueOf, IsWaitingOf, IsDescribing, IsListed}
use Rattle.law_driver.proofs.lemmas.listed_members.Standing.{IsSeen, seen, in_frames, unlinks_reported, IsFramed, framed, descriptor_block, queue_block, standing_block, why_stands}
use Rattle.law_structures.specs.lent_structures.Structures.{Structure, QueueHead, Structures, StructureSets}
use Rattle.claims_base.specs.Controller.{Base}
use Rattle.law_driver_ring.specs.Inventory.{OfQueueHead, sort_of, IsLent}
use Rattle.law_driver_ring.proofs.Sorts.{driven_same}
use Rattle.law_driver.proofs.lemmas.in_place.Elsewhere.{the_controller_keeps_all_in_place}
use Rattle.law_queues.proofs.lemmas.shared_memory.Elsewhere.{leaves_elsewhere}
use Rattle.law_frame_words.specs.list_words.Spared.{LeavesList}
use Rattle.law_frame_list.proofs.lemmas.list_spread.Spreading.{queue_there, standing_there}
use Rattle.law_frame_list.proofs.lemmas.list_stands.Listing.{it_stands_where_its_words_are_left}
use Rattle.law_frame_list.specs.list_driver.Keeping.{LeadsOn, AreLeading}
use Rattle.law_frame_list.proofs.lemmas.list_queued.Apart.{way_of}
use Rattle.law_descriptors.specs.frame_keeps.Kept.{HasItdAfter, HasSitdAfter, KeepsPart}
use Rattle.law_descriptors.specs.frame_keeps.Leaving.{LeavesStructures}
use Rattle.law_descriptors.specs.list_beside.Links.{IsDescriptor, an_itd, a_sitd, IsLinkAt, of_queue, of_descriptor, unlent, HasItsLinks, IsTold}
use Rattle.law_descriptors.specs.list_beside.Laws.{ListIsKept, WrittenElsewhere, ToldStays}
use Rattle.law_descriptors.proofs.lemmas.frame_keeps.Words.{some_left, rest_left}

-- ---- a link stays

link_left : (m new : Mem) (parts : StructureSets) (a : ℕ) → LeavesStructures parts m new → IsLinkAt m parts a → word_at new a ≡ word_at m a
link_left m new parts a leaves (of_queue n q here) = let e : a ≡ a + 4 * 0 = omega arith in ap (word_at new) e ∙ leaves.heads n a q 0 here (omega arith) ∙ sym (ap (word_at m) e)
link_left m new parts a leaves (of_descriptor n (an_itd v here)) =
    let e : a ≡ a + 4 * 0 = omega arith in ap (word_at new) e ∙ leaves.itds n a v 0 here (inl (omega arith)) ∙ sym (ap (word_at m) e)
link_left m new parts a leaves (of_descriptor n (a_sitd v here)) =
    let e : a ≡ a + 4 * 0 = omega arith in ap (word_at new) e ∙ leaves.sitds n a v 0 here (inl (omega arith)) ∙ sym (ap (word_at m) e)
link_left m new parts a leaves (unlent off) = leaves.lent.words a off

pub links_of_a_list_stay : (m new : Mem) (parts : StructureSets) (p : Periodic) → HasItsLinks m parts p → LeavesStructures parts m new → LeavesList p (word_at m) (word_at new)
links_of_a_list_stay m new parts p has leaves (Frame f) its = let size = has.size in leaves.tables has.owner (32 * p.list) has.words f has.list (omega (arith, its, size))
links_of_a_list_stay m new parts p has leaves (After x) its = link_left m new parts (address_of p.list (After x)) leaves (has.members x its)

-- ---- a run that isn't lent

kept_unlent : (m : Mem) (d : DriverContent) (b : ℕ) (r : Run) → Stands (holding d.book m) → slot_of d.book.slots b ≡ slots.Keeps r → reaches m (32 * b) ≡ false
kept_unlent m d b r stands is =
    let at = keeps_at (holding d.book m) b r stands is in
    let first = at.0 in
    let some = at.1 in
    let block : 32 * b / 32 ≡ b = omega arith in
    let kept = keeps_all (holding d.book m) b r stands is b (omega (arith, first)) (omega (arith, first, some)) in
    ap (λ (k : ℕ). is_lent (slice_get m.states k)) block ∙ ap is_lent kept

no_blocks : (n : ℕ) (s : Slot) → s ≡ slots.Empty → HasBlocks n s → ⊥
no_blocks n s none run = subst (HasBlocks n) none run

is_lent_slot : (s : Slot) (r : Run) → s ≡ slots.Lends r → IsLent s
is_lent_slot s r is = subst IsLent (sym is) tt

-- ---- a structure of that kind is a queue head

record IsHead (o : Option Structure) : Type 0 where
  queue : Qh
  here : o ≡ Some (QueueHead queue)

head_of : (o : Option Structure) → option_map sort_of o ≡ Some OfQueueHead → IsHead o
head_of (Some (QueueHead q)) is = record { queue = q; here = refl }
head_of _ is = absurd cc

-- ---- the members of a driver's list

module _ (base : Base) (parts all : StructureSets) (m : Mem) (d : DriverContent) (told : IsTold base parts all m d) where
  abbrev stands : Stands (holding d.book m)
  stands = told.place.sound.stands

  abbrev has : HasOwners d
  has = told.place.sound.owners

  abbrev listed : IsListed d
  listed = told.place.sound.listed

  -- an endpoint in its frames wasn't given back
  alive : (e : ℕ) (x : Endpoint) → slice_get d.endpoints e ≡ Some x → x.chained ≡ true → x.gone ≡ false
  alive e x here on =
      ⊎_elim (λ (g : x.gone ≡ true). absurd (false≢true (sym ((has.orderly.steady e x here).gone g).1 ∙ on))) (λ (g : x.gone ≡ false). g) (cases_Bool x.gone)

  queue_link : (e : ℕ) (x : Endpoint) (s : Slot) → IsQueueIn (views_of d) e (runs_of_endpoint x) → slot_of d.book.slots x.queue ≡ s → IsLinkAt m all (32 * x.queue)
  queue_link e x slots.Empty is slot =
      let p : IsPlaced (slot_of d.book.slots) has.owner x.queue (QueueHeadOf e) = has.owned.each.queue e (runs_of_endpoint x) is.here is.queued in
      absurd (no_blocks 2 (slot_of d.book.slots x.queue) slot p.run)
  queue_link e x (slots.Keeps r) is slot = unlent (kept_unlent m d x.queue r stands slot)
  queue_link e x (slots.Lends r) is slot =
      let h : IsHead (parts (32 * x.queue) (32 * x.queue)) =
      head_of (parts (32 * x.queue) (32 * x.queue)) (told.driven.queue e (runs_of_endpoint x) is (is_lent_slot (slot_of d.book.slots x.queue) r slot)) in
      of_queue (32 * x.queue) h.queue (told.within (32 * x.queue) (32 * x.queue) (QueueHead h.queue) h.here)

  each_link : (q : Queue) → IsQueueOf d q → IsLinkAt m all (id_of (Each q) / 32 * 32)
  each_link q s =
      let f : IsFramed d.endpoints s.number s.framed = framed d.endpoints s.number s.framed s.here in
      let x : Endpoint = f.endpoint in
      let chained : x.chained ≡ true = ap (λ (z : Framed). z.chained) (sym f.is) ∙ s.chained in
      let queued = ap (λ (z : Framed). z.isochronous) (sym f.is) ∙ s.queued in
      let is : IsQueueIn (views_of d) s.number (runs_of_endpoint x) = record {
        here = ap (option_map runs_of_endpoint) f.here;
        queued = ap (λ (b : Bool). b || x.gone) queued ∙ alive s.number x f.here chained;
      } in
      let block : id_of (Each q) / 32 ≡ x.queue = ap (λ (y : Member). id_of y / 32) s.is ∙ queue_block s.framed.queue s.place ∙ ap (λ (z : Framed). z.queue) f.is in
      let at : id_of (Each q) / 32 * 32 ≡ 32 * x.queue = ap (λ (b : ℕ). b * 32) block ∙ omega arith in
      subst (IsLinkAt m all) (sym at) (queue_link s.number x (slot_of d.book.slots x.queue) is refl)

  -- a descriptor that stands or waits wasn't given back
  unreleased : (t : ℕ) (y : Placed) → (s : IsSeen d.endpoints d.transfers t y) → (is_among t d.periodic.unlinks ≡ true) ⊎ (y.waits ≡ true) → s.transfer.released ≡ false
  unreleased t y s why =
      ⊎_elim
      (λ (on : is_among t d.periodic.unlinks ≡ true).
      let r = unlinks_reported d t has.orderly on in
      ap (λ (z : Transfer). z.released) (same_Some s.transfer r.transfer (sym s.there ∙ r.there)) ∙ r.released)
      (λ (waits : y.waits ≡ true).
      let both = and_parts (not s.transfer.reported) (is_chained (framed_in d.endpoints s.transfer.endpoint)) (sym s.waits ∙ waits) in
      let x = in_frames d.endpoints s.transfer.endpoint both.1 in
      ⊎_elim
      (λ (back : s.transfer.released ≡ true).
      let gone = has.orderly.untold t s.transfer s.there back (not_on s.transfer.reported both.0) x.endpoint x.here in
      absurd (false≢true (sym ((has.orderly.steady s.transfer.endpoint x.endpoint x.here).gone gone).1 ∙ x.chained)))
      (λ (off : s.transfer.released ≡ false). off) (cases_Bool s.transfer.released)) why

  transfer_link : (t : ℕ) (y : Transfer) (s : Slot) → slice_get d.transfers t ≡ Some y → (runs_of_transfer y).isochronous ≡ true → y.released ≡ false → slot_of d.book.slots y.first ≡ s → IsLinkAt m all (32 * y.first)
  transfer_link t y slots.Empty here sort held slot =
      let p : IsDescribed (slot_of d.book.slots) has.owner (descriptor_in d.periodic.notes y.first) t y.first =
      has.owned.each.described t (runs_of_transfer y) (ap (option_map runs_of_transfer) here) sort held in
      absurd (no_blocks _ (slot_of d.book.slots y.first) slot p.descriptor.run)
  transfer_link t y (slots.Keeps r) here sort held slot = unlent (kept_unlent m d y.first r stands slot)
  transfer_link t y (slots.Lends r) here sort held slot =
      of_descriptor (32 * y.first)
      (told.descriptors t (runs_of_transfer y) (ap (option_map runs_of_transfer) here) sort held (is_lent_slot (slot_of d.book.slots y.first) r slot))

  placed_link : (t : ℕ) (y : Placed) (b : ℕ) → placed_in d.endpoints d.transfers t ≡ Some y → (is_among t d.periodic.unlinks ≡ true) ⊎ (y.waits ≡ true) → b ≡ y.block → IsLinkAt m all (b * 32)
  placed_link t y b here why is =
      let s : IsSeen d.endpoints d.transfers t y = seen d.endpoints d.transfers t y here in
      let z : Transfer = s.transfer in
      let at : b * 32 ≡ 32 * z.first = ap (λ (i : ℕ). i * 32) (is ∙ s.block) ∙ omega arith in
      subst (IsLinkAt m all) (sym at) (transfer_link t z (slot_of d.book.slots z.first) s.there s.sort (unreleased t y s why) refl)

  member_link : (x : Member) → is_linked d.periodic.list.members.schedule x ≡ true → IsLinkAt m all (address_of d.periodic.list.list (After x))
  member_link (Each q) on = each_link q (queue_there d q listed on)
  member_link (Once k) on =
      let s : IsStanding d (Once k) = standing_there d k listed on in
      placed_link s.number s.placed (id_of (Once k) / 32) s.here (why_stands d (Once k) s) (standing_block d (Once k) s)

  waiting_link : (e first : ℕ) (x : Member) → IsWaitingOf d e first x → IsLinkAt m all (address_of d.periodic.list.list (After x))
  waiting_link e first x w =
      placed_link w.number w.placed (id_of x / 32) w.here (inr w.waits) (sym (ap (λ (y : Member). id_of y / 32) w.is) ∙ descriptor_block d.periodic w.placed.block)

  list_links : HasItsLinks m all d.periodic.list
  list_links = record {
    owner = base.periodic_list_base;
    words = told.list.words;
    list = ap (λ (l : ℕ). all base.periodic_list_base (32 * l)) listed.list.list ∙ ap (all base.periodic_list_base) (sym told.start) ∙ told.list.here;
    size = told.list.size;
    members = member_link;
  }

  -- ---- those that are still to be linked

  lead_on : (new : Mem) (e first : ℕ) (ms : List Member) → LeavesStructures all m new → AllByRecursion (IsWaitingOf d e first) ms → AllByRecursion (LeadsOn (word_at m) d.periodic.list) ms → AllByRecursion (LeadsOn (word_at new) d.periodic.list) ms
  lead_on new e first [] leaves wait lead = tt
  lead_on new e first (x ∷ xs) leaves wait lead =
      (link_left m new all (address_of d.periodic.list.list (After x)) leaves (waiting_link e first x wait.0) ∙ lead.0, lead_on new e first xs leaves wait.1 lead.1)

  leading : (new : Mem) → LeavesStructures all m new → AreLeading m d → AreLeading new d
  leading new leaves old e first count is made =
      let way : IsDescribing d e first count = way_of d e first count is listed in
      lead_on new e first d.periodic.queued leaves way.members (old e first count is made)

pub a_driver_has_its_links : (base : Base) (parts all : StructureSets) (m : Mem) (d : DriverContent) → IsTold base parts all m d → HasItsLinks m all d.periodic.list
a_driver_has_its_links base parts all m d told = list_links base parts all m d told

pub list_is_kept : ListIsKept
list_is_kept base parts all m new d told leaves old = record {
  list = it_stands_where_its_words_are_left d m new (links_of_a_list_stay m new all d.periodic.list (list_links base parts all m d told)
      leaves) old.list;
  mends = old.mends;
  to_link = old.to_link;
  leading = leading base parts all m d told new leaves old.leading;
}

-- ---- the rest

pub written_elsewhere : WrittenElsewhere
written_elsewhere base parts all m new d told leaves =
    leaves_elsewhere parts m new d (rest_left parts m new (some_left parts all m new told.within leaves)) told.place told.driven

descriptor_still : (part now : Structures) (a : ℕ) → KeepsPart part now → IsDescriptor (part a) → IsDescriptor (now a)
descriptor_still part now a keeps (an_itd v here) = let f : HasItdAfter now a v = keeps.itd a v here in an_itd f.itd f.here
descriptor_still part now a keeps (a_sitd v here) = let f : HasSitdAfter now a v = keeps.sitd a v here in a_sitd f.sitd f.here

pub told_stays : ToldStays
told_stays base parts all parts_now now m new d told leaves keeps same within = record {
  place = the_controller_keeps_all_in_place d m new (written_elsewhere base parts all m new d told leaves) told.place;
  driven = driven_same (views_of d) parts parts_now same told.driven;
  within = within;
  descriptors = λ t y here sort held lent. descriptor_still (all (32 * y.first)) (now (32 * y.first)) (32 * y.first) (keeps (32 * y.first)) (told.descriptors t y here sort held lent);
  list = record { words = told.list.words; here = (keeps base.periodic_list_base).table base.periodic_list_base told.list.words told.list.here; size = told.list.size };
  start = told.start;
}
