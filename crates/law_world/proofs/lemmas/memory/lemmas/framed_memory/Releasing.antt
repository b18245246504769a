-- The qTDs and buffers of a transfer are given back beside both walks.
use Rattle.std.proofs.Common.{◌≡◌, ◌≢◌, ℕ, ◌*◌, ◌==◌, Bool, true, false, List, [], ◌∷◌, slice_get, Option, Some, None, if◌then◌else◌, option_map, inl, inr, ap, refl, sym, subst, ◌∙◌, ⊎_elim}
use Rattle.std.specs.List.{AllByRecursion}
use Rattle.std.proofs.lemmas.Bool.{true≢false, cases_eq, eqb-true}
use Rattle.std.proofs.lemmas.Option.{same_Some}
use Rattle.law_queues.proofs.Common.{leads_fewer}
use Rattle.law_ring.proofs.Common.{own_fewer, those_here, fewer_some}
use Rattle.law_common.proofs.Options.{absent}
use Rattle.law_common.proofs.Lists.{set_here, set_there}
use Rattle.word_mem.proofs.Holders.{has_block_from}
use Rattle.link_words.specs.Links.{qtd_link_of}
use Rattle.qh_qtd.specs.declared.qtd.Qtd.{Qtd}
use Rattle.qh_qtd.specs.declared.queue_head.Qh.{Qh}
use Rattle.hc_copy.specs.Visits.{next_pointer}
use Rattle.async_walk.specs.Rows.{place}
use Rattle.mem_runs.specs.declared.slots.Slot.{Slot}
use Rattle.mem_runs.specs.Book.{Holding, holding, slot_of}
use Rattle.drv_periodic_table.specs.declared.content.Removed.{Removed}
use Rattle.drv_table.specs.declared.content.Transfer.{Transfer}
use Rattle.drv_table.specs.declared.rows.DriverRow.{DriverRow}
use Rattle.drv_table.specs.declared.rows.DriverRow.TheVariants as rows
use Rattle.drv_table.specs.DriverContent.{DriverContent}
use Rattle.drv_table.specs.Parts.{Parts}
use Rattle.drv_table.specs.Releases.{free_runs, free_qtds, freed_by, after_transfer}
use Rattle.drv_table.specs.Rows.{driver_row, after_driver_row}
use Rattle.claims_driver.specs.Owners.{Owner, Element as ElementOf, Buffer as BufferOf, IsPlaced, SlotHas, EndpointRuns, TransferRuns, runs_of_transfer, note_in, Views, views_of, IsOneOf}
use Rattle.law_driver.proofs.lemmas.run_owners.Freeing.{runs_freed}
use Rattle.hc_core.specs.Controller.{Content, walk_place}
use Rattle.law_structures.specs.lent_structures.Structures.{QueueHead, Element, Structures, StructureSets, Tells}
use Rattle.law_structures.specs.lent_structures.Sound.{buffer_name, HasBuffer, IsReady, IsSoundElement, IsWorking, IsSoundQueue}
use Rattle.law_ring.specs.Hand.{Hand}
use Rattle.claims_base.specs.Controller.{Base}
use Rattle.law_ring.specs.Fewer.{fewer_structures, without_those, MayGo}
use Rattle.law_ring.proofs.Returning.{those_beside, those_else}
use Rattle.law_ring.proofs.ReleaseGoing.{stays}
use Rattle.law_driver_ring.specs.Inventory.{IsLent}
use Rattle.law_driver_ring.specs.Driven.{DrivesRing}
use Rattle.law_driver_ring.specs.Extents.{InRuns, AreInRuns}
use Rattle.law_driver_ring.specs.Released.{blocks_of, goes_of, IsToGo}
use Rattle.law_driver_ring.proofs.Blocks.{all_one, is_not_named, mine, all_mine, none_mine, qtds_are_runs}
use Rattle.law_driver_ring.proofs.Freeing.{HaveNone, all_told}
use Rattle.law_driver_ring.proofs.Releasing.{release_drives}
use Rattle.law_driver.specs.in_place.InPlace.{IsInPlace}
use Rattle.law_driver.proofs.lemmas.in_place.Laws.{events_keep_all_in_place}
use Rattle.law_queues.specs.shared_memory.Shared.{parts_of}
use Rattle.law_frames.specs.Met.{Kind, AQueue, IsMetQueue}
use Rattle.law_frames.specs.FrameHand.{FrameHand}
use Rattle.law_controller.specs.frame_control.Both.{RunsBoth}
use Rattle.law_descriptors.specs.Described.{IsDescriptorLent, HasItsBuffer, IsOfDescriptor, a_descriptor, a_buffer, AreDescribed, AreHeld}
use Rattle.law_descriptors.specs.Both.{both}
use Rattle.law_descriptors.specs.PartLaws.{IsDescribing}
use Rattle.law_descriptors.specs.Told.{IsToldBy}
use Rattle.law_descriptors.specs.Meeting.{met}
use Rattle.law_descriptors.specs.Growing.{AreApartFrom}
use Rattle.law_descriptors.specs.Removed.{a_descriptor as removed_descriptor}
use Rattle.law_descriptors.specs.Removed.{IsRemovedAt, a_queue, a_waiting, IsRemovedSince, IsUnchainedNow}
use Rattle.law_descriptors.specs.Recent.{AreRecent}
use Rattle.law_descriptors.proofs.Owned.{descriptor_owner, one_owner, IsOfDescriptors, descriptor_lies}
use Rattle.law_descriptors.proofs.Rings.{ring_is_of_queues}
use Rattle.law_descriptors.proofs.Telling.{descriptor_found, piece_owner}
use Rattle.law_world.specs.memory.framed_memory.Now.{IsFramedNow}
use Rattle.law_world.proofs.lemmas.memory.lemmas.framed_memory.Now.{RowLeaves, next_now}
use Rattle.law_world.specs.memory.framed_memory.QueueRows.{ReleaseTransferKeepsNow}
use Rattle.law_world.proofs.lemmas.memory.lemmas.framed_memory.Moving.{queues_move, StaysSound}

-- ---- a queue that is met, without some of its qTDs and buffers

buffer_fewer : (goes : ℕ → Bool) (part : Structures) (t : Qtd) (n : ℕ) → goes (buffer_name t) ≡ false → HasBuffer part t n → HasBuffer (fewer_structures goes part) t n
buffer_fewer goes part t n off has = record { bytes = has.bytes; here = stays goes part (buffer_name t) off ∙ has.here; size = has.size }

element_fewer : (goes : ℕ → Bool) (n : ℕ) (part : Structures) (q : Qh) (a : ℕ) (t : Qtd) → MayGo goes n part q → part a ≡ Some (Element t) → goes a ≡ false → IsSoundElement part t → IsSoundElement (fewer_structures goes part) t
element_fewer goes n part q a t may here off sound = record {
  next = leads_fewer goes part (qtd_link_of t.next) (λ b to. may.next a b t here off to) sound.next;
  alternate = leads_fewer goes part (qtd_link_of t.alternate) (λ b to. may.alternate a b t here off to) sound.alternate;
  work = λ on.
      let ready : IsReady part t = sound.work on in
      record { goes_on = ready.goes_on; start = ready.start; buffer = λ some. buffer_fewer goes part t t.token.total (may.buffer a t here off on some) (ready.buffer some) };
}

queue_fewer : (goes : ℕ → Bool) (n : ℕ) (part : Structures) (q : Qh) → MayGo goes n part q → IsSoundQueue part q → IsSoundQueue (fewer_structures goes part) q
queue_fewer goes n part q may sound = record {
  rest = λ off idle. leads_fewer goes part (qtd_link_of (next_pointer q)) (λ b to. may.rest b off idle to) (sound.rest off idle);
  work = λ on.
      let w : IsWorking part q = sound.work on in
      record {
        element = w.element;
        here = stays goes part q.current (may.work on) ∙ w.here;
        published = w.published;
        goes_on = w.goes_on;
        pid = w.pid;
        pages = w.pages;
        next = w.next;
        alternate = w.alternate;
        fewer = w.fewer;
        place = w.place;
      };
}

met_fewer : (met : ℕ → Option Kind) (n : ℕ) (part : Structures) (goes : ℕ → Bool) → (m : IsMetQueue met n part) → MayGo goes n part m.part_is.queue → IsMetQueue met n (fewer_structures goes part)
met_fewer met n part goes m may = record {
  part_is = record {
    queue = m.part_is.queue;
    here = stays goes part n may.head ∙ m.part_is.here;
    sound = queue_fewer goes n part m.part_is.queue may m.part_is.sound;
    elements = λ a t found.
        let there = fewer_some goes part a (Element t) found in
        element_fewer goes n part m.part_is.queue a t may there.1 there.0 (m.part_is.elements a t there.1);
    own = own_fewer goes part m.part_is.own;
  };
  link = m.link;
}

-- ---- no descriptor's run

no_descriptor : (transfer : ℕ → Option TransferRuns) (t n : ℕ) (r : TransferRuns) (o : Owner) → transfer t ≡ Some r → r.isochronous ≡ false → mine t o ≡ true → descriptor_owner transfer o ≡ Some n → ⊥
no_descriptor transfer t n r (ElementOf u) here off my is = absent None n refl is
no_descriptor transfer t n r (BufferOf u) here off my is =
    absent (descriptor_owner transfer (BufferOf u)) n
    (ap (λ (q : Option TransferRuns). descriptor_owner (λ i. q) (BufferOf u)) (ap transfer (eqb-true u t my) ∙ here) ∙ ap (λ (b : Bool). if b then Some u else None) off) is
no_descriptor transfer t n r _ here off my is = true≢false (sym my)

other_number : (a t : ℕ) → a ≢ t → (b : Bool) → (a == t) ≡ b → b ≡ false
other_number a t differs false is = refl
other_number a t differs true is = absurd (differs (eqb-true a t is))

module _ (base : Base) (member : ℕ → Bool) (recent : ℕ → Option Kind) (descs parts : StructureSets) (hand : Hand) (frame : FrameHand) (c : Content) (d : DriverContent) (t : ℕ) (y : Transfer) (x : EndpointRuns) (k : IsFramedNow base member recent descs parts hand frame c d) (is : driver_row (parts_of c d) ≡ rows.ReleaseTransfer t) (go : IsToGo d t y x) (ring_may : member (32 * x.queue) ≡ true → (q : Qh) → parts (32 * x.queue) (32 * x.queue) ≡ Some (QueueHead q) → MayGo (goes_of d y) (32 * x.queue) (parts (32 * x.queue)) q) (frame_may : met d recent (32 * x.queue) ≡ Some AQueue → (q : Qh) → parts (32 * x.queue) (32 * x.queue) ≡ Some (QueueHead q) → MayGo (goes_of d y) (32 * x.queue) (parts (32 * x.queue)) q) where
  abbrev p : Parts
  p = parts_of c d

  abbrev h : Holding
  h = holding d.book c.memory

  abbrev n : ℕ
  n = 32 * x.queue

  abbrev goes : ℕ → Bool
  goes = goes_of d y

  abbrev now : StructureSets
  now = without_those parts n goes

  abbrev z : Transfer
  z = record y { released = true }

  abbrev blocks : List ℕ
  blocks = blocks_of (note_in d.notes) y.first y.qtds

  abbrev freed : Holding
  freed = free_qtds d.notes h y.first y.qtds

  abbrev later : Parts
  later = after_transfer p t (Some y) freed

  abbrev f : DriverContent
  f = later.driver

  abbrev v : Views
  v = views_of d

  abbrev w : Views
  w = views_of f

  after_is : after_driver_row (rows.ReleaseTransfer t) p ≡ later
  after_is = ap (λ (o : Option Transfer). after_transfer p t o (freed_by d h o)) go.here

  freed_is : freed ≡ free_runs h blocks
  freed_is = qtds_are_runs d.notes h y.first y.qtds

  old : IsDescribing d descs parts
  old = record { owners = k.framed.place.sound.owners; driven = k.framed.driven; described = k.framed.described }

  drives : DrivesRing base member now hand (place c.control.walk c.registers freed.memory) f × AreInRuns w now
  drives =
      subst (λ (q : Parts). DrivesRing base member now hand (place c.control.walk q.registers q.memory) q.driver × AreInRuns (views_of q.driver) now) after_is
      (release_drives base member parts hand c.control.walk p t y x
      (record { ring = ring_is_of_queues d descs parts base member hand (walk_place c) old k.framed.runs.ring; driven = k.framed.driven }) k.framed.place.sound.owners k.framed.place.sound.stands k.framed.extents go
      ring_may)

  -- ---- whose runs are given back

  here : v.transfer t ≡ Some (runs_of_transfer y)
  here = ap (option_map runs_of_transfer) go.here

  all_are_mine : AllByRecursion (λ e. mine t (old.owners.owner e) ≡ true) blocks
  all_are_mine = all_mine v.slot old.owners.owner v.note t y.first y.qtds (old.owners.owned.each.pieces t (runs_of_transfer y) here go.held)

  kept : (b : ℕ) → mine t (old.owners.owner b) ≡ false → w.slot b ≡ v.slot b
  kept b off = ap (λ (g : Holding). slot_of g.book.slots b) freed_is ∙ runs_freed h blocks b (none_mine old.owners.owner t b blocks off all_are_mine)

  -- ---- descriptors

  none_of_descriptors : HaveNone h descs blocks
  none_of_descriptors b r among lends i a s j found has inside =
      let q : IsOfDescriptors h v old.owners.owner (λ e. refl) k.framed.place.sound.stands old.owners.owned.each i a j
      = descriptor_lies h v old.owners.owner (λ e. refl) k.framed.place.sound.stands old.owners.owned.each descs old.described i a s j found has in
      let whose : q.whose ≡ old.owners.owner b
      = one_owner h v old.owners.owner (λ e. refl) k.framed.place.sound.stands old.owners.owned.each q.whose (old.owners.owner b) j q.inside
      (record { at = b; owned = refl; has = subst (λ (e : Slot). SlotHas e j) (sym lends) (has_block_from r j inside.from inside.below) }) in
      let my : mine t (old.owners.owner b) ≡ true = all_one (λ e. mine t (old.owners.owner e) ≡ true) blocks b all_are_mine among in
      no_descriptor v.transfer t q.number (runs_of_transfer y) (old.owners.owner b) here go.qtds my
      (ap (descriptor_owner v.transfer) (sym whose) ∙ piece_owner d c.memory descs parts old k.framed.extents k.framed.place.sound.stands q.number q.transfer a q.whose q.lent q.piece)

  descs_told : Tells c.memory descs
  descs_told =
      let tells = k.framed.runs.ring.tells in
      record {
        shape = tells.shape;
        each = λ i a s found. tells.each i a s (descriptor_found d descs parts old i a s found);
        alone = λ i a j b s u e one other has also. tells.alone i a j b s u e (descriptor_found d descs parts old i a s one) (descriptor_found d descs parts old j b u other) has also;
      }

  held : AreHeld freed.memory descs
  held i a s found =
      (subst (λ (g : Holding). Tells g.memory descs) (sym freed_is) (all_told h descs blocks none_of_descriptors (record { stands = k.framed.place.sound.stands; told = descs_told })).told).each i a s found

  other_transfer : (u : ℕ) → u ≢ t → w.transfer u ≡ v.transfer u
  other_transfer u differs = ap (option_map runs_of_transfer) (set_there d.transfers t u z differs)

  gone_here : w.transfer t ≡ Some (runs_of_transfer z)
  gone_here = ap (option_map runs_of_transfer) (set_here d.transfers t y z go.here)

  described_kept : (u : ℕ) (r : TransferRuns) → IsDescriptorLent v u r → w.slot r.first ≡ v.slot r.first
  described_kept u r lent = kept r.first (ap (mine t) (old.owners.owned.each.described u r lent.here lent.isochronous lent.held).descriptor.owned)

  another : (u : ℕ) (r : TransferRuns) → IsDescriptorLent v u r → u ≢ t
  another u r lent same =
      true≢false (sym lent.isochronous ∙ ap (λ (q : TransferRuns). q.isochronous) (same_Some r (runs_of_transfer y) (sym lent.here ∙ ap v.transfer same ∙ here)) ∙ go.qtds)

  lent_on : (u : ℕ) (r : TransferRuns) → IsDescriptorLent v u r → IsDescriptorLent w u r
  lent_on u r lent = record {
    here = other_transfer u (another u r lent) ∙ lent.here;
    held = lent.held;
    isochronous = lent.isochronous;
    lent = subst IsLent (sym (described_kept u r lent)) lent.lent;
  }

  lent_back : (u : ℕ) (r : TransferRuns) → IsDescriptorLent w u r → IsDescriptorLent v u r
  lent_back u r lent =
      let differs : u ≢ t = λ same.
      true≢false (ap (λ (q : TransferRuns). q.released) (same_Some (runs_of_transfer z) r (sym gone_here ∙ ap w.transfer (sym same) ∙ lent.here)) ∙ lent.held) in
      let was : v.transfer u ≡ Some r = sym (other_transfer u differs) ∙ lent.here in
      let same : w.slot r.first ≡ v.slot r.first = kept r.first (ap (mine t) (old.owners.owned.each.described u r was lent.isochronous lent.held).descriptor.owned) in
      record { here = was; held = lent.held; isochronous = lent.isochronous; lent = subst IsLent same lent.lent }

  buffer_kept : (u : ℕ) → u ≢ t → (part : Structures) (cs : List ℕ) → ((b : ℕ) → IsOneOf b cs → old.owners.owner b ≡ BufferOf u) → HasItsBuffer v.slot part cs → HasItsBuffer w.slot part cs
  buffer_kept u differs part [] owned has = tt
  buffer_kept u differs part (b ∷ cs) owned has = record {
    pages = has.pages;
    start = has.start;
    bytes = has.bytes;
    here = has.here;
    runs = λ j inside.
        let in_runs : InRuns v.slot (b ∷ cs) j = has.runs j inside in
        record {
          at = in_runs.at;
          among = in_runs.among;
          has = subst (λ (s : Slot). SlotHas s j) (sym (kept in_runs.at (ap (mine t) (owned in_runs.at in_runs.among) ∙ other_number u t differs (u == t) refl))) in_runs.has;
        };
  }

  described : AreDescribed w descs
  described = record {
    descriptors = λ u r lent. old.described.descriptors u r (lent_back u r lent);
    buffers = λ u r lent.
        let was = lent_back u r lent in
        let its = old.owners.owned.each.described u r was.here was.isochronous was.held in
        buffer_kept u (another u r was) (descs (32 * r.first)) (v.descriptor r.first).buffer
        (λ b among. (all_one (λ e. IsPlaced v.slot old.owners.owner e (BufferOf u)) (v.descriptor r.first).buffer b its.buffers among).owned) (old.described.buffers u r was);
    only = λ i a s found. still_of i a (old.described.only i a s found);
  }
    where
      still_of : (i a : ℕ) → IsOfDescriptor v i a → IsOfDescriptor w i a
      still_of _ _ (a_descriptor u r lent) = a_descriptor u r (lent_on u r lent)
      still_of _ _ (a_buffer u b cs r lent first) = a_buffer u b cs r (lent_on u r lent) first

  -- ---- the walk of the frames

  sound : StaysSound (met d recent) parts now
  sound m on was =
      ⊎_elim (λ (same : m ≡ n).
      let mine_is : IsMetQueue (met d recent) n (parts n) = subst (λ (j : ℕ). IsMetQueue (met d recent) j (parts j)) same was in
      let may = frame_may (ap (met d recent) (sym same) ∙ on) mine_is.part_is.queue mine_is.part_is.here in
      subst (λ (j : ℕ). IsMetQueue (met d recent) j (now j) × (now j j ≡ parts j j)) (sym same)
      (subst (IsMetQueue (met d recent) n) (sym (those_here parts n goes)) (met_fewer (met d recent) n (parts n) goes mine_is may), those_else parts n goes n n may.head))
      (λ (differs : m ≢ n).
      let same : now m ≡ parts m = those_beside parts n goes m differs in
      (subst (IsMetQueue (met d recent) m) (sym same) was, ap (λ (part : Structures). part m) same)) (cases_eq m n)

  list : now base.periodic_list_base base.periodic_list_base ≡ parts base.periodic_list_base base.periodic_list_base
  list =
      those_else parts n goes base.periodic_list_base base.periodic_list_base
      (ap goes k.framed.start ∙ is_not_named blocks 0 (none_mine old.owners.owner t 0 blocks (ap (mine t) old.owners.owned.each.list.owned) all_are_mine))

  -- ---- what was unlinked

  still_removed : (i : ℕ) (what : Removed) → IsRemovedAt d.endpoints d.transfers i what → IsRemovedAt f.endpoints f.transfers i what
  still_removed i _ (removed_descriptor u r at name) =
      ⊎_elim (λ (same : u ≡ t).
      removed_descriptor u z (ap (slice_get f.transfers) same ∙ set_here d.transfers t y z go.here)
      (name ∙ ap (λ (q : Transfer). 32 * q.first) (same_Some r y (sym at ∙ ap (slice_get d.transfers) same ∙ go.here))))
      (λ (differs : u ≢ t). removed_descriptor u r (set_there d.transfers t u z differs ∙ at) name) (cases_eq u t)
  still_removed i _ (a_queue e q at queued name) = a_queue e q at queued name
  still_removed i _ (a_waiting e u q r at iso there sort waits name) =
      a_waiting e u q r at iso
      (set_there d.transfers t u z (λ same. true≢false (sym sort ∙ ap (λ (s : Transfer). (runs_of_transfer s).isochronous) (same_Some r y (sym there ∙ ap (slice_get d.transfers) same ∙ go.here)) ∙ go.qtds)) ∙ there) sort waits
      name

  recent_are : AreRecent f c.registers.frame_index recent
  recent_are i kind on =
      ⊎_elim (λ (s : IsRemovedSince d.endpoints d.transfers d.periodic.removals c.registers.frame_index i).
      inl (record { place = s.place; removal = s.removal; here = s.here; what = still_removed i s.removal.what s.what; within = s.within }))
      (λ (u : IsUnchainedNow d.endpoints d.transfers d.command i). inr (record { endpoint = u.endpoint; command = u.command; what = still_removed i _ u.what })) (k.recent_are i kind on)

  -- ---- the driver then

  placed : IsInPlace freed.memory f
  placed =
      subst (λ (q : Parts). IsInPlace q.memory q.driver) after_is
      (subst (λ (r : DriverRow). IsInPlace (after_driver_row r p).memory (after_driver_row r p).driver) is (events_keep_all_in_place p k.framed.place))

  new : IsDescribing f descs now
  new = record { owners = placed.sound.owners; driven = drives.0.driven; described = described }

  record LeavesAt (q : Parts) : Type 0 where
    runs : RunsBoth base member (met q.driver recent) (both descs now) hand frame (record c { registers = q.registers; memory = q.memory })
    told : IsToldBy (views_of q.driver) descs now
    recent_are : AreRecent q.driver q.registers.frame_index recent
    apart : AreApartFrom q.driver recent

  at_then : LeavesAt later
  at_then = record {
    runs = queues_move base member (met d recent) descs parts now hand hand (λ e. e) frame c d f freed.memory old new drives.1 placed.sound.stands held k.framed.runs drives.0.ring sound list;
    told = record { driven = drives.0.driven; extents = drives.1; described = described };
    recent_are = recent_are;
    apart = k.apart;
  }

  leaves : RowLeaves base member recent descs now hand frame c d (rows.ReleaseTransfer t)
  leaves =
      let l : LeavesAt (after_driver_row (rows.ReleaseTransfer t) p) = subst LeavesAt (sym after_is) at_then in
      record { runs = l.runs; told = l.told; recent_are = l.recent_are; apart = l.apart }

pub release_transfer_keeps_now : ReleaseTransferKeepsNow
release_transfer_keeps_now base member recent descs parts hand frame c d t y x k is go ring_may frame_may =
    next_now base member recent recent descs parts descs (without_those parts (32 * x.queue) (goes_of d y)) hand hand frame frame c d k
    (subst (RowLeaves base member recent descs (without_those parts (32 * x.queue) (goes_of d y)) hand frame c d) (sym is)
    (leaves base member recent descs parts hand frame c d t y x k is go ring_may frame_may))
