-- A command with descriptors is accepted beside what there is, and gets its frames.
use Rattle.std.proofs.Common.{◌≡◌, ℕ, zero, suc, ◌+◌, ◌*◌, ◌/◌, ◌%◌, ◌<◌, ◌≤◌, ◌⊎◌, Bool, true, false, cond, List, [], ◌∷◌, ◌++◌, length, drop, get_or, slice_get, slice_index, Some, ap, refl, sym, subst, ◌∙◌, ⊎_elim, inl, inr, arith, length-append, length-drop}
use Rattle.std.proofs.lemmas.Option.{same_Some}
use Rattle.law_frame_list.proofs.Common.{has_run}
use Rattle.law_descriptors.proofs.Common.{states_stored, old_there}
use Rattle.law_common.proofs.Lists.{drop_first}
use Rattle.word_mem.specs.Memory.{Mem, IsShaped}
use Rattle.mem_runs.specs.declared.slots.Slot.{Slot}
use Rattle.mem_runs.specs.Book.{Book, Holding, holding, slot_of, store, store_words, Stands}
use Rattle.drv_periodic_table.specs.declared.content.DescriptorNote.{DescriptorNote}
use Rattle.drv_periodic_table.specs.Descriptors.{is_in, buffer_address, seeded_word, descriptor_words, write_seeded}
use Rattle.drv_table.specs.declared.content.Endpoint.{Endpoint}
use Rattle.drv_table.specs.declared.content.Slots.{Slots}
use Rattle.drv_table.specs.declared.content.Transfer.{Transfer}
use Rattle.drv_table.specs.DriverContent.{DriverContent}
use Rattle.drv_table.specs.Words.{pieces, buffer_needs}
use Rattle.drv_table.specs.FrameChoice.{framed_by}
use Rattle.drv_table.specs.Accepting.{Offered, first_waiting, new_runs}
use Rattle.drv_table.specs.IsoOffers.{Descriptors, total_of, slot_runs, iso_needs, descriptor_note, descriptor_transfer, written_descriptor, one_descriptor, all_descriptors, entered_iso}
use Rattle.usb_base.specs.declared.endpoints.EpDesc.{EpDesc}
use Rattle.claims_driver.specs.Owners.{HasRun, SlotHas, TransferRuns, Views, views_of, runs_of_transfer, runs_of_descriptor, transfer_in}
use Rattle.law_driver.specs.run_owners.Accepts.{Describes}
use Rattle.law_driver.proofs.lemmas.run_owners.Taking.{AreTaken, runs_taken}
use Rattle.law_driver.proofs.lemmas.run_owners.Accepted.{fresh_differs}
use Rattle.law_driver.proofs.lemmas.run_owners.Stays.{endpoint_stays, framed}
use Rattle.law_driver.proofs.lemmas.ring_members.Stores.{slots_apart}
use Rattle.law_structures.specs.lent_structures.Structures.{StructureSets}
use Rattle.law_structures.specs.lent_structures.Changes.{Leaves}
use Rattle.law_driver_ring.specs.Inventory.{sorts_of, IsLent, IsDriven}
use Rattle.law_driver_ring.proofs.PartSlots.{taken_leaves}
use Rattle.law_driver_ring.proofs.Viewing.{SameViews}
use Rattle.law_driver_ring.proofs.Taken.{TakesOn, takes_on}
use Rattle.law_descriptors.specs.Described.{IsDescriptorLent, AreDescribed}
use Rattle.law_descriptors.specs.Both.{SameDescriptors}
use Rattle.law_descriptors.proofs.Stays.{described_follow}
use Rattle.law_driver_ring.specs.Written.{AreRuns}
use Rattle.law_driver_ring.proofs.Lists.{IsOneOf, at_one}
use Rattle.law_driver_ring.proofs.Buffers.{KeepsAt, runs_keep}
use Rattle.law_driver_ring.proofs.Paged.{runs_paged}
use Rattle.law_descriptors.proofs.LendAccepting.{one_dropped, size_written}
use Rattle.law_descriptors.proofs.Accepted.{made, all_transfers, notes_other, words_other}
use Rattle.law_descriptors.proofs.LendStaying.{framed_slots, frames_describe}
use Rattle.law_descriptors.specs.Told.{IsToldBy}
use Rattle.law_descriptors.specs.CommandLaws.{DescribesLeaves, DescribesTold, FramesTold}
use Rattle.law_descriptors.proofs.CommandQueues.{AreLentAlike, QueuesStay, driven_stays, extents_stay}
use Rattle.law_descriptors.proofs.Lending.{views_queues}

-- ---- stores leave the states

states_words : (k : Book) (m : Mem) (b at : ℕ) (ws : List ℕ) → (store_words k m b at ws).states ≡ m.states
unfolding store_words
states_words k m b at [] = refl
states_words k m b at (v ∷ vs) = states_words k (store k m b at v) b (at + 4) vs ∙ states_stored k m b at v

states_seeded : (k : Book) (m : Mem) (runs : List ℕ) (seed total i n : ℕ) → (write_seeded k m runs seed total i n).states ≡ m.states
states_seeded k m runs seed total i zero = refl
states_seeded k m runs seed total i (suc n) =
    states_seeded k (store k m (get_or runs (i / 4096) 0) (buffer_address runs i) (seeded_word seed total i)) runs seed total (i + 4) n ∙ states_stored k m (get_or runs (i / 4096) 0) (buffer_address runs i) (seeded_word seed total i)

states_written : (k : Book) (m : Mem) (x : EpDesc) (note : DescriptorNote) (b seed total : ℕ) → (written_descriptor k m x note b seed total).states ≡ m.states
states_written k m x note b seed total = by (is_in x.name.way) ∙ states_words k m b (32 * b) (descriptor_words x note)
  where
    by : (way : Bool) → (cond way (store_words k m b (32 * b) (descriptor_words x note)) (write_seeded k (store_words k m b (32 * b) (descriptor_words x note)) note.buffer seed total 0 (pieces total 4))).states ≡ (store_words k m b (32 * b) (descriptor_words x note)).states
    by true = refl
    by false = states_seeded k (store_words k m b (32 * b) (descriptor_words x note)) note.buffer seed total 0 (pieces total 4)

all_states : (k : Book) (e : ℕ) (x : EpDesc) (s : Slots) (n seed : ℕ) (rs : List ℕ) (a : Descriptors) → (all_descriptors k e x s n seed rs a).memory.states ≡ a.memory.states
unfolding all_descriptors
all_states k e x s zero seed rs a = refl
all_states k e x s (suc n) seed rs a =
    all_states k e x s n ((seed + total_of s) % 256) (drop (suc (slot_runs s)) rs) (one_descriptor k e x s seed rs a) ∙ states_written k a.memory x (descriptor_note s (drop 1 rs)) (get_or rs 0 0) seed (total_of s)

all_sizes : (k : Book) (e : ℕ) (x : EpDesc) (s : Slots) (n seed : ℕ) (rs : List ℕ) (a : Descriptors) → length (all_descriptors k e x s n seed rs a).memory.words ≡ length a.memory.words
unfolding all_descriptors
all_sizes k e x s zero seed rs a = refl
all_sizes k e x s (suc n) seed rs a =
    all_sizes k e x s n ((seed + total_of s) % 256) (drop (suc (slot_runs s)) rs) (one_descriptor k e x s seed rs a) ∙ size_written k a.memory x (descriptor_note s (drop 1 rs)) (get_or rs 0 0) seed (total_of s)

-- ---- the transfers

-- a transfer of both is one of the first, or of those behind
either_there : (ts us : List Transfer) (t : ℕ) (y : TransferRuns) → transfer_in (ts ++ us) t ≡ Some y → (transfer_in ts t ≡ Some y) ⊎ ((i : ℕ) × (transfer_in us i ≡ Some y))
either_there [] us t y there = inr (t, there)
either_there (z ∷ ts) us zero y there = inl there
either_there (z ∷ ts) us (suc t) y there = either_there ts us t y there

made_iso : (e : ℕ) (s : Slots) (n : ℕ) (rs : List ℕ) (i : ℕ) (y : TransferRuns) → transfer_in (made e s n rs) i ≡ Some y → y.isochronous ≡ true
made_iso e s zero rs i y there = absurd (cc)
made_iso e s (suc n) rs zero y there = ap (λ (z : TransferRuns). z.isochronous) (sym (same_Some (runs_of_transfer (descriptor_transfer e s (get_or rs 0 0))) y there))
made_iso e s (suc n) rs (suc i) y there = made_iso e s n (drop (suc (slot_runs s)) rs) i y there

made_first : (e : ℕ) (s : Slots) (n : ℕ) (rs : List ℕ) (i : ℕ) (y : TransferRuns) → length (iso_needs s n) ≤ length rs → transfer_in (made e s n rs) i ≡ Some y → IsOneOf y.first rs
made_first e s zero rs i y enough there = absurd (cc)
made_first e s (suc n) rs zero y enough there =
    subst (λ (z : TransferRuns). IsOneOf z.first rs) (same_Some (runs_of_transfer (descriptor_transfer e s (get_or rs 0 0))) y there) (at_one rs 0 (omega (arith, enough)))
made_first e s (suc n) rs (suc i) y enough there =
    let long = length-append (buffer_needs (total_of s)) (iso_needs s n) in
    let left = length-drop (suc (slot_runs s)) rs in
    one_dropped (suc (slot_runs s)) y.first rs (made_first e s n (drop (suc (slot_runs s)) rs) i y (omega (arith, enough, long, left)) there)

-- its place in a list
record IsAtIndex (c : ℕ) (bs : List ℕ) : Type 0 where
  index : ℕ
  below : index < length bs
  is : c ≡ get_or bs index 0

index_of : (c : ℕ) (bs : List ℕ) → IsOneOf c bs → IsAtIndex c bs
index_of c [] one = absurd one
index_of c (b ∷ bs) (inl is) = record { index = 0; below = omega arith; is = is }
index_of c (b ∷ bs) (inr there) = let at = index_of c bs there in let low = at.below in record { index = suc at.index; below = omega (arith, low); is = at.is }

-- ---- the content once it was accepted

module _ (d : DriverContent) (m : Mem) (e : ℕ) (x : Endpoint) (s : Slots) (n seed : ℕ) (g : Holding) (bs : List ℕ) (here : slice_get d.endpoints e ≡ Some x) (short : total_of s ≤ 24576) (takes : TakesOn (slot_of d.book.slots) (slot_of g.book.slots)) (taken : AreTaken (holding d.book m) g (iso_needs s n) bs) (runs : AreRuns (slot_of g.book.slots) (iso_needs s n) bs) where
  abbrev before : Descriptors
  before = record { notes = d.periodic.notes; transfers = d.transfers; memory = g.memory }

  abbrev after : Descriptors
  after = all_descriptors g.book e x.desc s n seed bs before

  abbrev now : Offered
  now = entered_iso d e x n (total_of s) g.book after

  abbrev v : Views
  v = views_of d

  abbrev w : Views
  w = views_of now.driver

  enough : length (iso_needs s n) ≤ length bs
  enough = let long = taken.long in omega (arith, long)

  transfers : after.transfers ≡ d.transfers ++ made e s n bs
  transfers = all_transfers g.book e x.desc s n seed bs before

  -- a new run isn't lent
  new_kept : (c : ℕ) → IsOneOf c bs → IsLent (slot_of g.book.slots c) → ⊥
  new_kept c one lent = let kept : KeepsAt (slot_of g.book.slots) c = runs_keep (slot_of g.book.slots) (iso_needs s n) bs c runs one in subst IsLent kept.is lent

  alike : (c : ℕ) → AreLentAlike (v.slot c) (w.slot c)
  alike c = record { on = λ lent. subst IsLent (sym (takes.after c lent)) lent; back = λ lent. subst IsLent (takes.before c lent) lent }

  mono : (c j : ℕ) → SlotHas (v.slot c) j → SlotHas (w.slot c) j
  mono c j has = subst (λ (t : Slot). SlotHas t j) (sym (taken.old c (has_run (v.slot c) j has))) has

  was_either : (t : ℕ) (y : TransferRuns) → w.transfer t ≡ Some y → (v.transfer t ≡ Some y) ⊎ ((i : ℕ) × (transfer_in (made e s n bs) i ≡ Some y))
  was_either t y there = either_there d.transfers (made e s n bs) t y (ap (λ (ts : List Transfer). transfer_in ts t) (sym transfers) ∙ there)

  is_there : (t : ℕ) (y : TransferRuns) → v.transfer t ≡ Some y → w.transfer t ≡ Some y
  is_there t y there = ap (λ (ts : List Transfer). transfer_in ts t) transfers ∙ old_there d.transfers (made e s n bs) t y there

  iso_is_not : (b : Bool) → b ≡ true → b ≡ false → ⊥
  iso_is_not b on off = cc

  queues : QueuesStay v w
  queues = record {
    runs = mono;
    endpoints = endpoint_stays d e x (record x { next = first_waiting x.next (length d.transfers) }) here refl;
    notes = λ b. refl;
    here = λ t y qtds there. is_there t y there;
    was = λ t y qtds there.
        ⊎_elim (λ (old : v.transfer t ≡ Some y). old) (λ (new : (i : ℕ) × (transfer_in (made e s n bs) i ≡ Some y)). absurd (iso_is_not y.isochronous (made_iso e s n bs new.0 y new.1) qtds)) (was_either t y there);
    queue = λ i z is. alike z.queue;
    dummy = λ i z is. alike z.dummy;
    piece = λ t b y z is piece. alike b;
    buffer = λ t b c cs y z is piece first. alike c;
  }

  -- a descriptor that is lent is an older one
  older : (t : ℕ) (y : TransferRuns) → IsDescriptorLent w t y → IsDescriptorLent v t y
  older t y is =
      ⊎_elim (λ (old : v.transfer t ≡ Some y). record { here = old; held = is.held; isochronous = is.isochronous; lent = (alike y.first).back is.lent })
      (λ (new : (i : ℕ) × (transfer_in (made e s n bs) i ≡ Some y)). absurd (new_kept y.first (made_first e s n bs new.0 y enough new.1) is.lent)) (was_either t y is.here)

  pub descriptors : SameDescriptors v w
  descriptors = record {
    slots = mono;
    stay = λ t y is. record { here = is_there t y is.here; held = is.held; isochronous = is.isochronous; lent = (alike y.first).on is.lent };
    were = older;
    notes = λ t y is. ap runs_of_descriptor (notes_other g.book e x.desc s n seed bs before y.first enough (λ one. new_kept y.first one ((alike y.first).on is.lent)));
  }

  pub entered_told : (descs parts : StructureSets) → IsToldBy v descs parts → IsToldBy w descs parts
  entered_told descs parts told =
      let driven : IsDriven w (sorts_of parts) = driven_stays v w queues (sorts_of parts) told.driven in
      record { driven = driven; extents = extents_stay v w queues parts driven told.extents; described = described_follow v w descs descriptors told.described }

  pub entered_leaves : Stands (holding d.book m) → IsShaped m → Leaves m now.memory
  entered_leaves stands shape =
      taken_leaves now.memory stands shape taken (all_sizes g.book e x.desc s n seed bs before) (all_states g.book e x.desc s n seed bs before)
      (λ c other run has.
      words_other g.book e x.desc s short (slots_apart g taken.stands) n seed bs before c other has enough (not_new c run) ∙ ap (λ (ws : List ℕ). slice_index ws (other / 4)) taken.words)
    where
      not_new : (c : ℕ) → HasRun (slot_of d.book.slots c) → IsOneOf c bs → ⊥
      not_new c run one = let at = index_of c bs one in fresh_differs at.index c taken at.below run (sym at.is)

-- ---- the laws

-- the runs that are taken, each in one page
record AreTakenRuns (d : DriverContent) (m : Mem) (g : Holding) (ns : List ℕ) : Type 0 where
  blocks : List ℕ
  are : AreTaken (holding d.book m) g ns blocks
  new : new_runs d g ≡ blocks
  takes : TakesOn (slot_of d.book.slots) (slot_of g.book.slots)
  runs : AreRuns (slot_of g.book.slots) ns blocks

taken_for : (d : DriverContent) (m : Mem) (o : Offered) (why : Describes d m o) → Stands (holding d.book m) → AreTakenRuns d m why.holding_after (iso_needs why.slots why.count)
taken_for d m o why stands =
    let g = why.holding_after in
    let ns = iso_needs why.slots why.count in
    let all = runs_taken (holding d.book m) g ns stands why.runs in
    let paged = runs_paged ns (holding d.book m) g stands why.runs in
    let same : paged.blocks ≡ all.blocks =
    sym (drop_first d.book.taken paged.blocks) ∙ ap (drop (length d.book.taken)) (sym paged.taken ∙ all.are.taken) ∙ drop_first d.book.taken all.blocks in
    record {
      blocks = all.blocks;
      are = all.are;
      new = ap (drop (length d.book.taken)) all.are.taken ∙ drop_first d.book.taken all.blocks;
      takes = takes_on (holding d.book m) g ns all.blocks why.runs all.are;
      runs = subst (AreRuns (slot_of g.book.slots) ns) same paged.runs;
    }

entered_is : (d : DriverContent) (m : Mem) (o : Offered) (why : Describes d m o) (k : AreTakenRuns d m why.holding_after (iso_needs why.slots why.count))
    → o ≡ entered_iso d why.number why.endpoint why.count (total_of why.slots) why.holding_after.book
    (all_descriptors why.holding_after.book why.number why.endpoint.desc why.slots why.count why.seed k.blocks (record { notes = d.periodic.notes; transfers = d.transfers; memory = why.holding_after.memory }))
entered_is d m o why k =
    why.is
    ∙ ap (λ (rs : List ℕ). entered_iso d why.number why.endpoint why.count (total_of why.slots) why.holding_after.book
    (all_descriptors why.holding_after.book why.number why.endpoint.desc why.slots why.count why.seed rs (record { notes = d.periodic.notes; transfers = d.transfers; memory = why.holding_after.memory }))) k.new

pub describes_told : DescribesTold
describes_told d m o descs parts why stands told =
    let k = taken_for d m o why stands in
    subst (λ (f : Offered). IsToldBy (views_of f.driver) descs parts) (sym (entered_is d m o why k))
    (entered_told d m why.number why.endpoint why.slots why.count why.seed why.holding_after k.blocks why.here why.short k.takes k.are k.runs descs parts told)

-- the descriptors that were lent before
pub describes_described : (d : DriverContent) (m : Mem) (o : Offered) (descs : StructureSets) → Describes d m o → Stands (holding d.book m) → AreDescribed (views_of d) descs → AreDescribed (views_of o.driver) descs
describes_described d m o descs why stands old =
    let k = taken_for d m o why stands in
    let now : Offered =
    entered_iso d why.number why.endpoint why.count (total_of why.slots) why.holding_after.book
    (all_descriptors why.holding_after.book why.number why.endpoint.desc why.slots why.count why.seed k.blocks (record { notes = d.periodic.notes; transfers = d.transfers; memory = why.holding_after.memory })) in
    subst (λ (f : Offered). AreDescribed (views_of f.driver) descs) (sym (entered_is d m o why k))
    (described_follow (views_of d) (views_of now.driver) descs
    (descriptors d m why.number why.endpoint why.slots why.count why.seed why.holding_after k.blocks why.here why.short k.takes k.are k.runs) old)

pub describes_leaves : DescribesLeaves
describes_leaves d m o why stands shape =
    let k = taken_for d m o why stands in
    subst (λ (f : Offered). Leaves m f.memory) (sym (entered_is d m o why k))
    (entered_leaves d m why.number why.endpoint why.slots why.count why.seed why.holding_after k.blocks why.here why.short k.takes k.are k.runs stands shape)

pub frames_told : FramesTold
frames_told p descs parts told =
    let d : DriverContent = p.driver in
    let e : DriverContent = framed_by d p.registers.frame_index d.command in
    let same = (framed d p.registers.frame_index d.command).same in
    let views : SameViews (views_of d) (views_of e) = record { slot = framed_slots d p.registers.frame_index d.command; endpoint = same.endpoints; transfer = same.transfers; note = same.notes } in
    let queues : QueuesStay (views_of d) (views_of e) = views_queues (views_of d) (views_of e) views in
    let driven : IsDriven (views_of e) (sorts_of parts) = driven_stays (views_of d) (views_of e) queues (sorts_of parts) told.driven in
    record { driven = driven; extents = extents_stay (views_of d) (views_of e) queues parts driven told.extents; described = frames_describe p descs told.described }
