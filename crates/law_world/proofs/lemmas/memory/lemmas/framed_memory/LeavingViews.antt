-- What a driver has once an endpoint with a queue was given back with all that its transfers still had: the queues of the others, and each isochronous descriptor.
use Rattle.std.proofs.Common.{◌≡◌, ◌≢◌, ℕ, ◌*◌, ◌==◌, Bool, true, false, not, ◌&&◌, ◌||◌, if◌then◌else◌, List, [], ◌∷◌, map, set, slice_get, Option, Some, None, option_map, ap, refl, sym, subst, ◌∙◌}
use Rattle.std.specs.List.{AllByRecursion}
use Rattle.std.proofs.lemmas.Bool.{true≢false, false≢true, eqb-true, eq-eqb, and_parts}
use Rattle.std.proofs.lemmas.Option.{same_Some, slice_get-map}
use Rattle.law_common.proofs.Booleans.{or_true, held_is}
use Rattle.law_common.proofs.Options.{none_is_some, absent}
use Rattle.law_common.proofs.Lists.{set_here, set_there}
use Rattle.law_common.proofs.Numbers.{other_number}
use Rattle.word_mem.specs.Memory.{Mem}
use Rattle.word_mem.proofs.Holders.{has_block_from}
use Rattle.mem_runs.specs.declared.slots.Slot.{Slot}
use Rattle.mem_runs.specs.Book.{Book, Holding, holding, slot_of, Stands}
use Rattle.drv_periodic_table.specs.declared.content.DescriptorNote.{DescriptorNote}
use Rattle.drv_table.specs.declared.content.Endpoint.{Endpoint}
use Rattle.drv_table.specs.declared.content.Transfer.{Transfer}
use Rattle.drv_table.specs.declared.content.QtdNote.{QtdNote}
use Rattle.drv_table.specs.DriverContent.{DriverContent}
use Rattle.drv_table.specs.Releases.{free_runs, free_endpoint, let_go}
use Rattle.drv_table.specs.Kinds.{is_iso}
use Rattle.claims_driver.specs.Owners.{Owner, QueueHead, Dummy, Element, Buffer as BufferOf, IsPlaced, SlotHas, EndpointRuns, TransferRuns, DescriptorRuns, runs_of_endpoint, runs_of_transfer, endpoint_in, transfer_in, note_in, descriptor_in, Views, views_of, IsQueueIn, IsOneOf}
use Rattle.law_driver.proofs.lemmas.run_owners.Apart.{runs_apart}
use Rattle.law_driver.proofs.lemmas.run_owners.Freeing.{runs_freed}
use Rattle.law_structures.specs.lent_structures.Structures.{Structures, StructureSets, Tells}
use Rattle.law_ring.proofs.Returning.{fewer_are_told}
use Rattle.law_driver_ring.specs.Inventory.{IsLent}
use Rattle.law_driver_ring.specs.Extents.{InRuns, AreInRuns}
use Rattle.law_driver_ring.proofs.Blocks.{all_one}
use Rattle.law_driver_ring.proofs.Freeing.{runs_less, HaveNone, all_told}
use Rattle.law_world.specs.steps.endpoint_releases.Released.{endpoint_blocks, without_queue}
use Rattle.law_world.proofs.lemmas.steps.lemmas.endpoint_releases.Blocks.{held_at, goes_with, transfers_go, none_goes, endpoint_is_runs}
use Rattle.law_world.proofs.lemmas.steps.lemmas.endpoint_releases.Owning.{EndpointGoes, driven_without, extents_without}
use Rattle.law_world.proofs.lemmas.steps.lemmas.endpoint_releases.Homes.{home}
use Rattle.law_descriptors.specs.Described.{IsDescriptorLent, HasDescriptor, HasItsBuffer, IsOfDescriptor, a_descriptor, a_buffer, AreDescribed, AreHeld}
use Rattle.law_descriptors.specs.PartLaws.{IsDescribing}
use Rattle.law_descriptors.specs.Told.{IsToldBy}
use Rattle.law_descriptors.proofs.GivenBoth.{lent_before}
use Rattle.law_descriptors.proofs.Owned.{descriptor_owner, is_described, one_owner, IsOfDescriptors, descriptor_lies}
use Rattle.law_descriptors.proofs.Telling.{piece_owner}

-- ---- the driver then

-- what is given back of a driver's content and memory with endpoint e, which is x
pub record IsWithout (d : DriverContent) (m : Mem) (e : ℕ) (x : Endpoint) (f : DriverContent) : Type 0 where
  pub told : Bool
  pub book : f.book ≡ (free_endpoint d e x (holding d.book m)).book
  pub endpoints : f.endpoints ≡ set d.endpoints e (record x { gone = true })
  pub transfers : f.transfers ≡ map (let_go e told) d.transfers
  pub notes : f.notes ≡ d.notes
  pub descriptors : f.periodic.notes ≡ d.periodic.notes

-- ---- a transfer

-- one that is still held is another endpoint's
one_back : (e : ℕ) (told b : Bool) (y : Transfer) (z : TransferRuns) → (y.endpoint == e) ≡ b → runs_of_transfer (if b then record y { reported = y.reported || told; released = true } else y) ≡ z → z.released ≡ false → (z.endpoint ≢ e) × (runs_of_transfer y ≡ z)
one_back e told true y z test is off = absurd (true≢false (ap (λ (r : TransferRuns). r.released) is ∙ off))
one_back e told false y z test is off =
    (λ same. true≢false (sym (eq-eqb y.endpoint e (ap (λ (r : TransferRuns). r.endpoint) is ∙ same)) ∙ test), is)

some_back : (e : ℕ) (told : Bool) (o : Option Transfer) (z : TransferRuns) → option_map runs_of_transfer (option_map (let_go e told) o) ≡ Some z → z.released ≡ false → (z.endpoint ≢ e) × (option_map runs_of_transfer o ≡ Some z)
some_back e told None z there off = absurd (none_is_some z there)
some_back e told (Some y) z there off =
    let b = one_back e told (y.endpoint == e) y z refl (same_Some (runs_of_transfer (let_go e told y)) z there) off in
    (b.0, ap Some b.1)

-- and another endpoint's is as it was
some_on : (e : ℕ) (told : Bool) (o : Option Transfer) (z : TransferRuns) → option_map runs_of_transfer o ≡ Some z → z.endpoint ≢ e → (held_at e o ≡ false) × (option_map runs_of_transfer (option_map (let_go e told) o) ≡ Some z)
some_on e told None z there differs = absurd (none_is_some z there)
some_on e told (Some y) z there differs =
    let is : runs_of_transfer y ≡ z = same_Some (runs_of_transfer y) z there in
    let test : (y.endpoint == e) ≡ false = other_number y.endpoint e (λ same. differs (ap (λ (r : TransferRuns). r.endpoint) (sym is) ∙ same)) in (
      ap (λ (b : Bool). b && not y.released) test,
      ap (λ (b : Bool). Some (runs_of_transfer (if b then record y { reported = y.reported || told; released = true } else y))) test ∙ there,
    )

-- one that goes is the endpoint's
record IsHeldAt (e : ℕ) (o : Option Transfer) : Type 0 where
  transfer : Transfer
  here : o ≡ Some transfer
  endpoint : transfer.endpoint ≡ e

is_held_at : (e : ℕ) (o : Option Transfer) → held_at e o ≡ true → IsHeldAt e o
is_held_at e None on = absurd (false≢true on)
is_held_at e (Some y) on = record { transfer = y; here = refl; endpoint = eqb-true y.endpoint e (and_parts (y.endpoint == e) (not y.released) on).0 }

-- ---- no descriptor's run is among those of a queue

no_descriptor : (transfer : ℕ → Option TransferRuns) (e n : ℕ) (held : ℕ → Bool) (o : Owner) → ((t : ℕ) → held t ≡ true → is_described (transfer t) ≡ false) → goes_with e held o ≡ true → descriptor_owner transfer o ≡ Some n → ⊥
no_descriptor transfer e n held (QueueHead u) off my is = absent None n refl is
no_descriptor transfer e n held (Dummy u) off my is = absent None n refl is
no_descriptor transfer e n held (Element u) off my is = absent None n refl is
no_descriptor transfer e n held (BufferOf u) off my is =
    absent (descriptor_owner transfer (BufferOf u)) n (ap (λ (b : Bool). if b then Some u else None) (off u my)) is
no_descriptor transfer e n held _ off my is = true≢false (sym my)

module _ (d : DriverContent) (m : Mem) (descs parts : StructureSets) (e : ℕ) (x : Endpoint) (f : DriverContent) (old : IsDescribing d descs parts) (lies : AreInRuns (views_of d) parts) (stands : Stands (holding d.book m)) (here : slice_get d.endpoints e ≡ Some x) (queued : is_iso x.desc.kind ≡ false) (kept : x.gone ≡ false) (g : IsWithout d m e x f) where
  abbrev h : Holding
  h = holding d.book m

  abbrev v : Views
  v = views_of d

  abbrev w : Views
  w = views_of f

  abbrev owner : ℕ → Owner
  owner = old.owners.owner

  abbrev blocks : List ℕ
  blocks = endpoint_blocks d e x

  abbrev held : ℕ → Bool
  held t = held_at e (slice_get d.transfers t)

  abbrev gone : Endpoint
  gone = record x { gone = true }

  abbrev freed : Holding
  freed = free_endpoint d e x h

  abbrev now : StructureSets
  now = without_queue parts (32 * x.queue)

  freed_is : freed ≡ free_runs h blocks
  freed_is = endpoint_is_runs d e x h

  -- ---- the endpoint, and all of its blocks

  queue_is : IsQueueIn v e (runs_of_endpoint x)
  queue_is = record { here = ap (option_map runs_of_endpoint) here; queued = ap (λ (b : Bool). b || x.gone) queued ∙ kept }

  they_go : AllByRecursion (λ c. goes_with e held (owner c) ≡ true) blocks
  they_go = (
    ap (goes_with e held) (old.owners.owned.each.queue e (runs_of_endpoint x) queue_is.here queue_is.queued).owned ∙ eq-eqb e e refl,
    (
      ap (goes_with e held) (old.owners.owned.each.dummy e (runs_of_endpoint x) queue_is.here queue_is.queued).owned ∙ eq-eqb e e refl,
      transfers_go (slot_of d.book.slots) owner (note_in d.notes) e held d.transfers
          (λ t y there on.
          (t, ap (held_at e) there ∙ on, old.owners.owned.each.pieces t (runs_of_transfer y) (ap (option_map runs_of_transfer) there) (held_is (y.endpoint == e) y.released on))),
    ),
  )

  -- ---- endpoints and transfers afterwards

  slots_are : (c : ℕ) → w.slot c ≡ slot_of (free_runs h blocks).book.slots c
  slots_are c = ap (λ (b : Book). slot_of b.slots c) g.book ∙ ap (λ (i : Holding). slot_of i.book.slots c) freed_is

  slots_kept : (c : ℕ) → goes_with e held (owner c) ≡ false → w.slot c ≡ v.slot c
  slots_kept c off = slots_are c ∙ runs_freed h blocks c (none_goes owner e held c blocks off they_go)

  slots_lent : (c : ℕ) → IsLent (w.slot c) → IsLent (v.slot c)
  slots_lent c lent = lent_before (slot_of (free_runs h blocks).book.slots c) (slot_of d.book.slots c) (runs_less h blocks c) (subst IsLent (slots_are c) lent)

  endpoints_are : (u : ℕ) → w.endpoint u ≡ endpoint_in (set d.endpoints e gone) u
  endpoints_are u = ap (λ (xs : List Endpoint). endpoint_in xs u) g.endpoints

  transfers_are : (t : ℕ) → w.transfer t ≡ option_map runs_of_transfer (option_map (let_go e g.told) (slice_get d.transfers t))
  transfers_are t = ap (λ (ts : List Transfer). transfer_in ts t) g.transfers ∙ ap (option_map runs_of_transfer) (slice_get-map (let_go e g.told) d.transfers t)

  other_endpoint : (u : ℕ) → u ≢ e → w.endpoint u ≡ v.endpoint u
  other_endpoint u differs = endpoints_are u ∙ ap (option_map runs_of_endpoint) (set_there d.endpoints e u gone differs)

  none_queued : (u : ℕ) (z : EndpointRuns) → IsQueueIn w u z → u ≢ e
  none_queued u z is same =
      let there : endpoint_in (set d.endpoints e gone) e ≡ Some z = ap (endpoint_in (set d.endpoints e gone)) (sym same) ∙ sym (endpoints_are u) ∙ is.here in
      let one : runs_of_endpoint gone ≡ z = same_Some (runs_of_endpoint gone) z (sym (ap (option_map runs_of_endpoint) (set_here d.endpoints e x gone here)) ∙ there) in
      true≢false (sym (or_true (is_iso x.desc.kind)) ∙ ap (λ (r : EndpointRuns). r.bare) one ∙ is.queued)

  transfer_back : (t : ℕ) (z : TransferRuns) → w.transfer t ≡ Some z → z.released ≡ false → (z.endpoint ≢ e) × (v.transfer t ≡ Some z)
  transfer_back t z there off = some_back e g.told (slice_get d.transfers t) z (sym (transfers_are t) ∙ there) off

  transfer_on : (t : ℕ) (z : TransferRuns) → v.transfer t ≡ Some z → z.endpoint ≢ e → (held t ≡ false) × (w.transfer t ≡ Some z)
  transfer_on t z there differs = let o = some_on e g.told (slice_get d.transfers t) z there differs in (o.0, transfers_are t ∙ o.1)

  goes : EndpointGoes v w owner e (runs_of_endpoint x) held
  goes = record {
    owned = old.owners.owned.each;
    here = queue_is;
    slots = slots_lent;
    kept = slots_kept;
    notes = λ b. ap (λ (ns : List QtdNote). note_in ns b) g.notes;
    back = λ u z is. let differs = none_queued u z is in (differs, record { here = sym (other_endpoint u differs) ∙ is.here; queued = is.queued });
    on = λ u z differs is. record { here = other_endpoint u differs ∙ is.here; queued = is.queued };
    transfer_back = transfer_back;
    transfer_on = transfer_on;
  }

  -- ---- the queues of the others

  none_there : HaveNone h now blocks
  none_there c r among is n a u k found has inside =
      let q = home h v w owner parts e (runs_of_endpoint x) held (λ i. refl) stands lies goes n a u k old.driven found has in
      let my : goes_with e held (owner c) ≡ true = all_one (λ i. goes_with e held (owner i) ≡ true) blocks c they_go among in
      runs_apart h q.at c k stands (λ same. true≢false (sym my ∙ ap (λ (i : ℕ). goes_with e held (owner i)) same ∙ q.other)) q.has
      (subst (λ (s : Slot). SlotHas s k) (sym is) (has_block_from r k inside.from inside.below))

  pub queues_told : Tells m parts → Tells freed.memory now
  queues_told tells =
      subst (λ (i : Holding). Tells i.memory now) (sym freed_is) (all_told h now blocks none_there (record { stands = stands; told = fewer_are_told m parts (32 * x.queue) (λ a. true) tells })).told

  -- ---- the descriptors

  -- its transfers have none
  of_endpoint : (t : ℕ) (y : Transfer) → slice_get d.transfers t ≡ Some y → y.endpoint ≡ e → (runs_of_transfer y).isochronous ≡ false
  of_endpoint t y there of = old.owners.orderly.sorts t y x there (ap (slice_get d.endpoints) of ∙ here) ∙ queued

  held_has_none : (t : ℕ) → held t ≡ true → is_described (v.transfer t) ≡ false
  held_has_none t on =
      let q : IsHeldAt e (slice_get d.transfers t) = is_held_at e (slice_get d.transfers t) on in
      ap (λ (o : Option Transfer). is_described (option_map runs_of_transfer o)) q.here ∙ of_endpoint t q.transfer q.here q.endpoint

  record HasTransfer (t : ℕ) (r : TransferRuns) : Type 0 where
    transfer : Transfer
    there : slice_get d.transfers t ≡ Some transfer
    runs : runs_of_transfer transfer ≡ r

  has_transfer : (t : ℕ) (r : TransferRuns) → v.transfer t ≡ Some r → HasTransfer t r
  has_transfer t r there = by (slice_get d.transfers t) refl
    where
      by : (o : Option Transfer) → slice_get d.transfers t ≡ o → HasTransfer t r
      by None is = absurd (none_is_some r (sym (ap (option_map runs_of_transfer) is) ∙ there))
      by (Some y) is = record { transfer = y; there = is; runs = same_Some (runs_of_transfer y) r (sym (ap (option_map runs_of_transfer) is) ∙ there) }

  another : (t : ℕ) (r : TransferRuns) → v.transfer t ≡ Some r → r.isochronous ≡ true → r.endpoint ≢ e
  another t r there isochronous same =
      let q : HasTransfer t r = has_transfer t r there in
      true≢false (sym isochronous ∙ ap (λ (z : TransferRuns). z.isochronous) (sym q.runs) ∙ of_endpoint t q.transfer q.there (ap (λ (z : TransferRuns). z.endpoint) q.runs ∙ same))

  none_of_descriptors : HaveNone h descs blocks
  none_of_descriptors b r among lends i a s j found has inside =
      let q : IsOfDescriptors h v owner (λ c. refl) stands old.owners.owned.each i a j
      = descriptor_lies h v owner (λ c. refl) stands old.owners.owned.each descs old.described i a s j found has in
      let whose : q.whose ≡ owner b
      = one_owner h v owner (λ c. refl) stands old.owners.owned.each q.whose (owner b) j q.inside
      (record { at = b; owned = refl; has = subst (λ (z : Slot). SlotHas z j) (sym lends) (has_block_from r j inside.from inside.below) }) in
      let my : goes_with e held (owner b) ≡ true = all_one (λ c. goes_with e held (owner c) ≡ true) blocks b they_go among in
      no_descriptor v.transfer e q.number held (owner b) held_has_none my
      (ap (descriptor_owner v.transfer) (sym whose) ∙ piece_owner d m descs parts old lies stands q.number q.transfer a q.whose q.lent q.piece)

  descs_told : Tells m descs → Tells freed.memory descs
  descs_told told = subst (λ (i : Holding). Tells i.memory descs) (sym freed_is) (all_told h descs blocks none_of_descriptors (record { stands = stands; told = told })).told

  kept_descriptor : (t : ℕ) (r : TransferRuns) → IsDescriptorLent v t r → w.slot r.first ≡ v.slot r.first
  kept_descriptor t r lent = slots_kept r.first (ap (goes_with e held) (old.owners.owned.each.described t r lent.here lent.isochronous lent.held).descriptor.owned)

  lent_on : (t : ℕ) (r : TransferRuns) → IsDescriptorLent v t r → IsDescriptorLent w t r
  lent_on t r lent = record {
    here = (transfer_on t r lent.here (another t r lent.here lent.isochronous)).1;
    held = lent.held;
    isochronous = lent.isochronous;
    lent = subst IsLent (sym (kept_descriptor t r lent)) lent.lent;
  }

  lent_back : (t : ℕ) (r : TransferRuns) → IsDescriptorLent w t r → IsDescriptorLent v t r
  lent_back t r lent = record { here = (transfer_back t r lent.here lent.held).1; held = lent.held; isochronous = lent.isochronous; lent = slots_lent r.first lent.lent }

  notes_are : (b : ℕ) → w.descriptor b ≡ v.descriptor b
  notes_are b = ap (λ (ns : List DescriptorNote). descriptor_in ns b) g.descriptors

  buffer_kept : (t : ℕ) → held t ≡ false → (part : Structures) (cs : List ℕ) → ((b : ℕ) → IsOneOf b cs → owner b ≡ BufferOf t) → HasItsBuffer v.slot part cs → HasItsBuffer w.slot part cs
  buffer_kept t off part [] owned has = tt
  buffer_kept t off part (b ∷ cs) owned has = record {
    pages = has.pages;
    start = has.start;
    bytes = has.bytes;
    here = has.here;
    runs = λ j inside.
        let in_runs : InRuns v.slot (b ∷ cs) j = has.runs j inside in
        record {
          at = in_runs.at;
          among = in_runs.among;
          has = subst (λ (s : Slot). SlotHas s j) (sym (slots_kept in_runs.at (ap (goes_with e held) (owned in_runs.at in_runs.among) ∙ off))) in_runs.has;
        };
  }

  described : AreDescribed w descs
  described = record {
    descriptors = λ t r lent.
        subst (λ (n : DescriptorRuns). HasDescriptor n.split (descs (32 * r.first)) (32 * r.first)) (sym (notes_are r.first)) (old.described.descriptors t r (lent_back t r lent));
    buffers = λ t r lent.
        let was = lent_back t r lent in
        let its = old.owners.owned.each.described t r was.here was.isochronous was.held in
        subst (λ (n : DescriptorRuns). HasItsBuffer w.slot (descs (32 * r.first)) n.buffer) (sym (notes_are r.first))
        (buffer_kept t (transfer_on t r was.here (another t r was.here was.isochronous)).0 (descs (32 * r.first)) (v.descriptor r.first).buffer
        (λ b among. (all_one (λ c. IsPlaced v.slot owner c (BufferOf t)) (v.descriptor r.first).buffer b its.buffers among).owned) (old.described.buffers t r was));
    only = λ i a s found. still_of i a (old.described.only i a s found);
  }
    where
      still_of : (i a : ℕ) → IsOfDescriptor v i a → IsOfDescriptor w i a
      still_of _ _ (a_descriptor t r lent) = a_descriptor t r (lent_on t r lent)
      still_of _ _ (a_buffer t b cs r lent first) = a_buffer t b cs r (lent_on t r lent) (ap (λ (n : DescriptorRuns). n.buffer) (notes_are r.first) ∙ first)

  -- ---- the whole

  pub told_then : IsToldBy w descs now
  told_then = record {
    driven = driven_without v w owner e (runs_of_endpoint x) held goes parts old.driven;
    extents = extents_without v w owner e (runs_of_endpoint x) held goes parts lies;
    described = described;
  }

  pub held_then : Tells m descs → AreHeld freed.memory descs
  held_then told i a s found = (descs_told told).each i a s found
