-- Each descriptor is described once all that was taken is lent.
use Rattle.std.proofs.Common.{◌≡◌, ℕ, ◌+◌, ◌-◌, ◌*◌, ◌/◌, ◌<◌, ◌≤◌, Bool, true, false, List, [], ◌∷◌, length, take, drop, get_or, set, slice_get, Option, Some, None, if◌then◌else◌, option_map, ap, refl, sym, subst, ◌∙◌, inl, inr, ⊎_elim, arith}
use Rattle.std.proofs.lemmas.Bool.{cases_lt}
use Rattle.std.proofs.lemmas.Option.{same_Some}
use Rattle.law_descriptors.proofs.Common.{words_few, buffer_follows}
use Rattle.law_frame_list.proofs.Common.{dropped_at}
use Rattle.usb_base.specs.declared.endpoints.EpDesc.{EpDesc}
use Rattle.word_mem.specs.Runs.{Run}
use Rattle.word_mem.specs.Memory.{Mem, IsShaped}
use Rattle.word_mem.specs.Views.{words_in as words_from}
use Rattle.mem_runs.specs.declared.slots.Slot.{Slot}
use Rattle.mem_runs.specs.declared.slots.Slot.TheVariants.{Empty, Keeps, Lends}
use Rattle.mem_runs.specs.Book.{Holding, holding, slot_of, lend_taken, Stands}
use Rattle.drv_periodic_table.specs.declared.content.DescriptorNote.{DescriptorNote}
use Rattle.drv_periodic_table.specs.Periodic.{note_at}
use Rattle.drv_table.specs.declared.content.Transfer.{Transfer}
use Rattle.drv_table.specs.DriverContent.{DriverContent}
use Rattle.drv_table.specs.Parts.{Parts}
use Rattle.drv_table.specs.Commands.{advance}
use Rattle.claims_driver.specs.Owners.{Buffer, SlotHas, IsPlaced, IsDescribed, TransferRuns, Views, views_of, runs_of_transfer, transfer_in}
use Rattle.law_driver.proofs.lemmas.run_owners.Stays.{advanced}
use Rattle.law_driver.proofs.lemmas.ring_members.Freed.{lent_words}
use Rattle.law_structures.specs.lent_structures.Structures.{Structure, Structures, StructureSets, Holds}
use Rattle.law_structures.specs.lent_structures.Changes.{Leaves}
use Rattle.law_structures.proofs.lemmas.lent_structures.Standing.{reaches_if, holds_lent, holds_still}
use Rattle.law_driver_ring.specs.Inventory.{IsLent}
use Rattle.law_driver_ring.proofs.Viewing.{advance_views}
use Rattle.law_driver_ring.proofs.Lent.{leaves_both, lend_taken_leaves}
use Rattle.law_descriptors.specs.Described.{IsDescriptorLent, HasDescriptor, HasItsBuffer, IsOfDescriptor, a_descriptor, a_buffer, AreDescribed, AreHeld}
use Rattle.law_descriptors.specs.Both.{owns, SameDescriptors}
use Rattle.law_descriptors.proofs.Standing.{IsAtOwner, on_owner}
use Rattle.law_descriptors.proofs.Owned.{descriptor_owner, is_described}
use Rattle.law_descriptors.proofs.Stays.{described_follow}
use Rattle.law_driver_ring.specs.Written.{AreAllApart}
use Rattle.law_driver_ring.proofs.Lists.{IsOneOf, each_of, one_or_not}
use Rattle.law_driver_ring.proofs.TransferSlots.{taken_lent, others_stay, lent_stays}
use Rattle.law_driver_ring.proofs.Holding.{LendsRuns}
use Rattle.law_descriptors.specs.Written.{words_in, runs_of, IsToLend, link_before}
use Rattle.law_descriptors.specs.Lent.{descriptor_with, buffer_part, descriptor_part, lent_descs, descs_after, IsLending, LendDescribes}
use Rattle.law_descriptors.proofs.Linking.{linked_leaves, linked_words}
use Rattle.law_descriptors.proofs.Descriptors.{IsLentNow, descriptor_holds, buffer_stands, descriptor_has, has_buffer, IsBufferAt, buffer_found}
use Rattle.law_descriptors.proofs.Lends.{d, held, keep, apart, mid_stands, mid_shape, mid_is}
use Rattle.law_descriptors.proofs.Sets.{its_runs, runs_among, IsRunOf, run_of, runs_apart_at, part_found, set_old, set_new, IsNewAt, set_found}

-- ---- lists

first_and_rest : (cs : List ℕ) → 0 < length cs → cs ≡ get_or cs 0 0 ∷ drop 1 cs
first_and_rest [] some = absurd (omega (arith, some))
first_and_rest (c ∷ cs) some = refl

-- the transfer that is told so
record IsTold (ts : List Transfer) (t : ℕ) (y : TransferRuns) : Type 0 where
  transfer : Transfer
  here : slice_get ts t ≡ Some transfer
  runs : runs_of_transfer transfer ≡ y

told_by : (ts : List Transfer) (t : ℕ) (y : TransferRuns) → transfer_in ts t ≡ Some y → IsTold ts t y
told_by ts t y there = by (slice_get ts t) refl there
  where
    by : (o : Option Transfer) → slice_get ts t ≡ o → option_map runs_of_transfer o ≡ Some y → IsTold ts t y
    by None is e = absurd (cc)
    by (Some z) is e = record { transfer = z; here = is; runs = same_Some (runs_of_transfer z) y e }

words_some : (split : Bool) → 1 ≤ words_in split
words_some true = omega arith
words_some false = omega arith

-- what is lent has a run
record IsLentSlot (s : Slot) : Type 0 where
  run : Run
  is : s ≡ Lends run

lent_slot : (s : Slot) → IsLent s → IsLentSlot s
lent_slot (Lends r) lent = record { run = r; is = refl }
lent_slot _ lent = absurd lent

module _ (p : Parts) (t : ℕ) (x : EpDesc) (k : IsLending p t x) (descs : StructureSets) (old : AreDescribed (views_of p.driver) descs) (stood : AreHeld p.memory descs) where
  abbrev dr : DriverContent
  dr = p.driver

  abbrev zs : List Transfer
  zs = drop t p.driver.transfers

  abbrev notes : List DescriptorNote
  notes = p.driver.periodic.notes

  abbrev slot : ℕ → Slot
  slot = slot_of p.driver.book.slots

  abbrev h : Holding
  h = held p t x k

  abbrev g : Holding
  g = lend_taken h

  abbrev lent : DriverContent
  lent = record p.driver { book = g.book }

  abbrev v : Views
  v = views_of p.driver

  abbrev u : Views
  u = views_of lent

  abbrev new : StructureSets
  new = lent_descs g.memory x notes (link_before p.driver) zs descs

  stands : Stands h
  stands = mid_stands p t x k

  shape : IsShaped h.memory
  shape = mid_shape p t x k

  separate : AreAllApart (runs_of notes zs)
  separate = apart p t x k

  in_taken : (c : ℕ) → IsOneOf c (runs_of notes zs) → IsOneOf c dr.book.taken
  in_taken c one = subst (IsOneOf c) (sym k.await.taken) one

  -- ---- the slots after it

  pub now_lent : (c : ℕ) (r : Run) → IsOneOf c (runs_of notes zs) → slot c ≡ Keeps r → u.slot c ≡ Lends r
  now_lent c r one is = (taken_lent h c r stands shape (in_taken c one) is).slot

  lends : LendsRuns slot (runs_of notes zs) g.memory
  lends c r one is = (taken_lent h c r stands shape (in_taken c one) is).blocks

  pub others : (c : ℕ) → (IsOneOf c (runs_of notes zs) → ⊥) → u.slot c ≡ slot c
  others c none = others_stay h c (λ one. none (subst (IsOneOf c) k.await.taken one))

  pub stays_lent : (c : ℕ) → IsLent (slot c) → IsLent (u.slot c)
  stays_lent c lent = let s = lent_slot (slot c) lent in subst IsLent (sym (lent_stays h c s.run s.is)) tt

  pub same_run : (c j : ℕ) (s : Slot) → slot c ≡ s → SlotHas s j → SlotHas (u.slot c) j
  same_run c j s is has =
      ⊎_elim (λ (one : IsOneOf c (runs_of notes zs)). taken_run s is has one) (λ (none : IsOneOf c (runs_of notes zs) → ⊥). subst (λ (s : Slot). SlotHas s j) (sym (others c none ∙ is)) has) (one_or_not c (runs_of notes zs))
    where
      taken_run : (s : Slot) → slot c ≡ s → SlotHas s j → IsOneOf c (runs_of notes zs) → SlotHas (u.slot c) j
      taken_run Empty is has one = absurd has
      taken_run (Keeps r) is has one = subst (λ (s : Slot). SlotHas s j) (sym (now_lent c r one is)) has
      taken_run (Lends r) is has one = subst (λ (s : Slot). SlotHas s j) (sym (lent_stays h c r is)) has

  -- ---- each new one

  is_now : (i : ℕ) (y : Transfer) → slice_get zs i ≡ Some y → IsLentNow h g.memory x (note_at notes y.first) y.first (link_before dr y.first)
  is_now i y there =
      let its : IsToLend slot p.memory x notes y = k.await.each i y there in
      let note : DescriptorNote = note_at notes y.first in
      let n : ℕ = words_in note.split in
      let many = its.written.run.blocks in
      let few = words_few note.split in
      record {
        stands = stands;
        shape = shape;
        fits = k.await.fields;
        run = its.written.run;
        noted = its.written.noted;
        apart = runs_apart_at notes zs i y there separate;
        lends = λ c r one is. lends c r (runs_among notes zs i y c there one) is;
        words = ap (λ (ws : List ℕ). words_from ws (32 * y.first) n) (lent_words h)
            ∙ linked_words dr.book dr.periodic.list notes zs p.memory i n y its.written.run.run (keep p t x k) separate k.stands k.shape there its.written.run.is (omega (arith, many, few)) (words_some note.split)
            ∙ ap (λ (ws : List ℕ). set ws 0 (link_before dr y.first)) its.written.words;
        link = k.links y.first;
      }

  -- ---- whose the runs are

  number_here : (i : ℕ) (y : Transfer) → slice_get zs i ≡ Some y → v.transfer (t + i) ≡ Some (runs_of_transfer y)
  number_here i y there = ap (option_map runs_of_transfer) (sym (dropped_at t i dr.transfers) ∙ there)

  described_at : (i : ℕ) (y : Transfer) → slice_get zs i ≡ Some y → IsDescribed v.slot k.owners.owner (v.descriptor y.first) (t + i) y.first
  described_at i y there =
      let its = k.await.each i y there in k.owners.owned.each.described (t + i) (runs_of_transfer y) (number_here i y there) its.sort its.held

  pub run_owner : (i c : ℕ) (y : Transfer) → slice_get zs i ≡ Some y → IsOneOf c (its_runs notes y.first) → descriptor_owner v.transfer (k.owners.owner c) ≡ Some (t + i)
  run_owner i c y there (inl is) = ap (λ (b : ℕ). descriptor_owner v.transfer (k.owners.owner b)) is ∙ ap (descriptor_owner v.transfer) (described_at i y there).descriptor.owned
  run_owner i c y there (inr among) =
      let its = k.await.each i y there in
      let placed = each_of (λ (b : ℕ). IsPlaced v.slot k.owners.owner b (Buffer (t + i))) c (take (note_at notes y.first).runs (note_at notes y.first).buffer) (described_at i y there).buffers among in
      ap (descriptor_owner v.transfer) placed.owned ∙ ap (λ (b : Bool). if b then Some (t + i) else None) (ap is_described (number_here i y there) ∙ its.sort)

  -- an older descriptor has none of the runs that were taken
  pub older_apart : (i : ℕ) (y : TransferRuns) → i < t → v.transfer i ≡ Some y → y.isochronous ≡ true → y.released ≡ false → IsOneOf y.first (runs_of notes zs) → ⊥
  older_apart i y less here iso held one =
      let r : IsRunOf notes zs y.first = run_of notes zs y.first one in
      let mine = ap (descriptor_owner v.transfer) (k.owners.owned.each.described i y here iso held).descriptor.owned in
      let same : i ≡ t + r.index = same_Some i (t + r.index) (sym mine ∙ run_owner r.index y.first r.transfer r.here r.one) in
      omega (arith, same, less)

  older_lent : (i : ℕ) (y : TransferRuns) → i < t → IsDescriptorLent u i y → IsDescriptorLent v i y
  older_lent i y less is = record {
    here = is.here;
    held = is.held;
    isochronous = is.isochronous;
    lent = subst IsLent (others y.first (older_apart i y less is.here is.isochronous is.held)) is.lent;
  }

  older_set : (i : ℕ) (y : TransferRuns) → i < t → IsDescriptorLent u i y → new (32 * y.first) ≡ descs (32 * y.first)
  older_set i y less is =
      set_old g.memory x notes (link_before dr) descs zs (32 * y.first)
      (λ j z there same. older_apart i y less is.here is.isochronous is.held (subst (λ (b : ℕ). IsOneOf b (runs_of notes zs)) (let e : z.first ≡ y.first = omega (arith, same) in e) (runs_among notes zs j z z.first there (inl refl))))

  new_set : (i : ℕ) (y : Transfer) → slice_get zs i ≡ Some y → new (32 * y.first) ≡ descriptor_part g.memory x (note_at notes y.first) y.first (link_before dr y.first)
  new_set i y there = set_new g.memory x notes (link_before dr) descs zs i y there separate

  -- ---- it is described

  new_number : (i : ℕ) (z : Transfer) → t ≤ i → slice_get dr.transfers i ≡ Some z → slice_get zs (i - t) ≡ Some z
  new_number i z more here = dropped_at t (i - t) dr.transfers ∙ ap (slice_get dr.transfers) (let e : t + (i - t) ≡ i = omega (arith, more) in e) ∙ here

  new_descriptor : (i : ℕ) (z : Transfer) → slice_get zs i ≡ Some z → HasDescriptor (u.descriptor z.first).split (new (32 * z.first)) (32 * z.first)
  new_descriptor i z there =
      subst (λ (part : Structures). HasDescriptor (note_at notes z.first).split part (32 * z.first)) (sym (new_set i z there))
      (descriptor_has h g.memory x (note_at notes z.first) z.first (link_before dr z.first) (is_now i z there))

  new_buffer : (i : ℕ) (z : Transfer) → slice_get zs i ≡ Some z → HasItsBuffer u.slot (new (32 * z.first)) (u.descriptor z.first).buffer
  new_buffer i z there =
      subst (λ (part : Structures). HasItsBuffer u.slot part (take (note_at notes z.first).runs (note_at notes z.first).buffer)) (sym (new_set i z there))
      (has_buffer h g.memory x (note_at notes z.first) z.first (link_before dr z.first) (is_now i z there) u.slot (λ c r one is. now_lent c r (runs_among notes zs i z c there (inr one)) is))

  each_descriptor : (i : ℕ) (y : TransferRuns) → IsDescriptorLent u i y → HasDescriptor (u.descriptor y.first).split (new (32 * y.first)) (32 * y.first)
  each_descriptor i y is =
      ⊎_elim (λ (less : i < t).
      subst (λ (part : Structures). HasDescriptor (u.descriptor y.first).split part (32 * y.first)) (sym (older_set i y less is)) (old.descriptors i y (older_lent i y less is)))
      (λ (more : t ≤ i).
      let w : IsTold dr.transfers i y = told_by dr.transfers i y is.here in
      subst (λ (r : TransferRuns). HasDescriptor (u.descriptor r.first).split (new (32 * r.first)) (32 * r.first)) w.runs (new_descriptor (i - t) w.transfer (new_number i w.transfer more w.here)))
      (cases_lt i t)

  each_buffer : (i : ℕ) (y : TransferRuns) → IsDescriptorLent u i y → HasItsBuffer u.slot (new (32 * y.first)) (u.descriptor y.first).buffer
  each_buffer i y is =
      ⊎_elim (λ (less : i < t).
      subst (λ (part : Structures). HasItsBuffer u.slot part (u.descriptor y.first).buffer) (sym (older_set i y less is))
      (buffer_follows v.slot u.slot (descs (32 * y.first)) (u.descriptor y.first).buffer (λ c j has. same_run c j (slot c) refl has) (old.buffers i y (older_lent i y less is))))
      (λ (more : t ≤ i).
      let w : IsTold dr.transfers i y = told_by dr.transfers i y is.here in
      subst (λ (r : TransferRuns). HasItsBuffer u.slot (new (32 * r.first)) (u.descriptor r.first).buffer) w.runs (new_buffer (i - t) w.transfer (new_number i w.transfer more w.here)))
      (cases_lt i t)

  still_lent : (i : ℕ) (y : TransferRuns) → IsDescriptorLent v i y → IsDescriptorLent u i y
  still_lent i y is = record { here = is.here; held = is.held; isochronous = is.isochronous; lent = stays_lent y.first is.lent }

  still_of : (n a : ℕ) → IsOfDescriptor v n a → IsOfDescriptor u n a
  still_of _ _ (a_descriptor i y is) = a_descriptor i y (still_lent i y is)
  still_of _ _ (a_buffer i c cs y is first) = a_buffer i c cs y (still_lent i y is) first

  new_lent : (i : ℕ) (y : Transfer) → slice_get zs i ≡ Some y → IsDescriptorLent u (t + i) (runs_of_transfer y)
  new_lent i y there =
      let its = k.await.each i y there in
      record {
        here = number_here i y there;
        held = its.held;
        isochronous = its.sort;
        lent = subst IsLent (sym (now_lent y.first its.written.run.run (runs_among notes zs i y y.first there (inl refl)) its.written.run.is)) tt;
      }

  -- what is there is of a descriptor, and stands in memory
  record IsThere (n a : ℕ) (s : Structure) : Type 0 where
    of : IsOfDescriptor u n a
    holds : Holds g.memory a s

  new_there : (n a : ℕ) (s : Structure) → IsNewAt g.memory x notes (link_before dr) descs zs n a s → IsThere n a s
  new_there n a s q =
      let y : Transfer = q.transfer in
      let note : DescriptorNote = note_at notes y.first in
      let now = is_now q.index y q.here in
      let mine : IsDescriptorLent u (t + q.index) (runs_of_transfer y) = new_lent q.index y q.here in
      ⊎_elim
      (λ (is : (a ≡ 32 * y.first) × (s ≡ descriptor_with x note (link_before dr y.first))).
      record {
        of = subst (λ (i : ℕ). IsOfDescriptor u i a) (sym q.owner) (subst (IsOfDescriptor u (32 * y.first)) (sym is.0) (a_descriptor (t + q.index) (runs_of_transfer y) mine));
        holds = subst (λ (i : ℕ). Holds g.memory i s) (sym is.0) (subst (Holds g.memory (32 * y.first)) (sym is.1) (descriptor_holds h g.memory x note y.first (link_before dr y.first) now));
      })
      (λ (found : buffer_part g.memory note (take note.runs note.buffer) a ≡ Some s).
      let cs : List ℕ = take note.runs note.buffer in
      let b : IsBufferAt g.memory note cs a s = buffer_found g.memory note cs a s found in
      record {
        of = subst (λ (i : ℕ). IsOfDescriptor u i a) (sym q.owner)
            (subst (IsOfDescriptor u (32 * y.first)) (sym b.name) (a_buffer (t + q.index) (get_or cs 0 0) (drop 1 cs) (runs_of_transfer y) mine (first_and_rest cs b.some)));
        holds = buffer_stands h g.memory x note y.first (link_before dr y.first) now a s found;
      })
      (part_found g.memory x note y.first (link_before dr y.first) a s q.found)

  pub leaves : Leaves p.memory g.memory
  leaves = leaves_both p.memory h.memory g.memory (linked_leaves dr.book dr.periodic.list notes zs p.memory (keep p t x k) k.stands k.shape) (lend_taken_leaves h stands shape)

  old_there : (n a : ℕ) (s : Structure) → descs n a ≡ Some s → IsThere n a s
  old_there n a s here =
      let holds : Holds p.memory a s = stood n a s here in
      record {
        of = still_of n a (old.only n a s here);
        holds = holds_still p.memory g.memory a s (record { lent = λ b has lent. leaves.lent b lent; words = λ other has. leaves.words other (reaches_if p.memory other (holds_lent p.memory a s (other / 32) holds has)) }) holds;
      }

  there : (n a : ℕ) (s : Structure) → new n a ≡ Some s → IsThere n a s
  there n a s found =
      ⊎_elim (λ (q : IsNewAt g.memory x notes (link_before dr) descs zs n a s). new_there n a s q) (λ (here : descs n a ≡ Some s). old_there n a s here)
      (set_found g.memory x notes (link_before dr) descs zs n a s found)

  -- one that was lent before is an older one
  older_number : (i : ℕ) (y : TransferRuns) → IsDescriptorLent v i y → i < t
  older_number i y is =
      ⊎_elim (λ (less : i < t). less)
      (λ (more : t ≤ i).
      let w : IsTold dr.transfers i y = told_by dr.transfers i y is.here in
      let its = k.await.each (i - t) w.transfer (new_number i w.transfer more w.here) in
      absurd (subst IsLent (ap (λ (r : TransferRuns). slot r.first) (sym w.runs) ∙ its.written.run.is) is.lent))
      (cases_lt i t)

  -- its structures stay
  pub old_owner : (n : ℕ) → owns descs n ≡ true → new n ≡ descs n
  old_owner n on =
      let at : IsAtOwner v n = on_owner v descs n old on in
      subst (λ (i : ℕ). new i ≡ descs i) (sym at.name) (older_set at.number at.transfer (older_number at.number at.transfer at.lent) (still_lent at.number at.transfer at.lent))

  pub described_lent : AreDescribed u new
  described_lent = record { descriptors = each_descriptor; buffers = each_buffer; only = λ n a s found. (there n a s found).of }

  pub held_lent : AreHeld g.memory new
  held_lent n a s found = (there n a s found).holds

pub descs_stay : (p : Parts) (t : ℕ) (x : EpDesc) → IsLending p t x → (descs : StructureSets) → AreDescribed (views_of p.driver) descs → AreHeld p.memory descs → (n : ℕ) → owns descs n ≡ true → descs_after p t x descs n ≡ descs n
descs_stay p t x k descs old stood n on =
    subst (λ (m : Mem). lent_descs (lend_taken (holding p.driver.book m)).memory x p.driver.periodic.notes (link_before p.driver) (drop t p.driver.transfers) descs n ≡ descs n) (sym (mid_is p t x k))
    (old_owner p t x k descs old stood n on)

-- ---- the command goes on

same_descriptors : (d : DriverContent) → SameDescriptors (views_of d) (views_of (advance d))
same_descriptors d =
    let same = advance_views d in
    record {
      slots = λ c j has. subst (λ (s : Slot). SlotHas s j) (sym (same.slot c)) has;
      stay = λ t y is. record { here = same.transfer t ∙ is.here; held = is.held; isochronous = is.isochronous; lent = subst IsLent (sym (same.slot y.first)) is.lent };
      were = λ t y is. record { here = sym (same.transfer t) ∙ is.here; held = is.held; isochronous = is.isochronous; lent = subst IsLent (same.slot y.first) is.lent };
      notes = λ t y is. (advanced d).same.buffers y.first;
    }

pub lend_describes : LendDescribes
lend_describes p t x descs k old stood =
    subst (λ (m : Mem).
    AreDescribed (views_of (advance (record p.driver { book = (lend_taken (holding p.driver.book m)).book }))) (lent_descs (lend_taken (holding p.driver.book m)).memory x p.driver.periodic.notes (link_before p.driver) (drop t p.driver.transfers) descs)
    × AreHeld (lend_taken (holding p.driver.book m)).memory (lent_descs (lend_taken (holding p.driver.book m)).memory x p.driver.periodic.notes (link_before p.driver) (drop t p.driver.transfers) descs))
    (sym (mid_is p t x k)) (
      described_follow (views_of (record p.driver { book = (lend_taken (held p t x k)).book })) (views_of (advance (record p.driver { book = (lend_taken (held p t x k)).book })))
          (lent_descs (lend_taken (held p t x k)).memory x p.driver.periodic.notes (link_before p.driver) (drop t p.driver.transfers) descs) (same_descriptors (record p.driver { book = (lend_taken (held p t x k)).book }))
          (described_lent p t x k descs old stood),
      held_lent p t x k descs old stood,
    )
