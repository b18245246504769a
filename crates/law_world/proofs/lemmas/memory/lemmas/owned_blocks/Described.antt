-- New isochronous descriptors: all runs that are taken for them are theirs, or those of their buffers.
use Rattle.std.proofs.Common.{◌≡◌, ◌≢◌, ℕ, zero, suc, ◌+◌, ◌-◌, ◌<◌, ◌≤◌, ◌%◌, false, List, [], ◌∷◌, length, drop, get_or, set, replicate, slice_get, Option, Some, None, option_map, ap, refl, sym, subst, ◌∙◌, ⊎_elim, inl, inr, arith, length-append, length-drop}
use Rattle.std.proofs.lemmas.Bool.{cases_lt}
use Rattle.std.proofs.lemmas.List.{get_or-set_same, get_or-set_other, length-set, get_or-drop}
use Rattle.law_common.proofs.Lists.{get_first, drop_first, pushed_last}
use Rattle.law_driver.proofs.Common.{blocks_run}
use Rattle.law_descriptors.proofs.Common.{old_there}
use Rattle.usb_base.specs.declared.endpoints.EpDesc.{EpDesc}
use Rattle.word_mem.specs.Memory.{Mem}
use Rattle.mem_runs.specs.Book.{Book, holding, Stands, slot_of}
use Rattle.drv_periodic_table.specs.Periodic.{no_descriptor}
use Rattle.drv_table.specs.declared.content.Endpoint.{Endpoint}
use Rattle.drv_table.specs.declared.content.Transfer.{Transfer}
use Rattle.drv_table.specs.declared.content.Slots.{Slots}
use Rattle.drv_table.specs.DriverContent.{DriverContent}
use Rattle.drv_table.specs.Words.{buffer_needs}
use Rattle.drv_table.specs.Accepting.{Offered, new_runs, first_waiting}
use Rattle.drv_table.specs.IsoOffers.{Descriptors, total_of, slot_runs, iso_needs, descriptor_note, descriptor_transfer, one_descriptor, all_descriptors, entered_iso}
use Rattle.law_driver.specs.run_owners.Accepts.{Describes}
use Rattle.claims_driver.specs.Owners.{Described, HasRun, TransferRuns, NoteRuns, DescriptorRuns, runs_of_endpoint, runs_of_transfer, runs_of_descriptor, endpoint_in, transfer_in, descriptor_in, Views, views_of, IsOneOf}
use Rattle.claims_driver.specs.Leaving.{owes, IsOrderly, HasOwners}
use Rattle.law_driver.proofs.lemmas.run_owners.Runs.{placed_run}
use Rattle.law_driver.proofs.lemmas.run_owners.Stays.{same_view}
use Rattle.law_driver.proofs.lemmas.run_owners.Taking.{AreTaken, runs_taken}
use Rattle.law_driver.proofs.lemmas.run_owners.Chains.{few_runs}
use Rattle.law_driver.proofs.lemmas.run_owners.Accepted.{fresh_differs, within_slots}
use Rattle.law_driver_ring.specs.Released.{blocks_of}
use Rattle.claims_world.specs.Owned.{IsIsochronous, AreAllOwned}
use Rattle.law_world.specs.memory.owned_blocks.Owned.{AreQueuesHarvested, OwnsAll}
use Rattle.law_world.proofs.lemmas.memory.lemmas.owned_blocks.Whose.{Whose, of_driver, of_endpoint, of_transfer, of_descriptor, endpoint_alike, whose, owned, place_of}
use Rattle.law_world.proofs.lemmas.memory.lemmas.owned_blocks.Queues.{AreQueues}
use Rattle.law_world.proofs.lemmas.memory.lemmas.owned_blocks.Taken.{takes_only, filled_one}

-- ---- what they leave

all_there : (n seed : ℕ) (k : Book) (e : ℕ) (x : EpDesc) (s : Slots) (rs : List ℕ) (a : Descriptors) (t : ℕ) (r : TransferRuns) → transfer_in a.transfers t ≡ Some r → transfer_in (all_descriptors k e x s n seed rs a).transfers t ≡ Some r
unfolding all_descriptors
all_there zero seed k e x s rs a t r there = there
all_there (suc n) seed k e x s rs a t r there =
    all_there n ((seed + total_of s) % 256) k e x s (drop (suc (slot_runs s)) rs) (one_descriptor k e x s seed rs a) t r
    (old_there a.transfers (descriptor_transfer e s (get_or rs 0 0) ∷ []) t r there)

-- how many runs there are
enough : (s : Slots) (n : ℕ) (rs : List ℕ) → length rs ≡ length (iso_needs s (suc n)) → length rs ≡ suc (slot_runs s + length (iso_needs s n))
enough s n rs long = let a = length-append (buffer_needs (total_of s)) (iso_needs s n) in omega (arith, long, a)

rest_long : (s : Slots) (n : ℕ) (rs : List ℕ) → length rs ≡ length (iso_needs s (suc n)) → length (drop (suc (slot_runs s)) rs) ≡ length (iso_needs s n)
rest_long s n rs long = omega (arith, length-drop (suc (slot_runs s)) rs, enough s n rs long)

all_apart : (n seed : ℕ) (k : Book) (e : ℕ) (x : EpDesc) (s : Slots) (rs : List ℕ) (a : Descriptors) (c : ℕ) → length rs ≡ length (iso_needs s n) → ((i : ℕ) → i < length rs → get_or rs i 0 ≢ c)
    → descriptor_in (all_descriptors k e x s n seed rs a).notes c ≡ descriptor_in a.notes c
unfolding all_descriptors
all_apart zero seed k e x s rs a c long apart = refl
all_apart (suc n) seed k e x s rs a c long apart =
    let r = slot_runs s in
    let many = length-drop (suc r) rs in
    all_apart n ((seed + total_of s) % 256) k e x s (drop (suc r) rs) (one_descriptor k e x s seed rs a) c (rest_long s n rs long)
    (λ i below same. apart (suc r + i) (omega (arith, below, many, enough s n rs long)) (sym (get_or-drop (suc r) rs i 0) ∙ same))
    ∙ ap runs_of_descriptor (get_or-set_other a.notes (get_or rs 0 0) c (descriptor_note s (drop 1 rs)) no_descriptor (λ same. apart 0 (omega (arith, enough s n rs long)) (sym same)))

-- ---- whose the new runs are

abbrev views_with : Views → Descriptors → Views
views_with v a = record v { transfer = transfer_in a.transfers; descriptor = descriptor_in a.notes }

all_new : (v : Views) (n seed : ℕ) (k : Book) (e : ℕ) (x : EpDesc) (s : Slots) (rs : List ℕ) (a : Descriptors) → total_of s ≤ 24576 → length rs ≡ length (iso_needs s n) → ((i j : ℕ) → i < j → j < length rs → get_or rs j 0 ≢ get_or rs i 0)
    → ((i : ℕ) → i < length rs → get_or rs i 0 < length a.notes) → (i : ℕ) → i < length rs → Whose (views_with v (all_descriptors k e x s n seed rs a)) (get_or rs i 0)
unfolding all_descriptors
all_new v zero seed k e x s rs a short long distinct within i below = absurd (omega (arith, below, long))
all_new v (suc n) seed k e x s rs a short long distinct within i below =
    let r = slot_runs s in
    let b = get_or rs 0 0 in
    let note = descriptor_note s (drop 1 rs) in
    let one = one_descriptor k e x s seed rs a in
    let ss = drop (suc r) rs in
    let later = (seed + total_of s) % 256 in
    let f = all_descriptors k e x s n later ss one in
    let t = length a.transfers in
    let y = runs_of_transfer (descriptor_transfer e s b) in
    let many = length-drop (suc r) rs in
    let all = enough s n rs long in
    let noted : descriptor_in f.notes b ≡ runs_of_descriptor note =
    all_apart n later k e x s ss one b (rest_long s n rs long)
    (λ j less same. distinct 0 (suc r + j) (omega arith) (omega (arith, less, many, all)) (sym (get_or-drop (suc r) rs j 0) ∙ same))
    ∙ ap runs_of_descriptor (get_or-set_same a.notes b note no_descriptor (within 0 (omega (arith, all)))) in
    let here : transfer_in f.transfers t ≡ Some y = all_there n later k e x s ss one t y (ap (option_map runs_of_transfer) (pushed_last a.transfers (descriptor_transfer e s b))) in
    let it : (c : ℕ) → IsOneOf c (b ∷ (runs_of_descriptor note).buffer) → Whose (views_with v f) c = λ c among.
    of_descriptor t y (record { here = here; held = refl; descriptor = refl }) (subst (λ (q : DescriptorRuns). IsOneOf c (b ∷ q.buffer)) (sym noted) among) in
    ⊎_elim
    (λ (low : i < suc r). own (views_with v f) it i low)
    (λ (high : suc r ≤ i).
    let at : suc r + (i - suc r) ≡ i = omega (arith, high) in
    subst (λ (c : ℕ). Whose (views_with v f) c) (get_or-drop (suc r) rs (i - suc r) 0 ∙ ap (λ (j : ℕ). get_or rs j 0) at)
    (all_new v n later k e x s ss one short (rest_long s n rs long)
    (λ p q less few same. distinct (suc r + p) (suc r + q) (omega (arith, less)) (omega (arith, few, many, all)) (sym (get_or-drop (suc r) rs q 0) ∙ same ∙ get_or-drop (suc r) rs p 0))
    (λ j less. let g = get_or-drop (suc r) rs j 0 in let m = length-set a.notes b note in let w = within (suc r + j) (omega (arith, less, many, all)) in omega (arith, g, m, w))
    (i - suc r) (omega (arith, high, below, many))))
    (cases_lt i (suc r))
  where
    own : (w : Views) → ((c : ℕ) → IsOneOf c (get_or rs 0 0 ∷ (runs_of_descriptor (descriptor_note s (drop 1 rs))).buffer) → Whose w c) → (j : ℕ) → j < suc (slot_runs s) → Whose w (get_or rs j 0)
    own w it zero low = it (get_or rs 0 0) (inl refl)
    own w it (suc j) low =
        it (get_or rs (suc j) 0)
        (inr
        (subst (λ (c : ℕ). IsOneOf c (runs_of_descriptor (descriptor_note s (drop 1 rs))).buffer) (get_first rs j)
        (filled_one (slot_runs s) 6 j (drop 1 rs) (replicate 6 0) (few_runs 6 (total_of s) short (omega arith)) (omega (arith, length-drop 1 rs, enough s n rs long)) (omega (arith, low)))))

-- ---- the command

described_queues : (d : DriverContent) (ts : List Transfer) → ((t : ℕ) (r : TransferRuns) → transfer_in d.transfers t ≡ Some r → transfer_in ts t ≡ Some r) → IsOrderly d → AreQueuesHarvested d → AreQueues d.harvested ts
described_queues d ts still order old t y some there = by (slice_get d.transfers t) refl
  where
    same_Some : (x y : TransferRuns) → ◌≡◌ {A = Option TransferRuns} (Some x) (Some y) → x ≡ y
    same_Some x y is = cc

    by : (o : Option Transfer) → slice_get d.transfers t ≡ o → y.isochronous ≡ false
    by None is = let none = ap owes is in absurd (omega (arith, none, some, order.harvests t))
    by (Some z) is =
        let was : transfer_in d.transfers t ≡ Some (runs_of_transfer z) = ap (option_map runs_of_transfer) is in
        let same : runs_of_transfer z ≡ y = same_Some (runs_of_transfer z) y (sym (still t (runs_of_transfer z) was) ∙ there) in
        ap (λ (r : TransferRuns). r.isochronous) (sym same) ∙ old t (runs_of_transfer z) some was

-- what stood
described_stood : (d : DriverContent) (w : Views) (b : ℕ) → ((e : ℕ) → w.endpoint e ≡ endpoint_in d.endpoints e) → ((t : ℕ) (r : TransferRuns) → transfer_in d.transfers t ≡ Some r → w.transfer t ≡ Some r) → w.note ≡ (views_of d).note
    → ((t : ℕ) (r : TransferRuns) → IsIsochronous (views_of d) t r → w.descriptor r.first ≡ descriptor_in d.periodic.notes r.first) → Whose (views_of d) b → Whose w b
described_stood d w b endpoints transfers notes descriptors (of_driver is) = of_driver is
described_stood d w b endpoints transfers notes descriptors (of_endpoint e r is among) = endpoint_alike (views_of d) w e b r (endpoints e) is among
described_stood d w b endpoints transfers notes descriptors (of_transfer t r is among) =
    of_transfer t r (record { here = transfers t r is.here; held = is.held; qtds = is.qtds }) (subst (λ (note : ℕ → NoteRuns). IsOneOf b (blocks_of note r.first r.qtds)) (sym notes) among)
described_stood d w b endpoints transfers notes descriptors (of_descriptor t r is among) =
    of_descriptor t r (record { here = transfers t r is.here; held = is.held; descriptor = is.descriptor })
    (subst (λ (q : DescriptorRuns). IsOneOf b (r.first ∷ q.buffer)) (sym (descriptors t r is)) among)

pub describe_owns : (d : DriverContent) (m : Mem) (o : Offered) → Stands (holding d.book m) → Describes d m o → HasOwners d → OwnsAll d → OwnsAll o.driver
describe_owns d m o stands why owners old =
    let s = why.slots in
    let n = why.count in
    let ns = iso_needs s n in
    let h = why.holding_after in
    let all = runs_taken (holding d.book m) h ns stands why.runs in
    let bs = all.blocks in
    let now = new_runs d h in
    let is : bs ≡ now = sym (ap (drop (length d.book.taken)) all.are.taken ∙ drop_first d.book.taken bs) in
    let taken : AreTaken (holding d.book m) h ns now = subst (λ (rs : List ℕ). AreTaken (holding d.book m) h ns rs) is all.are in
    let x = why.endpoint in
    let y : Endpoint = record x { next = first_waiting x.next (length d.transfers) } in
    let a : Descriptors = record { notes = d.periodic.notes; transfers = d.transfers; memory = h.memory } in
    let f = all_descriptors h.book why.number x.desc s n why.seed now a in
    let v : Views = record (views_of d) { slot = slot_of h.book.slots; endpoint = endpoint_in (set d.endpoints why.number y) } in
    let w = views_with v f in
    let there : (t : ℕ) (r : TransferRuns) → transfer_in d.transfers t ≡ Some r → transfer_in f.transfers t ≡ Some r = λ t r here. all_there n why.seed h.book why.number x.desc s now a t r here in
    let own = owners.owned in
    let every : AreAllOwned (entered_iso d why.number x n (total_of s) h.book f).driver = λ b run.
    owned w b
    (⊎_elim
    (λ (was : HasRun (slot_of d.book.slots b)).
    described_stood d w b (λ e. same_view runs_of_endpoint d.endpoints why.number x y why.here refl e) there refl
    (λ t r iso.
    let p = own.each.described t r iso.here iso.descriptor iso.held in
    all_apart n why.seed h.book why.number x.desc s now a r.first taken.long
    (λ i below. fresh_differs i r.first taken below (placed_run r.first (Described (descriptor_in d.periodic.notes r.first).split t) p.descriptor)))
    (whose (views_of d) b (old.all b was)))
    (λ (among : IsOneOf b now).
    let p = place_of b now among in
    subst (λ (c : ℕ). Whose w c) p.is
    (all_new v n why.seed h.book why.number x.desc s now a why.short taken.long taken.distinct
    (λ i below. omega (arith, within_slots (get_or now i 0) taken (blocks_run (get_or ns i 0) (slot_of h.book.slots (get_or now i 0)) (taken.new i below)), taken.many, own.as_many))
    p.place p.below))
    (takes_only (holding d.book m) h ns why.runs b run)) in
    subst (λ (g : Offered). OwnsAll g.driver) (sym why.is) (record { all = every; queues = described_queues d f.transfers there owners.orderly old.queues })
