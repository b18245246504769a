-- Other commands and rows leave the descriptors that are lent.
use Rattle.std.proofs.Common.{◌≡◌, ℕ, ◌==◌, ◌||◌, Bool, true, false, List, [], ◌∷◌, length, get_or, slice_get, Option, Some, None, Ok, inl, inr, ap, refl, sym, subst, ◌∙◌, ⊎_elim}
use Rattle.std.proofs.lemmas.Bool.{eq-eqb, true≢false}
use Rattle.law_frame_list.proofs.Common.{has_run}
use Rattle.law_descriptors.proofs.Common.{unchained_book}
use Rattle.law_common.proofs.Booleans.{is_not}
use Rattle.law_common.proofs.Lists.{pushed_there}
use Rattle.word_mem.specs.Memory.{Mem, IsShaped}
use Rattle.mem_runs.specs.declared.slots.Slot.{Slot}
use Rattle.mem_runs.specs.declared.slots.Slot.TheVariants.{Empty, Keeps, Lends}
use Rattle.mem_runs.specs.Book.{Book, Holding, holding, slot_of, lend_taken, Stands}
use Rattle.drv_chains.specs.declared.members.Member.{Member}
use Rattle.drv_periodic_table.specs.declared.content.DescriptorNote.{DescriptorNote}
use Rattle.drv_table.specs.declared.content.Endpoint.{Endpoint}
use Rattle.drv_table.specs.declared.content.Transfer.{Transfer}
use Rattle.drv_table.specs.declared.content.Command.TheVariants as unfinished
use Rattle.drv_table.specs.declared.rows.DriverRow.TheVariants as rows
use Rattle.drv_table.specs.DriverContent.{DriverContent}
use Rattle.drv_table.specs.Parts.{Parts}
use Rattle.drv_table.specs.Rows.{after_driver_row}
use Rattle.drv_table.specs.Commands.{advance}
use Rattle.drv_table.specs.Removals.{after_unlink}
use Rattle.drv_table.specs.Words.{needs}
use Rattle.drv_table.specs.Accepting.{Offered, take_runs, new_runs}
use Rattle.drv_table.specs.Offers.{accepted_open, accepted_chain, new_transfer, accepted_iso}
use Rattle.drv_table.specs.CancelOffers.{accepted_cancel, endpoint_members, with_cancel, accepted_unchain}
use Rattle.claims_driver.specs.Owners.{SlotHas, TransferRuns, Views, views_of, transfer_in, descriptor_in, runs_of_transfer}
use Rattle.law_driver.specs.run_owners.Accepts.{Transfers, Opens, Chains, opens, chains, places, transfers as a_transfer, describes, cancels, unchains}
use Rattle.law_driver.proofs.lemmas.run_owners.Taking.{runs_taken}
use Rattle.law_driver.proofs.lemmas.run_owners.Accepted.{push_case}
use Rattle.law_driver.proofs.lemmas.run_owners.Stays.{advanced, harvest_stays, or_done, begun_notes}
use Rattle.claims_driver.specs.LentRuns.{begins_in}
use Rattle.law_structures.specs.lent_structures.Structures.{StructureSets}
use Rattle.law_driver_ring.specs.Inventory.{sorts_of, IsLent, IsDriven}
use Rattle.law_driver_ring.proofs.Viewing.{SameViews, advance_views, harvest_views}
use Rattle.law_driver_ring.proofs.Taken.{TakesOn, takes_on}
use Rattle.law_descriptors.specs.Described.{AreDescribed}
use Rattle.law_descriptors.specs.Both.{SameDescriptors}
use Rattle.law_descriptors.proofs.Stays.{described_follow}
use Rattle.law_driver_ring.proofs.Lists.{IsOneOf, one_or_not}
use Rattle.law_driver_ring.proofs.TransferSlots.{others_stay, taken_lent, lent_stays}
use Rattle.law_descriptors.specs.Told.{IsToldBy}
use Rattle.law_descriptors.specs.CommandLaws.{RowsTold, CommandsDescribe, QueueLendDescribes}
use Rattle.law_descriptors.proofs.CommandQueues.{QueuesStay, driven_stays, extents_stay}
use Rattle.law_descriptors.proofs.Lending.{views_queues}
use Rattle.law_descriptors.proofs.CommandAccepting.{describes_described, frames_told}

-- ---- the same views

same_descriptors : (v w : Views) → SameViews v w → ((b : ℕ) → w.descriptor b ≡ v.descriptor b) → SameDescriptors v w
same_descriptors v w same notes = record {
  slots = λ c j has. subst (λ (s : Slot). SlotHas s j) (sym (same.slot c)) has;
  stay = λ t y is. record { here = same.transfer t ∙ is.here; held = is.held; isochronous = is.isochronous; lent = subst IsLent (sym (same.slot y.first)) is.lent };
  were = λ t y is. record { here = sym (same.transfer t) ∙ is.here; held = is.held; isochronous = is.isochronous; lent = subst IsLent (same.slot y.first) is.lent };
  notes = λ t y is. notes y.first;
}

told_alike : (v w : Views) (descs parts : StructureSets) → SameViews v w → ((b : ℕ) → w.descriptor b ≡ v.descriptor b) → IsToldBy v descs parts → IsToldBy w descs parts
told_alike v w descs parts same notes told =
    let queues : QueuesStay v w = views_queues v w same in
    let driven : IsDriven w (sorts_of parts) = driven_stays v w queues (sorts_of parts) told.driven in
    record { driven = driven; extents = extents_stay v w queues parts driven told.extents; described = described_follow v w descs (same_descriptors v w same notes) told.described }

-- ---- rows

unlink_told : (p : Parts) (descs parts : StructureSets) (t : ℕ) (o : Option Transfer) → IsToldBy (views_of p.driver) descs parts → IsToldBy (views_of (after_unlink p t o).driver) descs parts
unlink_told p descs parts t None told = told
unlink_told p descs parts t (Some y) told = record { driven = told.driven; extents = told.extents; described = told.described }

pub rows_told : RowsTold
rows_told p descs parts (rows.Store b at v) keeps told =
    told_alike (views_of p.driver) (views_of (advance p.driver)) descs parts (advance_views p.driver) (advanced p.driver).same.buffers told
rows_told p descs parts rows.Frames keeps told = frames_told p descs parts told
rows_told p descs parts (rows.Unlink t) keeps told = unlink_told p descs parts t (slice_get p.driver.transfers t) told
rows_told p descs parts (rows.Harvest e t found) keeps told =
    told_alike (views_of p.driver) (views_of (after_driver_row (rows.Harvest e t found) p).driver) descs parts (harvest_views p.driver p.memory e t found)
    (harvest_stays p.driver p.memory e t found (slice_get p.driver.endpoints e) (slice_get p.driver.transfers t) refl refl).same.buffers told
rows_told p descs parts rows.Rest keeps told = told
rows_told p descs parts rows.Lend keeps told = absurd (true≢false (sym keeps))
rows_told p descs parts rows.LendDescriptors keeps told = absurd (true≢false (sym keeps))
rows_told p descs parts (rows.ReleaseRemoved what) keeps told = absurd (true≢false (sym keeps))
rows_told p descs parts (rows.ReleaseTransfer t) keeps told = absurd (true≢false (sym keeps))
rows_told p descs parts (rows.ReleaseEndpoint e) keeps told = absurd (true≢false (sym keeps))
rows_told p descs parts _ keeps told = record { driven = told.driven; extents = told.extents; described = told.described }

-- ---- commands

-- with runs that aren't lent yet, and the same descriptors
taken_descriptors : (v w : Views) → TakesOn v.slot w.slot → ((c k : ℕ) → SlotHas (v.slot c) k → SlotHas (w.slot c) k) → ((t : ℕ) (y : TransferRuns) → y.isochronous ≡ true → v.transfer t ≡ Some y → w.transfer t ≡ Some y)
    → ((t : ℕ) (y : TransferRuns) → y.isochronous ≡ true → w.transfer t ≡ Some y → v.transfer t ≡ Some y) → ((b : ℕ) → w.descriptor b ≡ v.descriptor b) → SameDescriptors v w
taken_descriptors v w takes mono on back notes = record {
  slots = mono;
  stay = λ t y is. record { here = on t y is.isochronous is.here; held = is.held; isochronous = is.isochronous; lent = subst IsLent (sym (takes.after y.first is.lent)) is.lent };
  were = λ t y is. record { here = back t y is.isochronous is.here; held = is.held; isochronous = is.isochronous; lent = subst IsLent (takes.before y.first is.lent) is.lent };
  notes = λ t y is. notes y.first;
}

-- the same transfers and notes of descriptors, in this book
same_content : (d e : DriverContent) (g : Holding) → TakesOn (slot_of d.book.slots) (slot_of g.book.slots) → ((c k : ℕ) → SlotHas (slot_of d.book.slots c) k → SlotHas (slot_of g.book.slots c) k) → e.book ≡ g.book → e.transfers ≡ d.transfers
    → e.periodic.notes ≡ d.periodic.notes → SameDescriptors (views_of d) (views_of e)
same_content d e g takes mono book transfers notes =
    taken_descriptors (views_of d) (views_of e)
    (subst (λ (k : Book). TakesOn (slot_of d.book.slots) (slot_of k.slots)) (sym book) takes)
    (subst (λ (k : Book). (c j : ℕ) → SlotHas (slot_of d.book.slots c) j → SlotHas (slot_of k.slots c) j) (sym book) mono)
    (λ t y iso there. ap (λ (ts : List Transfer). transfer_in ts t) transfers ∙ there) (λ t y iso there. ap (λ (ts : List Transfer). transfer_in ts t) (sym transfers) ∙ there)
    (λ b. ap (λ (ns : List DescriptorNote). descriptor_in ns b) notes)

same_takes : (slot : ℕ → Slot) → TakesOn slot slot
same_takes slot = record { before = λ c lent. refl; after = λ c lent. refl }

-- nothing is taken
same_book : (d e : DriverContent) → e.book ≡ d.book → e.transfers ≡ d.transfers → e.periodic.notes ≡ d.periodic.notes → (m : Mem) → SameDescriptors (views_of d) (views_of e)
same_book d e book transfers notes m = same_content d e (holding d.book m) (same_takes (slot_of d.book.slots)) (λ c k has. has) book transfers notes

unchain_same : (d : DriverContent) (e : ℕ) (x : Endpoint) (ms : List Member) → SameDescriptors (views_of d) (views_of (accepted_unchain d e x ms))
unchain_same d e x ms =
    let c : DriverContent = with_cancel d e x ms in
    let done = (or_done c (unfinished.Unchain e)).same in
    let book : (accepted_unchain d e x ms).book ≡ d.book = unchained_book c e in
    taken_descriptors (views_of d) (views_of (accepted_unchain d e x ms))
    (subst (λ (k : Book). TakesOn (slot_of d.book.slots) (slot_of k.slots)) (sym book) (same_takes (slot_of d.book.slots)))
    (λ b k has. subst (λ (j : Book). SlotHas (slot_of j.slots b) k) (sym book) has)
    (λ t y iso there. done.transfers t ∙ there) (λ t y iso there. sym (done.transfers t) ∙ there)
    (λ b. done.buffers b ∙ ap (λ (ns : List DescriptorNote). descriptor_in ns b) (begun_notes true (record d.periodic { queued = ms })))

-- runs are taken
taken_same : (d e : DriverContent) (m : Mem) (g : Holding) (ns : List ℕ) → Stands (holding d.book m) → take_runs (holding d.book m) ns ≡ Ok g → e.book ≡ g.book → e.transfers ≡ d.transfers → e.periodic.notes ≡ d.periodic.notes → SameDescriptors (views_of d) (views_of e)
taken_same d e m g ns stands runs book transfers notes =
    let all = runs_taken (holding d.book m) g ns stands runs in
    same_content d e g (takes_on (holding d.book m) g ns all.blocks runs all.are) (λ c k has. subst (λ (s : Slot). SlotHas s k) (sym (all.are.old c (has_run (slot_of d.book.slots c) k has))) has) book transfers notes

-- a transfer with qTDs comes
transfer_same : (d : DriverContent) (m : Mem) (o : Offered) → Transfers d m o → Stands (holding d.book m) → SameDescriptors (views_of d) (views_of o.driver)
transfer_same d m o why stands =
    let g = why.holding_after in
    let all = runs_taken (holding d.book m) g (needs why.asked.stages) stands why.runs in
    let new : Transfer = new_transfer why.number why.asked why.endpoint.dummy in
    subst (λ (f : Offered). SameDescriptors (views_of d) (views_of f.driver)) (sym why.is)
    (taken_descriptors (views_of d) _ (takes_on (holding d.book m) g (needs why.asked.stages) all.blocks why.runs all.are)
    (λ c k has. subst (λ (s : Slot). SlotHas s k) (sym (all.are.old c (has_run (slot_of d.book.slots c) k has))) has)
    (λ t y iso there. pushed_there runs_of_transfer d.transfers new t y there)
    (λ t y iso there.
    ⊎_elim (λ (old : transfer_in d.transfers t ≡ Some y). old)
    (λ (is : (t ≡ length d.transfers) × (y ≡ runs_of_transfer new)). absurd (is_not y.isochronous iso (ap (λ (z : TransferRuns). z.isochronous) is.1 ∙ why.sort)))
    (push_case runs_of_transfer d.transfers new t y there))
    (λ b. refl))

open_same : (d : DriverContent) (m : Mem) (o : Offered) → Opens d m o → Stands (holding d.book m) → SameDescriptors (views_of d) (views_of o.driver)
open_same d m o why stands =
    let g = why.holding_after in
    let now : Offered = accepted_open d why.desc g (get_or (new_runs d g) 0 0) (get_or (new_runs d g) 1 0) in
    subst (λ (f : Offered). SameDescriptors (views_of d) (views_of f.driver)) (sym why.is) (taken_same d now.driver m g (2 ∷ 1 ∷ []) stands why.runs refl refl refl)

chain_same : (d : DriverContent) (m : Mem) (o : Offered) → Chains d m o → Stands (holding d.book m) → SameDescriptors (views_of d) (views_of o.driver)
chain_same d m o why stands =
    let g = why.holding_after in
    let now : Offered = accepted_chain d why.desc why.placement g (get_or (new_runs d g) 0 0) (get_or (new_runs d g) 1 0) in
    subst (λ (f : Offered). SameDescriptors (views_of d) (views_of f.driver)) (sym why.is) (taken_same d now.driver m g (2 ∷ 1 ∷ []) stands why.runs refl refl refl)

pub commands_describe : CommandsDescribe
commands_describe d m o descs (opens why) stands old = described_follow (views_of d) (views_of o.driver) descs (open_same d m o why stands) old
commands_describe d m o descs (chains why) stands old = described_follow (views_of d) (views_of o.driver) descs (chain_same d m o why stands) old
commands_describe d m o descs (places why) stands old =
    subst (λ (f : Offered). AreDescribed (views_of f.driver) descs) (sym why.is) (described_follow (views_of d) _ descs (same_book d (accepted_iso d why.desc why.placement) refl refl refl m) old)
commands_describe d m o descs (a_transfer why) stands old = described_follow (views_of d) (views_of o.driver) descs (transfer_same d m o why stands) old
commands_describe d m o descs (describes why) stands old = describes_described d m o descs why stands old
commands_describe d m o descs (cancels why) stands old =
    subst (λ (f : Offered). AreDescribed (views_of f.driver) descs) (sym why.is) (described_follow (views_of d) _ descs (same_book d (accepted_cancel d why.number why.endpoint) refl refl refl m) old)
commands_describe d m o descs (unchains why) stands old =
    subst (λ (f : Offered). AreDescribed (views_of f.driver) descs) (sym why.is)
    (described_follow (views_of d) _ descs (unchain_same d why.number why.endpoint (endpoint_members d why.number why.endpoint why.placement)) old)

-- ---- a lend of other runs

begins_here : (c b : ℕ) (bs : List ℕ) → (b == c) ≡ true → begins_in c (b ∷ bs) ≡ true
begins_here c b bs on = ap (λ (t : Bool). t || begins_in c bs) on

begins_later : (c b : ℕ) (bs : List ℕ) (t : Bool) → (b == c) ≡ t → begins_in c (b ∷ bs) ≡ false → begins_in c bs ≡ false
begins_later c b bs true is off = absurd (true≢false (sym (begins_here c b bs is) ∙ off))
begins_later c b bs false is off = ap (λ (t : Bool). t || begins_in c bs) (sym is) ∙ off

-- a run that is taken is lent with its blocks, and any other stays
lent_run : (h : Holding) (c j : ℕ) (s : Slot) → slot_of h.book.slots c ≡ s → Stands h → IsShaped h.memory → SlotHas s j → SlotHas (slot_of (lend_taken h).book.slots c) j
lent_run h c j s is stands shape has =
    ⊎_elim (λ (one : IsOneOf c h.book.taken). taken_run s is has one)
    (λ (none : IsOneOf c h.book.taken → ⊥). subst (λ (t : Slot). SlotHas t j) (sym (others_stay h c none ∙ is)) has) (one_or_not c h.book.taken)
  where
    taken_run : (s : Slot) → slot_of h.book.slots c ≡ s → SlotHas s j → IsOneOf c h.book.taken → SlotHas (slot_of (lend_taken h).book.slots c) j
    taken_run Empty is has one = absurd has
    taken_run (Keeps r) is has one = subst (λ (t : Slot). SlotHas t j) (sym (taken_lent h c r stands shape one is).slot) has
    taken_run (Lends r) is has one = subst (λ (t : Slot). SlotHas t j) (sym (lent_stays h c r is)) has

still_lent : (h : Holding) (c : ℕ) (s : Slot) → slot_of h.book.slots c ≡ s → IsLent (slot_of h.book.slots c) → IsLent (slot_of (lend_taken h).book.slots c)
still_lent h c (Lends r) is lent = subst IsLent (sym (lent_stays h c r is)) tt
still_lent h c _ is lent = absurd (subst IsLent is lent)

begun_not : (c : ℕ) (bs : List ℕ) → begins_in c bs ≡ false → IsOneOf c bs → ⊥
begun_not c [] off one = one
begun_not c (b ∷ bs) off (inl is) = true≢false (sym (begins_here c b bs (eq-eqb b c (sym is))) ∙ off)
begun_not c (b ∷ bs) off (inr there) = begun_not c bs (begins_later c b bs (b == c) refl off) there

pub queue_lend_describes : QueueLendDescribes
queue_lend_describes p descs stands shape none old =
    let d : DriverContent = p.driver in
    let h : Holding = holding d.book p.memory in
    let lent : DriverContent = record d { book = (lend_taken h).book } in
    described_follow (views_of lent) (views_of (advance lent)) descs (same_descriptors (views_of lent) (views_of (advance lent)) (advance_views lent) (advanced lent).same.buffers)
    (described_follow (views_of d) (views_of lent) descs
    (record {
      slots = λ c j has. lent_run h c j (slot_of d.book.slots c) refl stands shape has;
      stay = λ t y is. record { here = is.here; held = is.held; isochronous = is.isochronous; lent = still_lent h y.first (slot_of d.book.slots y.first) refl is.lent };
      were = λ t y is. record {
        here = is.here;
        held = is.held;
        isochronous = is.isochronous;
        lent = subst IsLent (others_stay h y.first (begun_not y.first d.book.taken (none t y is.here is.isochronous is.held))) is.lent;
      };
      notes = λ t y is. refl;
    }) old)
