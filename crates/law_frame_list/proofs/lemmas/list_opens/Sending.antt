-- An accepted transfer or request is written into runs that are none of the frame list's.
use Rattle.std.proofs.Common.{◌≡◌, ◌≢◌, ℕ, ◌+◌, ◌-◌, ◌*◌, ◌/◌, ◌≤◌, true, false, ◌||◌, List, [], ◌∷◌, length, take, drop, replicate, get_or, slice_get, slice_index, Some, option_map, ap, sym, subst, ◌∙◌, arith, length-append, length-drop}
use Rattle.std.proofs.lemmas.List.{length-replicate, get_or-take, get_or-drop}
use Rattle.law_common.proofs.Lists.{drop_first}
use Rattle.word_mem.specs.Memory.{Mem, IsShaped, word_at}
use Rattle.qh_qtd.specs.Qtd.{qtd_words}
use Rattle.mem_runs.specs.Book.{Holding, holding, Stands, IsAt, slot_of, store_words}
use Rattle.drv_chains.specs.declared.members.Member.{Member}
use Rattle.drv_chains.specs.declared.members.Member.TheVariants.{Once, Each}
use Rattle.drv_chains.specs.declared.members.Predecessor.TheVariants.{Element as Frame, After}
use Rattle.drv_chains.specs.Chains.{id_of}
use Rattle.drv_members.specs.Members.{is_linked}
use Rattle.drv_periodic.specs.Periodic.{address_of}
use Rattle.drv_table.specs.declared.content.Endpoint.{Endpoint}
use Rattle.drv_table.specs.declared.content.Stage.{Stage}
use Rattle.drv_table.specs.DriverContent.{DriverContent}
use Rattle.drv_table.specs.Kinds.{is_iso}
use Rattle.drv_table.specs.Words.{dummy_qtd, needs}
use Rattle.drv_table.specs.Harvests.{note_at}
use Rattle.drv_table.specs.Accepting.{Offered, new_runs}
use Rattle.drv_table.specs.Offers.{Asked, note_stages, write_stages, accepted_transfer}
use Rattle.law_driver.specs.run_owners.Accepts.{AreShort, Transfers}
use Rattle.claims_driver.specs.Owners.{FrameList, QueueHead, Dummy, Element, Described, SlotHas, runs_of_endpoint}
use Rattle.claims_driver.specs.Leaving.{HasOwners}
use Rattle.law_driver.proofs.lemmas.run_owners.Runs.{placed_run}
use Rattle.law_driver.proofs.lemmas.run_owners.Taking.{AreTaken, runs_taken}
use Rattle.law_driver.proofs.lemmas.run_owners.Chains.{buffers_of}
use Rattle.law_driver.proofs.lemmas.run_owners.Accepted.{fresh_differs, within_slots}
use Rattle.law_driver.proofs.lemmas.run_owners.Transferred.{are_new, goes_on_alive}
use Rattle.law_driver.proofs.lemmas.ring_members.Stores.{AreNotAt, slots_apart, words_elsewhere, stages_elsewhere}
use Rattle.law_driver.proofs.lemmas.ring_members.Placed.{has_queue}
use Rattle.law_driver.specs.listed_members.Members.{IsListed}
use Rattle.law_driver.proofs.lemmas.listed_members.Owned.{descriptor_owned, queue_owned}
use Rattle.law_frame_list.proofs.lemmas.list_spread.Spreading.{IsHis, his, slot_has, queue_there, standing_there}
use Rattle.law_frame_words.specs.list_words.Spared.{LeavesList}
use Rattle.claims_driver.specs.FrameWords.{ListStands}
use Rattle.law_frame_list.proofs.lemmas.list_stands.Listing.{it_stands_where_its_words_are_left}
use Rattle.law_frame_list.proofs.lemmas.list_opens.Linked.{run_there}
use Rattle.law_frame_list.proofs.lemmas.list_opens.Noted.{are_noted, sends_apart}

-- ---- the words of all blocks but one

-- the inactive qTD at the end of a queue is no member
member_apart : (d : DriverContent) (x : Member) (b e : ℕ) → (has : HasOwners d) → IsListed d → has.owner b ≡ Dummy e → is_linked d.periodic.list.members.schedule x ≡ true → id_of x / 32 ≢ b
member_apart d (Each q) b e has listed owned on same =
    let s = queue_there d q listed on in
    let p = queue_owned d q has s in
    let one : QueueHead s.number ≡ Dummy e = sym p.owned ∙ ap has.owner same ∙ owned in cc
member_apart d (Once k) b e has listed owned on same =
    let o = descriptor_owned d k has (standing_there d k listed on) in
    let one : Described o.0 o.1.0 ≡ Dummy e = sym o.1.1.owned ∙ ap has.owner same ∙ owned in cc

list_apart : (d : DriverContent) (b e : ℕ) → (has : HasOwners d) → has.owner b ≡ Dummy e → 0 ≢ b
list_apart d b e has owned same = let one : FrameList ≡ Dummy e = sym has.owned.each.list.owned ∙ ap has.owner same ∙ owned in cc

leaves_but : (d : DriverContent) (m new : Mem) (b e : ℕ) → ((c at : ℕ) → c ≢ b → SlotHas (slot_of d.book.slots c) (at / 32) → word_at new at ≡ word_at m at) → ((c : ℕ) → IsAt c (slot_of d.book.slots c)) → (has : HasOwners d) → has.owner b ≡ Dummy e → IsListed d
    → LeavesList d.periodic.list (word_at m) (word_at new)
leaves_but d m new b e words placed has owned listed (Frame f) its =
    let at : address_of d.periodic.list.list (Frame f) ≡ 32 * 0 + 4 * f = ap (λ (l : ℕ). address_of l (Frame f)) listed.list.list in
    ap (word_at new) at
    ∙ words 0 (32 * 0 + 4 * f) (list_apart d b e has owned) (slot_has (slot_of d.book.slots 0) 0 128 ((32 * 0 + 4 * f) / 32) (placed 0) has.owned.each.list.run (omega arith) (omega (arith, its)))
    ∙ sym (ap (word_at m) at)
leaves_but d m new b e words placed has owned listed (After x) its =
    let h : IsHis d has.owner (id_of x / 32) = his d x has listed its in
    let some = h.run.1.0 in
    words (id_of x / 32) (id_of x / 32 * 32) (member_apart d x b e has listed owned its)
    (slot_has (slot_of d.book.slots (id_of x / 32)) (id_of x / 32) h.run.0 (id_of x / 32 * 32 / 32) (placed (id_of x / 32)) h.run.1.1 (omega arith) (omega (arith, some)))

-- ---- a transfer

-- the stages after the first, from the block after it on
tail_not : (notes : _) (c b : ℕ) (ss : List Stage) → 1 ≤ length ss → AreNotAt notes c b (length ss) → AreNotAt notes c (note_at notes b).next (length (drop 1 ss))
tail_not notes c b [] some all = absurd (omega arith)
tail_not notes c b (s ∷ ss) some all = all.1

transfer_at : (d : DriverContent) (m : Mem) (e : ℕ) (x : Endpoint) (a : Asked) (g : Holding) (bs : List ℕ) → Stands (holding d.book m) → AreTaken (holding d.book m) g (needs a.stages) bs → 1 ≤ length a.stages → AreShort a.stages → slice_get d.endpoints e ≡ Some x → is_iso x.desc.kind || x.gone ≡ false → HasOwners d → IsListed d → ListStands m d
    → ListStands (accepted_transfer d e x a g (get_or (take (length a.stages) bs) (length a.stages - 1) 0) (note_stages d.notes a.stages x.dummy (take (length a.stages) bs) (drop (length a.stages) bs))).memory (accepted_transfer d e x a g (get_or (take (length a.stages) bs) (length a.stages - 1) 0) (note_stages d.notes a.stages x.dummy (take (length a.stages) bs) (drop (length a.stages) bs))).driver
transfer_at d m e x a g bs stands taken some short here alive has listed old =
    let ss = a.stages in
    let n = length ss in
    let b = x.dummy in
    let qtds = take n bs in
    let runs = drop n bs in
    let dummy = get_or qtds (n - 1) 0 in
    let notes = note_stages d.notes ss b qtds runs in
    let k = g.book in
    let new : Mem = (accepted_transfer d e x a g dummy notes).memory in
    let apart = slots_apart g taken.stands in
    let was = has.owned.each.dummy e (runs_of_endpoint x) (ap (option_map runs_of_endpoint) here) alive in
    let are = are_new ss has.owner b e 0 some taken was in
    let long : length bs ≡ n + length (buffers_of ss) = taken.long ∙ length-append (replicate n 1) (buffers_of ss) ∙ ap (λ j. j + length (buffers_of ss)) (length-replicate {A = ℕ} n 1) in
    let left = length-drop n bs in
    let sizes = has.owned.sizes in
    let mid = write_stages k g.memory notes dummy (drop 1 ss) (note_at notes b).next in
    let now : ListStands new d =
    it_stands_where_its_words_are_left d m new
    (leaves_but d m new b e
    (λ c at differs there.
    let r = run_there c (at / 32) taken there in
    let out = are_noted c d.notes ss b qtds runs short (omega (arith, long, left)) (are.apart c r.0 differs)
    (λ i below. omega (arith, within_slots (get_or (b ∷ qtds) i 0) taken (placed_run (get_or (b ∷ qtds) i 0) (Element 0) (are.elements i below)), taken.many, sizes))
    are.distinct
    (λ i below same. fresh_differs (n + i) c taken (omega (arith, below, left)) r.0 (sym (get_or-drop n bs i 0) ∙ sym same)) in
    let last : c ≢ dummy = λ same. fresh_differs (n - 1) c taken (omega (arith, some, long)) r.0 (sym (get_or-take n bs (n - 1) 0 (omega (arith, some))) ∙ sym same) in
    sends_apart k (store_words k mid dummy (32 * dummy) (qtd_words dummy_qtd)) notes ss b a.bytes c at apart r.1 out.1
    ∙ words_elsewhere k mid dummy c (32 * dummy) at (qtd_words dummy_qtd) apart last r.1
    ∙ stages_elsewhere k g.memory notes dummy (drop 1 ss) (note_at notes b).next c at apart r.1 (tail_not notes c b ss some out.0)
    ∙ ap (λ (ws : List ℕ). slice_index ws (at / 4)) taken.words)
    stands.placed has was.owned listed) old
    in record { order = now.order; words = now.words }

pub transfers_keep_it_standing : (d : DriverContent) (m : Mem) (o : Offered) → Transfers d m o → Stands (holding d.book m) → IsShaped m → HasOwners d → IsListed d → ListStands m d → ListStands o.memory o.driver
transfers_keep_it_standing d m o why stands shape has listed old =
    let n = length why.asked.stages in
    let x = why.endpoint in
    let all = runs_taken (holding d.book m) why.holding_after (needs why.asked.stages) stands why.runs in
    let bs = all.blocks in
    let new : new_runs d why.holding_after ≡ bs = ap (drop (length d.book.taken)) all.are.taken ∙ drop_first d.book.taken bs in
    let alive = has_queue x why.queued (goes_on_alive x why.goes_on (has.orderly.steady why.number x why.here)) in
    subst (λ (f : Offered). ListStands f.memory f.driver) (sym why.is)
    (subst (λ (rs : List ℕ). ListStands (accepted_transfer d why.number x why.asked why.holding_after (get_or (take n rs) (n - 1) 0) (note_stages d.notes why.asked.stages x.dummy (take n rs) (drop n rs))).memory (accepted_transfer d why.number x why.asked why.holding_after (get_or (take n rs) (n - 1) 0) (note_stages d.notes why.asked.stages x.dummy (take n rs) (drop n rs))).driver) (sym new)
    (transfer_at d m why.number x why.asked why.holding_after bs stands all.are why.some why.short why.here alive has listed old))
