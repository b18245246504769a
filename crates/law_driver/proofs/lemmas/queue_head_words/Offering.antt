-- An accepted command leaves all words of the queue heads that there are.
use Rattle.std.proofs.Common.{◌≡◌, ◌≢◌, ℕ, ◌+◌, ◌-◌, ◌*◌, ◌/◌, ◌<◌, ◌≤◌, false, ◌||◌, List, [], ◌∷◌, length, take, drop, get_or, slice_get, slice_index, Some, option_map, ap, sym, subst, ◌∙◌, arith}
use Rattle.law_common.proofs.Lists.{drop_first}
use Rattle.usb_base.specs.declared.endpoints.EpDesc.{EpDesc}
use Rattle.word_mem.specs.Memory.{Mem, word_at}
use Rattle.qh_qtd.specs.QueueHead.{qh_words}
use Rattle.qh_qtd.specs.Qtd.{qtd_words}
use Rattle.mem_runs.specs.Book.{Holding, holding, Stands, slot_of, store_words}
use Rattle.mem_runs.specs.declared.slots.Slot.{Slot}
use Rattle.drv_table.specs.declared.content.Endpoint.{Endpoint}
use Rattle.bandwidth.specs.declared.placements.Placement.{Placement}
use Rattle.drv_periodic_table.specs.Periodic.{queue_member}
use Rattle.drv_periodic_table.specs.Linking.{new_link}
use Rattle.drv_table.specs.declared.content.Slots.{Slots}
use Rattle.drv_table.specs.Kinds.{is_iso}
use Rattle.drv_table.specs.DriverContent.{DriverContent}
use Rattle.drv_table.specs.Words.{queue_head, interrupt_head, dummy_qtd, needs}
use Rattle.drv_table.specs.Accepting.{Offered, new_runs, newest_of}
use Rattle.drv_table.specs.Offers.{Asked, note_stages, accepted_open, accepted_chain, accepted_transfer}
use Rattle.drv_table.specs.IsoOffers.{Descriptors, iso_needs, all_descriptors}
use Rattle.law_driver.specs.run_owners.Accepts.{Accepts, opens, chains, places, transfers, describes, cancels, unchains}
use Rattle.claims_driver.specs.Owners.{Owner, FrameList, Head, QueueHead, Dummy, HasBlocks, HasRun, SlotHas, IsPlaced, runs_of_endpoint}
use Rattle.claims_driver.specs.Leaving.{HasOwners}
use Rattle.law_driver.proofs.lemmas.run_owners.Runs.{placed_run}
use Rattle.law_driver.proofs.lemmas.run_owners.Taking.{AreTaken, runs_taken}
use Rattle.law_driver.proofs.lemmas.run_owners.Accepted.{fresh_differs}
use Rattle.law_driver.proofs.lemmas.ring_members.Stores.{slots_apart, words_elsewhere}
use Rattle.law_driver.proofs.lemmas.ring_members.Placed.{has_queue, queue_placed}
use Rattle.law_driver.proofs.lemmas.run_owners.Transferred.{goes_on_alive}
use Rattle.law_driver.proofs.lemmas.ring_members.Accepted.{transfer_word, described_word, owner_kind, other_kind}
use Rattle.law_driver.specs.queue_head_words.Overlay.{HasQueueHead, of_ring, of_endpoint}
use Rattle.law_driver.proofs.lemmas.queue_head_words.Stored.{run_at, in_two}

-- the words of a queue head lie in its run, also once others were taken
word_in : (d : DriverContent) (m : Mem) (g : Holding) (ns bs : List ℕ) (b i : ℕ) → AreTaken (holding d.book m) g ns bs → HasBlocks 2 (slot_of d.book.slots b) → HasRun (slot_of d.book.slots b) → i < 12 → SlotHas (slot_of g.book.slots b) ((32 * b + 4 * i) / 32)
word_in d m g ns bs b i taken two run small =
    in_two (slot_of g.book.slots b) b ((32 * b + 4 * i) / 32) (taken.stands.placed b) (subst (λ (s : Slot). HasBlocks 2 s) (sym (taken.old b run)) two) (omega arith) (omega (arith, small))

open_leaves : (d : DriverContent) (m : Mem) (desc : EpDesc) (g : Holding) (bs : List ℕ) (b i : ℕ) → AreTaken (holding d.book m) g (2 ∷ 1 ∷ []) bs → HasOwners d → HasQueueHead d b → i < 12 → word_at (accepted_open d desc g (get_or bs 0 0) (get_or bs 1 0)).memory (32 * b + 4 * i) ≡ word_at m (32 * b + 4 * i)
open_leaves d m desc g bs b i taken has there small =
    let queue = get_or bs 0 0 in
    let dummy = get_or bs 1 0 in
    let k = g.book in
    let apart = slots_apart g taken.stands in
    let head = queue_head desc (newest_of d.endpoints) dummy in
    let mid = store_words k g.memory queue (32 * queue) (qh_words head) in
    let two : 1 < length bs = omega (arith, taken.long) in
    let r = run_at d has b there in
    let run = placed_run b r.owner r.there in
    let at = word_in d m g (2 ∷ 1 ∷ []) bs b i taken r.two run small in
    words_elsewhere k mid dummy b (32 * dummy) (32 * b + 4 * i) (qtd_words dummy_qtd) apart (λ is. fresh_differs 1 b taken two run (sym is)) at
    ∙ words_elsewhere k g.memory queue b (32 * queue) (32 * b + 4 * i) (qh_words head) apart (λ is. fresh_differs 0 b taken (omega (arith, two)) run (sym is)) at
    ∙ ap (λ ws. slice_index ws ((32 * b + 4 * i) / 4)) taken.words

transfer_leaves : (d : DriverContent) (m : Mem) (e : ℕ) (x : Endpoint) (a : Asked) (g : Holding) (bs : List ℕ) (b i : ℕ) → AreTaken (holding d.book m) g (needs a.stages) bs → 1 ≤ length a.stages → slice_get d.endpoints e ≡ Some x → is_iso x.desc.kind || x.gone ≡ false → HasOwners d → HasQueueHead d b → i < 12
    → word_at (accepted_transfer d e x a g (get_or (take (length a.stages) bs) (length a.stages - 1) 0) (note_stages d.notes a.stages x.dummy (take (length a.stages) bs) (drop (length a.stages) bs))).memory (32 * b + 4 * i) ≡ word_at m (32 * b + 4 * i)
unfolding owner_kind
transfer_leaves d m e x a g bs b i taken some here alive has there small = at there
  where
    leaves : (o : Owner) → IsPlaced (slot_of d.book.slots) has.owner b o → owner_kind o ≢ 3 → owner_kind o ≢ 0
        → word_at (accepted_transfer d e x a g (get_or (take (length a.stages) bs) (length a.stages - 1) 0) (note_stages d.notes a.stages x.dummy (take (length a.stages) bs) (drop (length a.stages) bs))).memory (32 * b + 4 * i) ≡ word_at m (32 * b + 4 * i)
    leaves o p one two =
        let was = has.owned.each.dummy e (runs_of_endpoint x) (ap (option_map runs_of_endpoint) here) alive in
        transfer_word d m a g bs has.owner e x.dummy b (32 * b + 4 * i) taken some has.owned.sizes was (placed_run b o p)
        (other_kind has.owner x.dummy b (Dummy e) o was.owned p.owned (λ k. one (sym k)))
        (other_kind has.owner 0 b FrameList o has.owned.each.list.owned p.owned (λ k. two (sym k)))
        (word_in d m g (needs a.stages) bs b i taken (run_at d has b there).two (placed_run b o p) small)

    at : HasQueueHead d b → word_at (accepted_transfer d e x a g (get_or (take (length a.stages) bs) (length a.stages - 1) 0) (note_stages d.notes a.stages x.dummy (take (length a.stages) bs) (drop (length a.stages) bs))).memory (32 * b + 4 * i) ≡ word_at m (32 * b + 4 * i)
    at (of_ring is) = leaves Head (subst (λ k. IsPlaced (slot_of d.book.slots) has.owner k Head) (sym is) has.owned.each.head) (λ k. omega (arith, k)) (λ k. omega (arith, k))
    at (of_endpoint f z here2 queued alive2 is) = leaves (QueueHead f) (subst (λ k. IsPlaced (slot_of d.book.slots) has.owner k (QueueHead f)) is (queue_placed d f z has here2 (has_queue z queued alive2))) (λ k. omega (arith, k)) (λ k. omega (arith, k))

chain_leaves : (d : DriverContent) (m : Mem) (desc : EpDesc) (p : Placement) (g : Holding) (bs : List ℕ) (b i : ℕ) → AreTaken (holding d.book m) g (2 ∷ 1 ∷ []) bs → HasOwners d → HasQueueHead d b → i < 12 → word_at (accepted_chain d desc p g (get_or bs 0 0) (get_or bs 1 0)).memory (32 * b + 4 * i) ≡ word_at m (32 * b + 4 * i)
chain_leaves d m desc p g bs b i taken has there small =
    let queue = get_or bs 0 0 in
    let dummy = get_or bs 1 0 in
    let k = g.book in
    let apart = slots_apart g taken.stands in
    let ws = qh_words (interrupt_head desc p.smask p.cmask (new_link d.periodic.list (queue_member queue p)) dummy) in
    let mid = store_words k g.memory queue (32 * queue) ws in
    let two : 1 < length bs = omega (arith, taken.long) in
    let r = run_at d has b there in
    let run = placed_run b r.owner r.there in
    let at = word_in d m g (2 ∷ 1 ∷ []) bs b i taken r.two run small in
    words_elsewhere k mid dummy b (32 * dummy) (32 * b + 4 * i) (qtd_words dummy_qtd) apart (λ is. fresh_differs 1 b taken two run (sym is)) at
    ∙ words_elsewhere k g.memory queue b (32 * queue) (32 * b + 4 * i) ws apart (λ is. fresh_differs 0 b taken (omega (arith, two)) run (sym is)) at
    ∙ ap (λ vs. slice_index vs ((32 * b + 4 * i) / 4)) taken.words

describe_leaves : (d : DriverContent) (m : Mem) (e : ℕ) (x : Endpoint) (s : Slots) (n seed : ℕ) (g : Holding) (bs : List ℕ) (b i : ℕ) → AreTaken (holding d.book m) g (iso_needs s n) bs → (has : HasOwners d) → HasQueueHead d b → i < 12 → word_at (all_descriptors g.book e x.desc s n seed bs (record { notes = d.periodic.notes; transfers = d.transfers; memory = g.memory })).memory (32 * b + 4 * i) ≡ word_at m (32 * b + 4 * i)
unfolding owner_kind
describe_leaves d m e x s n seed g bs b i taken has there small = at there
  where
    leaves : (o : Owner) → IsPlaced (slot_of d.book.slots) has.owner b o → owner_kind o ≢ 0 → word_at (all_descriptors g.book e x.desc s n seed bs (record { notes = d.periodic.notes; transfers = d.transfers; memory = g.memory })).memory (32 * b + 4 * i) ≡ word_at m (32 * b + 4 * i)
    leaves o p differs = described_word d m e x s n seed g bs has.owner b o (32 * b + 4 * i) taken has.owned.each.list p differs (word_in d m g (iso_needs s n) bs b i taken (run_at d has b there).two (placed_run b o p) small)

    at : HasQueueHead d b → word_at (all_descriptors g.book e x.desc s n seed bs (record { notes = d.periodic.notes; transfers = d.transfers; memory = g.memory })).memory (32 * b + 4 * i) ≡ word_at m (32 * b + 4 * i)
    at (of_ring is) = leaves Head (subst (λ k. IsPlaced (slot_of d.book.slots) has.owner k Head) (sym is) has.owned.each.head) (λ k. omega (arith, k))
    at (of_endpoint f z here2 queued alive2 is) = leaves (QueueHead f) (subst (λ k. IsPlaced (slot_of d.book.slots) has.owner k (QueueHead f)) is (queue_placed d f z has here2 (has_queue z queued alive2))) (λ k. omega (arith, k))

pub accepted_leaves : (d : DriverContent) (m : Mem) (o : Offered) (b i : ℕ) → Accepts d m o → Stands (holding d.book m) → HasOwners d → HasQueueHead d b → i < 12 → word_at o.memory (32 * b + 4 * i) ≡ word_at m (32 * b + 4 * i)
accepted_leaves d m o b i (opens why) stands has there small =
    let all = runs_taken (holding d.book m) why.holding_after (2 ∷ 1 ∷ []) stands why.runs in
    let bs = all.blocks in
    let new : new_runs d why.holding_after ≡ bs = ap (drop (length d.book.taken)) all.are.taken ∙ drop_first d.book.taken bs in
    ap (λ (f : Offered). word_at f.memory (32 * b + 4 * i)) why.is
    ∙ ap (λ (rs : List ℕ). word_at (accepted_open d why.desc why.holding_after (get_or rs 0 0) (get_or rs 1 0)).memory (32 * b + 4 * i)) new
    ∙ open_leaves d m why.desc why.holding_after bs b i all.are has there small
accepted_leaves d m o b i (transfers why) stands has there small =
    let n = length why.asked.stages in
    let x = why.endpoint in
    let all = runs_taken (holding d.book m) why.holding_after (needs why.asked.stages) stands why.runs in
    let bs = all.blocks in
    let new : new_runs d why.holding_after ≡ bs = ap (drop (length d.book.taken)) all.are.taken ∙ drop_first d.book.taken bs in
    let alive = has_queue x why.queued (goes_on_alive x why.goes_on (has.orderly.steady why.number x why.here)) in
    ap (λ (f : Offered). word_at f.memory (32 * b + 4 * i)) why.is
    ∙ ap (λ (rs : List ℕ). word_at (accepted_transfer d why.number x why.asked why.holding_after (get_or (take n rs) (n - 1) 0) (note_stages d.notes why.asked.stages x.dummy (take n rs) (drop n rs))).memory (32 * b + 4 * i)) new
    ∙ transfer_leaves d m why.number x why.asked why.holding_after bs b i all.are why.some why.here alive has there small
accepted_leaves d m o b i (cancels why) stands has there small = ap (λ (f : Offered). word_at f.memory (32 * b + 4 * i)) why.is
accepted_leaves d m o b i (unchains why) stands has there small = ap (λ (f : Offered). word_at f.memory (32 * b + 4 * i)) why.is
accepted_leaves d m o b i (places why) stands has there small = ap (λ (f : Offered). word_at f.memory (32 * b + 4 * i)) why.is
accepted_leaves d m o b i (chains why) stands has there small =
    let all = runs_taken (holding d.book m) why.holding_after (2 ∷ 1 ∷ []) stands why.runs in
    let bs = all.blocks in
    let new : new_runs d why.holding_after ≡ bs = ap (drop (length d.book.taken)) all.are.taken ∙ drop_first d.book.taken bs in
    ap (λ (f : Offered). word_at f.memory (32 * b + 4 * i)) why.is
    ∙ ap (λ (rs : List ℕ). word_at (accepted_chain d why.desc why.placement why.holding_after (get_or rs 0 0) (get_or rs 1 0)).memory (32 * b + 4 * i)) new
    ∙ chain_leaves d m why.desc why.placement why.holding_after bs b i all.are has there small
accepted_leaves d m o b i (describes why) stands has there small =
    let h = why.holding_after in
    let all = runs_taken (holding d.book m) h (iso_needs why.slots why.count) stands why.runs in
    let bs = all.blocks in
    let a : Descriptors = record { notes = d.periodic.notes; transfers = d.transfers; memory = h.memory } in
    let new : new_runs d h ≡ bs = ap (drop (length d.book.taken)) all.are.taken ∙ drop_first d.book.taken bs in
    ap (λ (f : Offered). word_at f.memory (32 * b + 4 * i)) why.is
    ∙ ap (λ (rs : List ℕ). word_at (all_descriptors h.book why.number why.endpoint.desc why.slots why.count why.seed rs a).memory (32 * b + 4 * i)) new
    ∙ describe_leaves d m why.number why.endpoint why.slots why.count why.seed h bs b i all.are has there small
