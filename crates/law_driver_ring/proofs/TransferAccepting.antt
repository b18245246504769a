-- Once a transfer was accepted, its qTDs are written.
use Rattle.std.proofs.Common.{◌≡◌, ◌≢◌, ℕ, suc, ◌-◌, ◌*◌, ◌<◌, ◌≤◌, false, ◌||◌, List, [], ◌∷◌, ◌++◌, length, take, drop, get_or, replicate, slice_get, inl, inr, Some, None, option_map, Ok, ap, refl, sym, subst, ◌∙◌, arith}
use Rattle.std.specs.List.{AllByRecursion}
use Rattle.std.proofs.lemmas.List.{length-replicate, take-append-drop}
use Rattle.law_driver.proofs.Common.{last_pushed}
use Rattle.law_driver_ring.proofs.Common.{lent_slot}
use Rattle.law_common.proofs.Lists.{drop_first, set_here}
use Rattle.word_mem.specs.Memory.{Mem, IsShaped}
use Rattle.word_mem.specs.declared.blocks.BlockState.TheVariants.{Kept}
use Rattle.word_mem.proofs.Frames.{run_within}
use Rattle.qh_qtd.specs.Qtd.{qtd_words}
use Rattle.mem_runs.specs.Book.{Holding, holding, slot_of, store_words, Stands}
use Rattle.mem_runs.proofs.Standing.{keeps_at, keeps_all}
use Rattle.drv_table.specs.declared.content.Endpoint.{Endpoint}
use Rattle.drv_table.specs.declared.content.Stage.{Stage}
use Rattle.drv_table.specs.DriverContent.{DriverContent}
use Rattle.drv_table.specs.Words.{dummy_qtd, needs}
use Rattle.drv_table.specs.Harvests.{note_at}
use Rattle.drv_table.specs.Kinds.{is_iso}
use Rattle.drv_table.specs.Accepting.{Offered, take_runs, new_runs}
use Rattle.drv_table.specs.Offers.{Asked, note_stages, write_stages, send_stages, new_transfer, with_queued, accepted_transfer}
use Rattle.claims_driver.specs.Owners.{FrameList, Dummy, Element, runs_of_endpoint, runs_of_transfer, is_descriptor}
use Rattle.claims_driver.specs.Leaving.{HasOwners}
use Rattle.law_driver.specs.run_owners.Accepts.{AreShort}
use Rattle.law_driver.proofs.lemmas.run_owners.Runs.{placed_run}
use Rattle.law_driver.proofs.lemmas.run_owners.Taking.{AreTaken, runs_taken}
use Rattle.law_driver.proofs.lemmas.run_owners.Accepted.{within_slots, fresh_differs}
use Rattle.law_driver.proofs.lemmas.run_owners.Chains.{buffers_of}
use Rattle.law_driver.proofs.lemmas.run_owners.Transferred.{are_new, goes_on_alive}
use Rattle.claims_driver.specs.LentRuns.{AreLent, still_lends}
use Rattle.law_driver.proofs.lemmas.lent_runs.Laws.{all_are_lent_between_commands}
use Rattle.law_driver.proofs.lemmas.ring_members.Placed.{has_queue}
use Rattle.law_driver.proofs.lemmas.ring_members.Accepted.{shaped_taken}
use Rattle.law_driver.proofs.lemmas.ring_members.Stores.{AreBuffersNotAt, slots_apart}
use Rattle.law_driver_ring.specs.Inventory.{IsLent}
use Rattle.law_driver_ring.specs.Written.{IsPageRun, AreRuns, AreAllApart, next_blocks, buffer_blocks, last_block, AreNoted, AreWritten, AwaitsLend}
use Rattle.law_driver_ring.specs.TransferLaws.{AcceptedAwaitsLend}
use Rattle.law_driver_ring.proofs.Lists.{IsOneOf, one_left, all_of, apart_by_place, apart_left, apart_halves}
use Rattle.law_driver_ring.proofs.Paged.{runs_paged, runs_left, runs_right, ones, runs_many}
use Rattle.law_driver_ring.proofs.TransferNoted.{AreChainBlocks, next_blocks_are, last_block_is, buffer_blocks_are, stages_noted}
use Rattle.law_driver_ring.proofs.Chained.{IsBlock, chain_stored}
use Rattle.law_driver_ring.proofs.Sent.{buffers_not, chain_sent}

-- ---- small facts

none_zero : (xs : List ℕ) → ((i : ℕ) → i < length xs → get_or xs i 0 ≢ 0) → (c : ℕ) → IsOneOf c xs → c ≢ 0
none_zero [] each c one = absurd one
none_zero (x ∷ xs) each c (inl is) = λ same. each 0 (omega arith) (sym is ∙ same)
none_zero (x ∷ xs) each c (inr there) = none_zero xs (λ i below. each (suc i) (omega (arith, below))) c there

-- each of the blocks has a slot of one block
blocks_are : (g : Holding) (cs : List ℕ) → Stands g → IsShaped g.memory → AllByRecursion (λ c. IsPageRun (slot_of g.book.slots c) 1) cs → AllByRecursion (IsBlock g.book (length g.memory.words)) cs
blocks_are g [] stands shape all = tt
blocks_are g (c ∷ cs) stands shape all =
    let r = all.0 in
    let at = keeps_at g c r.run stands r.is in
    let first = at.0 in
    let inside = run_within g.memory Kept r.run (keeps_all g c r.run stands r.is) at.1 in
    let each = shape.eight_each in
    let some = at.1 in
    (record { run = r.run; is = r.is; first = first; one = r.blocks; room = omega (arith, first, some, inside, each) }, blocks_are g cs stands shape all.1)

-- ---- the accepted transfer

pub written_with : (d : DriverContent) (m : Mem) (number : ℕ) (x : Endpoint) (a : Asked) (g : Holding) (bs : List ℕ) (s : Stage) (ss : List Stage) → a.stages ≡ s ∷ ss → (has : HasOwners d) → AreLent d → d.command ≡ None → Stands (holding d.book m) → IsShaped m → take_runs (holding d.book m) (needs (s ∷ ss)) ≡ Ok g → AreTaken (holding d.book m) g (needs (s ∷ ss)) bs → slice_get d.endpoints number ≡ Some x → is_iso x.desc.kind || x.gone ≡ false → is_descriptor a.sort ≡ false → AreShort (s ∷ ss) → AllByRecursion (λ r. r.pid ≤ 2) (s ∷ ss)
    → AwaitsLend (accepted_transfer d number x a g (get_or (take (suc (length ss)) bs) (length ss) 0) (note_stages d.notes (s ∷ ss) x.dummy (take (suc (length ss)) bs) (drop (suc (length ss)) bs))).driver
    (accepted_transfer d number x a g (get_or (take (suc (length ss)) bs) (length ss) 0) (note_stages d.notes (s ∷ ss) x.dummy (take (suc (length ss)) bs) (drop (suc (length ss)) bs))).memory (length d.transfers)
    (runs_of_transfer (new_transfer number a x.dummy)) (runs_of_endpoint (with_queued x (get_or (take (suc (length ss)) bs) (length ss) 0) (length d.transfers))) s ss
written_with d m number x a g bs s ss stages has lent idle stands shape runs_are taken here alive sort short pids =
    let n = suc (length ss) in
    let b = x.dummy in
    let qtds = take n bs in
    let runs = drop n bs in
    let dummy = get_or qtds (length ss) 0 in
    let notes = note_stages d.notes (s ∷ ss) b qtds runs in
    let k = g.book in
    let slot = slot_of k.slots in
    let was = has.owned.each.dummy number (runs_of_endpoint x) (ap (option_map runs_of_endpoint) here) alive in
    let new = are_new (s ∷ ss) has.owner b number 0 (omega arith) taken was in
    let none : d.book.taken ≡ [] = lent.lent (ap (λ c. still_lends c d.made) idle) in
    let paged = runs_paged (needs (s ∷ ss)) (holding d.book m) g stands runs_are in
    let same : paged.blocks ≡ bs = sym (ap (λ (ts : List ℕ). ts ++ paged.blocks) none) ∙ sym paged.taken ∙ taken.taken ∙ ap (λ (ts : List ℕ). ts ++ bs) none in
    let all : AreRuns slot (replicate n 1 ++ buffers_of (s ∷ ss)) bs = subst (AreRuns slot (needs (s ∷ ss))) same paged.runs in
    let many : length (replicate {A = ℕ} n 1) ≡ n = length-replicate {A = ℕ} n 1 in
    let qtd_runs : AreRuns slot (replicate n 1) qtds = subst (λ (i : ℕ). AreRuns slot (replicate n 1) (take i bs)) many (runs_left slot (replicate n 1) (buffers_of (s ∷ ss)) bs all) in
    let buffer_runs : AreRuns slot (buffers_of (s ∷ ss)) runs = subst (λ (i : ℕ). AreRuns slot (buffers_of (s ∷ ss)) (drop i bs)) many (runs_right slot (replicate n 1) (buffers_of (s ∷ ss)) bs all) in
    let chain : AreChainBlocks d.notes (s ∷ ss) b qtds = record {
      many = runs_many slot (replicate n 1) qtds qtd_runs ∙ many;
      within = λ i below. let w = within_slots (get_or (b ∷ qtds) i 0) taken (placed_run (get_or (b ∷ qtds) i 0) (Element 0) (new.elements i below)) in let e = taken.many in let f = has.owned.sizes in omega (arith, w, e, f);
      distinct = new.distinct;
    } in
    let next_are : next_blocks notes (s ∷ ss) b ≡ qtds = next_blocks_are d.notes (s ∷ ss) b qtds runs chain in
    let buffers_are : buffer_blocks notes (s ∷ ss) b ≡ runs = buffer_blocks_are d.notes (s ∷ ss) b qtds runs chain short (runs_many slot (buffers_of (s ∷ ss)) runs buffer_runs) in
    let ends : last_block notes (s ∷ ss) b ≡ dummy = last_block_is d.notes (s ∷ ss) b qtds runs chain in
    let kept : AllByRecursion (λ c. IsPageRun (slot c) 1) (next_blocks notes (s ∷ ss) b) = subst (AllByRecursion (λ c. IsPageRun (slot c) 1)) (sym next_are) (ones slot n qtds qtd_runs) in
    let apart : AreAllApart g.book.taken = subst AreAllApart (sym (taken.taken ∙ ap (λ (ts : List ℕ). ts ++ bs) none)) (apart_by_place bs taken.distinct) in
    let taken_are : g.book.taken ≡ next_blocks notes (s ∷ ss) b ++ buffer_blocks notes (s ∷ ss) b =
    taken.taken ∙ ap (λ (ts : List ℕ). ts ++ bs) none ∙ sym (take-append-drop n bs) ∙ sym (ap (λ (cs : List ℕ). cs ++ buffer_blocks notes (s ∷ ss) b) next_are ∙ ap (λ (cs : List ℕ). qtds ++ cs) buffers_are) in
    let was_run = placed_run b (Dummy number) was in
    let first = (note_at notes b).next in
    let stored = store_words k (write_stages k g.memory notes dummy ss first) dummy (32 * dummy) (qtd_words dummy_qtd) in
    let written : AreWritten stored notes dummy ss first =
    chain_stored k g.memory notes dummy ss first (slots_apart g taken.stands) (blocks_are g (first ∷ next_blocks notes ss first) taken.stands (shaped_taken taken stands shape) kept)
    (apart_left (next_blocks notes (s ∷ ss) b) (buffer_blocks notes (s ∷ ss) b) (subst AreAllApart taken_are apart)) ends in
    let noted : AreNoted slot notes (s ∷ ss) b = stages_noted slot d.notes (s ∷ ss) b qtds runs chain short buffer_runs in
    -- the block 0 belongs to the frame list
    let some : (c : ℕ) → IsOneOf c (next_blocks notes (s ∷ ss) b) → c ≢ 0 = λ c one.
    none_zero bs (λ i below. fresh_differs i 0 taken below (placed_run 0 FrameList has.owned.each.list)) c
    (subst (IsOneOf c) (take-append-drop n bs) (one_left c qtds runs (subst (IsOneOf c) next_are one))) in
    let not : AllByRecursion (λ c. AreBuffersNotAt notes c b (suc (length ss))) (next_blocks notes (s ∷ ss) b) =
    all_of (λ c. AreBuffersNotAt notes c b (suc (length ss))) (next_blocks notes (s ∷ ss) b)
    (λ c one. buffers_not slot notes c (s ∷ ss) b (some c one) noted (λ j other. apart_halves (next_blocks notes (s ∷ ss) b) (buffer_blocks notes (s ∷ ss) b) c j (subst AreAllApart taken_are apart) one other)) in
    let sent : AreWritten (send_stages k stored notes (s ∷ ss) b a.bytes) notes dummy ss first =
    chain_sent k stored notes (s ∷ ss) b a.bytes (length g.memory.words) dummy ss first (slots_apart g taken.stands) (blocks_are g (first ∷ next_blocks notes ss first) taken.stands (shaped_taken taken stands shape) kept) not written in
    let memory : (accepted_transfer d number x a g dummy notes).memory ≡ send_stages k stored notes (s ∷ ss) b a.bytes =
    ap (λ (rs : List Stage). send_stages k (store_words k (write_stages k g.memory notes dummy (drop 1 rs) first) dummy (32 * dummy) (qtd_words dummy_qtd)) notes rs b a.bytes) stages in
    record {
      here = record {
        here = ap (option_map runs_of_transfer) (last_pushed d.transfers (new_transfer number a b));
        held = refl;
        qtds = sort;
        queue = record { here = ap (option_map runs_of_endpoint) (set_here d.endpoints number x (with_queued x dummy (length d.transfers)) here); queued = alive };
      };
      qtds = ap length stages;
      first = subst IsLent (sym (taken.old b was_run)) (lent_slot (slot_of d.book.slots b)
          (all_are_lent_between_commands d b idle lent was_run));
      taken = taken_are;
      apart = apart;
      ends = ends;
      qtds_kept = kept;
      noted = noted;
      words = subst (λ (q : Mem). AreWritten q notes dummy ss first) (sym memory) sent;
      short = short;
      pids = pids;
    }

pub accepted_awaits_lend : AcceptedAwaitsLend
accepted_awaits_lend d m o why s ss stages pids has lent stands shape =
    let g = why.holding_after in
    let x = why.endpoint in
    let n = suc (length ss) in
    let runs_are : take_runs (holding d.book m) (needs (s ∷ ss)) ≡ Ok g = ap (λ (rs : List Stage). take_runs (holding d.book m) (needs rs)) (sym stages) ∙ why.runs in
    let all = runs_taken (holding d.book m) g (needs (s ∷ ss)) stands runs_are in
    let bs = all.blocks in
    let new : new_runs d g ≡ bs = ap (drop (length d.book.taken)) all.are.taken ∙ drop_first d.book.taken bs in
    let taken = subst (AreTaken (holding d.book m) g (needs (s ∷ ss))) (sym new) all.are in
    let rs = new_runs d g in
    let alive = has_queue x why.queued (goes_on_alive x why.goes_on (has.orderly.steady why.number x why.here)) in
    let is : o ≡ accepted_transfer d why.number x why.asked g (get_or (take n rs) (length ss) 0) (note_stages d.notes (s ∷ ss) x.dummy (take n rs) (drop n rs)) =
    why.is
    ∙ ap (λ (ps : List Stage). accepted_transfer d why.number x why.asked g (get_or (take (length ps) rs) (length ps - 1) 0) (note_stages d.notes ps x.dummy (take (length ps) rs) (drop (length ps) rs))) stages
    ∙ ap (λ (i : ℕ). accepted_transfer d why.number x why.asked g (get_or (take n rs) i 0) (note_stages d.notes (s ∷ ss) x.dummy (take n rs) (drop n rs))) (let e : suc (length ss) - 1 ≡ length ss = omega arith in e) in
    let y = runs_of_transfer (new_transfer why.number why.asked x.dummy) in
    let z = runs_of_endpoint (with_queued x (get_or (take n rs) (length ss) 0) (length d.transfers)) in
    subst (λ (f : Offered). AwaitsLend f.driver f.memory (length d.transfers) y z s ss) (sym is)
    (written_with d m why.number x why.asked g rs s ss stages has lent why.idle stands shape runs_are taken why.here alive why.sort (subst AreShort stages why.short) (subst (AllByRecursion (λ r. r.pid ≤ 2)) stages pids))
