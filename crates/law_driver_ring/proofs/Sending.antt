-- A transfer is accepted: its qTDs, the inactive qTD after them and what they send are written in runs that were just taken, so what was Lent stays.
use Rattle.std.proofs.Common.{◌≡◌, ◌≢◌, ℕ, zero, suc, ◌+◌, ◌-◌, ◌*◌, ◌/◌, ◌<◌, ◌≤◌, Bool, true, false, List, [], ◌∷◌, ◌++◌, length, take, drop, replicate, set, get_or, option_map, slice_index, if◌then◌else◌, ap, refl, sym, subst, ◌∙◌, arith, length-append, length-drop, length-take}
use Rattle.std.proofs.lemmas.List.{get_or-set_same, get_or-take, get_or-drop, get_or_append_left, length-set, length-replicate}
use Rattle.law_common.proofs.Lists.{shift, drop_first}
use Rattle.law_common.proofs.Numbers.{other_than}
use Rattle.law_driver_ring.proofs.Common.{sends_room}
use Rattle.word_mem.specs.Memory.{Mem, IsShaped, word_at, with_word}
use Rattle.mem_runs.specs.Book.{Book, Holding, holding, Stands, slot_of, can_store, store, store_words}
use Rattle.qh_qtd.specs.Qtd.{qtd_words}
use Rattle.drv_table.specs.declared.content.Endpoint.{Endpoint}
use Rattle.drv_table.specs.declared.content.QtdNote.{QtdNote}
use Rattle.drv_table.specs.declared.content.Stage.{Stage}
use Rattle.drv_table.specs.DriverContent.{DriverContent, no_note}
use Rattle.drv_table.specs.Words.{dummy_qtd, pieces, buffer_needs, needs}
use Rattle.drv_table.specs.Harvests.{note_at, buffer_address}
use Rattle.drv_table.specs.Accepting.{Offered, new_runs}
use Rattle.drv_table.specs.Offers.{Asked, runs_of, note_for, note_stages, write_stages, stage_words, is_last, word_from, write_bytes, sends, send_stages, accepted_transfer}
use Rattle.claims_driver.specs.Owners.{Owner, Dummy, Element, IsPlaced, SlotHas, runs_of_endpoint}
use Rattle.law_driver.specs.run_owners.Accepts.{AreShort, Transfers}
use Rattle.claims_driver.specs.Leaving.{HasOwners}
use Rattle.law_driver.proofs.lemmas.run_owners.Runs.{placed_run}
use Rattle.law_driver.proofs.lemmas.run_owners.Taking.{AreTaken, runs_taken}
use Rattle.law_driver.proofs.lemmas.run_owners.Accepted.{fresh_differs, within_slots}
use Rattle.law_driver.proofs.lemmas.run_owners.Chains.{notes_apart, few_runs, buffers_of}
use Rattle.law_driver.proofs.lemmas.run_owners.Transferred.{are_new, goes_on_alive}
use Rattle.law_driver.proofs.lemmas.ring_members.Placed.{has_queue}
use Rattle.law_driver.proofs.lemmas.ring_members.Stores.{AreNotAt, AreApart, slots_apart, store_elsewhere, words_elsewhere, stages_elsewhere}
use Rattle.law_structures.specs.lent_structures.Changes.{Leaves}
use Rattle.law_driver_ring.proofs.PartSlots.{taken_leaves}
use Rattle.law_driver_ring.proofs.PartAccepting.{IsAsLarge, words_large}

-- ---- stores leave the states and the size

large_both : (m n o : Mem) → IsAsLarge m n → IsAsLarge n o → IsAsLarge m o
large_both m n o one two = record { states = two.states ∙ one.states; size = two.size ∙ one.size }

stored_large : (can : Bool) (m : Mem) (at v : ℕ) → IsAsLarge m (if can then with_word m at v else m)
stored_large true m at v = record { states = refl; size = length-set m.words (at / 4) v }
stored_large false m at v = record { states = refl; size = refl }

stages_large : (k : Book) (m : Mem) (notes : List QtdNote) (dummy : ℕ) (ss : List Stage) (b : ℕ) → IsAsLarge m (write_stages k m notes dummy ss b)
stages_large k m notes dummy [] b = record { states = refl; size = refl }
stages_large k m notes dummy (s ∷ ss) b =
    let one = store_words k m b (32 * b) (stage_words notes s b dummy (is_last ss)) in
    large_both m one (write_stages k one notes dummy ss (note_at notes b).next) (words_large k m b (32 * b) (stage_words notes s b dummy (is_last ss))) (stages_large k one notes dummy ss (note_at notes b).next)

bytes_large : (k : Book) (m : Mem) (note : QtdNote) (bytes : List ℕ) (i n : ℕ) → IsAsLarge m (write_bytes k m note bytes i n)
bytes_large k m note bytes i zero = record { states = refl; size = refl }
bytes_large k m note bytes i (suc n) =
    let b = get_or note.buffer (i / 4096) 0 in
    let at = buffer_address note i in
    let one = store k m b at (word_from bytes i) in
    large_both m one (write_bytes k one note bytes (i + 4) n) (stored_large (can_store (slot_of k.slots b) at) m at (word_from bytes i)) (bytes_large k one note bytes (i + 4) n)

sent_large : (k : Book) (m : Mem) (notes : List QtdNote) (ss : List Stage) (b : ℕ) (bytes : List ℕ) → IsAsLarge m (send_stages k m notes ss b bytes)
sent_large k m notes [] b bytes = record { states = refl; size = refl }
sent_large k m notes (s ∷ ss) b bytes =
    let one = write_bytes k m (note_at notes b) (take (sends s) bytes) 0 (pieces (sends s) 4) in
    large_both m one (send_stages k one notes ss (note_at notes b).next (drop (sends s) bytes)) (bytes_large k m (note_at notes b) (take (sends s) bytes) 0 (pieces (sends s) 4)) (sent_large k one notes ss (note_at notes b).next (drop (sends s) bytes))

-- ---- how many runs a buffer has

-- the first entries of a list that is filled up
filled : (k r : ℕ) (xs : List ℕ) (j : ℕ) → j < r → r ≤ k → r ≤ length xs → get_or (take k (take r xs ++ replicate k 0)) j 0 ≡ get_or xs j 0
filled k r xs j below few many =
    let long : length (take r xs) ≡ r = let l = length-take r xs in omega (arith, l, many) in
    get_or-take k (take r xs ++ replicate k 0) j 0 (omega (arith, below, few)) ∙ get_or_append_left (take r xs) (replicate k 0) 0 j (omega (arith, below, long)) ∙ get_or-take r xs j 0 below

-- ---- the notes

-- the runs in which the bytes of these qTDs have room don't begin in block c
abbrev pub AreRunsNotAt : List QtdNote → ℕ → ℕ → List Stage → Type 0
AreRunsNotAt notes c b [] = Unit {0}
AreRunsNotAt notes c b (s ∷ ss) = ((j : ℕ) → j < runs_of s → c ≢ get_or (note_at notes b).buffer j 0) × AreRunsNotAt notes c (note_at notes b).next ss

first_not : (notes : List QtdNote) (c b : ℕ) (ss : List Stage) → (1 ≤ length ss → b ≢ c) → AreNotAt notes c (note_at notes b).next (length (drop 1 ss)) → AreNotAt notes c b (length ss)
first_not notes c b [] differs more = tt
first_not notes c b (s ∷ ss) differs more = (λ same. differs (omega arith) (sym same), more)

-- none of its further qTDs begins in block c, which may be the first, and none of its buffers' runs
are_noted : (c : ℕ) (notes : List QtdNote) (ss : List Stage) (b : ℕ) (qtds runs : List ℕ) → AreShort ss → length (buffers_of ss) ≤ length runs
    → ((i : ℕ) → suc i < length ss → get_or (b ∷ qtds) (suc i) 0 ≢ c) → ((i : ℕ) → i < length ss → get_or (b ∷ qtds) i 0 < length notes)
    → ((i j : ℕ) → i < j → j < length ss → get_or (b ∷ qtds) j 0 ≢ get_or (b ∷ qtds) i 0) → ((i : ℕ) → i < length runs → c ≢ get_or runs i 0)
    → AreNotAt (note_stages notes ss b qtds runs) c (note_at (note_stages notes ss b qtds runs) b).next (length (drop 1 ss)) × AreRunsNotAt (note_stages notes ss b qtds runs) c b ss
are_noted c notes [] b qtds runs short enough apart within distinct all = (tt, tt)
are_noted c notes (s ∷ ss) b qtds runs short enough apart within distinct all =
    let q = get_or qtds 0 0 in
    let r = runs_of s in
    let one = set notes b (note_for s q runs) in
    let rest = note_stages one ss q (drop 1 qtds) (drop r runs) in
    let long : length (buffers_of (s ∷ ss)) ≡ r + length (buffers_of ss) = length-append (buffer_needs s.long) (buffers_of ss) in
    let left = length-drop r runs in
    let few : r ≤ 5 = few_runs 5 s.long (omega (arith, short.0)) (omega arith) in
    let here : note_at rest b ≡ note_for s q runs =
    notes_apart one ss q (drop 1 qtds) (drop r runs) b (λ i below same. distinct 0 (suc i) (omega arith) (omega arith) (sym (shift b qtds i) ∙ same))
    ∙ get_or-set_same notes b (note_for s q runs) no_note (within 0 (omega arith)) in
    let more = are_noted c one ss q (drop 1 qtds) (drop r runs) short.1 (omega (arith, enough, long, left))
    (λ i below same. apart (suc i) (omega (arith, below)) (sym (shift b qtds (suc i)) ∙ same))
    (λ i below. let n = length-set notes b (note_for s q runs) in let w = within (suc i) (omega arith) in let e = shift b qtds i in omega (arith, n, w, e))
    (λ i j less below same. distinct (suc i) (suc j) (omega arith) (omega arith) (sym (shift b qtds j) ∙ same ∙ shift b qtds i))
    (λ i below. other_than c (get_or (drop r runs) i 0) (get_or runs (r + i) 0) (get_or-drop r runs i 0) (all (r + i) (omega (arith, below, left)))) in (
      subst (λ (n : QtdNote). AreNotAt rest c n.next (length ss)) (sym here) (first_not rest c q ss (λ some same. apart 0 (omega (arith, some)) (sym (shift b qtds 0) ∙ same)) more.0),
      (
        subst (λ (n : QtdNote). (j : ℕ) → j < r → c ≢ get_or n.buffer j 0) (sym here)
            (λ j below. other_than c (get_or (note_for s q runs).buffer j 0) (get_or runs j 0) (filled 5 r runs j below few (omega (arith, enough, long))) (all j (omega (arith, below, enough, long)))),
        subst (λ (n : QtdNote). AreRunsNotAt rest c n.next ss) (sym here) more.1,
      ),
    )

-- ---- the bytes that are sent

bytes_apart : (k : Book) (m : Mem) (note : QtdNote) (bytes : List ℕ) (i n r c other : ℕ) → AreApart k.slots → SlotHas (slot_of k.slots c) (other / 32) → ((j : ℕ) → j < r → c ≢ get_or note.buffer j 0) → i + 4 * n ≤ 4096 * r + 3
    → word_at (write_bytes k m note bytes i n) other ≡ word_at m other
bytes_apart k m note bytes i zero r c other apart here not room = refl
bytes_apart k m note bytes i (suc n) r c other apart here not room =
    bytes_apart k (store k m (get_or note.buffer (i / 4096) 0) (buffer_address note i) (word_from bytes i)) note bytes (i + 4) n r c other apart here not (omega (arith, room))
    ∙ store_elsewhere k m (get_or note.buffer (i / 4096) 0) c (buffer_address note i) (word_from bytes i) other apart (not (i / 4096) (omega (arith, room))) here

sends_apart : (k : Book) (m : Mem) (notes : List QtdNote) (ss : List Stage) (b : ℕ) (bytes : List ℕ) (c other : ℕ) → AreApart k.slots → SlotHas (slot_of k.slots c) (other / 32) → AreRunsNotAt notes c b ss
    → word_at (send_stages k m notes ss b bytes) other ≡ word_at m other
sends_apart k m notes [] b bytes c other apart here not = refl
sends_apart k m notes (s ∷ ss) b bytes c other apart here not =
    sends_apart k (write_bytes k m (note_at notes b) (take (sends s) bytes) 0 (pieces (sends s) 4)) notes ss (note_at notes b).next (drop (sends s) bytes) c other apart here not.1
    ∙ bytes_apart k m (note_at notes b) (take (sends s) bytes) 0 (pieces (sends s) 4) (runs_of s) c other apart here not.0 (sends_room s)

-- ---- the accepted transfer

moved_leaves : (d : DriverContent) (m : Mem) (number : ℕ) (x : Endpoint) (a : Asked) (g : Holding) (bs : List ℕ) (owner : ℕ → Owner) → Stands (holding d.book m) → IsShaped m → AreTaken (holding d.book m) g (needs a.stages) bs → 1 ≤ length a.stages → AreShort a.stages → length d.notes ≡ length d.book.slots → IsPlaced (slot_of d.book.slots) owner x.dummy (Dummy number)
    → Leaves m (accepted_transfer d number x a g (get_or (take (length a.stages) bs) (length a.stages - 1) 0) (note_stages d.notes a.stages x.dummy (take (length a.stages) bs) (drop (length a.stages) bs))).memory
moved_leaves d m number x a g bs owner stands shape taken some short sizes was =
    let ss = a.stages in
    let n = length ss in
    let b = x.dummy in
    let qtds = take n bs in
    let runs = drop n bs in
    let dummy = get_or qtds (n - 1) 0 in
    let notes = note_stages d.notes ss b qtds runs in
    let k = g.book in
    let apart = slots_apart g taken.stands in
    let new = are_new ss owner b number 0 some taken was in
    let long : length bs ≡ n + length (buffers_of ss) = taken.long ∙ length-append (replicate n 1) (buffers_of ss) ∙ ap (λ j. j + length (buffers_of ss)) (length-replicate {A = ℕ} n 1) in
    let left : length runs ≡ length bs - n = length-drop n bs in
    let first = (note_at notes b).next in
    let mid = write_stages k g.memory notes dummy (drop 1 ss) first in
    let last = store_words k mid dummy (32 * dummy) (qtd_words dummy_qtd) in
    let sent = send_stages k last notes ss b a.bytes in
    let large = large_both g.memory mid sent (stages_large k g.memory notes dummy (drop 1 ss) first) (large_both mid last sent (words_large k mid dummy (32 * dummy) (qtd_words dummy_qtd)) (sent_large k last notes ss b a.bytes)) in
    taken_leaves sent stands shape taken large.size large.states
    (λ c other run at.
    let not_last : c ≢ dummy = λ same. fresh_differs (n - 1) c taken (omega (arith, some, long)) run (sym (get_or-take n bs (n - 1) 0 (omega (arith, some))) ∙ sym same) in
    let noted = are_noted c d.notes ss b qtds runs short (omega (arith, long, left))
    (λ i below same. fresh_differs i c taken (omega (arith, below, long)) run (sym (get_or-take n bs i 0 (omega (arith, below))) ∙ same))
    (λ i below. omega (arith, within_slots (get_or (b ∷ qtds) i 0) taken (placed_run (get_or (b ∷ qtds) i 0) (Element 0) (new.elements i below)), taken.many, sizes))
    new.distinct
    (λ i below same. fresh_differs (n + i) c taken (omega (arith, below, left)) run (sym (get_or-drop n bs i 0) ∙ sym same)) in
    sends_apart k last notes ss b a.bytes c other apart at noted.1
    ∙ words_elsewhere k mid dummy c (32 * dummy) other (qtd_words dummy_qtd) apart not_last at
    ∙ stages_elsewhere k g.memory notes dummy (drop 1 ss) first c other apart at noted.0
    ∙ ap (λ ws. slice_index ws (other / 4)) taken.words)

pub transfer_leaves : (d : DriverContent) (m : Mem) (o : Offered) → Transfers d m o → HasOwners d → Stands (holding d.book m) → IsShaped m → Leaves m o.memory
transfer_leaves d m o why has stands shape =
    let n = length why.asked.stages in
    let x = why.endpoint in
    let all = runs_taken (holding d.book m) why.holding_after (needs why.asked.stages) stands why.runs in
    let new : new_runs d why.holding_after ≡ all.blocks = ap (drop (length d.book.taken)) all.are.taken ∙ drop_first d.book.taken all.blocks in
    let alive = has_queue x why.queued (goes_on_alive x why.goes_on (has.orderly.steady why.number x why.here)) in
    let was = has.owned.each.dummy why.number (runs_of_endpoint x) (ap (option_map runs_of_endpoint) why.here) alive in
    subst (λ (f : Offered). Leaves m f.memory) (sym why.is)
    (subst (λ (rs : List ℕ). Leaves m (accepted_transfer d why.number x why.asked why.holding_after (get_or (take n rs) (n - 1) 0) (note_stages d.notes why.asked.stages x.dummy (take n rs) (drop n rs))).memory) (sym new)
    (moved_leaves d m why.number x why.asked why.holding_after all.blocks has.owner stands shape all.are why.some why.short has.owned.sizes was))
