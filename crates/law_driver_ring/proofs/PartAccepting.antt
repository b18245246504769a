-- What an accepted command leaves of what was Lent: it takes runs and writes in them.
use Rattle.std.proofs.Common.{◌≡◌, ◌≢◌, ℕ, suc, ◌+◌, ◌-◌, ◌*◌, ◌/◌, ◌<◌, ◌≤◌, Bool, true, false, List, [], ◌∷◌, length, take, drop, set, get_or, slice_index, replicate, nat_eq, if◌then◌else◌, ap, refl, sym, subst, ◌∙◌, arith}
use Rattle.std.proofs.lemmas.List.{get_or-set_same, length-set, length-append, length-replicate, get_or-take}
use Rattle.law_common.proofs.Lists.{shift}
use Rattle.usb_base.specs.declared.endpoints.EpDesc.{EpDesc}
use Rattle.word_mem.specs.Memory.{Mem, IsShaped, with_word}
use Rattle.qh_qtd.specs.Qtd.{qtd_words}
use Rattle.qh_qtd.specs.QueueHead.{qh_words}
use Rattle.mem_runs.specs.Book.{Book, Holding, holding, slot_of, can_store, store, store_words, Stands}
use Rattle.drv_table.specs.declared.content.Endpoint.{Endpoint}
use Rattle.drv_table.specs.declared.content.QtdNote.{QtdNote}
use Rattle.drv_table.specs.declared.content.Stage.{Stage}
use Rattle.drv_table.specs.DriverContent.{DriverContent, no_note}
use Rattle.drv_table.specs.Words.{queue_head, dummy_qtd, pieces, needs}
use Rattle.drv_table.specs.Harvests.{note_at}
use Rattle.drv_table.specs.Offers.{Asked, accepted_open, note_for, runs_of, note_stages, write_stages, stage_words, is_last, sends, write_bytes, send_stages, accepted_transfer}
use Rattle.drv_table.specs.Accepting.{newest_of}
use Rattle.claims_driver.specs.Owners.{Owner, Dummy, Element, IsPlaced}
use Rattle.law_driver.proofs.lemmas.run_owners.Runs.{placed_run}
use Rattle.law_driver.proofs.lemmas.run_owners.Taking.{AreTaken}
use Rattle.law_driver.proofs.lemmas.run_owners.Accepted.{fresh_differs, within_slots}
use Rattle.law_driver.proofs.lemmas.run_owners.Chains.{notes_apart, buffers_of}
use Rattle.law_driver.proofs.lemmas.run_owners.Transferred.{are_new}
use Rattle.law_driver.proofs.lemmas.ring_members.Stores.{AreNotAt, slots_apart, words_elsewhere, stages_elsewhere}
use Rattle.law_structures.specs.lent_structures.Changes.{Leaves}
use Rattle.law_driver_ring.specs.PartLaws.{AreIn}
use Rattle.law_driver_ring.proofs.PartSlots.{taken_leaves}

-- ---- stores leave the states and the size

-- the same states and as many words
pub record IsAsLarge (m after : Mem) : Type 0 where
  pub states : after.states ≡ m.states
  pub size : length after.words ≡ length m.words

large_both : (m n o : Mem) → IsAsLarge m n → IsAsLarge n o → IsAsLarge m o
large_both m n o one two = record { states = two.states ∙ one.states; size = two.size ∙ one.size }

stored_large : (can : Bool) (m : Mem) (at v : ℕ) → IsAsLarge m (if can then with_word m at v else m)
stored_large true m at v = record { states = refl; size = length-set m.words (at / 4) v }
stored_large false m at v = record { states = refl; size = refl }

pub words_large : (k : Book) (m : Mem) (b at : ℕ) (ws : List ℕ) → IsAsLarge m (store_words k m b at ws)
unfolding store_words
words_large k m b at [] = record { states = refl; size = refl }
words_large k m b at (v ∷ vs) =
    large_both m (store k m b at v) (store_words k (store k m b at v) b (at + 4) vs) (stored_large (can_store (slot_of k.slots b) at) m at v) (words_large k (store k m b at v) b (at + 4) vs)

stages_large : (k : Book) (m : Mem) (notes : List QtdNote) (dummy : ℕ) (ss : List Stage) (b : ℕ) → IsAsLarge m (write_stages k m notes dummy ss b)
stages_large k m notes dummy [] b = record { states = refl; size = refl }
stages_large k m notes dummy (s ∷ ss) b =
    let one = store_words k m b (32 * b) (stage_words notes s b dummy (is_last ss)) in
    large_both m one (write_stages k one notes dummy ss (note_at notes b).next) (words_large k m b (32 * b) (stage_words notes s b dummy (is_last ss))) (stages_large k one notes dummy ss (note_at notes b).next)

-- ---- an open

pub open_leaves : (d : DriverContent) (m : Mem) (x : EpDesc) (g : Holding) (bs : List ℕ) → Stands (holding d.book m) → IsShaped m → AreTaken (holding d.book m) g (2 ∷ 1 ∷ []) bs → Leaves m (accepted_open d x g (get_or bs 0 0) (get_or bs 1 0)).memory
open_leaves d m x g bs stands shape taken =
    let queue = get_or bs 0 0 in
    let dummy = get_or bs 1 0 in
    let k = g.book in
    let head = queue_head x (newest_of d.endpoints) dummy in
    let mid = store_words k g.memory queue (32 * queue) (qh_words head) in
    let after = store_words k mid dummy (32 * dummy) (qtd_words dummy_qtd) in
    let large = large_both g.memory mid after (words_large k g.memory queue (32 * queue) (qh_words head)) (words_large k mid dummy (32 * dummy) (qtd_words dummy_qtd)) in
    let two : 1 < length bs = omega (arith, taken.long) in
    let apart = slots_apart g taken.stands in
    taken_leaves after stands shape taken large.size large.states
    (λ c other there here.
    words_elsewhere k mid dummy c (32 * dummy) other (qtd_words dummy_qtd) apart (λ is. fresh_differs 1 c taken two there (sym is)) here
    ∙ words_elsewhere k g.memory queue c (32 * queue) other (qh_words head) apart (λ is. fresh_differs 0 c taken (omega (arith, two)) there (sym is)) here
    ∙ ap (λ ws. slice_index ws (other / 4)) taken.words)

-- ---- a transfer that receives

-- none of its qTDs begins in block c
qtds_apart : (c : ℕ) (notes : List QtdNote) (ss : List Stage) (b : ℕ) (qtds runs : List ℕ) → ((i : ℕ) → i < length ss → get_or (b ∷ qtds) i 0 ≢ c) → ((i : ℕ) → i < length ss → get_or (b ∷ qtds) i 0 < length notes) → ((i j : ℕ) → i < j → j < length ss → get_or (b ∷ qtds) j 0 ≢ get_or (b ∷ qtds) i 0) → AreNotAt (note_stages notes ss b qtds runs) c b (length ss)
qtds_apart c notes [] b qtds runs apart within distinct = tt
qtds_apart c notes (s ∷ ss) b qtds runs apart within distinct =
    let q = get_or qtds 0 0 in
    let one = set notes b (note_for s q runs) in
    let rest = note_stages one ss q (drop 1 qtds) (drop (runs_of s) runs) in
    let here : note_at rest b ≡ note_for s q runs =
    notes_apart one ss q (drop 1 qtds) (drop (runs_of s) runs) b (λ i below same. distinct 0 (suc i) (omega arith) (omega arith) (sym (shift b qtds i) ∙ same))
    ∙ get_or-set_same notes b (note_for s q runs) no_note (within 0 (omega arith)) in (
      λ same. apart 0 (omega arith) (sym same),
      subst (λ (n : QtdNote). AreNotAt rest c n.next (length ss)) (sym here)
          (qtds_apart c one ss q (drop 1 qtds) (drop (runs_of s) runs)
          (λ i below same. apart (suc i) (omega arith) (sym (shift b qtds i) ∙ same))
          (λ i below. let n = length-set notes b (note_for s q runs) in let w = within (suc i) (omega arith) in let e = shift b qtds i in omega (arith, n, w, e))
          (λ i j less below same. distinct (suc i) (suc j) (omega arith) (omega arith) (sym (shift b qtds j) ∙ same ∙ shift b qtds i))),
    )

-- nor does one after the first, which may be c
further_apart : (c : ℕ) (notes : List QtdNote) (ss : List Stage) (b : ℕ) (qtds runs : List ℕ) → ((i : ℕ) → suc i < length ss → get_or (b ∷ qtds) (suc i) 0 ≢ c) → ((i : ℕ) → i < length ss → get_or (b ∷ qtds) i 0 < length notes) → ((i j : ℕ) → i < j → j < length ss → get_or (b ∷ qtds) j 0 ≢ get_or (b ∷ qtds) i 0) → AreNotAt (note_stages notes ss b qtds runs) c (note_at (note_stages notes ss b qtds runs) b).next (length (drop 1 ss))
further_apart c notes [] b qtds runs apart within distinct = tt
further_apart c notes (s ∷ ss) b qtds runs apart within distinct =
    let q = get_or qtds 0 0 in
    let one = set notes b (note_for s q runs) in
    let rest = note_stages one ss q (drop 1 qtds) (drop (runs_of s) runs) in
    let here : note_at rest b ≡ note_for s q runs =
    notes_apart one ss q (drop 1 qtds) (drop (runs_of s) runs) b (λ i below same. distinct 0 (suc i) (omega arith) (omega arith) (sym (shift b qtds i) ∙ same))
    ∙ get_or-set_same notes b (note_for s q runs) no_note (within 0 (omega arith)) in
    subst (λ (n : QtdNote). AreNotAt rest c n.next (length ss)) (sym here)
    (qtds_apart c one ss q (drop 1 qtds) (drop (runs_of s) runs)
    (λ i below same. apart i (omega arith) (sym (shift b qtds i) ∙ same))
    (λ i below. let n = length-set notes b (note_for s q runs) in let w = within (suc i) (omega arith) in let e = shift b qtds i in omega (arith, n, w, e))
    (λ i j less below same. distinct (suc i) (suc j) (omega arith) (omega arith) (sym (shift b qtds j) ∙ same ∙ shift b qtds i)))

-- an IN sends nothing
sends_none : (s : Stage) → s.pid ≡ 1 → sends s ≡ 0
sends_none s in_pid = ap (λ (p : ℕ). if nat_eq p 1 then 0 else s.long) in_pid

none_sent : (k : Book) (m : Mem) (notes : List QtdNote) (ss : List Stage) (b : ℕ) (bytes : List ℕ) → AreIn ss → send_stages k m notes ss b bytes ≡ m
none_sent k m notes [] b bytes all = refl
none_sent k m notes (s ∷ ss) b bytes all =
    ap (λ (n : ℕ). send_stages k (write_bytes k m (note_at notes b) (take n bytes) 0 (pieces n 4)) notes ss (note_at notes b).next (drop n bytes)) (sends_none s all.0)
    ∙ none_sent k m notes ss (note_at notes b).next bytes all.1

pub get_leaves : (d : DriverContent) (m : Mem) (number : ℕ) (x : Endpoint) (a : Asked) (g : Holding) (bs : List ℕ) (owner : ℕ → Owner) → Stands (holding d.book m) → IsShaped m → AreTaken (holding d.book m) g (needs a.stages) bs → 1 ≤ length a.stages → length d.notes ≡ length d.book.slots → IsPlaced (slot_of d.book.slots) owner x.dummy (Dummy number) → AreIn a.stages
    → Leaves m (accepted_transfer d number x a g (get_or (take (length a.stages) bs) (length a.stages - 1) 0) (note_stages d.notes a.stages x.dummy (take (length a.stages) bs) (drop (length a.stages) bs))).memory
get_leaves d m number x a g bs owner stands shape taken some sizes was all_in =
    let ss = a.stages in
    let n = length ss in
    let b = x.dummy in
    let qtds = take n bs in
    let runs = drop n bs in
    let dummy = get_or qtds (n - 1) 0 in
    let notes = note_stages d.notes ss b qtds runs in
    let k = g.book in
    let apart = slots_apart g taken.stands in
    let new = are_new ss owner b number 0 some taken was in
    let long : length bs ≡ n + length (buffers_of ss) = taken.long ∙ length-append (replicate n 1) (buffers_of ss) ∙ ap (λ j. j + length (buffers_of ss)) (length-replicate {A = ℕ} n 1) in
    let first = (note_at notes b).next in
    let mid = write_stages k g.memory notes dummy (drop 1 ss) first in
    let last = store_words k mid dummy (32 * dummy) (qtd_words dummy_qtd) in
    let large = large_both g.memory mid last (stages_large k g.memory notes dummy (drop 1 ss) first) (words_large k mid dummy (32 * dummy) (qtd_words dummy_qtd)) in
    subst (Leaves m) (sym (none_sent k last notes ss b a.bytes all_in))
    (taken_leaves last stands shape taken large.size large.states
    (λ c other run at.
    let not_last : c ≢ dummy = λ same. fresh_differs (n - 1) c taken (omega (arith, some, long)) run (sym (get_or-take n bs (n - 1) 0 (omega (arith, some))) ∙ sym same) in
    words_elsewhere k mid dummy c (32 * dummy) other (qtd_words dummy_qtd) apart not_last at
    ∙ stages_elsewhere k g.memory notes dummy (drop 1 ss) first c other apart at
    (further_apart c d.notes ss b qtds runs
    (λ i below same. fresh_differs i c taken (omega (arith, below, long)) run (sym (get_or-take n bs i 0 (omega (arith, below))) ∙ same))
    (λ i below. omega (arith, within_slots (get_or (b ∷ qtds) i 0) taken (placed_run (get_or (b ∷ qtds) i 0) (Element 0) (new.elements i below)), taken.many, sizes))
    new.distinct)
    ∙ ap (λ ws. slice_index ws (other / 4)) taken.words))
