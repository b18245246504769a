-- The book goes on standing in the memory as words are stored and runs are lent.
use Rattle.std.proofs.Common.{◌≡◌, ℕ, zero, suc, ◌+◌, ◌-◌, ◌*◌, ◌/◌, ◌%◌, ◌≤◌, Bool, true, false, cond, List, [], ◌∷◌, length, take, drop, reverse, get_or, Option, Some, None, ap, refl, arith, length-append}
use Rattle.std.proofs.lemmas.Option.{slice_get_within}
use Rattle.usb_base.specs.declared.endpoints.EpDesc.{EpDesc}
use Rattle.word_mem.specs.Memory.{Mem, with_word}
use Rattle.word_mem.specs.Runs.{Run}
use Rattle.word_mem.specs.declared.blocks.BlockState.TheVariants.{Kept, Lent}
use Rattle.word_mem.proofs.Frames.{shaped_word, shaped_states}
use Rattle.mem_runs.specs.Book.{Book, Holding, holding, kept_of, kept_in, slot_of, slot_at, none_taken, lend_slot, lend_runs, lend_taken, can_store, has_address, store, store_words}
use Rattle.mem_runs.specs.declared.slots.Slot.{Slot}
use Rattle.mem_runs.specs.declared.slots.Slot.TheVariants.{Empty, Keeps, Lends}
use Rattle.mem_runs.proofs.Standing.{stands_word, stands_lent, kept_not_free, lent_not_free, keeps_at, keeps_all, lends_all, in_run_from}
use Rattle.drv_periodic.specs.declared.work.Store.{Store}
use Rattle.drv_periodic.specs.Periodic.{Periodic}
use Rattle.drv_periodic_table.specs.declared.content.DescriptorNote.{DescriptorNote}
use Rattle.drv_periodic_table.specs.Periodic.{descriptor_member}
use Rattle.drv_periodic_table.specs.Linking.{new_link}
use Rattle.drv_periodic_table.specs.Descriptors.{buffer_address as descriptor_address, is_in, descriptor_words, seeded_word, write_seeded}
use Rattle.drv_table.specs.declared.content.QtdNote.{QtdNote}
use Rattle.drv_table.specs.declared.content.Slots.{Slots}
use Rattle.drv_table.specs.declared.content.Stage.{Stage}
use Rattle.drv_table.specs.declared.content.Transfer.{Transfer}
use Rattle.drv_table.specs.Harvests.{note_at, buffer_address}
use Rattle.drv_table.specs.Words.{pieces}
use Rattle.drv_table.specs.FrameChoice.{linked_descriptors}
use Rattle.drv_table.specs.Removals.{stored_link}
use Rattle.drv_table.specs.IsoOffers.{Descriptors, total_of, slot_runs, descriptor_note, written_descriptor, one_descriptor, all_descriptors}
use Rattle.drv_table.specs.Offers.{is_last, stage_words, write_stages, word_from, write_bytes, sends, send_stages}
use Rattle.law_driver.specs.in_place.InPlace.{IsGood}

-- ---- stores

store_at : (k : Book) (m : Mem) (b at v : ℕ) (s : Slot) → slot_of k.slots b ≡ s → IsGood k m → IsGood k (cond (can_store s at) (with_word m at v) m)
store_at k m b at v Empty there good = good
store_at k m b at v (Keeps r) there good = by (has_address r at) refl
  where
    by : (t : Bool) → has_address r at ≡ t → IsGood k (cond t (with_word m at v) m)
    by false off = good
    by true on = record {
      stands = stands_word (holding k m) r Kept at v good.stands kept_not_free (keeps_all (holding k m) b r good.stands there) (in_run_from r at on);
      shape = shaped_word m at v good.shape;
    }
store_at k m b at v (Lends r) there good = by (has_address r at) refl
  where
    by : (t : Bool) → has_address r at ≡ t → IsGood k (cond t (with_word m at v) m)
    by false off = good
    by true on = record {
      stands = stands_word (holding k m) r Lent at v good.stands lent_not_free (lends_all (holding k m) b r good.stands there) (in_run_from r at on);
      shape = shaped_word m at v good.shape;
    }

pub store_good : (k : Book) (m : Mem) (b at v : ℕ) → IsGood k m → IsGood k (store k m b at v)
store_good k m b at v good = store_at k m b at v (slot_of k.slots b) refl good

pub words_good : (k : Book) (m : Mem) (b at : ℕ) (vs : List ℕ) → IsGood k m → IsGood k (store_words k m b at vs)
unfolding store_words
words_good k m b at [] good = good
words_good k m b at (v ∷ vs) good = words_good k (store k m b at v) b (at + 4) vs (store_good k m b at v good)

pub link_good : (k : Book) (m : Mem) (o : Option Store) → IsGood k m → IsGood k (stored_link k m o)
link_good k m None good = good
link_good k m (Some s) good = store_good k m s.block s.at s.value good

pub links_good : (k : Book) (list : Periodic) (notes : List DescriptorNote) (ts : List Transfer) (m : Mem) → IsGood k m → IsGood k (linked_descriptors k list notes ts m)
unfolding linked_descriptors
links_good k list notes [] m good = good
links_good k list notes (y ∷ ts) m good =
    let v = new_link list (descriptor_member notes y.first) in
    links_good k list notes ts (store k m y.first (32 * y.first) v) (store_good k m y.first (32 * y.first) v good)

-- ---- what a command writes

pub stages_good : (k : Book) (notes : List QtdNote) (dummy : ℕ) (ss : List Stage) (m : Mem) (b : ℕ) → IsGood k m → IsGood k (write_stages k m notes dummy ss b)
stages_good k notes dummy [] m b good = good
stages_good k notes dummy (s ∷ ss) m b good =
    let ws = stage_words notes s b dummy (is_last ss) in
    stages_good k notes dummy ss (store_words k m b (32 * b) ws) (note_at notes b).next (words_good k m b (32 * b) ws good)

bytes_good : (k : Book) (note : QtdNote) (bytes : List ℕ) (n : ℕ) (m : Mem) (i : ℕ) → IsGood k m → IsGood k (write_bytes k m note bytes i n)
bytes_good k note bytes zero m i good = good
bytes_good k note bytes (suc n) m i good =
    bytes_good k note bytes n (store k m (get_or note.buffer (i / 4096) 0) (buffer_address note i) (word_from bytes i)) (i + 4)
    (store_good k m (get_or note.buffer (i / 4096) 0) (buffer_address note i) (word_from bytes i) good)

pub sent_good : (k : Book) (notes : List QtdNote) (ss : List Stage) (m : Mem) (b : ℕ) (bytes : List ℕ) → IsGood k m → IsGood k (send_stages k m notes ss b bytes)
sent_good k notes [] m b bytes good = good
sent_good k notes (s ∷ ss) m b bytes good =
    sent_good k notes ss (write_bytes k m (note_at notes b) (take (sends s) bytes) 0 (pieces (sends s) 4)) (note_at notes b).next (drop (sends s) bytes)
    (bytes_good k (note_at notes b) (take (sends s) bytes) (pieces (sends s) 4) m 0 good)

seeded_good : (k : Book) (runs : List ℕ) (seed total n : ℕ) (m : Mem) (i : ℕ) → IsGood k m → IsGood k (write_seeded k m runs seed total i n)
seeded_good k runs seed total zero m i good = good
seeded_good k runs seed total (suc n) m i good =
    seeded_good k runs seed total n (store k m (get_or runs (i / 4096) 0) (descriptor_address runs i) (seeded_word seed total i)) (i + 4)
    (store_good k m (get_or runs (i / 4096) 0) (descriptor_address runs i) (seeded_word seed total i) good)

written_good : (k : Book) (m : Mem) (x : EpDesc) (note : DescriptorNote) (b seed total : ℕ) → IsGood k m → IsGood k (written_descriptor k m x note b seed total)
written_good k m x note b seed total good = by (is_in x.name.way)
  where
    words : Mem
    words = store_words k m b (32 * b) (descriptor_words x note)

    first : IsGood k words
    first = words_good k m b (32 * b) (descriptor_words x note) good

    by : (t : Bool) → IsGood k (cond t words (write_seeded k words note.buffer seed total 0 (pieces total 4)))
    by true = first
    by false = seeded_good k note.buffer seed total (pieces total 4) words 0 first

pub descriptors_good : (k : Book) (e : ℕ) (x : EpDesc) (s : Slots) (n seed : ℕ) (rs : List ℕ) (a : Descriptors) → IsGood k a.memory → IsGood k (all_descriptors k e x s n seed rs a).memory
unfolding all_descriptors
descriptors_good k e x s zero seed rs a good = good
descriptors_good k e x s (suc n) seed rs a good =
    descriptors_good k e x s n ((seed + total_of s) % 256) (drop (suc (slot_runs s)) rs) (one_descriptor k e x s seed rs a)
    (written_good k a.memory x (descriptor_note s (drop 1 rs)) (get_or rs 0 0) seed (total_of s) good)

-- ---- lending

kept_some : (ss : List Slot) (b : ℕ) (r : Run) → slot_of ss b ≡ Keeps r → 1 ≤ length (kept_in ss)
kept_some [] b r there = absurd (cc)
kept_some (s ∷ ss) zero r there =
    let e = ap (λ (t : Slot). length (kept_of t)) there in
    let n = length-append (kept_of s) (kept_in ss) in omega (arith, e, n)
kept_some (s ∷ ss) (suc b) r there = let n = length-append (kept_of s) (kept_in ss) in let rest = kept_some ss b r there in omega (arith, n, rest)

-- nothing else was taken
record AreGood (h : Holding) : Type 0 where
  good : IsGood h.book h.memory
  none : h.book.taken ≡ []

lent_good : (h : Holding) (b : ℕ) (s : Slot) → slot_of h.book.slots b ≡ s → AreGood h → AreGood (lend_slot h b s)
lent_good h b (Keeps r) there old =
    let stands = old.good.stands in
    let few = ap (λ (ts : List ℕ). length ts) old.none in
    let some = kept_some h.book.slots b r there in
    let at = keeps_at h b r stands there in
    let last = slice_get_within h.memory.states (r.first + r.blocks - 1) Kept (keeps_all h b r stands there (r.first + r.blocks - 1) (omega (arith, at.1)) (omega (arith, at.1))) in
    record {
      good = record {
        stands = stands_lent h b r stands there (omega (arith, few, some));
        shape = shaped_states h.memory r Lent (omega (arith, last, at.1)) old.good.shape;
      };
      none = old.none;
    }
lent_good h b _ there old = old

runs_good : (bs : List ℕ) (h : Holding) → AreGood h → AreGood (lend_runs h bs)
unfolding lend_runs
runs_good [] h old = old
runs_good (b ∷ bs) h old = runs_good bs (lend_slot h b (slot_at h b)) (lent_good h b (slot_at h b) refl old)

pub lend_good : (h : Holding) → IsGood h.book h.memory → IsGood (lend_taken h).book (lend_taken h).memory
lend_good h good =
    let s = good.stands in
    (runs_good (reverse h.book.taken) (none_taken h)
    (record {
      good = record { stands = record { held = s.held; placed = s.placed; clean = s.clean; sizes = s.sizes; few = omega arith }; shape = good.shape };
      none = refl;
    })).good
