-- The qTDs of a new transfer, and the runs in which its bytes have room, are none of the blocks that stood before.
use Rattle.std.proofs.Common.{◌≡◌, ◌≢◌, ℕ, zero, suc, ◌+◌, ◌*◌, ◌/◌, ◌<◌, ◌≤◌, List, [], ◌∷◌, ◌++◌, length, take, drop, replicate, get_or, set, sym, subst, ◌∙◌, refl, arith, length-append, length-drop, length-take}
use Rattle.std.proofs.lemmas.List.{get_or-set_same, get_or-take, get_or-drop, get_or_append_left, length-set}
use Rattle.law_common.proofs.Lists.{shift}
use Rattle.law_common.proofs.Numbers.{other_than}
use Rattle.law_driver_ring.proofs.Common.{sends_room}
use Rattle.word_mem.specs.Memory.{Mem, word_at}
use Rattle.mem_runs.specs.Book.{Book, slot_of, store}
use Rattle.drv_periodic_table.specs.Descriptors.{buffer_address as descriptor_address, seeded_word, write_seeded}
use Rattle.drv_table.specs.declared.content.QtdNote.{QtdNote}
use Rattle.drv_table.specs.declared.content.Stage.{Stage}
use Rattle.drv_table.specs.DriverContent.{no_note}
use Rattle.drv_table.specs.Words.{pieces, buffer_needs}
use Rattle.drv_table.specs.Harvests.{note_at, buffer_address}
use Rattle.drv_table.specs.Offers.{runs_of, note_for, note_stages, word_from, write_bytes, sends, send_stages}
use Rattle.claims_driver.specs.Owners.{SlotHas}
use Rattle.law_driver.specs.run_owners.Accepts.{AreShort}
use Rattle.law_driver.proofs.lemmas.run_owners.Chains.{notes_apart, few_runs, buffers_of}
use Rattle.law_driver.proofs.lemmas.ring_members.Stores.{AreNotAt, AreApart, store_elsewhere}

-- the runs in which the bytes of these qTDs have room don't begin in block c
abbrev pub AreRunsNotAt : List QtdNote → ℕ → ℕ → List Stage → Type 0
AreRunsNotAt notes c b [] = Unit {0}
AreRunsNotAt notes c b (s ∷ ss) = ((j : ℕ) → j < runs_of s → c ≢ get_or (note_at notes b).buffer j 0) × AreRunsNotAt notes c (note_at notes b).next ss

-- ---- how many runs a buffer has

-- the first entries of a list that is filled up
pub filled : (k r : ℕ) (xs : List ℕ) (j : ℕ) → j < r → r ≤ k → r ≤ length xs → get_or (take k (take r xs ++ replicate k 0)) j 0 ≡ get_or xs j 0
filled k r xs j below few many =
    let long : length (take r xs) ≡ r = let l = length-take r xs in omega (arith, l, many) in
    get_or-take k (take r xs ++ replicate k 0) j 0 (omega (arith, below, few)) ∙ get_or_append_left (take r xs) (replicate k 0) 0 j (omega (arith, below, long)) ∙ get_or-take r xs j 0 below

-- ---- the notes

pub are_noted : (c : ℕ) (notes : List QtdNote) (ss : List Stage) (b : ℕ) (qtds runs : List ℕ) → AreShort ss → length (buffers_of ss) ≤ length runs
    → ((i : ℕ) → i < length ss → get_or (b ∷ qtds) i 0 ≢ c) → ((i : ℕ) → i < length ss → get_or (b ∷ qtds) i 0 < length notes)
    → ((i j : ℕ) → i < j → j < length ss → get_or (b ∷ qtds) j 0 ≢ get_or (b ∷ qtds) i 0) → ((i : ℕ) → i < length runs → c ≢ get_or runs i 0)
    → AreNotAt (note_stages notes ss b qtds runs) c b (length ss) × AreRunsNotAt (note_stages notes ss b qtds runs) c b ss
are_noted c notes [] b qtds runs short enough apart within distinct all = (tt, tt)
are_noted c notes (s ∷ ss) b qtds runs short enough apart within distinct all =
    let q = get_or qtds 0 0 in
    let r = runs_of s in
    let one = set notes b (note_for s q runs) in
    let rest = note_stages one ss q (drop 1 qtds) (drop r runs) in
    let long : length (buffers_of (s ∷ ss)) ≡ r + length (buffers_of ss) = length-append (buffer_needs s.long) (buffers_of ss) in
    let left = length-drop r runs in
    let few : r ≤ 5 = few_runs 5 s.long (omega (arith, short.0)) (omega arith) in
    let here : note_at rest b ≡ note_for s q runs =
    notes_apart one ss q (drop 1 qtds) (drop r runs) b (λ i below same. distinct 0 (suc i) (omega arith) (omega arith) (sym (shift b qtds i) ∙ same))
    ∙ get_or-set_same notes b (note_for s q runs) no_note (within 0 (omega arith)) in
    let more = are_noted c one ss q (drop 1 qtds) (drop r runs) short.1 (omega (arith, enough, long, left))
    (λ i below same. apart (suc i) (omega arith) (sym (shift b qtds i) ∙ same))
    (λ i below. let n = length-set notes b (note_for s q runs) in let w = within (suc i) (omega arith) in let e = shift b qtds i in omega (arith, n, w, e))
    (λ i j less below same. distinct (suc i) (suc j) (omega arith) (omega arith) (sym (shift b qtds j) ∙ same ∙ shift b qtds i))
    (λ i below. other_than c (get_or (drop r runs) i 0) (get_or runs (r + i) 0) (get_or-drop r runs i 0) (all (r + i) (omega (arith, below, left)))) in (
      (λ same. apart 0 (omega arith) (sym same), subst (λ (n : QtdNote). AreNotAt rest c n.next (length ss)) (sym here) more.0),
      (
        subst (λ (n : QtdNote). (j : ℕ) → j < r → c ≢ get_or n.buffer j 0) (sym here)
            (λ j below. other_than c (get_or (note_for s q runs).buffer j 0) (get_or runs j 0) (filled 5 r runs j below few (omega (arith, enough, long))) (all j (omega (arith, below, enough, long)))),
        subst (λ (n : QtdNote). AreRunsNotAt rest c n.next ss) (sym here) more.1,
      ),
    )

-- ---- the bytes that are sent

bytes_apart : (k : Book) (m : Mem) (note : QtdNote) (bytes : List ℕ) (i n r c other : ℕ) → AreApart k.slots → SlotHas (slot_of k.slots c) (other / 32) → ((j : ℕ) → j < r → c ≢ get_or note.buffer j 0) → i + 4 * n ≤ 4096 * r + 3
    → word_at (write_bytes k m note bytes i n) other ≡ word_at m other
bytes_apart k m note bytes i zero r c other apart here not room = refl
bytes_apart k m note bytes i (suc n) r c other apart here not room =
    bytes_apart k (store k m (get_or note.buffer (i / 4096) 0) (buffer_address note i) (word_from bytes i)) note bytes (i + 4) n r c other apart here not (omega (arith, room))
    ∙ store_elsewhere k m (get_or note.buffer (i / 4096) 0) c (buffer_address note i) (word_from bytes i) other apart (not (i / 4096) (omega (arith, room))) here

pub sends_apart : (k : Book) (m : Mem) (notes : List QtdNote) (ss : List Stage) (b : ℕ) (bytes : List ℕ) (c other : ℕ) → AreApart k.slots → SlotHas (slot_of k.slots c) (other / 32) → AreRunsNotAt notes c b ss
    → word_at (send_stages k m notes ss b bytes) other ≡ word_at m other
sends_apart k m notes [] b bytes c other apart here not = refl
sends_apart k m notes (s ∷ ss) b bytes c other apart here not =
    sends_apart k (write_bytes k m (note_at notes b) (take (sends s) bytes) 0 (pieces (sends s) 4)) notes ss (note_at notes b).next (drop (sends s) bytes) c other apart here not.1
    ∙ bytes_apart k m (note_at notes b) (take (sends s) bytes) 0 (pieces (sends s) 4) (runs_of s) c other apart here not.0 (sends_room s)

-- those of an isochronous descriptor
pub seeded_apart : (k : Book) (m : Mem) (runs : List ℕ) (seed total i n r c other : ℕ) → AreApart k.slots → SlotHas (slot_of k.slots c) (other / 32) → ((j : ℕ) → j < r → c ≢ get_or runs j 0) → i + 4 * n ≤ 4096 * r + 3
    → word_at (write_seeded k m runs seed total i n) other ≡ word_at m other
seeded_apart k m runs seed total i zero r c other apart here not room = refl
seeded_apart k m runs seed total i (suc n) r c other apart here not room =
    seeded_apart k (store k m (get_or runs (i / 4096) 0) (descriptor_address runs i) (seeded_word seed total i)) runs seed total (i + 4) n r c other apart here not (omega (arith, room))
    ∙ store_elsewhere k m (get_or runs (i / 4096) 0) c (descriptor_address runs i) (seeded_word seed total i) other apart (not (i / 4096) (omega (arith, room))) here
