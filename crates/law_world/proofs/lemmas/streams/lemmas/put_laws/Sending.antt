-- The bytes of a put, once its stages are written (EHCI 1.0, 3.5.4 and 4.10).
use Rattle.std.proofs.Common.{◌≡◌, ◌≢◌, ℕ, ◌*◌, ◌<◌, ◌≤◌, Bool, true, false, nat_eq, if◌then◌else◌, List, [], ◌∷◌, ◌++◌, length, take, drop, ap, refl, sym, subst, ◌∙◌, arith}
use Rattle.std.specs.List.{AllByRecursion}
use Rattle.std.proofs.lemmas.Bool.Decides.{nat_tests}
use Rattle.std.proofs.lemmas.List.{take-append-drop, length-take}
use Rattle.law_driver_ring.proofs.Common.{sends_few}
use Rattle.law_common.proofs.Lists.{small_at, small_take, small_drop}
use Rattle.word_mem.specs.Memory.{Mem, word_at}
use Rattle.mem_runs.specs.Book.{Book, Holding, holding, slot_of, Stands}
use Rattle.law_driver.specs.in_place.InPlace.{IsGood}
use Rattle.law_driver.proofs.lemmas.in_place.Good.{sent_good}
use Rattle.drv_table.specs.declared.content.QtdNote.{QtdNote}
use Rattle.drv_table.specs.declared.content.Stage.{Stage}
use Rattle.drv_table.specs.Words.{pieces}
use Rattle.drv_table.specs.Harvests.{note_at, buffer_address, buffer_bytes}
use Rattle.drv_table.specs.Offers.{sends, write_bytes, send_stages}
use Rattle.law_driver.specs.run_owners.Accepts.{AreShort}
use Rattle.law_driver_ring.specs.Written.{AreAllApart, AreNoted, IsStageNoted, buffer_blocks}
use Rattle.law_driver_ring.proofs.Lists.{IsOneOf, one_left, one_right, apart_left, apart_right, apart_halves}
use Rattle.law_world.specs.streams.put_laws.Held.{held_bytes, AreFilled}
use Rattle.law_world.proofs.lemmas.streams.lemmas.put_laws.Words.{written_other, byte_written, bytes_are, bytes_same}
use Rattle.law_world.proofs.lemmas.streams.lemmas.put_laws.Buffers.{StandsIn, stands_in, words_apart, is_buffer}

-- ---- a stage

sends_all : (s : Stage) → s.pid ≢ 1 → sends s ≡ s.long
sends_all s out = by (nat_eq s.pid 1) refl
  where
    by : (b : Bool) → nat_eq s.pid 1 ≡ b → (if b then 0 else s.long) ≡ s.long
    by true is = absurd (out (grind (arith, nat_tests, is)))
    by false is = refl

-- ---- the buffers of other stages

bytes_other : (h : Holding) (note : QtdNote) (s : Stage) (bytes cs : List ℕ) (n other : ℕ) → Stands h → IsStageNoted (slot_of h.book.slots) note s → s.long ≤ 20480 → n ≤ s.long
    → StandsIn (slot_of h.book.slots) cs other → ((c d : ℕ) → IsOneOf c cs → IsOneOf d (take note.runs note.buffer) → c ≢ d)
    → word_at (write_bytes h.book h.memory note bytes 0 (pieces n 4)) other ≡ word_at h.memory other
bytes_other h note s bytes cs n other stands noted short few here differs =
    written_other h.book h.memory note bytes 0 (pieces n 4) other
    (λ u from below same.
    words_apart h cs (take note.runs note.buffer) other (buffer_address note (4 * u)) stands here (stands_in h note s (4 * u) stands noted short (omega (arith, below, few))) differs (sym same))

sends_other : (k : Book) (m : Mem) (notes : List QtdNote) (ss : List Stage) (b : ℕ) (bytes cs : List ℕ) (other : ℕ) → IsGood k m → AreNoted (slot_of k.slots) notes ss b → AreShort ss
    → StandsIn (slot_of k.slots) cs other → ((c d : ℕ) → IsOneOf c cs → IsOneOf d (buffer_blocks notes ss b) → c ≢ d) → word_at (send_stages k m notes ss b bytes) other ≡ word_at m other
sends_other k m notes [] b bytes cs other good noted short here differs = refl
sends_other k m notes (s ∷ ss) b bytes cs other good noted short here differs =
    let note = note_at notes b in
    let first = write_bytes k m note (take (sends s) bytes) 0 (pieces (sends s) 4) in
    sends_other k first notes ss note.next (drop (sends s) bytes) cs other (sent_good k notes (s ∷ []) m b bytes good) noted.1 short.1 here
    (λ c d one two. differs c d one (one_right d (take note.runs note.buffer) (buffer_blocks notes ss note.next) two))
    ∙ bytes_other (holding k m) note s (take (sends s) bytes) cs (sends s) other good.stands noted.0 short.0 (sends_few s) here
    (λ c d one two. differs c d one (one_left d (take note.runs note.buffer) (buffer_blocks notes ss note.next) two))

-- ---- all stages

pub sent_held : (k : Book) (m : Mem) (notes : List QtdNote) (ss : List Stage) (b : ℕ) (bytes : List ℕ) → IsGood k m → AreNoted (slot_of k.slots) notes ss b → AreAllApart (buffer_blocks notes ss b)
    → AreShort ss → AreFilled ss bytes → AllByRecursion (λ x. x < 256) bytes → held_bytes (send_stages k m notes ss b bytes) notes b (length ss) ≡ bytes
unfolding held_bytes
sent_held k m notes [] b bytes good noted apart short filled small = sym filled
sent_held k m notes (s ∷ ss) b bytes good noted apart short filled small =
    let note = note_at notes b in
    let cs = take note.runs note.buffer in
    let n = s.long in
    let sent : sends s ≡ n = sends_all s filled.0 in
    let first = write_bytes k m note (take n bytes) 0 (pieces n 4) in
    let first_is : write_bytes k m note (take (sends s) bytes) 0 (pieces (sends s) 4) ≡ first = ap (λ (i : ℕ). write_bytes k m note (take i bytes) 0 (pieces i 4)) sent in
    let first_good : IsGood k first = subst (IsGood k) first_is (sent_good k notes (s ∷ []) m b bytes good) in
    let after = send_stages k first notes ss note.next (drop n bytes) in
    let after_is : send_stages k m notes (s ∷ ss) b bytes ≡ after =
    ap (λ (i : ℕ). send_stages k (write_bytes k m note (take i bytes) 0 (pieces i 4)) notes ss note.next (drop i bytes)) sent in
    let told : note.told ≡ n = noted.0.told ∙ filled.1 in
    let long : length (take n bytes) ≡ n = let l = length-take n bytes in let f = filled.2 in omega (arith, l, f) in
    let here : buffer_bytes first note n ≡ take n bytes =
    bytes_are first note (take n bytes) n long
    (λ j below.
    byte_written k m note (take n bytes) (length m.words) (pieces n 4) j (is_buffer (holding k m) note s good.stands good.shape noted.0 short.0 (apart_left cs (buffer_blocks notes ss note.next) apart)) refl
    (λ i. small_at (take n bytes) i (small_take bytes n small)) (omega (arith, below))) in
    let still : buffer_bytes after note n ≡ buffer_bytes first note n =
    bytes_same first after note n
    (λ j below.
    sends_other k first notes ss note.next (drop n bytes) cs (buffer_address note j) first_good noted.1 short.1 (stands_in (holding k m) note s j good.stands noted.0 short.0 below)
    (λ c d one two. apart_halves cs (buffer_blocks notes ss note.next) c d apart one two)) in
    let rest = sent_held k first notes ss note.next (drop n bytes) first_good noted.1 (apart_right cs (buffer_blocks notes ss note.next) apart) short.1 filled.3 (small_drop bytes n small) in
    ap (λ (q : Mem). buffer_bytes q note note.told ++ held_bytes q notes note.next (length ss)) after_is
    ∙ ap (λ (i : ℕ). buffer_bytes after note i ++ held_bytes after notes note.next (length ss)) told
    ∙ ap (λ (xs : List ℕ). xs ++ held_bytes after notes note.next (length ss)) (still ∙ here)
    ∙ ap (λ (xs : List ℕ). take n bytes ++ xs) rest
    ∙ take-append-drop n bytes
