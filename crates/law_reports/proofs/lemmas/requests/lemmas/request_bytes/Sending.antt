-- What each stage of a transfer sends, once its stages are written, stands in the stage's buffer (EHCI 1.0, 3.5.4 and 4.10).
use Rattle.std.proofs.Common.{◌≡◌, ◌≢◌, ℕ, ◌*◌, ◌<◌, ◌≤◌, List, [], ◌∷◌, length, take, drop, refl, sym, ◌∙◌, arith}
use Rattle.std.specs.List.{AllByRecursion}
use Rattle.std.proofs.lemmas.List.{length-take}
use Rattle.law_driver_ring.proofs.Common.{sends_few}
use Rattle.law_common.proofs.Lists.{small_at, small_take, small_drop}
use Rattle.word_mem.specs.Memory.{Mem, word_at}
use Rattle.mem_runs.specs.Book.{Book, Holding, holding, slot_of, Stands}
use Rattle.law_driver.specs.in_place.InPlace.{IsGood}
use Rattle.law_driver.proofs.lemmas.in_place.Good.{sent_good}
use Rattle.drv_table.specs.declared.content.QtdNote.{QtdNote}
use Rattle.drv_table.specs.declared.content.Stage.{Stage}
use Rattle.drv_table.specs.Words.{pieces}
use Rattle.drv_table.specs.Harvests.{note_at, buffer_address, buffer_bytes}
use Rattle.drv_table.specs.Offers.{sends, write_bytes, send_stages}
use Rattle.law_driver.specs.run_owners.Accepts.{AreShort}
use Rattle.law_driver_ring.specs.Written.{AreAllApart, AreNoted, IsStageNoted, buffer_blocks}
use Rattle.law_driver_ring.proofs.Lists.{IsOneOf, one_left, one_right, apart_left, apart_right, apart_halves}
use Rattle.law_world.proofs.lemmas.streams.lemmas.put_laws.Words.{IsBuffer, written_other, byte_written, bytes_are, bytes_same}
use Rattle.law_world.proofs.lemmas.streams.lemmas.put_laws.Buffers.{StandsIn, stands_in, words_apart, is_buffer}

-- ---- what is to be shown

-- there are bytes for each stage
abbrev pub AreGiven : List Stage → List ℕ → Type 0
AreGiven [] bytes = Unit {0}
AreGiven (s ∷ ss) bytes = (sends s ≤ length bytes) × AreGiven ss (drop (sends s) bytes)

abbrev pub AreSentFrom : Mem → List QtdNote → List Stage → ℕ → List ℕ → Type 0
AreSentFrom m notes [] b bytes = Unit {0}
AreSentFrom m notes (s ∷ ss) b bytes = (buffer_bytes m (note_at notes b) (sends s) ≡ take (sends s) bytes) × AreSentFrom m notes ss (note_at notes b).next (drop (sends s) bytes)

-- ---- a stage

fewer_words : (k : Book) (size : ℕ) (note : QtdNote) (n few : ℕ) → few ≤ n → IsBuffer k size note n → IsBuffer k size note few
fewer_words k size note n few less is = record {
  can = λ u below. is.can u (omega (arith, below, less));
  inside = λ u below. is.inside u (omega (arith, below, less));
  apart = λ u v one two same. is.apart u v (omega (arith, one, less)) (omega (arith, two, less)) same;
}

-- ---- the buffers of other stages

bytes_other : (h : Holding) (note : QtdNote) (s : Stage) (bytes cs : List ℕ) (n other : ℕ) → Stands h → IsStageNoted (slot_of h.book.slots) note s → s.long ≤ 20480 → n ≤ s.long
    → StandsIn (slot_of h.book.slots) cs other → ((c d : ℕ) → IsOneOf c cs → IsOneOf d (take note.runs note.buffer) → c ≢ d)
    → word_at (write_bytes h.book h.memory note bytes 0 (pieces n 4)) other ≡ word_at h.memory other
bytes_other h note s bytes cs n other stands noted short few here differs =
    written_other h.book h.memory note bytes 0 (pieces n 4) other
    (λ u from below same.
    words_apart h cs (take note.runs note.buffer) other (buffer_address note (4 * u)) stands here (stands_in h note s (4 * u) stands noted short (omega (arith, below, few))) differs (sym same))

sends_other : (k : Book) (m : Mem) (notes : List QtdNote) (ss : List Stage) (b : ℕ) (bytes cs : List ℕ) (other : ℕ) → IsGood k m → AreNoted (slot_of k.slots) notes ss b → AreShort ss
    → StandsIn (slot_of k.slots) cs other → ((c d : ℕ) → IsOneOf c cs → IsOneOf d (buffer_blocks notes ss b) → c ≢ d) → word_at (send_stages k m notes ss b bytes) other ≡ word_at m other
sends_other k m notes [] b bytes cs other good noted short here differs = refl
sends_other k m notes (s ∷ ss) b bytes cs other good noted short here differs =
    let note = note_at notes b in
    let first = write_bytes k m note (take (sends s) bytes) 0 (pieces (sends s) 4) in
    sends_other k first notes ss note.next (drop (sends s) bytes) cs other (sent_good k notes (s ∷ []) m b bytes good) noted.1 short.1 here
    (λ c d one two. differs c d one (one_right d (take note.runs note.buffer) (buffer_blocks notes ss note.next) two))
    ∙ bytes_other (holding k m) note s (take (sends s) bytes) cs (sends s) other good.stands noted.0 short.0 (sends_few s) here
    (λ c d one two. differs c d one (one_left d (take note.runs note.buffer) (buffer_blocks notes ss note.next) two))

-- ---- all stages

pub sent_held : (k : Book) (m : Mem) (notes : List QtdNote) (ss : List Stage) (b : ℕ) (bytes : List ℕ) → IsGood k m → AreNoted (slot_of k.slots) notes ss b → AreAllApart (buffer_blocks notes ss b)
    → AreShort ss → AreGiven ss bytes → AllByRecursion (λ x. x < 256) bytes → AreSentFrom (send_stages k m notes ss b bytes) notes ss b bytes
sent_held k m notes [] b bytes good noted apart short given small = tt
sent_held k m notes (s ∷ ss) b bytes good noted apart short given small =
    let note = note_at notes b in
    let cs = take note.runs note.buffer in
    let n = sends s in
    let few = sends_few s in
    let first = write_bytes k m note (take n bytes) 0 (pieces n 4) in
    let first_good : IsGood k first = sent_good k notes (s ∷ []) m b bytes good in
    let after = send_stages k first notes ss note.next (drop n bytes) in
    let long : length (take n bytes) ≡ n = let l = length-take n bytes in let f = given.0 in omega (arith, l, f) in
    let buffer : IsBuffer k (length m.words) note (pieces s.long 4) =
    is_buffer (holding k m) note s good.stands good.shape noted.0 short.0 (apart_left cs (buffer_blocks notes ss note.next) apart) in
    let here : buffer_bytes first note n ≡ take n bytes =
    bytes_are first note (take n bytes) n long
    (λ j below.
    byte_written k m note (take n bytes) (length m.words) (pieces n 4) j (fewer_words k (length m.words) note (pieces s.long 4) (pieces n 4) (omega (arith, few)) buffer) refl
    (λ i. small_at (take n bytes) i (small_take bytes n small)) (omega (arith, below))) in
    let still : buffer_bytes after note n ≡ buffer_bytes first note n =
    bytes_same first after note n
    (λ j below.
    sends_other k first notes ss note.next (drop n bytes) cs (buffer_address note j) first_good noted.1 short.1 (stands_in (holding k m) note s j good.stands noted.0 short.0 (omega (arith, below, few)))
    (λ c d one two. apart_halves cs (buffer_blocks notes ss note.next) c d apart one two)) in (
      still ∙ here,
      sent_held k first notes ss note.next (drop n bytes) first_good noted.1 (apart_right cs (buffer_blocks notes ss note.next) apart) short.1 given.1 (small_drop bytes n small),
    )
