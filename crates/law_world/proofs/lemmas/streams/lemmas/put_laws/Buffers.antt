-- The buffers that the driver takes for a qTD (EHCI 1.0, 3.5.4): each word of theirs is its own, and no other qTD's.
use Rattle.std.proofs.Common.{◌≡◌, ◌≢◌, ℕ, zero, suc, ◌+◌, ◌*◌, ◌/◌, ◌%◌, ◌<◌, ◌≤◌, true, List, [], ◌∷◌, length, take, replicate, get_or, ap, refl, sym, subst, ◌∙◌, ⊎_elim, arith}
use Rattle.std.proofs.lemmas.Bool.Decides.{nat_tests}
use Rattle.law_common.proofs.Numbers.{same_numbers}
use Rattle.word_mem.specs.Runs.{Run, IsInRun}
use Rattle.word_mem.specs.Memory.{IsShaped}
use Rattle.word_mem.specs.declared.blocks.BlockState.TheVariants.{Kept}
use Rattle.word_mem.proofs.Frames.{run_within}
use Rattle.word_mem.proofs.Holders.{has_block_from}
use Rattle.mem_runs.specs.declared.slots.Slot.{Slot}
use Rattle.mem_runs.specs.declared.slots.Slot.TheVariants.{Keeps}
use Rattle.mem_runs.specs.Book.{Holding, Stands, slot_of, can_store, has_address}
use Rattle.claims_driver.specs.Owners.{SlotHas}
use Rattle.mem_runs.proofs.Standing.{keeps_at, keeps_all}
use Rattle.law_driver.proofs.lemmas.run_owners.Apart.{runs_apart}
use Rattle.drv_table.specs.declared.content.QtdNote.{QtdNote}
use Rattle.drv_table.specs.declared.content.Stage.{Stage}
use Rattle.drv_table.specs.Words.{pieces, buffer_needs}
use Rattle.drv_table.specs.Harvests.{buffer_address}
use Rattle.law_driver_ring.specs.Written.{AreRuns, AreAllApart, IsStageNoted}
use Rattle.law_driver_ring.proofs.Lists.{IsOneOf, at_one}
use Rattle.law_driver_ring.proofs.Buffers.{take_same, runs_at, needs_case, pages_from, lies_in, bytes_apart}
use Rattle.law_queues.proofs.lemmas.fed_lends.Feeding.{places_new}
use Rattle.law_world.proofs.lemmas.streams.lemmas.put_laws.Words.{IsBuffer}

-- ---- the page of a byte

many_runs : (p : ℕ) → length (replicate {A = ℕ} p 128) ≡ p
many_runs zero = refl
many_runs (suc p) = ap suc (many_runs p)

-- counted from the start of the first page, a byte has the number of its run
same_page : (h : Holding) (note : QtdNote) (s : Stage) (j : ℕ) → Stands h → IsStageNoted (slot_of h.book.slots) note s → j < s.long
    → (32 * (get_or note.buffer 0 0 % 128) + j) / 4096 ≡ j / 4096
same_page h note s j stands noted inside =
    let cs = take note.runs note.buffer in
    let slot = slot_of h.book.slots in
    ⊎_elim
    (λ (few : (s.long ≤ 4096) × (buffer_needs s.long ≡ pieces s.long 32 ∷ [])).
    let at = runs_at slot (pieces s.long 32 ∷ []) cs 0 (subst (λ (ns : List ℕ). AreRuns slot ns cs) few.1 noted.runs) (omega arith) in
    let first = (keeps_at h (get_or cs 0 0) at.run.run stands at.run.is).0 in
    let blocks = at.run.blocks in
    let page = at.run.one_page in
    let b = take_same note.runs note.buffer 0 at.below in
    let short = few.0 in
    omega (arith, short, inside, first, blocks, page, b))
    (λ (many : (4096 < s.long) × (buffer_needs s.long ≡ replicate (pieces s.long 4096) 128)).
    let ns : List ℕ = replicate (pieces s.long 4096) 128 in
    let number = many_runs (pieces s.long 4096) in
    let at = runs_at slot ns cs 0 (subst (λ (ms : List ℕ). AreRuns slot ms cs) many.1 noted.runs) (omega (arith, number, inside)) in
    let first = (keeps_at h (get_or cs 0 0) at.run.run stands at.run.is).0 in
    let blocks = at.run.blocks in
    let page = at.run.one_page in
    let whole = same_numbers (pieces s.long 4096) 0 (omega (arith, inside)) in
    let b = take_same note.runs note.buffer 0 at.below in
    let from_start : 32 * (get_or note.buffer 0 0 % 128) + j ≡ j = omega (arith, first, blocks, page, whole, b) in
    ap (λ (i : ℕ). i / 4096) from_start)
    (needs_case s.long (omega (arith, inside)))

-- ---- where a byte stands

-- the byte address a lies in a kept run that begins in one of these blocks
pub record StandsIn (slot : ℕ → Slot) (cs : List ℕ) (a : ℕ) : Type 0 where
  pub block : ℕ
  pub one : IsOneOf block cs
  pub run : Run
  pub is : slot block ≡ Keeps run
  pub inside : IsInRun run a

pub stands_in : (h : Holding) (note : QtdNote) (s : Stage) (j : ℕ) → Stands h → IsStageNoted (slot_of h.book.slots) note s → s.long ≤ 20480 → j < s.long
    → StandsIn (slot_of h.book.slots) (take note.runs note.buffer) (buffer_address note j)
stands_in h note s j stands noted short inside =
    let l = lies_in h note s j stands noted short inside in
    let cs = take note.runs note.buffer in
    let k = 32 * (get_or note.buffer 0 0 % 128) + j in
    record { block = get_or cs (k / 4096) 0; one = at_one cs (k / 4096) l.below; run = l.run; is = l.is; inside = subst (IsInRun l.run) (sym (places_new h note s j stands noted short inside)) l.inside }

slot_has : (slot : ℕ → Slot) (cs : List ℕ) (a x : ℕ) → x ≡ a / 32 → (k : StandsIn slot cs a) → SlotHas (slot k.block) x
slot_has slot cs a x at k =
    let from = k.inside.from in
    let below = k.inside.below in
    subst (λ (s : Slot). SlotHas s x) (sym k.is) (has_block_from k.run x (omega (arith, at, from)) (omega (arith, at, below)))

-- bytes in runs of other blocks have other words
pub words_apart : (h : Holding) (cs ds : List ℕ) (a b : ℕ) → Stands h → StandsIn (slot_of h.book.slots) cs a → StandsIn (slot_of h.book.slots) ds b
    → ((c d : ℕ) → IsOneOf c cs → IsOneOf d ds → c ≢ d) → a / 4 ≢ b / 4
words_apart h cs ds a b stands one two differs same =
    runs_apart h two.block one.block (a / 32) stands (differs one.block two.block one.one two.one)
    (slot_has (slot_of h.book.slots) ds b (a / 32) (let e : a / 32 ≡ b / 32 = omega (arith, same) in e) two)
    (slot_has (slot_of h.book.slots) cs a (a / 32) refl one)

-- ---- the words of one buffer

address_has : (r : Run) (a : ℕ) → IsInRun r a → has_address r a ≡ true
address_has r a inside = let from = inside.from in let below = inside.below in grind (arith, nat_tests, from, below)

word_inside : (h : Holding) (cs : List ℕ) (a : ℕ) → Stands h → IsShaped h.memory → StandsIn (slot_of h.book.slots) cs a → a / 4 < length h.memory.words
word_inside h cs a stands shape k =
    let at = keeps_at h k.block k.run stands k.is in
    let some = at.1 in
    let within = run_within h.memory Kept k.run (keeps_all h k.block k.run stands k.is) at.1 in
    let each = shape.eight_each in
    let below = k.inside.below in
    omega (arith, some, within, each, below)

pub is_buffer : (h : Holding) (note : QtdNote) (s : Stage) → Stands h → IsShaped h.memory → IsStageNoted (slot_of h.book.slots) note s → s.long ≤ 20480 → AreAllApart (take note.runs note.buffer)
    → IsBuffer h.book (length h.memory.words) note (pieces s.long 4)
is_buffer h note s stands shape noted short apart =
    let cs = take note.runs note.buffer in
    let slot = slot_of h.book.slots in
    record {
      can = λ u below.
          let inside : 4 * u < s.long = omega (arith, below) in
          let k = 32 * (get_or note.buffer 0 0 % 128) + 4 * u in
          let l = lies_in h note s (4 * u) stands noted short inside in
          let at : get_or cs (k / 4096) 0 ≡ get_or note.buffer (4 * u / 4096) 0 =
          take_same note.runs note.buffer (k / 4096) l.below ∙ ap (λ (i : ℕ). get_or note.buffer i 0) (same_page h note s (4 * u) stands noted inside) in
          ap (λ (c : ℕ). can_store (slot c) (buffer_address note (4 * u))) (sym at) ∙ ap (λ (t : Slot). can_store t (buffer_address note (4 * u))) l.is
          ∙ address_has l.run (buffer_address note (4 * u)) (subst (IsInRun l.run) (sym (places_new h note s (4 * u) stands noted short inside)) l.inside);
      inside = λ u below. word_inside h cs (buffer_address note (4 * u)) stands shape (stands_in h note s (4 * u) stands noted short (omega (arith, below)));
      apart = λ u v one two same.
          let inside : 4 * u < s.long = omega (arith, one) in
          let also : 4 * v < s.long = omega (arith, two) in
          let off = 32 * (get_or note.buffer 0 0 % 128) in
          let place_u = places_new h note s (4 * u) stands noted short inside in
          let place_v = places_new h note s (4 * v) stands noted short also in
          let alike : buffer_address note (4 * u) ≡ buffer_address note (4 * v) = omega (arith, same) in
          let k = bytes_apart h cs (pages_from note.buffer) (off + 4 * u) (off + 4 * v) stands apart (lies_in h note s (4 * u) stands noted short inside)
          (lies_in h note s (4 * v) stands noted short also) (sym place_u ∙ alike ∙ place_v) in
          omega (arith, k);
    }
