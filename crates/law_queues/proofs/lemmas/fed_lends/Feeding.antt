-- Each new qTD is fed.
use Rattle.std.proofs.Common.{◌≡◌, ℕ, zero, suc, ◌+◌, ◌*◌, ◌/◌, ◌%◌, ◌<◌, ◌≤◌, Bool, List, [], ◌∷◌, length, take, get_or, replicate, Some, ap, refl, sym, subst, ◌∙◌, ⊎_elim, inl, inr, arith}
use Rattle.std.specs.List.{AllByRecursion}
use Rattle.std.proofs.lemmas.List.{length-replicate}
use Rattle.law_common.proofs.Numbers.{same_numbers}
use Rattle.mem_bytes.specs.Bytes.{place}
use Rattle.mem_runs.specs.declared.slots.Slot.{Slot}
use Rattle.mem_runs.specs.Book.{Holding, slot_of, Stands}
use Rattle.mem_runs.proofs.Standing.{keeps_at}
use Rattle.drv_table.specs.declared.content.QtdNote.{QtdNote}
use Rattle.drv_table.specs.declared.content.Sort.{Sort}
use Rattle.drv_table.specs.declared.content.Stage.{Stage}
use Rattle.drv_table.specs.Words.{pieces, buffer_needs, alternate_link}
use Rattle.drv_table.specs.Harvests.{note_at, buffer_address}
use Rattle.drv_table.specs.Offers.{is_last}
use Rattle.claims_driver.specs.Owners.{note_in}
use Rattle.law_driver.specs.run_owners.Accepts.{AreShort}
use Rattle.law_structures.specs.lent_structures.Structures.{Element, Buffer, Structures}
use Rattle.law_structures.specs.lent_structures.Sound.{HasBuffer}
use Rattle.law_driver.specs.chained_transfers.Chains.{piece_at}
use Rattle.law_driver_ring.specs.fed_queues.Fed.{IsAlternate, IsNotedQtd, IsPieceFed}
use Rattle.law_driver_ring.specs.Written.{AreRuns, next_blocks, IsStageNoted, AreNoted}
use Rattle.law_driver_ring.specs.Pieces.{stage_qtd, AreStanding, AreBuffered}
use Rattle.law_driver_ring.proofs.Lists.{IsOneOf}
use Rattle.law_driver_ring.proofs.Buffers.{take_same, runs_at, needs_case, pages_from}
use Rattle.law_queues.proofs.lemmas.fed_lends.Stages.{LeadsAs, IsLater}
use Rattle.law_queues.proofs.lemmas.fed_lends.Reporting.{long_new}

-- ---- where its bytes stand

page_at : (buffer : List ℕ) (j : ℕ) → j < 5 → get_or (pages_from buffer) j 0 ≡ get_or buffer j 0 / 128
page_at buffer (suc (suc (suc (suc (suc j))))) below = absurd (omega (arith, below))
page_at buffer _ below = refl

places_short : (h : Holding) (note : QtdNote) (n j : ℕ) → Stands h → AreRuns (slot_of h.book.slots) (pieces n 32 ∷ []) (take note.runs note.buffer) → n ≤ 4096 → j < n → buffer_address note j ≡ place (pages_from note.buffer) (32 * (get_or note.buffer 0 0 % 128) + j)
places_short h note n j stands are few inside =
    let cs = take note.runs note.buffer in
    let slot = slot_of h.book.slots in
    let x = get_or note.buffer 0 0 in
    let k = 32 * (x % 128) + j in
    let at = runs_at slot (pieces n 32 ∷ []) cs 0 are (omega arith) in
    let first = (keeps_at h (get_or cs 0 0) at.run.run stands at.run.is).0 in
    let page = at.run.one_page in
    let b = take_same note.runs note.buffer 0 at.below in
    let zero_page : k / 4096 ≡ 0 = omega (arith, few, inside, first, page, b) in
    let same_page : j / 4096 ≡ 0 = omega (arith, few, inside) in
    ap (λ (i : ℕ). 32 * get_or note.buffer i 0 + j % 4096) same_page
    ∙ (let e : 32 * x + j % 4096 ≡ x / 128 * 4096 + k % 4096 = omega (arith, few, inside, first, page, b) in e)
    ∙ sym (ap (λ (i : ℕ). get_or (pages_from note.buffer) i 0 * 4096 + k % 4096) zero_page)

places_long : (h : Holding) (note : QtdNote) (n j : ℕ) → Stands h → AreRuns (slot_of h.book.slots) (replicate (pieces n 4096) 128) (take note.runs note.buffer) → n ≤ 20480 → j < n → buffer_address note j ≡ place (pages_from note.buffer) (32 * (get_or note.buffer 0 0 % 128) + j)
places_long h note n j stands are few inside =
    let cs = take note.runs note.buffer in
    let slot = slot_of h.book.slots in
    let ns : List ℕ = replicate (pieces n 4096) 128 in
    let x = get_or note.buffer 0 0 in
    let k = 32 * (x % 128) + j in
    let many : length ns ≡ pieces n 4096 = length-replicate (pieces n 4096) 128 in
    let start = runs_at slot ns cs 0 are (omega (arith, many, inside)) in
    let begins = (keeps_at h (get_or cs 0 0) start.run.run stands start.run.is).0 in
    let whole = start.run.one_page in
    let long = same_numbers (pieces n 4096) 0 (omega (arith, inside)) in
    let b = take_same note.runs note.buffer 0 start.below in
    let from_start : k ≡ j = omega (arith, begins, whole, long, b) in
    let i = j / 4096 in
    let at = runs_at slot ns cs i are (omega (arith, many, inside)) in
    let first = (keeps_at h (get_or cs i 0) at.run.run stands at.run.is).0 in
    let page = at.run.one_page in
    let all = same_numbers (pieces n 4096) i (omega (arith, inside)) in
    let c = take_same note.runs note.buffer i at.below in
    let y = get_or note.buffer i 0 in
    (let e : 32 * y + j % 4096 ≡ y / 128 * 4096 + j % 4096 = omega (arith, first, page, all, c) in e)
    ∙ ap (λ (p : ℕ). p * 4096 + j % 4096) (sym (page_at note.buffer i (omega (arith, few, inside))))
    ∙ sym (ap (λ (q : ℕ). get_or (pages_from note.buffer) (q / 4096) 0 * 4096 + q % 4096) from_start)

pub places_new : (h : Holding) (note : QtdNote) (s : Stage) (j : ℕ) → Stands h → IsStageNoted (slot_of h.book.slots) note s → s.long ≤ 20480 → j < s.long → buffer_address note j ≡ place (pages_from note.buffer) (32 * (get_or note.buffer 0 0 % 128) + j)
places_new h note s j stands noted short inside =
    let cs = take note.runs note.buffer in
    let slot = slot_of h.book.slots in
    ⊎_elim (λ (few : (s.long ≤ 4096) × (buffer_needs s.long ≡ pieces s.long 32 ∷ [])).
    places_short h note s.long j stands (subst (λ (ns : List ℕ). AreRuns slot ns cs) few.1 noted.runs) few.0 inside)
    (λ (many : (4096 < s.long) × (buffer_needs s.long ≡ replicate (pieces s.long 4096) 128)).
    places_long h note s.long j stands (subst (λ (ns : List ℕ). AreRuns slot ns cs) many.1 noted.runs) short inside)
    (needs_case s.long (omega (arith, inside)))

-- ---- a chain's end

pub later_block : (notes : List QtdNote) (ss : List Stage) (b i : ℕ) → i < length ss → IsOneOf (piece_at (note_in notes) (note_at notes b).next i) (next_blocks notes ss b)
later_block notes [] b i below = absurd (omega (arith, below))
later_block notes (s ∷ ss) b zero below = inl refl
later_block notes (s ∷ ss) b (suc i) below = inr (later_block notes ss (note_at notes b).next i (omega (arith, below)))

-- ---- one qTD

-- one of no bytes has no buffer
pub noted_blank : (slot : ℕ → Slot) (note : QtdNote) (s : Stage) → IsStageNoted slot note s → s.long ≡ 0 → get_or note.buffer 0 0 ≡ 0
noted_blank slot note s noted none =
    first_none note.runs note.buffer (no_runs (take note.runs note.buffer) (subst (λ (n : ℕ). AreRuns slot (buffer_needs n) (take note.runs note.buffer)) none noted.runs)) noted.rest
  where
    no_runs : (cs : List ℕ) → AreRuns slot [] cs → cs ≡ []
    no_runs [] are = refl
    no_runs (c ∷ cs) are = absurd are

    first_none : (n : ℕ) (bs : List ℕ) → take n bs ≡ [] → ((i : ℕ) → n ≤ i → get_or bs i 0 ≡ 0) → get_or bs 0 0 ≡ 0
    first_none zero bs is rest = rest 0 (omega arith)
    first_none (suc n) [] is rest = refl
    first_none (suc n) (x ∷ xs) is rest = absurd cc

pub stage_noted : (sort : Sort) (notes : List QtdNote) (s : Stage) (b dummy end : ℕ) (last : Bool) → LeadsAs sort s → end ≡ dummy → IsNotedQtd sort (stage_qtd notes s b dummy last) (note_at notes b) end
stage_noted sort notes s b dummy end last leads at = record {
  next = refl;
  alternate = subst (IsAlternate sort (alternate_link s.alternate (note_at notes b).next dummy) (note_at notes b).next) (sym at) (leads (note_at notes b).next dummy);
  offset = refl;
  page0 = refl;
  page1 = refl;
  page2 = refl;
  page3 = refl;
  page4 = refl;
}

abbrev pub NoneAtZero : Structures → Type 0
NoneAtZero part = (pages : List ℕ) (k : ℕ) (bs : List ℕ) → part 0 ≡ Some (Buffer pages k bs) → ⊥

stage_fed : (sort : Sort) (h : Holding) (part : Structures) (notes : List QtdNote) (s : Stage) (b dummy end : ℕ) (last : Bool) → Stands h → IsStageNoted (slot_of h.book.slots) (note_at notes b) s → IsLater sort s → s.long ≤ 20480 → part (32 * b) ≡ Some (Element (stage_qtd notes s b dummy last)) → (0 < s.long → HasBuffer part (stage_qtd notes s b dummy last) s.long) → NoneAtZero part → end ≡ dummy
    → IsPieceFed sort part (note_at notes b) b end
stage_fed sort h part notes s b dummy end last stands noted is short here has none at =
    let slot = slot_of h.book.slots in
    let told : (note_at notes b).told ≡ s.long = noted.told ∙ is.told in
    record {
      qtd = stage_qtd notes s b dummy last;
      here = here;
      noted = stage_noted sort notes s b dummy end last is.leads at;
      buffer = λ some. subst (HasBuffer part (stage_qtd notes s b dummy last)) (sym told) (has (omega (arith, some, told)));
      long = long_new slot part notes s b dummy last noted has none ∙ sym told;
      places = λ j below. places_new h (note_at notes b) s j stands noted short (omega (arith, below, told));
      fresh = λ on. sym told;
      blank = λ none. noted_blank slot (note_at notes b) s noted (sym told ∙ none);
    }

-- ---- all of them

pub new_fed : (sort : Sort) (h : Holding) (part : Structures) (notes : List QtdNote) (dummy : ℕ) (ss : List Stage) (b end i : ℕ) → Stands h → AreNoted (slot_of h.book.slots) notes ss b → AllByRecursion (IsLater sort) ss → AreShort ss → AreStanding part notes dummy ss b → AreBuffered part notes dummy ss b → NoneAtZero part → end ≡ dummy → i < length ss
    → IsPieceFed sort part (note_at notes (piece_at (note_in notes) b i)) (piece_at (note_in notes) b i) end
new_fed sort h part notes dummy [] b end i stands noted by short stand buffered none at below = absurd (omega (arith, below))
new_fed sort h part notes dummy (s ∷ ss) b end zero stands noted by short stand buffered none at below = stage_fed sort h part notes s b dummy end (is_last ss) stands noted.0 by.0 short.0 stand.0 buffered.0 none at
new_fed sort h part notes dummy (s ∷ ss) b end (suc i) stands noted by short stand buffered none at below =
    new_fed sort h part notes dummy ss (note_at notes b).next end i stands noted.1 by.1 short.1 stand.1 buffered.1 none at (omega (arith, below))
