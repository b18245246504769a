-- The structures of a transfer's qTDs and buffers, as lots.
use Rattle.std.proofs.Common.{◌≡◌, ℕ, zero, suc, ◌+◌, ◌*◌, ◌%◌, ◌<◌, ◌≤◌, List, [], ◌∷◌, ◌++◌, take, get_or, ap, refl, sym, subst, ◌∙◌, inl, inr, arith}
use Rattle.std.specs.List.{AllByRecursion}
use Rattle.std.proofs.lemmas.Grind.{flat_map-append}
use Rattle.std.proofs.lemmas.List.{map-append}
use Rattle.std.proofs.lemmas.List.Concat.{flat_map-cons}
use Rattle.word_mem.specs.Memory.{Mem, IsShaped}
use Rattle.word_mem.specs.Views.{words_in}
use Rattle.mem_bytes.specs.Bytes.{place, bytes_at}
use Rattle.mem_bytes.proofs.Loads.{length-bytes_at}
use Rattle.qh_qtd.specs.declared.qtd.Qtd.{Qtd}
use Rattle.qh_qtd.specs.Qtd.{qtd_words, IsQtdInRange}
use Rattle.mem_runs.specs.declared.slots.Slot.{Slot}
use Rattle.mem_runs.specs.Book.{Holding, slot_of, Stands}
use Rattle.drv_table.specs.declared.content.QtdNote.{QtdNote}
use Rattle.drv_table.specs.declared.content.Stage.{Stage}
use Rattle.drv_table.specs.Words.{buffer_needs, dummy_qtd}
use Rattle.drv_table.specs.Harvests.{note_at}
use Rattle.drv_table.specs.Offers.{is_last}
use Rattle.law_driver.specs.run_owners.Accepts.{AreShort}
use Rattle.law_driver_ring.proofs.LendOpening.{dummy_range}
use Rattle.law_structures.specs.lent_structures.Structures.{Element}
use Rattle.law_structures.specs.lent_structures.Sound.{element_pages}
use Rattle.law_ring.specs.Together.{Item}
use Rattle.law_driver_ring.specs.Written.{IsPageRun, AreRuns, AreAllApart, next_blocks, buffer_blocks, IsStageNoted, AreNoted, AreWritten}
use Rattle.law_driver_ring.specs.Pieces.{stage_qtd, buffer_item, with_buffer, qtd_items, buffer_items, lent_items}
use Rattle.law_driver_ring.proofs.Lists.{IsOneOf, one_left, one_right, at_one, apart_left, apart_right}
use Rattle.law_driver_ring.proofs.Buffers.{take_same, first_run, name_at, pages_from, LiesIn, lies_in}
use Rattle.law_driver_ring.proofs.Holding.{LendsRuns, qtd_holds, qtd_kept, qtd_range, blocks_low, buffer_at, buffer_kept}
use Rattle.law_driver_ring.proofs.Lots.{Lot, items, all_runs, IsLot}

-- ---- lots

abbrev pub qtd_lot : ℕ → Qtd → Lot
qtd_lot b t = record { item = record { name = 32 * b; structure = Element t }; runs = b ∷ [] }

abbrev pub qtd_lots : List QtdNote → ℕ → List Stage → ℕ → List Lot
qtd_lots notes dummy [] b = qtd_lot b dummy_qtd ∷ []
qtd_lots notes dummy (s ∷ ss) b = qtd_lot b (stage_qtd notes s b dummy (is_last ss)) ∷ qtd_lots notes dummy ss (note_at notes b).next

abbrev pub with_lot : Mem → Qtd → ℕ → List ℕ → List Lot → List Lot
with_lot m t zero cs ls = ls
with_lot m t (suc n) cs ls = record { item = buffer_item m t (suc n); runs = cs } ∷ ls

abbrev pub buffer_lots : Mem → List QtdNote → ℕ → List Stage → ℕ → List Lot
buffer_lots m notes dummy [] b = []
buffer_lots m notes dummy (s ∷ ss) b =
    with_lot m (stage_qtd notes s b dummy (is_last ss)) s.long (take (note_at notes b).runs (note_at notes b).buffer) (buffer_lots m notes dummy ss (note_at notes b).next)

abbrev pub lent_lots : Mem → List QtdNote → ℕ → Stage → List Stage → ℕ → List Lot
lent_lots m notes dummy s ss b = qtd_lots notes dummy ss (note_at notes b).next ++ buffer_lots m notes dummy (s ∷ ss) b

-- ---- their structures

qtd_items_are : (notes : List QtdNote) (dummy : ℕ) (ss : List Stage) (b : ℕ) → items (qtd_lots notes dummy ss b) ≡ qtd_items notes dummy ss b
qtd_items_are notes dummy [] b = refl
qtd_items_are notes dummy (s ∷ ss) b =
    ap (λ (is : List Item). record { name = 32 * b; structure = Element (stage_qtd notes s b dummy (is_last ss)) } ∷ is) (qtd_items_are notes dummy ss (note_at notes b).next)

with_items_are : (m : Mem) (t : Qtd) (n : ℕ) (cs : List ℕ) (ls : List Lot) (is : List Item) → items ls ≡ is → items (with_lot m t n cs ls) ≡ with_buffer m t n is
with_items_are m t zero cs ls is same = same
with_items_are m t (suc n) cs ls is same = ap (λ (js : List Item). buffer_item m t (suc n) ∷ js) same

buffer_items_are : (m : Mem) (notes : List QtdNote) (dummy : ℕ) (ss : List Stage) (b : ℕ) → items (buffer_lots m notes dummy ss b) ≡ buffer_items m notes dummy ss b
buffer_items_are m notes dummy [] b = refl
buffer_items_are m notes dummy (s ∷ ss) b =
    let note = note_at notes b in
    with_items_are m (stage_qtd notes s b dummy (is_last ss)) s.long (take note.runs note.buffer) (buffer_lots m notes dummy ss note.next) (buffer_items m notes dummy ss note.next)
    (buffer_items_are m notes dummy ss note.next)

pub items_are : (m : Mem) (notes : List QtdNote) (dummy : ℕ) (s : Stage) (ss : List Stage) (b : ℕ) → items (lent_lots m notes dummy s ss b) ≡ lent_items m notes dummy s ss b
items_are m notes dummy s ss b =
    map-append (λ (l : Lot). l.item) (qtd_lots notes dummy ss (note_at notes b).next) (buffer_lots m notes dummy (s ∷ ss) b)
    ∙ ap (λ (is : List Item). is ++ items (buffer_lots m notes dummy (s ∷ ss) b)) (qtd_items_are notes dummy ss (note_at notes b).next)
    ∙ ap (λ (is : List Item). qtd_items notes dummy ss (note_at notes b).next ++ is) (buffer_items_are m notes dummy (s ∷ ss) b)

-- ---- their runs

qtd_runs_are : (notes : List QtdNote) (dummy : ℕ) (ss : List Stage) (b : ℕ) → all_runs (qtd_lots notes dummy ss b) ≡ b ∷ next_blocks notes ss b
qtd_runs_are notes dummy [] b = refl
qtd_runs_are notes dummy (s ∷ ss) b =
    flat_map-cons (λ (l : Lot). l.runs) (qtd_lot b (stage_qtd notes s b dummy (is_last ss))) (qtd_lots notes dummy ss (note_at notes b).next)
    ∙ ap (λ (cs : List ℕ). b ∷ cs) (qtd_runs_are notes dummy ss (note_at notes b).next)

-- a qTD that asks for no bytes has no runs
none_needed : (slot : ℕ → Slot) (n : ℕ) (cs : List ℕ) → AreRuns slot (buffer_needs n) cs → n ≡ 0 → cs ≡ []
none_needed slot n [] are none = refl
none_needed slot n (c ∷ cs) are none = absurd (subst (λ (k : ℕ). AreRuns slot (buffer_needs k) (c ∷ cs)) none are)

with_runs_are : (slot : ℕ → Slot) (m : Mem) (t : Qtd) (n : ℕ) (cs : List ℕ) (ls : List Lot) (ks : List ℕ) → AreRuns slot (buffer_needs n) cs → all_runs ls ≡ ks → all_runs (with_lot m t n cs ls) ≡ cs ++ ks
with_runs_are slot m t zero cs ls ks are same = same ∙ ap (λ (is : List ℕ). is ++ ks) (sym (none_needed slot 0 cs are refl))
with_runs_are slot m t (suc n) cs ls ks are same =
    flat_map-cons (λ (l : Lot). l.runs) (record { item = buffer_item m t (suc n); runs = cs }) ls ∙ ap (λ (is : List ℕ). cs ++ is) same

buffer_runs_are : (slot : ℕ → Slot) (m : Mem) (notes : List QtdNote) (dummy : ℕ) (ss : List Stage) (b : ℕ) → AreNoted slot notes ss b → all_runs (buffer_lots m notes dummy ss b) ≡ buffer_blocks notes ss b
buffer_runs_are slot m notes dummy [] b noted = refl
buffer_runs_are slot m notes dummy (s ∷ ss) b noted =
    let note = note_at notes b in
    with_runs_are slot m (stage_qtd notes s b dummy (is_last ss)) s.long (take note.runs note.buffer) (buffer_lots m notes dummy ss note.next) (buffer_blocks notes ss note.next) noted.0.runs
    (buffer_runs_are slot m notes dummy ss note.next noted.1)

pub runs_are : (slot : ℕ → Slot) (m : Mem) (notes : List QtdNote) (dummy : ℕ) (s : Stage) (ss : List Stage) (b : ℕ) → AreNoted slot notes (s ∷ ss) b → all_runs (lent_lots m notes dummy s ss b) ≡ next_blocks notes (s ∷ ss) b ++ buffer_blocks notes (s ∷ ss) b
runs_are slot m notes dummy s ss b noted =
    flat_map-append (λ (l : Lot). l.runs) (qtd_lots notes dummy ss (note_at notes b).next) (buffer_lots m notes dummy (s ∷ ss) b)
    ∙ ap (λ (cs : List ℕ). cs ++ all_runs (buffer_lots m notes dummy (s ∷ ss) b)) (qtd_runs_are notes dummy ss (note_at notes b).next)
    ∙ ap (λ (cs : List ℕ). next_blocks notes (s ∷ ss) b ++ cs) (buffer_runs_are slot m notes dummy (s ∷ ss) b noted)

-- ---- they stand in memory

lends_fewer : (slot : ℕ → Slot) (xs ys : List ℕ) (after : Mem) → ((c : ℕ) → IsOneOf c xs → IsOneOf c ys) → LendsRuns slot ys after → LendsRuns slot xs after
lends_fewer slot xs ys after among lends c r one is = lends c r (among c one) is

only_one : (b : ℕ) (cs : List ℕ) (c : ℕ) → IsOneOf c (b ∷ []) → IsOneOf c (b ∷ cs)
only_one b cs c (inl is) = inl is
only_one b cs c (inr none) = absurd none

-- premises that go with the chain from block b on
pub record IsLending (h : Holding) (after : Mem) : Type 0 where
  pub stands : Stands h
  pub shape : IsShaped h.memory
  pub words : after.words ≡ h.memory.words

qtd_lot_is : (h : Holding) (after : Mem) (b : ℕ) (t : Qtd) (cs : List ℕ) → IsLending h after → LendsRuns (slot_of h.book.slots) (b ∷ cs) after → IsPageRun (slot_of h.book.slots b) 1 → words_in h.memory.words (32 * b) 8 ≡ qtd_words t → IsQtdInRange t → IsLot (slot_of h.book.slots) after (qtd_lot b t)
qtd_lot_is h after b t cs k lends run words range = record {
  holds = qtd_holds h after (b ∷ []) b t k.stands (lends_fewer (slot_of h.book.slots) (b ∷ []) (b ∷ cs) after (only_one b cs) lends) (inl refl) run (ap (λ (ws : List ℕ). words_in ws (32 * b) 8) k.words ∙ words) range;
  covers = λ c has. qtd_kept h (b ∷ []) b c k.stands (inl refl) run has;
  named = record { at = b; one = inl refl; is = refl };
}

qtd_lots_are : (h : Holding) (after : Mem) (notes : List QtdNote) (dummy : ℕ) (ss : List Stage) (b : ℕ) → IsLending h after → LendsRuns (slot_of h.book.slots) (b ∷ next_blocks notes ss b) after → AllByRecursion (λ c. IsPageRun (slot_of h.book.slots c) 1) (b ∷ next_blocks notes ss b) → AreNoted (slot_of h.book.slots) notes ss b → AreShort ss → AllByRecursion (λ r. r.pid ≤ 2) ss → AreWritten h.memory notes dummy ss b → AllByRecursion (IsLot (slot_of h.book.slots) after) (qtd_lots notes dummy ss b)
qtd_lots_are h after notes dummy [] b k lends kept noted short pids words = (qtd_lot_is h after b dummy_qtd [] k lends kept.0 words dummy_range, tt)
qtd_lots_are h after notes dummy (s ∷ ss) b k lends kept noted short pids words =
    let note = note_at notes b in (
      qtd_lot_is h after b (stage_qtd notes s b dummy (is_last ss)) (next_blocks notes (s ∷ ss) b) k lends kept.0 words.0
          (qtd_range s note.next dummy note.buffer (is_last ss) pids.0 short.0 (blocks_low h note s k.stands k.shape noted.0)),
      qtd_lots_are h after notes dummy ss note.next k (lends_fewer (slot_of h.book.slots) (next_blocks notes (s ∷ ss) b) (b ∷ next_blocks notes (s ∷ ss) b) after (λ c one. inr one) lends) kept.1 noted.1 short.1 pids.1 words.1,
    )

with_lot_is : (h : Holding) (after : Mem) (note : QtdNote) (s : Stage) (t : Qtd) (n : ℕ) (ls : List Lot) → IsLending h after → LendsRuns (slot_of h.book.slots) (take note.runs note.buffer) after → AreAllApart (take note.runs note.buffer) → IsStageNoted (slot_of h.book.slots) note s → s.long ≤ 20480 → s.long ≡ n → element_pages t ≡ pages_from note.buffer → t.offset ≡ 32 * (get_or note.buffer 0 0 % 128) → AllByRecursion (IsLot (slot_of h.book.slots) after) ls → AllByRecursion (IsLot (slot_of h.book.slots) after) (with_lot after t n (take note.runs note.buffer) ls)
with_lot_is h after note s t zero ls k lends apart noted short long pages offset all = all
with_lot_is h after note s t (suc n) ls k lends apart noted short long pages offset all =
    let slot = slot_of h.book.slots in
    let cs = take note.runs note.buffer in
    let start = 32 * (get_or note.buffer 0 0 % 128) in
    let lies : (i : ℕ) → i < suc n → LiesIn slot cs (element_pages t) (t.offset + i) = λ i below.
    subst (λ (ps : List ℕ). LiesIn slot cs ps (t.offset + i)) (sym pages) (subst (λ (j : ℕ). LiesIn slot cs (pages_from note.buffer) (j + i)) (sym offset) (lies_in h note s i k.stands noted short (omega (arith, below, long)))) in
    let first = first_run slot s.long cs noted.runs (omega (arith, long)) in (
      record {
        holds = buffer_at h after cs (element_pages t) t.offset (suc n) k.stands lends apart lies (omega arith) refl;
        covers = λ b has. buffer_kept h cs (element_pages t) t.offset (suc n) b (bytes_at after (element_pages t) t.offset (suc n)) (length-bytes_at after (element_pages t) t.offset (suc n)) lies has;
        named = record {
          at = get_or cs 0 0;
          one = at_one cs 0 first;
          is = ap (λ (ps : List ℕ). place ps t.offset) pages ∙ ap (place (pages_from note.buffer)) offset ∙ name_at note.buffer ∙ ap (λ (c : ℕ). 32 * c) (sym (take_same note.runs note.buffer 0 first));
        };
      },
      all,
    )

buffer_lots_are : (h : Holding) (after : Mem) (notes : List QtdNote) (dummy : ℕ) (ss : List Stage) (b : ℕ) → IsLending h after → LendsRuns (slot_of h.book.slots) (buffer_blocks notes ss b) after → AreAllApart (buffer_blocks notes ss b) → AreNoted (slot_of h.book.slots) notes ss b → AreShort ss → AllByRecursion (IsLot (slot_of h.book.slots) after) (buffer_lots after notes dummy ss b)
buffer_lots_are h after notes dummy [] b k lends apart noted short = tt
buffer_lots_are h after notes dummy (s ∷ ss) b k lends apart noted short =
    let slot = slot_of h.book.slots in
    let note = note_at notes b in
    let cs = take note.runs note.buffer in
    let rest = buffer_blocks notes ss note.next in
    with_lot_is h after note s (stage_qtd notes s b dummy (is_last ss)) s.long (buffer_lots after notes dummy ss note.next) k (lends_fewer slot cs (cs ++ rest) after (λ c one. one_left c cs rest one) lends) (apart_left cs rest apart) noted.0 short.0 refl refl refl
    (buffer_lots_are h after notes dummy ss note.next k (lends_fewer slot rest (cs ++ rest) after (λ c one. one_right c cs rest one) lends) (apart_right cs rest apart) noted.1 short.1)

all_both : (P : Lot → Type 0) (xs ys : List Lot) → AllByRecursion P xs → AllByRecursion P ys → AllByRecursion P (xs ++ ys)
all_both P [] ys one two = two
all_both P (x ∷ xs) ys one two = (one.0, all_both P xs ys one.1 two)

pub lots_are : (h : Holding) (after : Mem) (notes : List QtdNote) (dummy : ℕ) (s : Stage) (ss : List Stage) (b : ℕ) → IsLending h after → LendsRuns (slot_of h.book.slots) (next_blocks notes (s ∷ ss) b ++ buffer_blocks notes (s ∷ ss) b) after → AreAllApart (next_blocks notes (s ∷ ss) b ++ buffer_blocks notes (s ∷ ss) b) → AllByRecursion (λ c. IsPageRun (slot_of h.book.slots c) 1) (next_blocks notes (s ∷ ss) b)
    → AreNoted (slot_of h.book.slots) notes (s ∷ ss) b → AreShort (s ∷ ss) → AllByRecursion (λ r. r.pid ≤ 2) (s ∷ ss) → AreWritten h.memory notes dummy ss (note_at notes b).next → AllByRecursion (IsLot (slot_of h.book.slots) after) (lent_lots after notes dummy s ss b)
lots_are h after notes dummy s ss b k lends apart kept noted short pids words =
    let slot = slot_of h.book.slots in
    let qtds = next_blocks notes (s ∷ ss) b in
    let rest = buffer_blocks notes (s ∷ ss) b in
    all_both (IsLot slot after) (qtd_lots notes dummy ss (note_at notes b).next) (buffer_lots after notes dummy (s ∷ ss) b)
    (qtd_lots_are h after notes dummy ss (note_at notes b).next k (lends_fewer slot qtds (qtds ++ rest) after (λ c one. one_left c qtds rest one) lends) kept noted.1 short.1 pids.1 words)
    (buffer_lots_are h after notes dummy (s ∷ ss) b k (lends_fewer slot rest (qtds ++ rest) after (λ c one. one_right c qtds rest one) lends) (apart_right qtds rest apart) noted short)
