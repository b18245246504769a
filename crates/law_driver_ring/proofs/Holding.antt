-- Each structure of a transfer stands in memory once it is lent, in runs that were kept before.
use Rattle.std.proofs.Common.{◌≡◌, ℕ, zero, suc, ◌+◌, ◌-◌, ◌*◌, ◌/◌, ◌%◌, ◌<◌, ◌≤◌, Bool, List, [], ◌∷◌, length, take, get_or, Some, ap, refl, sym, subst, ⊎_elim, arith}
use Rattle.std.proofs.lemmas.Bool.{cases_lt}
use Rattle.law_structures.proofs.Common.{kept_no_lent}
use Rattle.word_mem.specs.Runs.{Run}
use Rattle.word_mem.specs.Memory.{Mem, IsShaped, AreAll, state_at}
use Rattle.word_mem.specs.Views.{words_at}
use Rattle.word_mem.specs.declared.blocks.BlockState.TheVariants.{Kept, Lent}
use Rattle.word_mem.proofs.Frames.{run_within}
use Rattle.word_mem.proofs.Holders.{has_block_is, has_block_from}
use Rattle.mem_bytes.specs.Bytes.{place, bytes_at}
use Rattle.mem_bytes.proofs.Loads.{length-bytes_at}
use Rattle.qh_qtd.specs.declared.qtd.Qtd.{Qtd}
use Rattle.qh_qtd.specs.Qtd.{qtd_words, IsQtdInRange}
use Rattle.mem_runs.specs.declared.slots.Slot.{Slot}
use Rattle.mem_runs.specs.declared.slots.Slot.TheVariants.{Keeps}
use Rattle.mem_runs.specs.Book.{Holding, slot_of, Stands}
use Rattle.mem_runs.proofs.Standing.{keeps_at, keeps_all}
use Rattle.claims_driver.specs.Owners.{SlotHas}
use Rattle.drv_table.specs.declared.content.Alternate.{Alternate}
use Rattle.drv_table.specs.declared.content.Alternate.TheVariants as alternates
use Rattle.drv_table.specs.declared.content.QtdNote.{QtdNote}
use Rattle.drv_table.specs.declared.content.Stage.{Stage}
use Rattle.drv_table.specs.Words.{buffer_needs, new_qtd, alternate_link}
use Rattle.law_structures.specs.lent_structures.Structures.{Buffer, HoldsElement, HoldsBuffer, Has}
use Rattle.law_structures.proofs.lemmas.lent_structures.Standing.{reaches_if}
use Rattle.law_driver_ring.specs.Written.{IsPageRun, AreAllApart, IsStageNoted}
use Rattle.law_driver_ring.proofs.Lists.{IsOneOf, at_one}
use Rattle.law_driver_ring.proofs.Buffers.{take_same, runs_keep, LiesIn, bytes_apart}

-- block b belongs to one of the runs that begin in the blocks cs, which are kept
pub record IsKeptIn (slot : ℕ → Slot) (cs : List ℕ) (b : ℕ) : Type 0 where
  pub at : ℕ
  pub one : IsOneOf at cs
  pub run : Run
  pub is : slot at ≡ Keeps run
  pub has : SlotHas (slot at) b

-- so it wasn't Lent
pub kept_fresh : (h : Holding) (cs : List ℕ) (b : ℕ) → Stands h → IsKeptIn (slot_of h.book.slots) cs b → state_at h.memory b ≡ Some Lent → ⊥
kept_fresh h cs b stands k lent =
    let inside : SlotHas (Keeps k.run) b = subst (λ (s : Slot). SlotHas s b) k.is k.has in
    kept_no_lent (state_at h.memory b) (kept_state h.memory k.run b (keeps_all h k.at k.run stands k.is) inside) lent
  where
    kept_state : (m : Mem) (r : Run) (b : ℕ) → AreAll m Kept r → SlotHas (Keeps r) b → state_at m b ≡ Some Kept
    kept_state m r b all has = let i = has_block_is r b has in all b i.from i.below

-- what is kept is lent afterwards
abbrev pub LendsRuns : (ℕ → Slot) → List ℕ → Mem → Type 0
LendsRuns slot cs after = (c : ℕ) (r : Run) → IsOneOf c cs → slot c ≡ Keeps r → AreAll after Lent r

-- ---- a qTD

pub qtd_holds : (h : Holding) (after : Mem) (cs : List ℕ) (c : ℕ) (t : Qtd) → Stands h → LendsRuns (slot_of h.book.slots) cs after → IsOneOf c cs → IsPageRun (slot_of h.book.slots c) 1 → words_at after (32 * c) 8 ≡ qtd_words t → IsQtdInRange t → HoldsElement after (32 * c) t
qtd_holds h after cs c t stands lends one run words range =
    let first = (keeps_at h c run.run stands run.is).0 in
    let blocks = run.blocks in
    record {
      aligned = omega arith;
      lent = reaches_if after (32 * c) (lends c run.run one run.is (32 * c / 32) (omega (arith, first)) (omega (arith, first, blocks)));
      words = words;
      range = range;
    }

pub qtd_kept : (h : Holding) (cs : List ℕ) (c b : ℕ) → Stands h → IsOneOf c cs → IsPageRun (slot_of h.book.slots c) 1 → b ≡ 32 * c / 32 → IsKeptIn (slot_of h.book.slots) cs b
qtd_kept h cs c b stands one run is =
    let first = (keeps_at h c run.run stands run.is).0 in
    let blocks = run.blocks in
    record {
      at = c;
      one = one;
      run = run.run;
      is = run.is;
      has = subst (λ (s : Slot). SlotHas s b) (sym run.is) (has_block_from run.run b (omega (arith, first, is)) (omega (arith, first, is, blocks)));
    }

-- ---- the fields of a new qTD are in their ranges

alternate_range : (a : Alternate) (next dummy : ℕ) → (alternate_link a next dummy).address % 32 ≡ 0
alternate_range alternates.Nowhere next dummy = refl
alternate_range _ next dummy = omega arith

pub qtd_range : (s : Stage) (next dummy : ℕ) (buffer : List ℕ) (last : Bool) → s.pid ≤ 2 → s.long ≤ 20480 → ((i : ℕ) → get_or buffer i 0 < 32768) → IsQtdInRange (new_qtd s next dummy buffer last)
qtd_range s next dummy buffer last few short low =
    let a = low 0 in
    let b = low 1 in
    let c = low 2 in
    let d = low 3 in
    let e = low 4 in (
      (omega arith, tt),
      (
        (alternate_range s.alternate next dummy, tt),
        (
          (omega (arith, short), (omega arith, (omega arith, (omega (arith, few), tt)))),
          ((omega (arith, a), (omega arith, tt)), ((omega (arith, b), tt), ((omega (arith, c), tt), ((omega (arith, d), tt), ((omega (arith, e), tt), tt))))),
        ),
      ),
    )

-- the blocks of a buffer's runs lie in memory, and else 0 stands there
pub past_zero : (k : ℕ) (xs : List ℕ) (i : ℕ) → length (take k xs) ≤ i → ((j : ℕ) → k ≤ j → get_or xs j 0 ≡ 0) → get_or xs i 0 ≡ 0
past_zero zero xs i past rest = rest i (omega arith)
past_zero (suc k) [] i past rest = refl
past_zero (suc k) (x ∷ xs) zero past rest = absurd (omega (arith, past))
past_zero (suc k) (x ∷ xs) (suc i) past rest = past_zero k xs i (omega (arith, past)) (λ j from. rest (suc j) (omega (arith, from)))

pub blocks_low : (h : Holding) (note : QtdNote) (s : Stage) → Stands h → IsShaped h.memory → IsStageNoted (slot_of h.book.slots) note s → (i : ℕ) → get_or note.buffer i 0 < 32768
blocks_low h note s stands shape noted i =
    let cs = take note.runs note.buffer in
    ⊎_elim
    (λ (below : i < length cs).
    let same = take_same note.runs note.buffer i below in
    let k = runs_keep (slot_of h.book.slots) (buffer_needs s.long) cs (get_or cs i 0) noted.runs (at_one cs i below) in
    let at = keeps_at h (get_or cs i 0) k.run stands k.is in
    let first = at.0 in
    let some = at.1 in
    let inside = run_within h.memory Kept k.run (keeps_all h (get_or cs i 0) k.run stands k.is) some in
    let each = shape.eight_each in
    let most = shape.at_most in
    omega (arith, same, first, some, inside, each, most))
    (λ (past : length cs ≤ i). let e = past_zero note.runs note.buffer i past noted.rest in omega (arith, e)) (cases_lt i (length cs))

-- ---- a buffer

pub buffer_at : (h : Holding) (after : Mem) (cs pages : List ℕ) (k n : ℕ) → Stands h → LendsRuns (slot_of h.book.slots) cs after → AreAllApart cs → ((i : ℕ) → i < n → LiesIn (slot_of h.book.slots) cs pages (k + i)) → 0 < n → length pages ≡ 5
    → HoldsBuffer after (place pages k) pages k (bytes_at after pages k n)
buffer_at h after cs pages k n stands lends apart lies some five =
    let many = length-bytes_at after pages k n in
    record {
      name = refl;
      within = let low = (lies (n - 1) (omega (arith, some))).low in omega (arith, low, many, some, five);
      separate = λ i j one two same.
          let e = bytes_apart h cs pages (k + i) (k + j) stands apart (lies i (omega (arith, one, many))) (lies j (omega (arith, two, many))) same in omega (arith, e);
      lent = λ i below.
          let l = lies i (omega (arith, below, many)) in
          let from = l.inside.from in
          let under = l.inside.below in
          reaches_if after (place pages (k + i))
          (lends (get_or cs ((k + i) / 4096) 0) l.run (at_one cs ((k + i) / 4096) l.below) l.is (place pages (k + i) / 32) (omega (arith, from)) (omega (arith, under)));
      bytes = ap (bytes_at after pages k) many;
    }

pub buffer_kept : (h : Holding) (cs pages : List ℕ) (k n b : ℕ) (bs : List ℕ) → length bs ≡ n → ((i : ℕ) → i < n → LiesIn (slot_of h.book.slots) cs pages (k + i)) → Has (place pages k) (Buffer pages k bs) b → IsKeptIn (slot_of h.book.slots) cs b
buffer_kept h cs pages k n b bs many lies (i, below, is) =
    let l = lies i (omega (arith, below, many)) in
    let from = l.inside.from in
    let under = l.inside.below in
    record {
      at = get_or cs ((k + i) / 4096) 0;
      one = at_one cs ((k + i) / 4096) l.below;
      run = l.run;
      is = l.is;
      has = subst (λ (s : Slot). SlotHas s b) (sym l.is) (has_block_from l.run b (omega (arith, from, is)) (omega (arith, under, is)));
    }
