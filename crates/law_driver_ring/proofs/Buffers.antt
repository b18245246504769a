-- Where the bytes of a new buffer lie: in its runs, whose pages the qTD names.
use Rattle.std.proofs.Common.{◌≡◌, ◌≢◌, ℕ, zero, suc, ◌+◌, ◌*◌, ◌/◌, ◌%◌, ◌<◌, ◌≤◌, ◌⊎◌, true, false, nat_le, cond, List, [], ◌∷◌, length, take, get_or, replicate, ap, refl, sym, subst, ◌∙◌, ⊎_elim, inl, inr, arith}
use Rattle.std.proofs.lemmas.Bool.{cases_Bool, cases_eq}
use Rattle.std.proofs.lemmas.Bool.Decides.{nat_tests}
use Rattle.std.proofs.lemmas.List.{length-replicate}
use Rattle.law_common.proofs.Numbers.{same_numbers}
use Rattle.word_mem.specs.Runs.{Run, IsInRun}
use Rattle.word_mem.proofs.Holders.{has_block_from}
use Rattle.mem_bytes.specs.Bytes.{place}
use Rattle.mem_bytes.proofs.Frames.{place_in_run}
use Rattle.mem_runs.specs.declared.slots.Slot.{Slot}
use Rattle.mem_runs.specs.declared.slots.Slot.TheVariants.{Keeps}
use Rattle.mem_runs.specs.Book.{Holding, slot_of, Stands}
use Rattle.mem_runs.proofs.Standing.{keeps_at}
use Rattle.claims_driver.specs.Owners.{SlotHas}
use Rattle.law_driver.proofs.lemmas.run_owners.Apart.{runs_apart}
use Rattle.drv_table.specs.declared.content.QtdNote.{QtdNote}
use Rattle.drv_table.specs.declared.content.Stage.{Stage}
use Rattle.drv_table.specs.Words.{pieces, buffer_needs}
use Rattle.law_driver_ring.specs.Written.{IsPageRun, AreRuns, AreAllApart, IsStageNoted}
use Rattle.law_driver_ring.proofs.Lists.{IsOneOf, at_one, each_of}

-- ---- lists

pub take_same : (k : ℕ) (xs : List ℕ) (j : ℕ) → j < length (take k xs) → get_or (take k xs) j 0 ≡ get_or xs j 0
take_same zero xs j below = absurd (omega (arith, below))
take_same (suc k) [] j below = refl
take_same (suc k) (x ∷ xs) zero below = refl
take_same (suc k) (x ∷ xs) (suc j) below = take_same k xs j (omega (arith, below))

pub record IsRunAt (slot : ℕ → Slot) (ns cs : List ℕ) (j : ℕ) : Type 0 where
  pub below : j < length cs
  pub run : IsPageRun (slot (get_or cs j 0)) (get_or ns j 0)

pub runs_at : (slot : ℕ → Slot) (ns cs : List ℕ) (j : ℕ) → AreRuns slot ns cs → j < length ns → IsRunAt slot ns cs j
runs_at slot [] cs j are below = absurd (omega (arith, below))
runs_at slot (n ∷ ns) [] j are below = absurd are
runs_at slot (n ∷ ns) (c ∷ cs) zero are below = record { below = omega arith; run = are.0 }
runs_at slot (n ∷ ns) (c ∷ cs) (suc j) are below = let rest = runs_at slot ns cs j are.1 (omega (arith, below)) in let b = rest.below in record { below = omega (arith, b); run = rest.run }

-- each of them is kept
pub record KeepsAt (slot : ℕ → Slot) (c : ℕ) : Type 0 where
  pub run : Run
  pub is : slot c ≡ Keeps run

pub runs_keep : (slot : ℕ → Slot) (ns cs : List ℕ) (c : ℕ) → AreRuns slot ns cs → IsOneOf c cs → KeepsAt slot c
runs_keep slot ns [] c are one = absurd one
runs_keep slot [] (k ∷ cs) c are one = absurd are
runs_keep slot (n ∷ ns) (k ∷ cs) c are (inl is) = record { run = are.0.run; is = ap slot is ∙ are.0.is }
runs_keep slot (n ∷ ns) (k ∷ cs) c are (inr is) = runs_keep slot ns cs c are.1 is

-- blocks at two places of a list without repeats differ
pub apart_at : (cs : List ℕ) (i j : ℕ) → AreAllApart cs → i < length cs → j < length cs → i ≢ j → get_or cs i 0 ≢ get_or cs j 0
apart_at [] i j apart one two differs same = absurd (omega (arith, one))
apart_at (c ∷ cs) zero zero apart one two differs same = differs refl
apart_at (c ∷ cs) zero (suc j) apart one two differs same = each_of (λ k. k ≢ c) (get_or cs j 0) cs apart.0 (at_one cs j (omega (arith, two))) (sym same)
apart_at (c ∷ cs) (suc i) zero apart one two differs same = each_of (λ k. k ≢ c) (get_or cs i 0) cs apart.0 (at_one cs i (omega (arith, one))) same
apart_at (c ∷ cs) (suc i) (suc j) apart one two differs same = apart_at cs i j apart.1 (omega (arith, one)) (omega (arith, two)) (λ e. differs (ap suc e)) same

-- ---- the lengths of the runs

pub needs_case : (n : ℕ) → 0 < n → ((n ≤ 4096) × (buffer_needs n ≡ pieces n 32 ∷ [])) ⊎ ((4096 < n) × (buffer_needs n ≡ replicate (pieces n 4096) 128))
needs_case zero some = absurd (omega (arith, some))
needs_case (suc n) some =
    ⊎_elim
    (λ (short : nat_le (suc n) 4096 ≡ true). inl (grind (arith, nat_tests), ap (λ b. cond b (pieces (suc n) 32 ∷ []) (replicate (pieces (suc n) 4096) 128)) short))
    (λ (long : nat_le (suc n) 4096 ≡ false). inr (grind (arith, nat_tests), ap (λ b. cond b (pieces (suc n) 32 ∷ []) (replicate (pieces (suc n) 4096) 128)) long))
    (cases_Bool (nat_le (suc n) 4096))

-- a buffer of some bytes has a run
pub first_run : (slot : ℕ → Slot) (n : ℕ) (cs : List ℕ) → AreRuns slot (buffer_needs n) cs → 0 < n → 0 < length cs
first_run slot n [] are some =
    ⊎_elim (λ (few : (n ≤ 4096) × (buffer_needs n ≡ pieces n 32 ∷ [])). absurd (subst (λ (ns : List ℕ). AreRuns slot ns []) few.1 are))
    (λ (many : (4096 < n) × (buffer_needs n ≡ replicate (pieces n 4096) 128)).
    absurd (no_runs (pieces n 4096) (omega (arith, many.0)) (subst (λ (ns : List ℕ). AreRuns slot ns []) many.1 are)))
    (needs_case n some)
  where
    no_runs : (p : ℕ) → 0 < p → AreRuns slot (replicate p 128) [] → ⊥
    no_runs zero some are = omega (arith, some)
    no_runs (suc p) some are = are
first_run slot n (c ∷ cs) are some = omega arith

-- ---- pages

abbrev pub pages_from : List ℕ → List ℕ
pages_from buffer = get_or buffer 0 0 / 128 ∷ get_or buffer 1 0 / 128 ∷ get_or buffer 2 0 / 128 ∷ get_or buffer 3 0 / 128 ∷ get_or buffer 4 0 / 128 ∷ []

page_at : (buffer : List ℕ) (j : ℕ) → j < 5 → get_or (pages_from buffer) j 0 ≡ get_or buffer j 0 / 128
page_at buffer (suc (suc (suc (suc (suc j))))) below = absurd (omega (arith, below))
page_at buffer _ below = refl

-- the buffer's name: it begins in its first run
pub name_at : (buffer : List ℕ) → place (pages_from buffer) (32 * (get_or buffer 0 0 % 128)) ≡ 32 * get_or buffer 0 0
name_at buffer =
    let x = get_or buffer 0 0 in
    let k = 32 * (x % 128) in
    let first : k / 4096 ≡ 0 = omega arith in
    ap (λ (j : ℕ). get_or (pages_from buffer) j 0 * 4096 + k % 4096) first ∙ (let e : x / 128 * 4096 + (32 * (x % 128)) % 4096 ≡ 32 * x = omega arith in e)

-- ---- a byte

-- byte k, counted from the start of the first page, lies in the run of its page
pub record LiesIn (slot : ℕ → Slot) (cs pages : List ℕ) (k : ℕ) : Type 0 where
  pub low : k < 20480
  pub below : k / 4096 < length cs
  pub run : Run
  pub is : slot (get_or cs (k / 4096) 0) ≡ Keeps run
  pub inside : IsInRun run (place pages k)

lies_short : (h : Holding) (buffer cs : List ℕ) (k n i : ℕ) → Stands h → AreRuns (slot_of h.book.slots) (pieces n 32 ∷ []) cs → ((j : ℕ) → j < length cs → get_or cs j 0 ≡ get_or buffer j 0) → n ≤ 4096 → i < n → k ≡ 32 * (get_or buffer 0 0 % 128) + i → LiesIn (slot_of h.book.slots) cs (pages_from buffer) k
lies_short h buffer cs k n i stands are same few inside is =
    let slot = slot_of h.book.slots in
    let at = runs_at slot (pieces n 32 ∷ []) cs 0 are (omega arith) in
    let r = at.run.run in
    let first = (keeps_at h (get_or cs 0 0) r stands at.run.is).0 in
    let blocks = at.run.blocks in
    let page = at.run.one_page in
    let b = same 0 at.below in
    let zero_page : k / 4096 ≡ 0 = omega (arith, few, inside, is, first, blocks, page, b) in
    record {
      low = omega (arith, few, inside, is);
      below = let e = at.below in omega (arith, zero_page, e);
      run = r;
      is = ap (λ (j : ℕ). slot (get_or cs j 0)) zero_page ∙ at.run.is;
      inside = place_in_run r (pages_from buffer) k
          (ap (λ (j : ℕ). get_or (pages_from buffer) j 0) zero_page ∙ (let e : get_or buffer 0 0 / 128 ≡ r.first / 128 = omega (arith, first, b) in e))
          (omega (arith, few, inside, is, first, blocks, page, b)) (omega (arith, few, inside, is, first, blocks, page, b));
    }

lies_long : (h : Holding) (buffer cs : List ℕ) (k n i : ℕ) → Stands h → AreRuns (slot_of h.book.slots) (replicate (pieces n 4096) 128) cs → ((j : ℕ) → j < length cs → get_or cs j 0 ≡ get_or buffer j 0) → n ≤ 20480 → i < n → k ≡ 32 * (get_or buffer 0 0 % 128) + i → LiesIn (slot_of h.book.slots) cs (pages_from buffer) k
lies_long h buffer cs k n i stands are same few inside is =
    let slot = slot_of h.book.slots in
    let ns : List ℕ = replicate (pieces n 4096) 128 in
    let many : length ns ≡ pieces n 4096 = length-replicate (pieces n 4096) 128 in
    let start = runs_at slot ns cs 0 are (omega (arith, many, inside)) in
    let begins = (keeps_at h (get_or cs 0 0) start.run.run stands start.run.is).0 in
    let whole = start.run.one_page in
    let long = same_numbers (pieces n 4096) 0 (omega (arith, inside)) in
    let b = same 0 start.below in
    let from_start : k ≡ i = omega (arith, begins, whole, long, b, is) in
    let j = k / 4096 in
    let at = runs_at slot ns cs j are (omega (arith, many, inside, from_start)) in
    let r = at.run.run in
    let first = (keeps_at h (get_or cs j 0) r stands at.run.is).0 in
    let blocks = at.run.blocks in
    let page = at.run.one_page in
    let all = same_numbers (pieces n 4096) j (omega (arith, inside, from_start)) in
    let c = same j at.below in
    record {
      low = omega (arith, few, inside, from_start);
      below = at.below;
      run = r;
      is = at.run.is;
      inside = place_in_run r (pages_from buffer) k (page_at buffer j (omega (arith, few, inside, from_start)) ∙ (let e : get_or buffer j 0 / 128 ≡ r.first / 128 = omega (arith, first, c) in e))
          (omega (arith, first, page, all)) (omega (arith, first, page, all, blocks));
    }

pub lies_in : (h : Holding) (note : QtdNote) (s : Stage) (i : ℕ) → Stands h → IsStageNoted (slot_of h.book.slots) note s → s.long ≤ 20480 → i < s.long → LiesIn (slot_of h.book.slots) (take note.runs note.buffer) (pages_from note.buffer) (32 * (get_or note.buffer 0 0 % 128) + i)
lies_in h note s i stands noted short inside =
    let cs = take note.runs note.buffer in
    let slot = slot_of h.book.slots in
    let same : (j : ℕ) → j < length cs → get_or cs j 0 ≡ get_or note.buffer j 0 = λ j below. take_same note.runs note.buffer j below in
    ⊎_elim (λ (few : (s.long ≤ 4096) × (buffer_needs s.long ≡ pieces s.long 32 ∷ [])).
    lies_short h note.buffer cs (32 * (get_or note.buffer 0 0 % 128) + i) s.long i stands (subst (λ (ns : List ℕ). AreRuns slot ns cs) few.1 noted.runs) same few.0 inside refl)
    (λ (many : (4096 < s.long) × (buffer_needs s.long ≡ replicate (pieces s.long 4096) 128)).
    lies_long h note.buffer cs (32 * (get_or note.buffer 0 0 % 128) + i) s.long i stands (subst (λ (ns : List ℕ). AreRuns slot ns cs) many.1 noted.runs) same short inside refl)
    (needs_case s.long (omega (arith, inside)))

-- ---- two bytes

in_both : (h : Holding) (c k : ℕ) (r q : Run) (a : ℕ) → Stands h → c ≢ k → slot_of h.book.slots c ≡ Keeps r → slot_of h.book.slots k ≡ Keeps q → IsInRun r a → IsInRun q a → ⊥
in_both h c k r q a stands differs one two inside also =
    let f = inside.from in
    let b = inside.below in
    let g = also.from in
    let e = also.below in
    runs_apart h k c (a / 32) stands differs
    (subst (λ (s : Slot). SlotHas s (a / 32)) (sym two) (has_block_from q (a / 32) (omega (arith, g)) (omega (arith, e))))
    (subst (λ (s : Slot). SlotHas s (a / 32)) (sym one) (has_block_from r (a / 32) (omega (arith, f)) (omega (arith, b))))

pub bytes_apart : (h : Holding) (cs pages : List ℕ) (k j : ℕ) → Stands h → AreAllApart cs → LiesIn (slot_of h.book.slots) cs pages k → LiesIn (slot_of h.book.slots) cs pages j → place pages k ≡ place pages j → k ≡ j
bytes_apart h cs pages k j stands apart one two same =
    ⊎_elim (λ (page : k / 4096 ≡ j / 4096). let e : get_or pages (k / 4096) 0 ≡ get_or pages (j / 4096) 0 = ap (λ (i : ℕ). get_or pages i 0) page in omega (arith, e, page, same))
    (λ (differs : k / 4096 ≢ j / 4096).
    absurd (in_both h (get_or cs (k / 4096) 0) (get_or cs (j / 4096) 0) one.run two.run (place pages k) stands (apart_at cs (k / 4096) (j / 4096) apart one.below two.below differs) one.is two.is one.inside
    (subst (IsInRun two.run) (sym same) two.inside)))
    (cases_eq (k / 4096) (j / 4096))
