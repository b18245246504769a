-- Where the bytes of a descriptor's buffer lie: in its runs, whose pages the descriptor names.
use Rattle.std.proofs.Common.{◌≡◌, ◌≢◌, ℕ, ◌+◌, ◌-◌, ◌*◌, ◌/◌, ◌%◌, ◌<◌, ◌≤◌, List, [], ◌∷◌, length, take, get_or, replicate, ap, sym, subst, ◌∙◌, ⊎_elim, arith}
use Rattle.std.proofs.lemmas.Bool.{cases_eq, cases_lt}
use Rattle.std.proofs.lemmas.List.{length-replicate}
use Rattle.law_common.proofs.Numbers.{same_numbers}
use Rattle.word_mem.specs.Runs.{Run, IsInRun}
use Rattle.word_mem.specs.Memory.{Mem, IsShaped}
use Rattle.word_mem.specs.declared.blocks.BlockState.TheVariants.{Kept}
use Rattle.word_mem.proofs.Frames.{run_within}
use Rattle.word_mem.proofs.Holders.{has_block_from}
use Rattle.mem_bytes.specs.Bytes.{place, bytes_at}
use Rattle.mem_bytes.proofs.Frames.{place_in_run}
use Rattle.mem_bytes.proofs.Loads.{length-bytes_at}
use Rattle.mem_runs.specs.declared.slots.Slot.{Slot}
use Rattle.mem_runs.specs.declared.slots.Slot.TheVariants.{Keeps}
use Rattle.mem_runs.specs.Book.{Holding, slot_of, Stands}
use Rattle.mem_runs.proofs.Standing.{keeps_at, keeps_all}
use Rattle.claims_driver.specs.Owners.{SlotHas}
use Rattle.law_driver.proofs.lemmas.run_owners.Apart.{runs_apart}
use Rattle.drv_periodic_table.specs.Descriptors.{buffer_address}
use Rattle.drv_table.specs.Words.{pieces, buffer_needs}
use Rattle.law_structures.specs.lent_structures.Structures.{HoldsBuffer}
use Rattle.law_structures.proofs.lemmas.lent_structures.Standing.{reaches_if}
use Rattle.law_driver_ring.specs.Written.{AreRuns, AreAllApart}
use Rattle.law_driver_ring.proofs.Lists.{at_one}
use Rattle.law_driver_ring.proofs.Buffers.{take_same, runs_at, runs_keep, apart_at, needs_case}
use Rattle.law_driver_ring.proofs.Holding.{LendsRuns, past_zero}

-- the first pages, so many, are those of the runs
pub record ArePages (buffer pages : List ℕ) (few : ℕ) : Type 0 where
  pub each : (j : ℕ) → j < few → get_or pages j 0 ≡ get_or buffer j 0 / 128
  pub many : few ≤ length pages
  pub some : 1 ≤ few

-- byte k, counted from the start of the first page, lies in the run of its page; byte i of the buffer is the one at this address
pub record LiesIn (slot : ℕ → Slot) (cs buffer pages : List ℕ) (i : ℕ) : Type 0 where
  pub low : 32 * (get_or buffer 0 0 % 128) + i < 4096 * length pages
  pub below : (32 * (get_or buffer 0 0 % 128) + i) / 4096 < length cs
  pub run : Run
  pub is : slot (get_or cs ((32 * (get_or buffer 0 0 % 128) + i) / 4096) 0) ≡ Keeps run
  pub inside : IsInRun run (place pages (32 * (get_or buffer 0 0 % 128) + i))
  pub at : i / 4096 * 4096 + buffer_address buffer i % 4096 ≡ 32 * (get_or buffer 0 0 % 128) + i

module _ (h : Holding) (buffer pages : List ℕ) (runs few : ℕ) (stands : Stands h) (named : ArePages buffer pages few) where
  abbrev slot : ℕ → Slot
  slot = slot_of h.book.slots

  abbrev cs : List ℕ
  cs = take runs buffer

  lies_short : (n i : ℕ) → AreRuns slot (pieces n 32 ∷ []) cs → n ≤ 4096 → i < n → LiesIn slot cs buffer pages i
  lies_short n i are short inside =
      let k = 32 * (get_or buffer 0 0 % 128) + i in
      let at = runs_at slot (pieces n 32 ∷ []) cs 0 are (omega arith) in
      let r = at.run.run in
      let first = (keeps_at h (get_or cs 0 0) r stands at.run.is).0 in
      let blocks = at.run.blocks in
      let page = at.run.one_page in
      let b = take_same runs buffer 0 at.below in
      let many = named.many in
      let some = named.some in
      let zero_page : k / 4096 ≡ 0 = omega (arith, short, inside, first, blocks, page, b) in
      let own_page : i / 4096 ≡ 0 = omega (arith, short, inside) in
      record {
        low = omega (arith, zero_page, many, some);
        below = let e = at.below in omega (arith, zero_page, e);
        run = r;
        is = ap (λ (j : ℕ). slot (get_or cs j 0)) zero_page ∙ at.run.is;
        inside = place_in_run r pages k
            (ap (λ (j : ℕ). get_or pages j 0) zero_page ∙ named.each 0 (omega (arith, some)) ∙ (let e : get_or buffer 0 0 / 128 ≡ r.first / 128 = omega (arith, first, b) in e))
            (omega (arith, short, inside, first, blocks, page, b)) (omega (arith, short, inside, first, blocks, page, b));
        at = ap (λ (j : ℕ). j * 4096 + (32 * get_or buffer j 0 + i % 4096) % 4096) own_page
            ∙ (let e : 0 * 4096 + (32 * get_or buffer 0 0 + i % 4096) % 4096 ≡ 32 * (get_or buffer 0 0 % 128) + i = omega (arith, short, inside, first, blocks, page, b) in e);
      }

  lies_long : (n i : ℕ) → AreRuns slot (replicate (pieces n 4096) 128) cs → n ≤ 4096 * few → i < n → LiesIn slot cs buffer pages i
  lies_long n i are short inside =
      let k = 32 * (get_or buffer 0 0 % 128) + i in
      let ns : List ℕ = replicate (pieces n 4096) 128 in
      let count : length ns ≡ pieces n 4096 = length-replicate (pieces n 4096) 128 in
      let start = runs_at slot ns cs 0 are (omega (arith, count, inside)) in
      let begins = (keeps_at h (get_or cs 0 0) start.run.run stands start.run.is).0 in
      let whole = start.run.one_page in
      let long = same_numbers (pieces n 4096) 0 (omega (arith, inside)) in
      let b = take_same runs buffer 0 start.below in
      let many = named.many in
      let none : 32 * (get_or buffer 0 0 % 128) ≡ 0 = omega (arith, begins, whole, long, b) in
      let from_start : k ≡ i = omega (arith, none) in
      let j = i / 4096 in
      let page_is : k / 4096 ≡ j = ap (λ (x : ℕ). x / 4096) from_start in
      let at = runs_at slot ns cs j are (omega (arith, count, inside)) in
      let r = at.run.run in
      let first = (keeps_at h (get_or cs j 0) r stands at.run.is).0 in
      let blocks = at.run.blocks in
      let page = at.run.one_page in
      let all = same_numbers (pieces n 4096) j (omega (arith, inside)) in
      let c = take_same runs buffer j at.below in
      record {
        low = omega (arith, short, inside, from_start, many);
        below = let e = at.below in omega (arith, e, page_is);
        run = r;
        is = ap (λ (x : ℕ). slot (get_or cs x 0)) page_is ∙ at.run.is;
        inside = place_in_run r pages k
            (ap (λ (x : ℕ). get_or pages x 0) page_is ∙ named.each j (omega (arith, short, inside)) ∙ (let e : get_or buffer j 0 / 128 ≡ r.first / 128 = omega (arith, first, c) in e))
            (omega (arith, first, page, all)) (omega (arith, first, page, all, blocks));
        at = let e : j * 4096 + (32 * get_or buffer j 0 + i % 4096) % 4096 ≡ i = omega (arith, first, c, page, all) in e ∙ sym from_start;
      }

  pub lies_in : (n i : ℕ) → AreRuns slot (buffer_needs n) cs → n ≤ 4096 * few → i < n → LiesIn slot cs buffer pages i
  lies_in n i are short inside =
      ⊎_elim (λ (one : (n ≤ 4096) × (buffer_needs n ≡ pieces n 32 ∷ [])). lies_short n i (subst (λ (ns : List ℕ). AreRuns slot ns cs) one.1 are) one.0 inside)
      (λ (many : (4096 < n) × (buffer_needs n ≡ replicate (pieces n 4096) 128)). lies_long n i (subst (λ (ns : List ℕ). AreRuns slot ns cs) many.1 are) short inside)
      (needs_case n (omega (arith, inside)))

  -- ---- two bytes

  apart_in : (c k : ℕ) (r q : Run) (a : ℕ) → c ≢ k → slot c ≡ Keeps r → slot k ≡ Keeps q → IsInRun r a → IsInRun q a → ⊥
  apart_in c k r q a differs one two inside also =
      let f = inside.from in
      let b = inside.below in
      let g = also.from in
      let e = also.below in
      runs_apart h k c (a / 32) stands differs
      (subst (λ (s : Slot). SlotHas s (a / 32)) (sym two) (has_block_from q (a / 32) (omega (arith, g)) (omega (arith, e))))
      (subst (λ (s : Slot). SlotHas s (a / 32)) (sym one) (has_block_from r (a / 32) (omega (arith, f)) (omega (arith, b))))

  bytes_apart : (i j : ℕ) → AreAllApart cs → LiesIn slot cs buffer pages i → LiesIn slot cs buffer pages j → place pages (32 * (get_or buffer 0 0 % 128) + i) ≡ place pages (32 * (get_or buffer 0 0 % 128) + j) → i ≡ j
  bytes_apart i j apart one two same =
      let k = 32 * (get_or buffer 0 0 % 128) + i in
      let l = 32 * (get_or buffer 0 0 % 128) + j in
      ⊎_elim (λ (page : k / 4096 ≡ l / 4096). let e : get_or pages (k / 4096) 0 ≡ get_or pages (l / 4096) 0 = ap (λ (x : ℕ). get_or pages x 0) page in omega (arith, e, page, same))
      (λ (differs : k / 4096 ≢ l / 4096).
      absurd (apart_in (get_or cs (k / 4096) 0) (get_or cs (l / 4096) 0) one.run two.run (place pages k) (apart_at cs (k / 4096) (l / 4096) apart one.below two.below differs) one.is two.is one.inside
      (subst (IsInRun two.run) (sym same) two.inside)))
      (cases_eq (k / 4096) (l / 4096))

  -- ---- the buffer stands there

  -- it begins in its first run
  pub name_at : place pages (32 * (get_or buffer 0 0 % 128)) ≡ 32 * get_or buffer 0 0
  name_at =
      let x = get_or buffer 0 0 in
      let k = 32 * (x % 128) in
      let first : k / 4096 ≡ 0 = omega arith in
      let page : get_or pages 0 0 ≡ x / 128 = named.each 0 (let some = named.some in omega (arith, some)) in
      ap (λ (j : ℕ). get_or pages j 0 * 4096 + k % 4096) first ∙ ap (λ (p : ℕ). p * 4096 + k % 4096) page ∙ (let e : x / 128 * 4096 + (32 * (x % 128)) % 4096 ≡ 32 * x = omega arith in e)

  pub buffer_holds : (after : Mem) (n : ℕ) → LendsRuns slot cs after → AreAllApart cs → AreRuns slot (buffer_needs n) cs → n ≤ 4096 * few → 0 < n
      → HoldsBuffer after (32 * get_or buffer 0 0) pages (32 * (get_or buffer 0 0 % 128)) (bytes_at after pages (32 * (get_or buffer 0 0 % 128)) n)
  buffer_holds after n lends apart are short some =
      let k = 32 * (get_or buffer 0 0 % 128) in
      let many = length-bytes_at after pages k n in
      let lies : (i : ℕ) → i < n → LiesIn slot cs buffer pages i = λ i inside. lies_in n i are short inside in
      record {
        name = sym name_at;
        within = let low = (lies (n - 1) (omega (arith, some))).low in omega (arith, low, many, some);
        separate = λ i j one two same. bytes_apart i j apart (lies i (omega (arith, one, many))) (lies j (omega (arith, two, many))) same;
        lent = λ i below.
            let l = lies i (omega (arith, below, many)) in
            let from = l.inside.from in
            let under = l.inside.below in
            reaches_if after (place pages (k + i))
            (lends (get_or cs ((k + i) / 4096) 0) l.run (at_one cs ((k + i) / 4096) l.below) l.is (place pages (k + i) / 32) (omega (arith, from)) (omega (arith, under)));
        bytes = ap (bytes_at after pages k) many;
      }

  -- ---- the blocks of the runs lie in memory, and else 0 stands there

  pub blocks_low : (n : ℕ) → IsShaped h.memory → AreRuns slot (buffer_needs n) cs → ((i : ℕ) → runs ≤ i → get_or buffer i 0 ≡ 0) → (i : ℕ) → get_or buffer i 0 < 32768
  blocks_low n shape are rest i =
      ⊎_elim
      (λ (below : i < length cs).
      let same = take_same runs buffer i below in
      let k = runs_keep slot (buffer_needs n) cs (get_or cs i 0) are (at_one cs i below) in
      let at = keeps_at h (get_or cs i 0) k.run stands k.is in
      let first = at.0 in
      let some = at.1 in
      let inside = run_within h.memory Kept k.run (keeps_all h (get_or cs i 0) k.run stands k.is) some in
      let each = shape.eight_each in
      let most = shape.at_most in
      omega (arith, same, first, some, inside, each, most))
      (λ (past : length cs ≤ i). let e = past_zero runs buffer i past rest in omega (arith, e)) (cases_lt i (length cs))
