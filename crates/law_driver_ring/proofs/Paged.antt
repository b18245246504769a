-- Runs that are taken are kept, each in one page.
use Rattle.std.proofs.Common.{◌≡◌, ℕ, zero, suc, ◌<◌, List, [], ◌∷◌, ◌++◌, length, take, drop, replicate, Option, Some, None, Result, Ok, Err, option_map, ap, refl, sym, subst, ◌∙◌, arith, append_assoc}
use Rattle.std.specs.List.{AllByRecursion}
use Rattle.std.proofs.lemmas.List.{get_or-set_same}
use Rattle.law_driver.proofs.Common.{ok_same}
use Rattle.law_common.proofs.Lists.{append_none}
use Rattle.usb_base.specs.declared.reports.OfferError.{OfferError}
use Rattle.usb_base.specs.declared.reports.OfferError.TheVariants as errors
use Rattle.word_mem.specs.Runs.{Run}
use Rattle.word_mem.specs.Free.{IsTaken, lowest_run, longest_run}
use Rattle.word_mem.proofs.FreeTail.{run_within}
use Rattle.mem_runs.specs.Book.{Holding, Stands, slot_of, with_run}
use Rattle.mem_runs.specs.declared.slots.Slot.{Slot}
use Rattle.mem_runs.specs.declared.slots.Slot.TheVariants.{Empty, Keeps}
use Rattle.mem_runs.proofs.Standing.{stands_taken}
use Rattle.drv_table.specs.Accepting.{take_runs}
use Rattle.claims_driver.specs.Owners.{HasRun}
use Rattle.law_driver.proofs.lemmas.run_owners.Taking.{lowest_taken, runs_taken}
use Rattle.law_driver_ring.specs.Written.{IsPageRun, AreRuns}

-- ---- one run

taken_page : (h : Holding) (n : ℕ) (r : Run) → Stands h → IsTaken h.memory.states n (Some r) → IsPageRun (slot_of (with_run h r).book.slots r.first) n
taken_page h n r stands taken =
    let run = taken.1.free_run in
    let inside = run_within h.memory.states r.first n run in
    let below : r.first < length h.book.slots = let sizes = stands.sizes in let some = run.some in omega (arith, sizes, inside, some) in
    record { run = r; is = get_or-set_same h.book.slots r.first (Keeps r) Empty below; blocks = taken.0; one_page = run.one_page }

-- ---- some runs

pub record ArePaged (h g : Holding) (ns : List ℕ) : Type 0 where
  pub blocks : List ℕ
  pub taken : g.book.taken ≡ h.book.taken ++ blocks
  pub runs : AreRuns (slot_of g.book.slots) ns blocks

abbrev then_runs : Holding → ℕ → List ℕ → Option Holding → Result Holding OfferError
then_runs h n ns o = elim o [ None ↦ Err (errors.NoBlocks n (longest_run h.memory.states)) | Some more ↦ take_runs more ns ]

page_run : (s : Slot) (n : ℕ) → IsPageRun s n → HasRun s
page_run s n p = subst HasRun (sym p.is) tt

first_paged : (h g : Holding) (n : ℕ) (ns : List ℕ) (o : Option Run) → Stands h → lowest_run h.memory.states n ≡ o → ((k : Holding) → Stands k → take_runs k ns ≡ Ok g → ArePaged k g ns) → then_runs h n ns (option_map (with_run h) o) ≡ Ok g → ArePaged h g (n ∷ ns)
first_paged h g n ns None stands low rest e = absurd (cc)
first_paged h g n ns (Some r) stands low rest e =
    let taken = lowest_taken h.memory.states n r low in
    let k = with_run h r in
    let stands_k = stands_taken h n r stands taken in
    let page = taken_page h n r stands taken in
    let more = rest k stands_k e in
    let old = (runs_taken k g ns stands_k e).are.old r.first (page_run (slot_of k.book.slots r.first) n page) in
    record {
      blocks = r.first ∷ more.blocks;
      taken = more.taken ∙ append_assoc h.book.taken (r.first ∷ []) more.blocks;
      runs = (record { run = page.run; is = old ∙ page.is; blocks = page.blocks; one_page = page.one_page }, more.runs);
    }

pub runs_paged : (ns : List ℕ) (h g : Holding) → Stands h → take_runs h ns ≡ Ok g → ArePaged h g ns
runs_paged [] h g stands e =
    let same = ok_same h g e in
    record { blocks = []; taken = ap (λ (k : Holding). k.book.taken) (sym same) ∙ sym (append_none h.book.taken); runs = tt }
runs_paged (n ∷ ns) h g stands e = first_paged h g n ns (lowest_run h.memory.states n) stands refl (λ k s f. runs_paged ns k g s f) e

-- ---- some of them

pub runs_left : (slot : ℕ → Slot) (xs ys cs : List ℕ) → AreRuns slot (xs ++ ys) cs → AreRuns slot xs (take (length xs) cs)
runs_left slot [] ys cs are = tt
runs_left slot (x ∷ xs) ys [] are = absurd are
runs_left slot (x ∷ xs) ys (c ∷ cs) are = (are.0, runs_left slot xs ys cs are.1)

pub runs_right : (slot : ℕ → Slot) (xs ys cs : List ℕ) → AreRuns slot (xs ++ ys) cs → AreRuns slot ys (drop (length xs) cs)
runs_right slot [] ys cs are = are
runs_right slot (x ∷ xs) ys [] are = absurd are
runs_right slot (x ∷ xs) ys (c ∷ cs) are = runs_right slot xs ys cs are.1

pub ones : (slot : ℕ → Slot) (n : ℕ) (cs : List ℕ) → AreRuns slot (replicate n 1) cs → AllByRecursion (λ c. IsPageRun (slot c) 1) cs
ones slot zero [] are = tt
ones slot zero (c ∷ cs) are = absurd are
ones slot (suc n) [] are = absurd are
ones slot (suc n) (c ∷ cs) are = (are.0, ones slot n cs are.1)

pub runs_many : (slot : ℕ → Slot) (ns cs : List ℕ) → AreRuns slot ns cs → length cs ≡ length ns
runs_many slot [] [] are = refl
runs_many slot [] (c ∷ cs) are = absurd are
runs_many slot (n ∷ ns) [] are = absurd are
runs_many slot (n ∷ ns) (c ∷ cs) are = ap suc (runs_many slot ns cs are.1)
