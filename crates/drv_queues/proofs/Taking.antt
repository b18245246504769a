-- Runs that are taken one after the other.
use Rattle.std.proofs.Common.{◌≡◌, ℕ, zero, suc, ◌+◌, ◌-◌, ◌/◌, ◌<◌, ◌≤◌, true, false, nat_le, cond, List, [], ◌∷◌, ◌++◌, length, replicate, drop, slice_get, Option, Some, None, Result, Ok, Err, arith, ap, sym, ◌∙◌, refl}
use Rattle.std.specs.List.{flat_map}
use Rattle.std.proofs.lemmas.Bool.Decides.{nat_tests}
use Rattle.usb_base.specs.declared.reports.OfferError.{OfferError}
use Rattle.usb_base.specs.declared.reports.OfferError.TheVariants as errors
use Rattle.word_mem.specs.Free.{longest_run}
use Rattle.mem_runs.specs.Book.{Holding, take_run}
use Rattle.drv_table.specs.declared.content.Stage.{Stage}
use Rattle.drv_table.specs.Words.{pieces, buffer_needs, needs}
use Rattle.drv_table.specs.Accepting.{take_runs}

abbrev then_runs : Holding → ℕ → List ℕ → Option Holding → Result Holding OfferError
then_runs h n ns o = elim o [ None ↦ Err (errors.NoBlocks n (longest_run h.memory.states)) | Some more ↦ take_runs more ns ]

pub found : (h g : Holding) (n : ℕ) (ns : List ℕ) → take_run h n ≡ Some g → take_runs h (n ∷ ns) ≡ take_runs g ns
found h g n ns there = ap (λ o. then_runs h n ns o) there

pub missing : (h : Holding) (n : ℕ) (ns : List ℕ) → take_run h n ≡ None → take_runs h (n ∷ ns) ≡ Err (errors.NoBlocks n (longest_run h.memory.states))
missing h n ns none = ap (λ o. then_runs h n ns o) none

-- the k-th of c runs of n blocks
pub found_next : (h g : Holding) (n c k : ℕ) → k < c → take_run h n ≡ Some g → take_runs g (replicate (c - (k + 1)) n) ≡ take_runs h (replicate (c - k) n)
found_next h g n c k below there =
    let e : c - k ≡ suc (c - (k + 1)) = omega arith in
    sym (ap (λ i. take_runs h (replicate i n)) e ∙ found h g n (replicate (c - (k + 1)) n) there)

pub missing_next : (h : Holding) (n c k : ℕ) → k < c → take_run h n ≡ None → take_runs h (replicate (c - k) n) ≡ Err (errors.NoBlocks n (longest_run h.memory.states))
missing_next h n c k below none =
    let e : c - k ≡ suc (c - (k + 1)) = omega arith in
    ap (λ i. take_runs h (replicate i n)) e ∙ missing h n (replicate (c - (k + 1)) n) none

pub none_left : (h : Holding) (n c k : ℕ) → c ≤ k → take_runs h (replicate (c - k) n) ≡ Ok h
none_left h n c k all = let e : c - k ≡ 0 = omega arith in ap (λ i. take_runs h (replicate i n)) e

-- these runs, and then those
found_first : (h g : Holding) (n : ℕ) (ns ms : List ℕ) (o : Option Holding) → ((i : Holding) → take_runs i ns ≡ Ok g → take_runs i (ns ++ ms) ≡ take_runs g ms) → take_run h n ≡ o → take_runs h (n ∷ ns) ≡ Ok g → take_runs h (n ∷ (ns ++ ms)) ≡ take_runs g ms
found_first h g n ns ms None rest this there = let e : take_runs h (n ∷ ns) ≡ Err (errors.NoBlocks n (longest_run h.memory.states)) = missing h n ns this in absurd (cc)
found_first h g n ns ms (Some i) rest this there = found h i n (ns ++ ms) this ∙ rest i (sym (found h i n ns this) ∙ there)

pub found_all : (h g : Holding) (ns ms : List ℕ) → take_runs h ns ≡ Ok g → take_runs h (ns ++ ms) ≡ take_runs g ms
found_all h g [] ms there = let e : h ≡ g = cc in ap (λ i. take_runs i ms) e
found_all h g (n ∷ ns) ms there = found_first h g n ns ms (take_run h n) (λ i. found_all i g ns ms) refl there

missing_first : (h : Holding) (why : OfferError) (n : ℕ) (ns ms : List ℕ) (o : Option Holding) → ((i : Holding) → take_runs i ns ≡ Err why → take_runs i (ns ++ ms) ≡ Err why) → take_run h n ≡ o → take_runs h (n ∷ ns) ≡ Err why → take_runs h (n ∷ (ns ++ ms)) ≡ Err why
missing_first h why n ns ms None rest this none = missing h n (ns ++ ms) this ∙ (sym (missing h n ns this) ∙ none)
missing_first h why n ns ms (Some i) rest this none = found h i n (ns ++ ms) this ∙ rest i (sym (found h i n ns this) ∙ none)

pub missing_all : (h : Holding) (why : OfferError) (ns ms : List ℕ) → take_runs h ns ≡ Err why → take_runs h (ns ++ ms) ≡ Err why
missing_all h why [] ms none = absurd (cc)
missing_all h why (n ∷ ns) ms none = missing_first h why n ns ms (take_run h n) (λ i. missing_all i why ns ms) refl none

-- the stage at place k, and those after it
drop_here : {X : Type 0} (xs : List X) (k : ℕ) (x : X) → slice_get xs k ≡ Some x → drop k xs ≡ x ∷ drop (suc k) xs
drop_here [] zero x there = absurd (cc)
drop_here [] (suc k) x there = absurd (cc)
drop_here (y ∷ xs) zero x there = let e : y ≡ x = cc in ap (λ z. z ∷ xs) e
drop_here (y ∷ xs) (suc k) x there = drop_here xs k x there

pub drop_at : {X : Type 0} (xs : List X) (k : ℕ) (x : X) → slice_get xs k ≡ Some x → drop k xs ≡ x ∷ drop (k + 1) xs
drop_at xs k x there = let e : suc k ≡ k + 1 = omega arith in drop_here xs k x there ∙ ap (λ i. x ∷ drop i xs) e

abbrev pub buffers_of : List Stage → List ℕ
buffers_of ss = flat_map (λ s. buffer_needs s.long) ss

pub found_buffer : (h g : Holding) (ss : List Stage) (k : ℕ) (s : Stage) → slice_get ss k ≡ Some s → take_runs h (buffer_needs s.long) ≡ Ok g → take_runs g (buffers_of (drop (k + 1) ss)) ≡ take_runs h (buffers_of (drop k ss))
found_buffer h g ss k s there all =
    sym (ap (λ l. take_runs h (buffers_of l)) (drop_at ss k s there) ∙ found_all h g (buffer_needs s.long) (buffers_of (drop (k + 1) ss)) all)

pub missing_buffer : (h : Holding) (why : OfferError) (ss : List Stage) (k : ℕ) (s : Stage) → slice_get ss k ≡ Some s → take_runs h (buffer_needs s.long) ≡ Err why → take_runs h (buffers_of (drop k ss)) ≡ Err why
missing_buffer h why ss k s there none =
    ap (λ l. take_runs h (buffers_of l)) (drop_at ss k s there) ∙ missing_all h why (buffer_needs s.long) (buffers_of (drop (k + 1) ss)) none

-- the runs of a buffer, by its length
no_byte : (n : ℕ) → n ≡ 0 → buffer_needs n ≡ []
no_byte zero none = refl
no_byte (suc n) none = absurd (omega arith)

pub one_run : (n : ℕ) → (n ≡ 0 → ⊥) → n ≤ 4096 → buffer_needs n ≡ (n + 31) / 32 ∷ []
one_run zero some short = absurd (some refl)
one_run (suc n) some short = let e : nat_le (suc n) 4096 ≡ true = grind (arith, nat_tests) in ap (λ b. cond b (pieces (suc n) 32 ∷ []) (replicate (pieces (suc n) 4096) 128)) e

pub whole_pages : (n : ℕ) → 4096 < n → buffer_needs n ≡ replicate ((n + 4095) / 4096) 128
whole_pages zero long = absurd (omega arith)
whole_pages (suc n) long = let e : nat_le (suc n) 4096 ≡ false = grind (arith, nat_tests) in ap (λ b. cond b (pieces (suc n) 32 ∷ []) (replicate (pieces (suc n) 4096) 128)) e

pub needs_nothing : (h : Holding) (n : ℕ) → n ≡ 0 → take_runs h (buffer_needs n) ≡ Ok h
needs_nothing h n none = ap (λ l. take_runs h l) (no_byte n none)

pub needs_one : (h : Holding) (r : Result Holding OfferError) (n : ℕ) → (n ≡ 0 → ⊥) → n ≤ 4096 → take_runs h (replicate 1 ((n + 31) / 32)) ≡ r → take_runs h (buffer_needs n) ≡ r
needs_one h r n some short all = ap (λ l. take_runs h l) (one_run n some short) ∙ all

pub needs_pages : (h : Holding) (r : Result Holding OfferError) (n : ℕ) → 4096 < n → take_runs h (replicate ((n + 4095) / 4096) 128) ≡ r → take_runs h (buffer_needs n) ≡ r
needs_pages h r n long all = ap (λ l. take_runs h l) (whole_pages n long) ∙ all

pub needs_both : (h g : Holding) (ss : List Stage) → take_runs h (replicate (length ss) 1) ≡ Ok g → take_runs h (needs ss) ≡ take_runs g (buffers_of ss)
needs_both h g ss all = found_all h g (replicate (length ss) 1) (buffers_of ss) all

pub needs_missing : (h : Holding) (why : OfferError) (ss : List Stage) → take_runs h (replicate (length ss) 1) ≡ Err why → take_runs h (needs ss) ≡ Err why
needs_missing h why ss none = missing_all h why (replicate (length ss) 1) (buffers_of ss) none
