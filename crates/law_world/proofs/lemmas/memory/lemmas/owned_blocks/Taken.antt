-- A command takes no runs but those that it is told of; and where they stand in the lists of what it brings.
use Rattle.std.proofs.Common.{◌≡◌, ◌≢◌, ℕ, zero, suc, ◌+◌, ◌-◌, ◌<◌, ◌≤◌, List, [], ◌∷◌, ◌++◌, length, take, drop, get_or, set, replicate, Option, Some, None, Result, Ok, Err, option_map, ap, refl, sym, subst, ◌∙◌, ⊎_elim, inl, inr, arith, append_assoc, length-append, length-drop}
use Rattle.std.specs.Prelude.{◌⊎◌}
use Rattle.std.proofs.lemmas.Bool.{cases_eq, cases_lt}
use Rattle.std.proofs.lemmas.List.{get_or-set_same, get_or-set_other, get_or-drop, length-set}
use Rattle.law_common.proofs.Lists.{next_of, append_none, drop_first}
use Rattle.law_driver.proofs.Common.{ok_same}
use Rattle.law_driver_ring.proofs.Common.{one_left, one_right}
use Rattle.usb_base.specs.declared.reports.OfferError.{OfferError}
use Rattle.usb_base.specs.declared.reports.OfferError.TheVariants as errors
use Rattle.word_mem.specs.Runs.{Run}
use Rattle.word_mem.specs.Free.{longest_run, lowest_run}
use Rattle.mem_runs.specs.Book.{Holding, with_run, take_run}
use Rattle.mem_runs.specs.declared.slots.Slot.{Slot}
use Rattle.mem_runs.specs.declared.slots.Slot.TheVariants.{Empty, Keeps}
use Rattle.drv_table.specs.declared.content.QtdNote.{QtdNote}
use Rattle.drv_table.specs.declared.content.Stage.{Stage}
use Rattle.drv_table.specs.DriverContent.{no_note}
use Rattle.drv_table.specs.Words.{buffer_needs}
use Rattle.drv_table.specs.Harvests.{note_at}
use Rattle.drv_table.specs.Accepting.{take_runs}
use Rattle.drv_table.specs.Offers.{runs_of, note_for, note_stages}
use Rattle.law_driver.specs.run_owners.Accepts.{AreShort}
use Rattle.claims_driver.specs.Owners.{HasRun, NoteRuns, runs_of_note, note_in, IsOneOf}
use Rattle.law_driver.proofs.lemmas.run_owners.Chains.{buffers_of, notes_apart, few_runs}
use Rattle.law_driver_ring.specs.Released.{blocks_of}
use Rattle.law_world.proofs.lemmas.memory.lemmas.owned_blocks.Freed.{Has}

-- ---- the runs that are taken

-- g has no runs but those of h and those that begin in bs, which were taken last
pub record TakesOnly (h g : Holding) (bs : List ℕ) : Type 0 where
  pub taken : g.book.taken ≡ h.book.taken ++ bs
  pub only : (c : ℕ) → Has g c → Has h c ⊎ IsOneOf c bs

pub record TakesSome (h g : Holding) : Type 0 where
  pub blocks : List ℕ
  pub only : TakesOnly h g blocks

one_only : (h : Holding) (r : Run) (c : ℕ) → Has (with_run h r) c → (c ≡ r.first) ⊎ Has h c
one_only h r c run =
    ⊎_elim (λ (same : c ≡ r.first). inl same) (λ (differs : c ≢ r.first). inr (subst (λ (s : Slot). HasRun s) (get_or-set_other h.book.slots r.first c (Keeps r) Empty differs) run))
    (cases_eq c r.first)

run_only : (h g : Holding) (o : Option Run) → option_map (with_run h) o ≡ Some g → (b : ℕ) × (g.book.taken ≡ h.book.taken ++ b ∷ []) × ((c : ℕ) → Has g c → (c ≡ b) ⊎ Has h c)
run_only h g None is = absurd (cc)
run_only h g (Some r) is =
    let same : with_run h r ≡ g = cc in
    (r.first, ap (λ (k : Holding). k.book.taken) (sym same), λ c run. one_only h r c (subst (λ (k : Holding). Has k c) (sym same) run))

abbrev then_runs : Holding → ℕ → List ℕ → Option Holding → Result Holding OfferError
then_runs h n ns o = elim o [ None ↦ Err (errors.NoBlocks n (longest_run h.memory.states)) | Some more ↦ take_runs more ns ]

first_only : (h g : Holding) (n : ℕ) (ns : List ℕ) (o : Option Holding) → take_run h n ≡ o → ((k : Holding) → take_runs k ns ≡ Ok g → TakesSome k g) → then_runs h n ns o ≡ Ok g → TakesSome h g
first_only h g n ns None is rest e = absurd (cc)
first_only h g n ns (Some k) is rest e =
    let one = run_only h k (lowest_run h.memory.states n) is in
    let more = rest k e in
    record {
      blocks = one.0 ∷ more.blocks;
      only = record {
        taken = more.only.taken ∙ ap (λ (ts : List ℕ). ts ++ more.blocks) one.1 ∙ append_assoc h.book.taken (one.0 ∷ []) more.blocks;
        only = λ c run.
            ⊎_elim (λ (was : Has k c). ⊎_elim (λ (same : c ≡ one.0). inr (inl same)) (λ (before : Has h c). inl before) (one.2 c was))
            (λ (among : IsOneOf c more.blocks). inr (inr among)) (more.only.only c run);
      };
    }

takes_some : (h g : Holding) (ns : List ℕ) → take_runs h ns ≡ Ok g → TakesSome h g
takes_some h g [] e =
    record {
      blocks = [];
      only = subst (λ (k : Holding). TakesOnly h k []) (ok_same h g e) (record { taken = sym (append_none h.book.taken); only = λ c run. inl run });
    }
takes_some h g (n ∷ ns) e = first_only h g n ns (take_run h n) refl (λ k f. takes_some k g ns f) e

pub takes_only : (h g : Holding) (ns : List ℕ) → take_runs h ns ≡ Ok g → (c : ℕ) → Has g c → Has h c ⊎ IsOneOf c (drop (length h.book.taken) g.book.taken)
takes_only h g ns e c run =
    let t = takes_some h g ns e in
    let new : drop (length h.book.taken) g.book.taken ≡ t.blocks = ap (drop (length h.book.taken)) t.only.taken ∙ drop_first h.book.taken t.blocks in
    ⊎_elim (λ (was : Has h c). inl was) (λ (among : IsOneOf c t.blocks). inr (subst (IsOneOf c) (sym new) among)) (t.only.only c run)

-- ---- the blocks of new qTDs and of their buffers

pub filled_one : (k m i : ℕ) (xs zs : List ℕ) → k ≤ m → k ≤ length xs → i < k → IsOneOf (get_or xs i 0) (take k (take m (take k xs ++ zs)))
filled_one zero m i xs zs few long below = absurd (omega (arith, below))
filled_one (suc k) zero i xs zs few long below = absurd (omega arith)
filled_one (suc k) (suc m) i [] zs few long below = absurd (omega arith)
filled_one (suc k) (suc m) zero (x ∷ xs) zs few long below = inl refl
filled_one (suc k) (suc m) (suc i) (x ∷ xs) zs few long below = inr (filled_one k m i xs zs (omega arith) (omega arith) (omega arith))

-- the block that begins a chain, and what is behind it
pub record AreNoted (notes : List QtdNote) (b n : ℕ) (qtds runs : List ℕ) (many : ℕ) : Type 0 where
  pub qtd : (i : ℕ) → i < n → IsOneOf (get_or (b ∷ qtds) i 0) (blocks_of (note_in notes) b n)
  pub buffer : (i : ℕ) → i < many → IsOneOf (get_or runs i 0) (blocks_of (note_in notes) b n)

pub are_noted : (notes : List QtdNote) (ss : List Stage) (b : ℕ) (qtds runs : List ℕ) → AreShort ss → ((i : ℕ) → i < length ss → get_or (b ∷ qtds) i 0 < length notes) → ((i j : ℕ) → i < j → j < length ss → get_or (b ∷ qtds) j 0 ≢ get_or (b ∷ qtds) i 0)
    → length (buffers_of ss) ≤ length runs → AreNoted (note_stages notes ss b qtds runs) b (length ss) qtds runs (length (buffers_of ss))
are_noted notes [] b qtds runs short within distinct long = record { qtd = λ i below. absurd (omega (arith, below)); buffer = λ i below. absurd (omega (arith, below)) }
are_noted notes (s ∷ ss) b qtds runs short within distinct long =
    let q = get_or qtds 0 0 in
    let k = runs_of s in
    let one = set notes b (note_for s q runs) in
    let rest = note_stages one ss q (drop 1 qtds) (drop k runs) in
    let here : note_at rest b ≡ note_for s q runs =
    notes_apart one ss q (drop 1 qtds) (drop k runs) b (λ i below same. distinct 0 (suc i) (omega arith) (omega (arith, below)) (sym (next_of qtds i) ∙ same))
    ∙ get_or-set_same notes b (note_for s q runs) no_note (within 0 (omega arith)) in
    let many = length-append (buffer_needs s.long) (buffers_of ss) in
    let more = are_noted one ss q (drop 1 qtds) (drop k runs) short.1
    (λ i below. let n = length-set notes b (note_for s q runs) in let w = within (suc i) (omega (arith, below)) in let e = next_of qtds i in omega (arith, n, w, e))
    (λ i j less below same. distinct (suc i) (suc j) (omega (arith, less)) (omega (arith, below)) (sym (next_of qtds j) ∙ same ∙ next_of qtds i))
    (omega (arith, length-drop k runs, many, long)) in
    let behind : (c : ℕ) → IsOneOf c (blocks_of (note_in rest) q (length ss)) → IsOneOf c (blocks_of (note_in rest) b (suc (length ss))) = λ c among.
    subst (λ (r : NoteRuns). IsOneOf c (b ∷ (r.buffer ++ blocks_of (note_in rest) r.next (length ss)))) (sym (ap runs_of_note here))
    (inr (one_right c (runs_of_note (note_for s q runs)).buffer (blocks_of (note_in rest) q (length ss)) among)) in
    let first : (i : ℕ) → i < k → IsOneOf (get_or runs i 0) (blocks_of (note_in rest) b (suc (length ss))) = λ i below.
    subst (λ (r : NoteRuns). IsOneOf (get_or runs i 0) (b ∷ (r.buffer ++ blocks_of (note_in rest) r.next (length ss)))) (sym (ap runs_of_note here))
    (inr (one_left (get_or runs i 0) (runs_of_note (note_for s q runs)).buffer (blocks_of (note_in rest) q (length ss))
    (filled_one k 5 i runs (replicate 5 0) (few_runs 5 s.long short.0 (omega arith)) (omega (arith, many, long)) below))) in
    record {
      qtd = λ i below. by_place rest q (length ss) (λ j less. subst (λ (c : ℕ). IsOneOf c (blocks_of (note_in rest) q (length ss))) (next_of qtds j) (more.qtd j less)) behind i below;
      buffer = λ i below.
          ⊎_elim (λ (low : i < k). first i low)
          (λ (high : k ≤ i).
          let at : k + (i - k) ≡ i = omega (arith, high) in
          behind (get_or runs i 0)
          (subst (λ (c : ℕ). IsOneOf c (blocks_of (note_in rest) q (length ss))) (get_or-drop k runs (i - k) 0 ∙ ap (λ (j : ℕ). get_or runs j 0) at) (more.buffer (i - k) (omega (arith, below, many, high)))))
          (cases_lt i k);
    }
  where
    by_place : (rest : List QtdNote) (q n : ℕ) → ((j : ℕ) → j < n → IsOneOf (get_or qtds j 0) (blocks_of (note_in rest) q n)) → ((c : ℕ) → IsOneOf c (blocks_of (note_in rest) q n) → IsOneOf c (blocks_of (note_in rest) b (suc n)))
        → (i : ℕ) → i < suc n → IsOneOf (get_or (b ∷ qtds) i 0) (blocks_of (note_in rest) b (suc n))
    by_place rest q n each behind zero below = inl refl
    by_place rest q n each behind (suc i) below = behind (get_or qtds i 0) (each i (omega (arith, below)))

-- ---- taken, or behind what is taken

pub parted : (n c : ℕ) (bs : List ℕ) → IsOneOf c bs → IsOneOf c (take n bs) ⊎ IsOneOf c (drop n bs)
parted zero c bs among = inr among
parted (suc n) c [] among = absurd among
parted (suc n) c (b ∷ bs) (inl same) = inl (inl same)
parted (suc n) c (b ∷ bs) (inr among) = ⊎_elim (λ (l : IsOneOf c (take n bs)). inl (inr l)) (λ (r : IsOneOf c (drop n bs)). inr r) (parted n c bs among)
