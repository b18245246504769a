-- Which slots keep a run, as runs are taken, lent and given back.
use Rattle.std.proofs.Common.{◌≡◌, ◌≢◌, ℕ, zero, suc, ◌==◌, Bool, true, false, ◌||◌, cond, List, [], ◌∷◌, take, reverse, set, Option, Some, None, Result, Ok, Err, option_map, ap, sym, subst, ◌∙◌, ⊎_elim, refl}
use Rattle.std.proofs.lemmas.Bool.{cases_eq, false≢true}
use Rattle.std.proofs.lemmas.List.{reverse-append}
use Rattle.std.proofs.lemmas.List.Folds.{list_any-append}
use Rattle.law_driver.proofs.Common.{ok_same, lends_keeps}
use Rattle.law_common.proofs.Numbers.{same_number, other_number}
use Rattle.usb_base.specs.declared.reports.OfferError.{OfferError}
use Rattle.usb_base.specs.declared.reports.OfferError.TheVariants as errors
use Rattle.word_mem.specs.Runs.{Run}
use Rattle.word_mem.specs.Free.{longest_run, lowest_run}
use Rattle.mem_runs.specs.Book.{Holding, slot_of, slot_at, with_run, take_run, lend_slot, lend_runs, lend_taken, none_taken, release_slot, release_run}
use Rattle.mem_runs.specs.declared.slots.Slot.{Slot}
use Rattle.mem_runs.specs.declared.slots.Slot.TheVariants.{Empty, Keeps, Lends}
use Rattle.drv_periodic_table.specs.declared.content.DescriptorNote.{DescriptorNote}
use Rattle.drv_periodic_table.specs.Periodic.{note_at as descriptor_at}
use Rattle.drv_table.specs.declared.content.Endpoint.{Endpoint}
use Rattle.drv_table.specs.declared.content.Transfer.{Transfer}
use Rattle.drv_table.specs.declared.content.QtdNote.{QtdNote}
use Rattle.drv_table.specs.DriverContent.{DriverContent, waits_for}
use Rattle.drv_table.specs.Harvests.{note_at}
use Rattle.drv_table.specs.Accepting.{take_runs}
use Rattle.drv_table.specs.Kinds.{is_iso}
use Rattle.drv_table.specs.Releases.{free_runs, free_qtd, free_qtds, free_transfers, free_endpoint, is_held_of}
use Rattle.drv_table.specs.Removals.{free_descriptor, free_descriptors, free_placed}
use Rattle.claims_driver.specs.LentRuns.{begins_in}

-- ---- one slot is written, and keeps nothing

pub set_keeps : (xs : List Slot) (i b : ℕ) (s : Slot) (r : Run) → ((q : Run) → s ≡ Keeps q → ⊥) → slot_of (set xs i s) b ≡ Keeps r → slot_of xs b ≡ Keeps r
set_keeps [] i b s r none is = is
set_keeps (x ∷ xs) zero zero s r none is = absurd (none r is)
set_keeps (x ∷ xs) zero (suc b) s r none is = is
set_keeps (x ∷ xs) (suc i) zero s r none is = is
set_keeps (x ∷ xs) (suc i) (suc b) s r none is = set_keeps xs i b s r none is

pub empty_keeps : (q : Run) → Empty ≡ Keeps q → ⊥
empty_keeps q is = cc

-- ---- giving back

-- no more slots keep a run, and the runs taken last are the same
pub record FreesOnly (h g : Holding) : Type 0 where
  pub taken : g.book.taken ≡ h.book.taken
  pub kept : (b : ℕ) (r : Run) → slot_of g.book.slots b ≡ Keeps r → slot_of h.book.slots b ≡ Keeps r

frees_none : (h : Holding) → FreesOnly h h
frees_none h = record { taken = refl; kept = λ b r is. is }

frees_both : (h g k : Holding) → FreesOnly h g → FreesOnly g k → FreesOnly h k
frees_both h g k one two = record { taken = two.taken ∙ one.taken; kept = λ b r is. one.kept b r (two.kept b r is) }

frees_slot : (h : Holding) (b : ℕ) (s : Slot) → FreesOnly h (release_slot h b s)
frees_slot h b (Lends r) = record { taken = refl; kept = λ c q is. set_keeps h.book.slots b c Empty q empty_keeps is }
frees_slot h b _ = frees_none h

pub frees_runs : (h : Holding) (bs : List ℕ) → FreesOnly h (free_runs h bs)
frees_runs h [] = frees_none h
frees_runs h (b ∷ bs) = frees_both h (release_run h b) (free_runs (release_run h b) bs) (frees_slot h b (slot_at h b)) (frees_runs (release_run h b) bs)

pub frees_qtds : (notes : List QtdNote) (h : Holding) (b n : ℕ) → FreesOnly h (free_qtds notes h b n)
unfolding free_qtds
frees_qtds notes h b zero = frees_none h
frees_qtds notes h b (suc n) =
    let g = free_qtd h b (note_at notes b) in
    frees_both h g (free_qtds notes g (note_at notes b).next n) (frees_runs h (b ∷ take (note_at notes b).runs (note_at notes b).buffer)) (frees_qtds notes g (note_at notes b).next n)

frees_held : (b : Bool) (h g : Holding) → FreesOnly h g → FreesOnly h (cond b g h)
frees_held true h g one = one
frees_held false h g one = frees_none h

frees_transfers : (notes : List QtdNote) (e : ℕ) (h : Holding) (ts : List Transfer) → FreesOnly h (free_transfers notes e h ts)
unfolding free_transfers
frees_transfers notes e h [] = frees_none h
frees_transfers notes e h (t ∷ ts) =
    let g = free_qtds notes h t.first t.qtds in
    let next = cond (is_held_of e t) g h in
    frees_both h next (free_transfers notes e next ts) (frees_held (is_held_of e t) h g (frees_qtds notes h t.first t.qtds)) (frees_transfers notes e next ts)

pub frees_endpoint : (d : DriverContent) (e : ℕ) (x : Endpoint) (h : Holding) → FreesOnly h (free_endpoint d e x h)
frees_endpoint d e x h =
    let g = free_runs h (x.queue ∷ x.dummy ∷ []) in
    frees_both h g (free_endpoint d e x h) (frees_runs h (x.queue ∷ x.dummy ∷ [])) (frees_transfers d.notes e g d.transfers)

pub frees_descriptor : (notes : List DescriptorNote) (h : Holding) (b : ℕ) → FreesOnly h (free_descriptor notes h b)
frees_descriptor notes h b = frees_runs h (b ∷ take (descriptor_at notes b).runs (descriptor_at notes b).buffer)

frees_descriptors : (notes : List DescriptorNote) (e : ℕ) (h : Holding) (ts : List Transfer) → FreesOnly h (free_descriptors notes e h ts)
unfolding free_descriptors
frees_descriptors notes e h [] = frees_none h
frees_descriptors notes e h (t ∷ ts) =
    let g = free_descriptor notes h t.first in
    let next = cond (waits_for e t) g h in
    frees_both h next (free_descriptors notes e next ts) (frees_held (waits_for e t) h g (frees_descriptor notes h t.first)) (frees_descriptors notes e next ts)

pub frees_placed : (d : DriverContent) (e : ℕ) (x : Endpoint) (h : Holding) → FreesOnly h (free_placed d e x h)
frees_placed d e x h = at (is_iso x.desc.kind)
  where
    at : (b : Bool) → FreesOnly h (cond b (free_descriptors d.periodic.notes e h d.transfers) (free_endpoint d e x h))
    at true = frees_descriptors d.periodic.notes e h d.transfers
    at false = frees_endpoint d e x h

-- ---- lending

or_none : (a b : Bool) → b || a ≡ a || b
or_none true true = refl
or_none true false = refl
or_none false true = refl
or_none false false = refl

any_reversed : (b : ℕ) (bs : List ℕ) → begins_in b (reverse bs) ≡ begins_in b bs
any_reversed b [] = refl
any_reversed b (c ∷ bs) =
    ap (begins_in b) (reverse-append (c ∷ []) bs) ∙ list_any-append (λ k. k == b) (reverse bs) (c ∷ []) ∙ ap (λ t. t || ((c == b) || false)) (any_reversed b bs) ∙ last (begins_in b bs) (c == b)
  where
    last : (s t : Bool) → s || (t || false) ≡ t || s
    last true true = refl
    last true false = refl
    last false true = refl
    last false false = refl

one_lent : (h : Holding) (b c : ℕ) (s : Slot) (r : Run) → slot_of h.book.slots b ≡ s → slot_of (lend_slot h b s).book.slots c ≡ Keeps r → (slot_of h.book.slots c ≡ Keeps r) × (c ≢ b)
one_lent h b c Empty r there is = (is, λ same. empty_keeps r (sym there ∙ ap (slot_of h.book.slots) (sym same) ∙ is))
one_lent h b c (Lends q) r there is = (is, λ same. lends_keeps q r (sym there ∙ ap (slot_of h.book.slots) (sym same) ∙ is))
one_lent h b c (Keeps q) r there is =
    let was = set_keeps h.book.slots b c (Lends q) r (lends_keeps q) is in
    (was, λ same. not_lent h.book.slots b q r (sym (ap (slot_of h.book.slots) same) ∙ was) (ap (slot_of (set h.book.slots b (Lends q))) (sym same) ∙ is))
  where
    not_lent : (xs : List Slot) (i : ℕ) (q r : Run) → slot_of xs i ≡ Keeps r → slot_of (set xs i (Lends q)) i ≡ Keeps r → ⊥
    not_lent [] i q r there now = empty_keeps r there
    not_lent (x ∷ xs) zero q r there now = lends_keeps q r now
    not_lent (x ∷ xs) (suc i) q r there now = not_lent xs i q r there now

runs_lent : (h : Holding) (bs : List ℕ) (c : ℕ) (r : Run) → slot_of (lend_runs h bs).book.slots c ≡ Keeps r → (slot_of h.book.slots c ≡ Keeps r) × (begins_in c bs ≡ false)
unfolding lend_runs
runs_lent h [] c r is = (is, refl)
runs_lent h (b ∷ bs) c r is =
    let rest = runs_lent (lend_slot h b (slot_at h b)) bs c r is in
    let one = one_lent h b c (slot_at h b) r refl rest.0 in
    (one.0, ap (λ t. t || begins_in c bs) (other_number b c (λ same. one.1 (sym same))) ∙ rest.1)

slot_taken : (h : Holding) (b : ℕ) (s : Slot) → (lend_slot h b s).book.taken ≡ h.book.taken
slot_taken h b Empty = refl
slot_taken h b _ = refl

runs_taken : (h : Holding) (bs : List ℕ) → (lend_runs h bs).book.taken ≡ h.book.taken
unfolding lend_runs
runs_taken h [] = refl
runs_taken h (b ∷ bs) = runs_taken (lend_slot h b (slot_at h b)) bs ∙ slot_taken h b (slot_at h b)

-- a slot that keeps a run keeps one that was taken last
abbrev pub KeepsTaken : Holding → Type 0
KeepsTaken h = (b : ℕ) (r : Run) → slot_of h.book.slots b ≡ Keeps r → begins_in b h.book.taken ≡ true

pub all_lent : (h : Holding) → KeepsTaken h → (b : ℕ) (r : Run) → slot_of (lend_taken h).book.slots b ≡ Keeps r → ⊥
all_lent h kept b r is =
    let was = runs_lent (none_taken h) (reverse h.book.taken) b r is in
    false≢true (sym was.1 ∙ any_reversed b h.book.taken ∙ kept b r was.0)

pub none_left : (h : Holding) → (lend_taken h).book.taken ≡ []
none_left h = runs_taken (none_taken h) (reverse h.book.taken)

-- ---- taking

one_taken : (h : Holding) (r : Run) → KeepsTaken h → KeepsTaken (with_run h r)
one_taken h r kept b q is =
    list_any-append (λ c. c == b) h.book.taken (r.first ∷ [])
    ∙ ⊎_elim (λ (same : b ≡ r.first). any_last (begins_in b h.book.taken) (r.first == b) (ap (λ k. k == b) (sym same) ∙ same_number b))
    (λ (differs : b ≢ r.first). ap (λ t. t || ((r.first == b) || false)) (kept b q (other_slot h.book.slots r.first b differs q is))) (cases_eq b r.first)
  where
    any_last : (s t : Bool) → t ≡ true → s || (t || false) ≡ true
    any_last true t on = refl
    any_last false true on = refl
    any_last false false on = on

    other_slot : (xs : List Slot) (i c : ℕ) → c ≢ i → (k : Run) → slot_of (set xs i (Keeps r)) c ≡ Keeps k → slot_of xs c ≡ Keeps k
    other_slot [] i c differs k now = now
    other_slot (x ∷ xs) zero zero differs k now = absurd (differs refl)
    other_slot (x ∷ xs) zero (suc c) differs k now = now
    other_slot (x ∷ xs) (suc i) zero differs k now = now
    other_slot (x ∷ xs) (suc i) (suc c) differs k now = other_slot xs i c (λ same. differs (ap suc same)) k now

run_taken : (h g : Holding) (o : Option Run) → KeepsTaken h → option_map (with_run h) o ≡ Some g → KeepsTaken g
run_taken h g None kept is = absurd (cc)
run_taken h g (Some r) kept is =
    let same : with_run h r ≡ g = cc in
    subst KeepsTaken same (one_taken h r kept)

abbrev then_runs : Holding → ℕ → List ℕ → Option Holding → Result Holding OfferError
then_runs h n ns o = elim o [ None ↦ Err (errors.NoBlocks n (longest_run h.memory.states)) | Some more ↦ take_runs more ns ]

first_taken : (h g : Holding) (n : ℕ) (ns : List ℕ) (o : Option Holding) → take_run h n ≡ o → KeepsTaken h → ((k : Holding) → KeepsTaken k → take_runs k ns ≡ Ok g → KeepsTaken g) → then_runs h n ns o ≡ Ok g → KeepsTaken g
first_taken h g n ns None is kept rest e = absurd (cc)
first_taken h g n ns (Some k) is kept rest e = rest k (run_taken h k (lowest_run h.memory.states n) kept is) e

pub keeps_taken : (h g : Holding) (ns : List ℕ) → KeepsTaken h → take_runs h ns ≡ Ok g → KeepsTaken g
keeps_taken h g [] kept e = subst KeepsTaken (ok_same h g e) kept
keeps_taken h g (n ∷ ns) kept e = first_taken h g n ns (take_run h n) refl kept (λ k more f. keeps_taken k g ns more f) e
