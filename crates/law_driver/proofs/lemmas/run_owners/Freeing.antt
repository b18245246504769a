-- Which slots of the book change as runs are lent and given back: no others than those that are named.
use Rattle.std.proofs.Common.{◌≡◌, ◌≢◌, ℕ, zero, suc, Bool, true, false, cond, List, [], ◌∷◌, take, reverse, set, slice_get, Some, ap, sym, subst, ◌∙◌, ⊎_elim, refl}
use Rattle.std.specs.List.{AllByRecursion}
use Rattle.std.proofs.lemmas.Bool.{cases_eq, false≢true}
use Rattle.std.proofs.lemmas.List.{get_or-set_same, get_or-set_other}
use Rattle.mem_runs.specs.Book.{Holding, slot_of, slot_at, lend_slot, lend_runs, lend_taken, none_taken, release_slot, release_run}
use Rattle.mem_runs.specs.declared.slots.Slot.{Slot}
use Rattle.mem_runs.specs.declared.slots.Slot.TheVariants.{Empty, Keeps, Lends}
use Rattle.word_mem.specs.Runs.{Run}
use Rattle.drv_table.specs.declared.content.QtdNote.{QtdNote}
use Rattle.drv_table.specs.declared.content.Transfer.{Transfer}
use Rattle.drv_table.specs.DriverContent.{waits_for}
use Rattle.drv_table.specs.Harvests.{note_at}
use Rattle.drv_periodic_table.specs.declared.content.DescriptorNote.{DescriptorNote}
use Rattle.drv_table.specs.Releases.{free_runs, free_qtd, free_qtds, free_transfers, is_held_of}
use Rattle.drv_table.specs.Removals.{free_descriptor, free_descriptors}
use Rattle.mem_runs.proofs.Standing.{keeps_within}
use Rattle.claims_driver.specs.Owners.{Owner, FrameList, Element, Described, Buffer, IsRunFor, IsPlaced, note_in, descriptor_in, ArePieces, IsDescribed}

-- ---- lending

lent_run : (o : Owner) (r : Run) → IsRunFor o (Keeps r) → IsRunFor o (Lends r)
lent_run FrameList r h = h
lent_run _ r h = h

lent_slot : (h : Holding) (b c : ℕ) (o : Owner) (s : Slot) → slot_of h.book.slots b ≡ s → IsRunFor o (slot_of h.book.slots c) → IsRunFor o (slot_of (lend_slot h b s).book.slots c)
lent_slot h b c o (Keeps r) there run =
    ⊎_elim (λ (same : c ≡ b).
    let was : IsRunFor o (Keeps r) = subst (λ (s : Slot). IsRunFor o s) there (subst (λ k. IsRunFor o (slot_of h.book.slots k)) same run) in
    subst (λ k. IsRunFor o (slot_of (set h.book.slots b (Lends r)) k)) (sym same)
    (subst (λ (s : Slot). IsRunFor o s) (sym (get_or-set_same h.book.slots b (Lends r) Empty (keeps_within h.book.slots b r there))) (lent_run o r was)))
    (λ (differs : c ≢ b). subst (λ (s : Slot). IsRunFor o s) (sym (get_or-set_other h.book.slots b c (Lends r) Empty differs)) run)
    (cases_eq c b)
lent_slot h b c o _ there run = run

lent_runs : (h : Holding) (bs : List ℕ) (c : ℕ) (o : Owner) → IsRunFor o (slot_of h.book.slots c) → IsRunFor o (slot_of (lend_runs h bs).book.slots c)
unfolding lend_runs
lent_runs h [] c o run = run
lent_runs h (b ∷ bs) c o run = lent_runs (lend_slot h b (slot_at h b)) bs c o (lent_slot h b c o (slot_at h b) refl run)

pub runs_lent : (h : Holding) (c : ℕ) (o : Owner) → IsRunFor o (slot_of h.book.slots c) → IsRunFor o (slot_of (lend_taken h).book.slots c)
runs_lent h c o run = lent_runs (none_taken h) (reverse h.book.taken) c o run

-- ---- giving back

free_slot : (h : Holding) (b c : ℕ) (s : Slot) → c ≢ b → slot_of (release_slot h b s).book.slots c ≡ slot_of h.book.slots c
free_slot h b c (Lends r) differs = get_or-set_other h.book.slots b c Empty Empty differs
free_slot h b c _ differs = refl

pub runs_freed : (h : Holding) (bs : List ℕ) (c : ℕ) → AllByRecursion (λ b. c ≢ b) bs → slot_of (free_runs h bs).book.slots c ≡ slot_of h.book.slots c
runs_freed h [] c differ = refl
runs_freed h (b ∷ bs) c differ =
    runs_freed (release_run h b) bs c differ.1 ∙ free_slot h b c (slot_at h b) differ.0

-- a block of another owner is none of these
differs_by : (owner : ℕ → Owner) (goes : Owner → Bool) (c b : ℕ) (o : Owner) → goes (owner c) ≡ false → goes o ≡ true → owner b ≡ o → c ≢ b
differs_by owner goes c b o stays gone is same =
    false≢true (sym stays ∙ ap (λ k. goes (owner k)) same ∙ ap goes is ∙ gone)

all_differ : (slot : ℕ → Slot) (owner : ℕ → Owner) (goes : Owner → Bool) (c : ℕ) (o : Owner) (bs : List ℕ) → goes (owner c) ≡ false → goes o ≡ true → AllByRecursion (λ b. IsPlaced slot owner b o) bs → AllByRecursion (λ b. c ≢ b) bs
all_differ slot owner goes c o [] stays gone all = tt
all_differ slot owner goes c o (b ∷ bs) stays gone all =
    (differs_by owner goes c b o stays gone all.0.owned, all_differ slot owner goes c o bs stays gone all.1)

pub qtds_freed : (slot : ℕ → Slot) (owner : ℕ → Owner) (goes : Owner → Bool) (notes : List QtdNote) (h : Holding) (t b n c : ℕ) → goes (owner c) ≡ false → goes (Element t) ≡ true → goes (Buffer t) ≡ true → ArePieces slot owner (note_in notes) t b n → slot_of (free_qtds notes h b n).book.slots c ≡ slot_of h.book.slots c
unfolding free_qtds
qtds_freed slot owner goes notes h t b zero c stays element buffer pieces = refl
qtds_freed slot owner goes notes h t b (suc n) c stays element buffer pieces =
    qtds_freed slot owner goes notes (free_qtd h b (note_at notes b)) t (note_at notes b).next n c stays element buffer pieces.1
    ∙ runs_freed h (b ∷ take (note_at notes b).runs (note_at notes b).buffer) c
    (differs_by owner goes c b (Element t) stays element pieces.0.element.owned, all_differ slot owner goes c (Buffer t) (note_in notes b).buffer stays buffer pieces.0.buffers)

held_freed : (b : Bool) (h g : Holding) (c : ℕ) → (b ≡ true → slot_of g.book.slots c ≡ slot_of h.book.slots c) → slot_of (cond b g h).book.slots c ≡ slot_of h.book.slots c
held_freed true h g c same = same refl
held_freed false h g c same = refl

-- the transfers of an endpoint, each with its number
pub transfers_freed : (slot : ℕ → Slot) (owner : ℕ → Owner) (goes : Owner → Bool) (notes : List QtdNote) (e c k : ℕ) (h : Holding) (ts : List Transfer) → goes (owner c) ≡ false → ((i : ℕ) (y : Transfer) → slice_get ts i ≡ Some y → is_held_of e y ≡ true → (t : ℕ) × (goes (Element t) ≡ true) × (goes (Buffer t) ≡ true) × ArePieces slot owner (note_in notes) t y.first y.qtds) → slot_of (free_transfers notes e h ts).book.slots c ≡ slot_of h.book.slots c
unfolding free_transfers
transfers_freed slot owner goes notes e c k h [] stays each = refl
transfers_freed slot owner goes notes e c k h (y ∷ ts) stays each =
    let next = cond (is_held_of e y) (free_qtds notes h y.first y.qtds) h in
    transfers_freed slot owner goes notes e c (suc k) next ts stays (λ i z there held. each (suc i) z there held)
    ∙ held_freed (is_held_of e y) h (free_qtds notes h y.first y.qtds) c
    (λ held. let p = each 0 y refl held in qtds_freed slot owner goes notes h p.0 y.first y.qtds c stays p.1 p.2 p.3)

-- ---- descriptors

pub descriptor_freed : (slot : ℕ → Slot) (owner : ℕ → Owner) (goes : Owner → Bool) (notes : List DescriptorNote) (h : Holding) (t b c : ℕ) → goes (owner c) ≡ false → ((split : Bool) → goes (Described split t) ≡ true) → goes (Buffer t) ≡ true → IsDescribed slot owner (descriptor_in notes b) t b → slot_of (free_descriptor notes h b).book.slots c ≡ slot_of h.book.slots c
descriptor_freed slot owner goes notes h t b c stays descriptor buffer is =
    let note = descriptor_in notes b in
    runs_freed h (b ∷ note.buffer) c (differs_by owner goes c b (Described note.split t) stays (descriptor note.split) is.descriptor.owned, all_differ slot owner goes c (Buffer t) note.buffer stays buffer is.buffers)

-- the descriptors that wait at an endpoint
pub descriptors_freed : (slot : ℕ → Slot) (owner : ℕ → Owner) (goes : Owner → Bool) (notes : List DescriptorNote) (e c : ℕ) (h : Holding) (ts : List Transfer) → goes (owner c) ≡ false → ((i : ℕ) (y : Transfer) → slice_get ts i ≡ Some y → waits_for e y ≡ true → (t : ℕ) × ((split : Bool) → goes (Described split t) ≡ true) × (goes (Buffer t) ≡ true) × IsDescribed slot owner (descriptor_in notes y.first) t y.first) → slot_of (free_descriptors notes e h ts).book.slots c ≡ slot_of h.book.slots c
unfolding free_descriptors
descriptors_freed slot owner goes notes e c h [] stays each = refl
descriptors_freed slot owner goes notes e c h (y ∷ ts) stays each =
    let next = cond (waits_for e y) (free_descriptor notes h y.first) h in
    descriptors_freed slot owner goes notes e c next ts stays (λ i z there waits. each (suc i) z there waits)
    ∙ held_freed (waits_for e y) h (free_descriptor notes h y.first) c
    (λ waits. let p = each 0 y refl waits in descriptor_freed slot owner goes notes h p.0 y.first c stays p.1 p.2 p.3)
