-- What is given back, from a book whose runs are all lent, isn't in the book any more; all else that is there was there.
use Rattle.std.proofs.Common.{◌≡◌, ◌≢◌, ℕ, zero, suc, Bool, true, false, cond, List, [], ◌∷◌, reverse, set, slice_get, Some, ap, refl, sym, subst, ◌∙◌, ⊎_elim, inl, inr}
use Rattle.std.specs.Prelude.{◌⊎◌}
use Rattle.std.proofs.lemmas.Bool.{cases_eq, false≢true}
use Rattle.std.proofs.lemmas.List.{get_or-set_same, get_or-set_other}
use Rattle.law_common.proofs.Options.{same_Some}
use Rattle.word_mem.specs.Runs.{Run}
use Rattle.mem_runs.specs.Book.{Holding, slot_of, slot_at, lend_slot, lend_runs, lend_taken, none_taken, release_slot, release_run}
use Rattle.mem_runs.specs.declared.slots.Slot.{Slot}
use Rattle.mem_runs.specs.declared.slots.Slot.TheVariants.{Empty, Keeps, Lends}
use Rattle.mem_runs.proofs.Standing.{lends_within}
use Rattle.drv_periodic_table.specs.declared.content.DescriptorNote.{DescriptorNote}
use Rattle.drv_table.specs.declared.content.QtdNote.{QtdNote}
use Rattle.drv_table.specs.declared.content.Transfer.{Transfer}
use Rattle.drv_table.specs.DriverContent.{waits_for}
use Rattle.drv_table.specs.Releases.{free_runs, free_qtds, free_transfers, is_held_of}
use Rattle.drv_table.specs.Removals.{free_descriptor, free_descriptors}
use Rattle.claims_driver.specs.Owners.{HasRun, note_in, descriptor_in, IsOneOf}
use Rattle.law_driver_ring.specs.Released.{blocks_of}
use Rattle.law_driver_ring.proofs.Blocks.{qtds_are_runs}

abbrev pub Has : Holding → ℕ → Type 0
Has h c = HasRun (slot_of h.book.slots c)

-- ---- lending

slot_back : (h : Holding) (b c : ℕ) (s : Slot) → slot_of h.book.slots b ≡ s → Has (lend_slot h b s) c → Has h c
slot_back h b c (Keeps r) there run =
    ⊎_elim (λ (same : c ≡ b). subst (λ (s : Slot). HasRun s) (sym (ap (slot_of h.book.slots) same ∙ there)) tt)
    (λ (differs : c ≢ b). subst (λ (s : Slot). HasRun s) (get_or-set_other h.book.slots b c (Lends r) Empty differs) run)
    (cases_eq c b)
slot_back h b c _ there run = run

runs_back : (h : Holding) (bs : List ℕ) (c : ℕ) → Has (lend_runs h bs) c → Has h c
unfolding lend_runs
runs_back h [] c run = run
runs_back h (b ∷ bs) c run = slot_back h b c (slot_at h b) refl (runs_back (lend_slot h b (slot_at h b)) bs c run)

pub lent_back : (h : Holding) (c : ℕ) → Has (lend_taken h) c → Has h c
lent_back h c run = runs_back (none_taken h) (reverse h.book.taken) c run

-- ---- giving back

abbrev pub HasNoneKept : Holding → Type 0
HasNoneKept h = (b : ℕ) (r : Run) → slot_of h.book.slots b ≡ Keeps r → ⊥

-- each slot of g is as in h, or has nothing
abbrev pub IsLess : Holding → Holding → Type 0
IsLess h g = (c : ℕ) → (slot_of g.book.slots c ≡ slot_of h.book.slots c) ⊎ (slot_of g.book.slots c ≡ Empty)

abbrev pub Gone : Holding → ℕ → Type 0
Gone h c = Has h c → ⊥

pub less_self : (h : Holding) → IsLess h h
less_self h c = inl refl

pub less_both : (h g k : Holding) → IsLess h g → IsLess g k → IsLess h k
less_both h g k one two c =
    ⊎_elim
    (λ (same : slot_of k.book.slots c ≡ slot_of g.book.slots c).
    ⊎_elim (λ (was : slot_of g.book.slots c ≡ slot_of h.book.slots c). inl (same ∙ was)) (λ (none : slot_of g.book.slots c ≡ Empty). inr (same ∙ none)) (one c))
    (λ (none : slot_of k.book.slots c ≡ Empty). inr none) (two c)

pub less_has : (h g : Holding) (c : ℕ) → IsLess h g → Has g c → Has h c
less_has h g c less run =
    ⊎_elim (λ (same : slot_of g.book.slots c ≡ slot_of h.book.slots c). subst (λ (s : Slot). HasRun s) same run)
    (λ (none : slot_of g.book.slots c ≡ Empty). absurd (subst (λ (s : Slot). HasRun s) none run)) (less c)

pub less_gone : (h g : Holding) (c : ℕ) → IsLess h g → Gone h c → Gone g c
less_gone h g c less gone run = gone (less_has h g c less run)

empty_keeps : (s : Slot) (r : Run) → s ≡ Empty → s ≡ Keeps r → ⊥
empty_keeps s r none keeps = cc

pub less_none : (h g : Holding) → IsLess h g → HasNoneKept h → HasNoneKept g
less_none h g less none b r keeps =
    ⊎_elim (λ (same : slot_of g.book.slots b ≡ slot_of h.book.slots b). none b r (sym same ∙ keeps))
    (λ (empty : slot_of g.book.slots b ≡ Empty). empty_keeps (slot_of g.book.slots b) r empty keeps) (less b)

slot_less : (h : Holding) (b : ℕ) (s : Slot) → slot_of h.book.slots b ≡ s → IsLess h (release_slot h b s)
slot_less h b (Lends r) is c =
    ⊎_elim
    (λ (same : c ≡ b). inr (ap (slot_of (set h.book.slots b Empty)) same ∙ get_or-set_same h.book.slots b Empty Empty (lends_within h.book.slots b r is)))
    (λ (differs : c ≢ b). inl (get_or-set_other h.book.slots b c Empty Empty differs)) (cases_eq c b)
slot_less h b _ is c = inl refl

slot_gone : (h : Holding) (b : ℕ) (s : Slot) → HasNoneKept h → slot_of h.book.slots b ≡ s → Gone (release_slot h b s) b
slot_gone h b Empty none is run = subst (λ (s : Slot). HasRun s) is run
slot_gone h b (Keeps r) none is run = none b r is
slot_gone h b (Lends r) none is run = subst (λ (s : Slot). HasRun s) (get_or-set_same h.book.slots b Empty Empty (lends_within h.book.slots b r is)) run

pub runs_less : (h : Holding) (bs : List ℕ) → IsLess h (free_runs h bs)
runs_less h [] = less_self h
runs_less h (b ∷ bs) = less_both h (release_run h b) (free_runs (release_run h b) bs) (slot_less h b (slot_at h b) refl) (runs_less (release_run h b) bs)

pub runs_gone : (h : Holding) (bs : List ℕ) (c : ℕ) → HasNoneKept h → IsOneOf c bs → Gone (free_runs h bs) c
runs_gone h [] c none among = absurd among
runs_gone h (b ∷ bs) c none (inl same) =
    less_gone (release_run h b) (free_runs (release_run h b) bs) c (runs_less (release_run h b) bs)
    (subst (λ (k : ℕ). Gone (release_run h b) k) (sym same) (slot_gone h b (slot_at h b) none refl))
runs_gone h (b ∷ bs) c none (inr among) = runs_gone (release_run h b) bs c (less_none h (release_run h b) (slot_less h b (slot_at h b) refl) none) among

-- ---- qTDs

pub qtds_less : (notes : List QtdNote) (h : Holding) (b n : ℕ) → IsLess h (free_qtds notes h b n)
qtds_less notes h b n = subst (λ (g : Holding). IsLess h g) (sym (qtds_are_runs notes h b n)) (runs_less h (blocks_of (note_in notes) b n))

pub qtds_gone : (notes : List QtdNote) (h : Holding) (b n c : ℕ) → HasNoneKept h → IsOneOf c (blocks_of (note_in notes) b n) → Gone (free_qtds notes h b n) c
qtds_gone notes h b n c none among = subst (λ (g : Holding). Gone g c) (sym (qtds_are_runs notes h b n)) (runs_gone h (blocks_of (note_in notes) b n) c none among)

-- ---- one after the other, where a test says so

when_less : (b : Bool) (h g : Holding) → IsLess h g → IsLess h (cond b g h)
when_less true h g less = less
when_less false h g less = less_self h

when_gone : (b : Bool) (h g : Holding) (c : ℕ) → b ≡ true → Gone g c → Gone (cond b g h) c
when_gone true h g c on gone = gone
when_gone false h g c on gone = absurd (false≢true on)

pub transfers_less : (notes : List QtdNote) (e : ℕ) (h : Holding) (ts : List Transfer) → IsLess h (free_transfers notes e h ts)
unfolding free_transfers
transfers_less notes e h [] = less_self h
transfers_less notes e h (y ∷ ts) =
    let g = cond (is_held_of e y) (free_qtds notes h y.first y.qtds) h in
    less_both h g (free_transfers notes e g ts) (when_less (is_held_of e y) h (free_qtds notes h y.first y.qtds) (qtds_less notes h y.first y.qtds)) (transfers_less notes e g ts)

pub transfers_gone : (notes : List QtdNote) (e : ℕ) (h : Holding) (ts : List Transfer) (t c : ℕ) (y : Transfer) → HasNoneKept h → slice_get ts t ≡ Some y → is_held_of e y ≡ true → IsOneOf c (blocks_of (note_in notes) y.first y.qtds)
    → Gone (free_transfers notes e h ts) c
unfolding free_transfers
transfers_gone notes e h [] t c y none there held among = absurd (cc)
transfers_gone notes e h (x ∷ ts) zero c y none there held among =
    let g = cond (is_held_of e x) (free_qtds notes h x.first x.qtds) h in
    let same : y ≡ x = sym (same_Some x y there) in
    less_gone g (free_transfers notes e g ts) c (transfers_less notes e g ts)
    (when_gone (is_held_of e x) h (free_qtds notes h x.first x.qtds) c (ap (is_held_of e) (sym same) ∙ held)
    (qtds_gone notes h x.first x.qtds c none (subst (λ (z : Transfer). IsOneOf c (blocks_of (note_in notes) z.first z.qtds)) same among)))
transfers_gone notes e h (x ∷ ts) (suc t) c y none there held among =
    let g = cond (is_held_of e x) (free_qtds notes h x.first x.qtds) h in
    transfers_gone notes e g ts t c y
    (less_none h g (when_less (is_held_of e x) h (free_qtds notes h x.first x.qtds) (qtds_less notes h x.first x.qtds)) none) there held among

-- ---- descriptors

pub descriptors_less : (notes : List DescriptorNote) (e : ℕ) (h : Holding) (ts : List Transfer) → IsLess h (free_descriptors notes e h ts)
unfolding free_descriptors
descriptors_less notes e h [] = less_self h
descriptors_less notes e h (y ∷ ts) =
    let g = cond (waits_for e y) (free_descriptor notes h y.first) h in
    less_both h g (free_descriptors notes e g ts) (when_less (waits_for e y) h (free_descriptor notes h y.first) (runs_less h (y.first ∷ (descriptor_in notes y.first).buffer))) (descriptors_less notes e g ts)

pub descriptors_gone : (notes : List DescriptorNote) (e : ℕ) (h : Holding) (ts : List Transfer) (t c : ℕ) (y : Transfer) → HasNoneKept h → slice_get ts t ≡ Some y → waits_for e y ≡ true → IsOneOf c (y.first ∷ (descriptor_in notes y.first).buffer)
    → Gone (free_descriptors notes e h ts) c
unfolding free_descriptors
descriptors_gone notes e h [] t c y none there waits among = absurd (cc)
descriptors_gone notes e h (x ∷ ts) zero c y none there waits among =
    let g = cond (waits_for e x) (free_descriptor notes h x.first) h in
    let same : y ≡ x = sym (same_Some x y there) in
    less_gone g (free_descriptors notes e g ts) c (descriptors_less notes e g ts)
    (when_gone (waits_for e x) h (free_descriptor notes h x.first) c (ap (waits_for e) (sym same) ∙ waits)
    (runs_gone h (x.first ∷ (descriptor_in notes x.first).buffer) c none (subst (λ (z : Transfer). IsOneOf c (z.first ∷ (descriptor_in notes z.first).buffer)) same among)))
descriptors_gone notes e h (x ∷ ts) (suc t) c y none there waits among =
    let g = cond (waits_for e x) (free_descriptor notes h x.first) h in
    descriptors_gone notes e g ts t c y
    (less_none h g (when_less (waits_for e x) h (free_descriptor notes h x.first) (runs_less h (x.first ∷ (descriptor_in notes x.first).buffer))) none) there waits among
