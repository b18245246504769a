-- The runs that are given back are Free, whatever else is given back.
use Rattle.std.proofs.Common.{◌≡◌, ◌≢◌, ℕ, zero, suc, ◌+◌, ◌≤◌, Bool, true, false, if◌then◌else◌, List, [], ◌∷◌, length, take, set, slice_get, Option, Some, inl, inr, ap, refl, sym, subst, ◌∙◌, ⊎_elim}
use Rattle.std.specs.Prelude.{◌⊎◌}
use Rattle.std.proofs.lemmas.Bool.{cases_eq, false≢true}
use Rattle.std.proofs.lemmas.List.{get_or-set_same, get_or-set_other}
use Rattle.law_common.proofs.Options.{same_Some}
use Rattle.word_mem.specs.Memory.{Mem, filled}
use Rattle.word_mem.specs.Runs.{Run}
use Rattle.word_mem.specs.Owners.{has_block}
use Rattle.word_mem.specs.declared.blocks.BlockState.{BlockState}
use Rattle.word_mem.specs.declared.blocks.BlockState.TheVariants.{Free}
use Rattle.word_mem.proofs.Filled.{length-filled, slice_get-filled_inside, slice_get-filled_before, slice_get-filled_after}
use Rattle.word_mem.proofs.Holders.{has_block_is, has_block_not}
use Rattle.mem_runs.specs.Book.{Holding, slot_of, release_slot, release_run}
use Rattle.mem_runs.specs.declared.slots.Slot.{Slot}
use Rattle.mem_runs.specs.declared.slots.Slot.TheVariants.{Empty, Keeps, Lends}
use Rattle.mem_runs.proofs.Standing.{lends_within}
use Rattle.drv_periodic_table.specs.declared.content.DescriptorNote.{DescriptorNote}
use Rattle.drv_table.specs.declared.content.QtdNote.{QtdNote}
use Rattle.drv_table.specs.declared.content.Transfer.{Transfer}
use Rattle.drv_table.specs.DriverContent.{waits_for}
use Rattle.drv_table.specs.Harvests.{note_at}
use Rattle.drv_table.specs.Releases.{free_runs, free_qtd, free_qtds, free_transfers, is_held_of}
use Rattle.drv_table.specs.Removals.{free_descriptor, free_descriptors}
use Rattle.claims_driver.specs.Owners.{NoteRuns, note_in, descriptor_in}
use Rattle.claims_driver.specs.Released.{IsSlotFreed, AreFreed, ArePiecesFreed}

-- ---- what is Free stays

abbrev Stays : Mem → Mem → Type 0
Stays m new = (k : ℕ) → slice_get m.states k ≡ Some Free → slice_get new.states k ≡ Some Free

slot_stays : (s : Slot) (m new : Mem) → Stays m new → IsSlotFreed s m → IsSlotFreed s new
slot_stays s m new stays freed k has = stays k (freed k has)

all_stay : (slot : ℕ → Slot) (bs : List ℕ) (m new : Mem) → Stays m new → AreFreed slot m bs → AreFreed slot new bs
all_stay slot [] m new stays freed = tt
all_stay slot (b ∷ bs) m new stays freed = (slot_stays (slot b) m new stays freed.0, all_stay slot bs m new stays freed.1)

pieces_stay : (slot : ℕ → Slot) (note : ℕ → NoteRuns) (b n : ℕ) (m new : Mem) → Stays m new → ArePiecesFreed slot note m b n → ArePiecesFreed slot note new b n
unfolding ArePiecesFreed
pieces_stay slot note b zero m new stays freed = tt
pieces_stay slot note b (suc n) m new stays freed =
    (all_stay slot (b ∷ (note b).buffer) m new stays freed.0, pieces_stay slot note (note b).next n m new stays freed.1)

filled_stays : (states : List BlockState) (r : Run) (k : ℕ) → r.first + r.blocks ≤ length states → slice_get states k ≡ Some Free → slice_get (filled states r.first r.blocks Free) k ≡ Some Free
filled_stays states r k within free = by (has_block r k) refl
  where
    by : (b : Bool) → has_block r k ≡ b → slice_get (filled states r.first r.blocks Free) k ≡ Some Free
    by true is = let h = has_block_is r k is in slice_get-filled_inside states r.first r.blocks Free k within h.from h.below
    by false is =
        ⊎_elim (λ before. slice_get-filled_before states r.first r.blocks Free k within before ∙ free)
        (λ after. slice_get-filled_after states r.first r.blocks Free k within after ∙ free) (has_block_not r k is)

-- ---- from a holding whose runs are all lent, some were given back

abbrev pub HasNoneKept : Holding → Type 0
HasNoneKept h = (b : ℕ) (r : Run) → slot_of h.book.slots b ≡ Keeps r → ⊥

abbrev pub IsWithin : Holding → Type 0
IsWithin h = (b : ℕ) (r : Run) → slot_of h.book.slots b ≡ Lends r → r.first + r.blocks ≤ length h.memory.states

-- each slot is as it was, or its run was given back
pub record Frees (h g : Holding) : Type 0 where
  pub size : length g.memory.states ≡ length h.memory.states
  pub each : (b : ℕ) → (slot_of g.book.slots b ≡ slot_of h.book.slots b) ⊎ ((slot_of g.book.slots b ≡ Empty) × IsSlotFreed (slot_of h.book.slots b) g.memory)

pub frees_none : (h : Holding) → Frees h h
frees_none h = record { size = refl; each = λ b. inl refl }

-- .. and from a later one on
pub record Goes (h g e : Holding) : Type 0 where
  pub frees : Frees h e
  pub stays : Stays g.memory e.memory

goes_none : (h g : Holding) → Frees h g → Goes h g g
goes_none h g frees = record { frees = frees; stays = λ k free. free }

goes_both : (h g f e : Holding) → Goes h g f → Goes h f e → Goes h g e
goes_both h g f e one two = record { frees = two.frees; stays = λ k free. two.stays k (one.stays k free) }

-- the slot of block b was given back
slot_goes : (h g : Holding) (b : ℕ) (s : Slot) → HasNoneKept h → IsWithin h → Frees h g → slot_of h.book.slots b ≡ s → slot_of g.book.slots b ≡ s
    → Goes h g (release_slot g b s) × IsSlotFreed s (release_slot g b s).memory
slot_goes h g b Empty none within frees was is = (goes_none h g frees, λ k has. absurd has)
slot_goes h g b (Keeps r) none within frees was is = absurd (none b r was)
slot_goes h g b (Lends r) none within frees was is =
    let inside : r.first + r.blocks ≤ length g.memory.states = subst (λ n. r.first + r.blocks ≤ n) (sym frees.size) (within b r was) in
    let stays : Stays g.memory (release_slot g b (Lends r)).memory = λ k free. filled_stays g.memory.states r k inside free in
    let freed : IsSlotFreed (Lends r) (release_slot g b (Lends r)).memory =
    λ k has. let i = has_block_is r k has in slice_get-filled_inside g.memory.states r.first r.blocks Free k inside i.from i.below
    in (
      record {
        frees = record {
          size = length-filled g.memory.states r.first r.blocks Free inside ∙ frees.size;
          each = λ c.
              ⊎_elim
              (λ (same : c ≡ b).
              inr (
                ap (slot_of (set g.book.slots b Empty)) same ∙ get_or-set_same g.book.slots b Empty Empty (lends_within g.book.slots b r is),
                subst (λ (s : Slot). IsSlotFreed s (release_slot g b (Lends r)).memory) (sym (ap (slot_of h.book.slots) same ∙ was)) freed,
              ))
              (λ (differs : c ≢ b).
              let other : slot_of (set g.book.slots b Empty) c ≡ slot_of g.book.slots c = get_or-set_other g.book.slots b c Empty Empty differs in
              ⊎_elim (λ same. inl (other ∙ same)) (λ gone. inr (other ∙ gone.0, slot_stays (slot_of h.book.slots c) g.memory (release_slot g b (Lends r)).memory stays gone.1)) (frees.each c))
              (cases_eq c b);
        };
        stays = stays;
      },
      freed,
    )

pub run_goes : (h g : Holding) (b : ℕ) → HasNoneKept h → IsWithin h → Frees h g → Goes h g (release_run g b) × IsSlotFreed (slot_of h.book.slots b) (release_run g b).memory
run_goes h g b none within frees =
    ⊎_elim
    (λ same.
    subst (λ (s : Slot). Goes h g (release_slot g b s) × IsSlotFreed (slot_of h.book.slots b) (release_slot g b s).memory) (sym same)
    (slot_goes h g b (slot_of h.book.slots b) none within frees refl same))
    (λ gone.
    subst (λ (s : Slot). Goes h g (release_slot g b s) × IsSlotFreed (slot_of h.book.slots b) (release_slot g b s).memory) (sym gone.0)
    (goes_none h g frees, gone.1))
    (frees.each b)

-- ---- several

pub runs_go : (h g : Holding) (bs : List ℕ) → HasNoneKept h → IsWithin h → Frees h g → Goes h g (free_runs g bs) × AreFreed (slot_of h.book.slots) (free_runs g bs).memory bs
runs_go h g [] none within frees = (goes_none h g frees, tt)
runs_go h g (b ∷ bs) none within frees =
    let one = run_goes h g b none within frees in
    let rest = runs_go h (release_run g b) bs none within one.0.frees in (
      goes_both h g (release_run g b) (free_runs (release_run g b) bs) one.0 rest.0,
      (slot_stays (slot_of h.book.slots b) (release_run g b).memory (free_runs (release_run g b) bs).memory rest.0.stays one.1, rest.1),
    )

pub qtds_go : (h g : Holding) (notes : List QtdNote) (b n : ℕ) → HasNoneKept h → IsWithin h → Frees h g
    → Goes h g (free_qtds notes g b n) × ArePiecesFreed (slot_of h.book.slots) (note_in notes) (free_qtds notes g b n).memory b n
unfolding free_qtds ArePiecesFreed
qtds_go h g notes b zero none within frees = (goes_none h g frees, tt)
qtds_go h g notes b (suc n) none within frees =
    let mid : Holding = free_qtd g b (note_at notes b) in
    let one = runs_go h g (b ∷ take (note_at notes b).runs (note_at notes b).buffer) none within frees in
    let rest = qtds_go h mid notes (note_at notes b).next n none within one.0.frees in (
      goes_both h g mid (free_qtds notes mid (note_at notes b).next n) one.0 rest.0,
      (all_stay (slot_of h.book.slots) (b ∷ (note_in notes b).buffer) mid.memory (free_qtds notes mid (note_at notes b).next n).memory rest.0.stays one.1, rest.1),
    )

-- the transfers of an endpoint
abbrev AreTransfersFreed : Holding → List QtdNote → ℕ → List Transfer → Mem → Type 0
AreTransfersFreed h notes e ts m = (t : ℕ) (y : Transfer) → slice_get ts t ≡ Some y → is_held_of e y ≡ true → ArePiecesFreed (slot_of h.book.slots) (note_in notes) m y.first y.qtds

held_goes : (h g : Holding) (notes : List QtdNote) (y : Transfer) (b : Bool) → HasNoneKept h → IsWithin h → Frees h g
    → Goes h g (if b then free_qtds notes g y.first y.qtds else g)
    × (b ≡ true → ArePiecesFreed (slot_of h.book.slots) (note_in notes) (if b then free_qtds notes g y.first y.qtds else g).memory y.first y.qtds)
held_goes h g notes y true none within frees = let one = qtds_go h g notes y.first y.qtds none within frees in (one.0, λ is. one.1)
held_goes h g notes y false none within frees = (goes_none h g frees, λ is. absurd (false≢true is))

pub transfers_go : (h g : Holding) (notes : List QtdNote) (e : ℕ) (ts : List Transfer) → HasNoneKept h → IsWithin h → Frees h g
    → Goes h g (free_transfers notes e g ts) × AreTransfersFreed h notes e ts (free_transfers notes e g ts).memory
unfolding free_transfers
transfers_go h g notes e [] none within frees = (goes_none h g frees, λ t y there held. absurd (none_there t y there))
  where
    none_there : (t : ℕ) (y : Transfer) → ◌≡◌ {A = Option Transfer} (slice_get [] t) (Some y) → ⊥
    none_there t y there = cc
transfers_go h g notes e (x ∷ ts) none within frees =
    let mid : Holding = if is_held_of e x then free_qtds notes g x.first x.qtds else g in
    let one = held_goes h g notes x (is_held_of e x) none within frees in
    let rest = transfers_go h mid notes e ts none within one.0.frees in
    (goes_both h g mid (free_transfers notes e mid ts) one.0 rest.0, each mid one.1 rest.0.stays rest.1)
  where
    each : (mid : Holding) → (is_held_of e x ≡ true → ArePiecesFreed (slot_of h.book.slots) (note_in notes) mid.memory x.first x.qtds) → Stays mid.memory (free_transfers notes e mid ts).memory
        → AreTransfersFreed h notes e ts (free_transfers notes e mid ts).memory → AreTransfersFreed h notes e (x ∷ ts) (free_transfers notes e mid ts).memory
    each mid first stays rest zero y there held =
        let same : x ≡ y = same_Some x y there in
        pieces_stay (slot_of h.book.slots) (note_in notes) y.first y.qtds mid.memory (free_transfers notes e mid ts).memory stays
        (subst (λ (z : Transfer). ArePiecesFreed (slot_of h.book.slots) (note_in notes) mid.memory z.first z.qtds) same (first (ap (is_held_of e) same ∙ held)))
    each mid first stays rest (suc t) y there held = rest t y there held

-- the descriptors that wait at an isochronous endpoint
abbrev AreDescriptorsFreed : Holding → List DescriptorNote → ℕ → List Transfer → Mem → Type 0
AreDescriptorsFreed h notes e ts m = (t : ℕ) (y : Transfer) → slice_get ts t ≡ Some y → waits_for e y ≡ true → AreFreed (slot_of h.book.slots) m (y.first ∷ (descriptor_in notes y.first).buffer)

waiting_goes : (h g : Holding) (notes : List DescriptorNote) (y : Transfer) (b : Bool) → HasNoneKept h → IsWithin h → Frees h g
    → Goes h g (if b then free_descriptor notes g y.first else g)
    × (b ≡ true → AreFreed (slot_of h.book.slots) (if b then free_descriptor notes g y.first else g).memory (y.first ∷ (descriptor_in notes y.first).buffer))
waiting_goes h g notes y true none within frees = let one = runs_go h g (y.first ∷ (descriptor_in notes y.first).buffer) none within frees in (one.0, λ is. one.1)
waiting_goes h g notes y false none within frees = (goes_none h g frees, λ is. absurd (false≢true is))

pub descriptors_go : (h g : Holding) (notes : List DescriptorNote) (e : ℕ) (ts : List Transfer) → HasNoneKept h → IsWithin h → Frees h g
    → Goes h g (free_descriptors notes e g ts) × AreDescriptorsFreed h notes e ts (free_descriptors notes e g ts).memory
unfolding free_descriptors
descriptors_go h g notes e [] none within frees = (goes_none h g frees, λ t y there held. absurd (none_there t y there))
  where
    none_there : (t : ℕ) (y : Transfer) → ◌≡◌ {A = Option Transfer} (slice_get [] t) (Some y) → ⊥
    none_there t y there = cc
descriptors_go h g notes e (x ∷ ts) none within frees =
    let mid : Holding = if waits_for e x then free_descriptor notes g x.first else g in
    let one = waiting_goes h g notes x (waits_for e x) none within frees in
    let rest = descriptors_go h mid notes e ts none within one.0.frees in
    (goes_both h g mid (free_descriptors notes e mid ts) one.0 rest.0, each mid one.1 rest.0.stays rest.1)
  where
    each : (mid : Holding) → (waits_for e x ≡ true → AreFreed (slot_of h.book.slots) mid.memory (x.first ∷ (descriptor_in notes x.first).buffer)) → Stays mid.memory (free_descriptors notes e mid ts).memory
        → AreDescriptorsFreed h notes e ts (free_descriptors notes e mid ts).memory → AreDescriptorsFreed h notes e (x ∷ ts) (free_descriptors notes e mid ts).memory
    each mid first stays rest zero y there waits =
        let same : x ≡ y = same_Some x y there in
        all_stay (slot_of h.book.slots) (y.first ∷ (descriptor_in notes y.first).buffer) mid.memory (free_descriptors notes e mid ts).memory stays
        (subst (λ (z : Transfer). AreFreed (slot_of h.book.slots) mid.memory (z.first ∷ (descriptor_in notes z.first).buffer)) same (first (ap (waits_for e) same ∙ waits)))
    each mid first stays rest (suc t) y there waits = rest t y there waits
