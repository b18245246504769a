-- The words of the runs that are left once others were given back, and lent.
use Rattle.std.proofs.Common.{◌≡◌, ◌≢◌, ℕ, zero, suc, ◌+◌, ◌*◌, ◌/◌, ◌<◌, ◌≤◌, Bool, true, false, cond, List, [], ◌∷◌, length, take, reverse, set, ap, sym, subst, ◌∙◌, ⊎_elim, refl, arith}
use Rattle.std.proofs.lemmas.Bool.{cases_Bool}
use Rattle.std.proofs.lemmas.List.{get_or-set_same, get_or-set_other}
use Rattle.law_driver.proofs.Common.{lent_slot}
use Rattle.word_mem.specs.Runs.{Run}
use Rattle.word_mem.specs.Memory.{IsShaped, word_at}
use Rattle.word_mem.specs.Owners.{has_block}
use Rattle.word_mem.proofs.Holders.{has_block_not}
use Rattle.word_mem.proofs.Frames.{word_at-released_before, word_at-released_after, shaped_released}
use Rattle.mem_runs.specs.Book.{Holding, Stands, slot_of, slot_at, lend_slot, lend_runs, lend_taken, none_taken, release_slot, release_run}
use Rattle.mem_runs.specs.declared.slots.Slot.{Slot}
use Rattle.mem_runs.specs.declared.slots.Slot.TheVariants.{Empty, Lends}
use Rattle.mem_runs.proofs.Standing.{stands_released, within_lent, lends_within}
use Rattle.drv_table.specs.declared.content.Endpoint.{Endpoint}
use Rattle.drv_table.specs.declared.content.Transfer.{Transfer}
use Rattle.drv_table.specs.declared.content.QtdNote.{QtdNote}
use Rattle.drv_table.specs.Harvests.{note_at}
use Rattle.drv_periodic_table.specs.declared.content.DescriptorNote.{DescriptorNote}
use Rattle.drv_periodic_table.specs.Periodic.{note_at as descriptor_at}
use Rattle.drv_table.specs.DriverContent.{DriverContent, waits_for}
use Rattle.drv_table.specs.Releases.{free_runs, free_qtd, free_qtds, free_transfers, free_endpoint, is_held_of}
use Rattle.drv_table.specs.Removals.{free_descriptor, free_descriptors, free_placed}
use Rattle.drv_table.specs.Kinds.{is_iso}
use Rattle.claims_driver.specs.Owners.{SlotHas}
use Rattle.law_driver.proofs.lemmas.run_owners.Apart.{runs_apart}

-- ---- lending

lent_runs : (h : Holding) (bs : List ℕ) → (lend_runs h bs).memory.words ≡ h.memory.words
unfolding lend_runs
lent_runs h [] = refl
lent_runs h (b ∷ bs) = lent_runs (lend_slot h b (slot_at h b)) bs ∙ lent_slot h b (slot_at h b)

pub lent_words : (h : Holding) → (lend_taken h).memory.words ≡ h.memory.words
lent_words h = lent_runs (none_taken h) (reverse h.book.taken)

-- ---- giving back

-- the words of each run that is left are as they were
pub record LeavesRest (h g : Holding) : Type 0 where
  pub words : (c at : ℕ) → SlotHas (slot_of g.book.slots c) (at / 32) → word_at g.memory at ≡ word_at h.memory at
  pub runs : (c k : ℕ) → SlotHas (slot_of g.book.slots c) k → SlotHas (slot_of h.book.slots c) k
  pub stands : Stands g
  pub shape : IsShaped g.memory

rest_same : (h : Holding) → Stands h → IsShaped h.memory → LeavesRest h h
rest_same h stands shape = record { words = λ c at has. refl; runs = λ c k has. has; stands = stands; shape = shape }

rest_both : (h g k : Holding) → LeavesRest h g → LeavesRest g k → LeavesRest h k
rest_both h g k one two = record {
  words = λ c at has. two.words c at has ∙ one.words c at (two.runs c (at / 32) has);
  runs = λ c j has. one.runs c j (two.runs c j has);
  stands = two.stands;
  shape = two.shape;
}

other_slot : (h : Holding) (b c k : ℕ) (r : Run) → slot_of h.book.slots b ≡ Lends r → SlotHas (slot_of (set h.book.slots b Empty) c) k → (c ≢ b) × SlotHas (slot_of h.book.slots c) k
other_slot h b c k r there has =
    let differs : c ≢ b = λ same. subst (λ (s : Slot). SlotHas s k) (ap (slot_of (set h.book.slots b Empty)) same ∙ get_or-set_same h.book.slots b Empty Empty (lends_within h.book.slots b r there)) has in
    (differs, subst (λ (s : Slot). SlotHas s k) (get_or-set_other h.book.slots b c Empty Empty differs) has)

rest_slot : (h : Holding) (b : ℕ) (s : Slot) → Stands h → IsShaped h.memory → slot_of h.book.slots b ≡ s → LeavesRest h (release_slot h b s)
rest_slot h b (Lends r) stands shape there =
    let fits = within_lent h b r stands there in
    let room : 8 * (r.first + r.blocks) ≤ length h.memory.words = omega (arith, shape.eight_each, fits) in
    record {
      words = λ c at has.
          let o = other_slot h b c (at / 32) r there has in
          ⊎_elim
          (λ (inside : has_block r (at / 32) ≡ true). absurd (runs_apart h b c (at / 32) stands o.0 (subst (λ (s : Slot). SlotHas s (at / 32)) (sym there) inside) o.1))
          (λ (outside : has_block r (at / 32) ≡ false).
          ⊎_elim (λ (low : at / 32 < r.first). word_at-released_before h.memory r at room (omega (arith, low)))
          (λ (high : r.first + r.blocks ≤ at / 32). word_at-released_after h.memory r at room (omega (arith, high))) (has_block_not r (at / 32) outside))
          (cases_Bool (has_block r (at / 32)));
      runs = λ c k has. (other_slot h b c k r there has).1;
      stands = stands_released h b r shape stands there;
      shape = shaped_released h.memory r fits shape;
    }
rest_slot h b _ stands shape there = rest_same h stands shape

rest_run : (h : Holding) (b : ℕ) → Stands h → IsShaped h.memory → LeavesRest h (release_run h b)
rest_run h b stands shape = rest_slot h b (slot_at h b) stands shape refl

pub rest_runs : (h : Holding) (bs : List ℕ) → Stands h → IsShaped h.memory → LeavesRest h (free_runs h bs)
rest_runs h [] stands shape = rest_same h stands shape
rest_runs h (b ∷ bs) stands shape =
    let one = rest_run h b stands shape in
    rest_both h (release_run h b) (free_runs (release_run h b) bs) one (rest_runs (release_run h b) bs one.stands one.shape)

pub rest_qtds : (notes : List QtdNote) (h : Holding) (b n : ℕ) → Stands h → IsShaped h.memory → LeavesRest h (free_qtds notes h b n)
unfolding free_qtds
rest_qtds notes h b zero stands shape = rest_same h stands shape
rest_qtds notes h b (suc n) stands shape =
    let note = note_at notes b in
    let one = rest_runs h (b ∷ take note.runs note.buffer) stands shape in
    rest_both h (free_qtd h b note) (free_qtds notes (free_qtd h b note) note.next n) one (rest_qtds notes (free_qtd h b note) note.next n one.stands one.shape)

rest_held : (b : Bool) (h g : Holding) → Stands h → IsShaped h.memory → LeavesRest h g → LeavesRest h (cond b g h)
rest_held true h g stands shape one = one
rest_held false h g stands shape one = rest_same h stands shape

rest_transfers : (notes : List QtdNote) (e : ℕ) (h : Holding) (ts : List Transfer) → Stands h → IsShaped h.memory → LeavesRest h (free_transfers notes e h ts)
unfolding free_transfers
rest_transfers notes e h [] stands shape = rest_same h stands shape
rest_transfers notes e h (t ∷ ts) stands shape =
    let g = free_qtds notes h t.first t.qtds in
    let next = cond (is_held_of e t) g h in
    let one = rest_held (is_held_of e t) h g stands shape (rest_qtds notes h t.first t.qtds stands shape) in
    rest_both h next (free_transfers notes e next ts) one (rest_transfers notes e next ts one.stands one.shape)

pub rest_endpoint : (d : DriverContent) (e : ℕ) (x : Endpoint) (h : Holding) → Stands h → IsShaped h.memory → LeavesRest h (free_endpoint d e x h)
rest_endpoint d e x h stands shape =
    let g = free_runs h (x.queue ∷ x.dummy ∷ []) in
    let one = rest_runs h (x.queue ∷ x.dummy ∷ []) stands shape in
    rest_both h g (free_endpoint d e x h) one (rest_transfers d.notes e g d.transfers one.stands one.shape)

pub rest_descriptor : (notes : List DescriptorNote) (h : Holding) (b : ℕ) → Stands h → IsShaped h.memory → LeavesRest h (free_descriptor notes h b)
rest_descriptor notes h b stands shape = rest_runs h (b ∷ take (descriptor_at notes b).runs (descriptor_at notes b).buffer) stands shape

rest_descriptors : (notes : List DescriptorNote) (e : ℕ) (h : Holding) (ts : List Transfer) → Stands h → IsShaped h.memory → LeavesRest h (free_descriptors notes e h ts)
unfolding free_descriptors
rest_descriptors notes e h [] stands shape = rest_same h stands shape
rest_descriptors notes e h (t ∷ ts) stands shape =
    let g = free_descriptor notes h t.first in
    let next = cond (waits_for e t) g h in
    let one = rest_held (waits_for e t) h g stands shape (rest_descriptor notes h t.first stands shape) in
    rest_both h next (free_descriptors notes e next ts) one (rest_descriptors notes e next ts one.stands one.shape)

pub rest_placed : (d : DriverContent) (e : ℕ) (x : Endpoint) (h : Holding) → Stands h → IsShaped h.memory → LeavesRest h (free_placed d e x h)
rest_placed d e x h stands shape = at (is_iso x.desc.kind)
  where
    at : (b : Bool) → LeavesRest h (cond b (free_descriptors d.periodic.notes e h d.transfers) (free_endpoint d e x h))
    at true = rest_descriptors d.periodic.notes e h d.transfers stands shape
    at false = rest_endpoint d e x h stands shape
