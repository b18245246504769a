-- An event of the driver sets no word of a descriptor that it has: each word by which something of it may be active is as before, or is cleared with what is given back.
use Rattle.std.proofs.Common.{◌≡◌, ◌≢◌, ℕ, zero, suc, ◌+◌, ◌*◌, ◌/◌, ◌%◌, ◌<◌, ◌≤◌, Bool, true, false, if◌then◌else◌, List, [], ◌∷◌, ◌++◌, take, drop, replicate, get_or, refl, ap, sym, subst, ◌∙◌, ⊎_elim, arith}
use Rattle.std.specs.Prelude.{slice_set}
use Rattle.std.proofs.lemmas.Bool.{cases_eq}
use Rattle.std.proofs.lemmas.List.{get_or-set_other}
use Rattle.law_driver.proofs.Common.{stores_in}
use Rattle.word_mem.specs.Memory.{Mem, word_at, filled}
use Rattle.word_mem.specs.Runs.{Run}
use Rattle.word_mem.specs.Owners.{has_block}
use Rattle.word_mem.proofs.Holders.{has_block_is}
use Rattle.mem_runs.specs.declared.slots.Slot.{Slot}
use Rattle.mem_runs.specs.declared.slots.Slot.TheVariants.{Empty, Keeps, Lends}
use Rattle.mem_runs.specs.Book.{Book, Holding, holding, Stands, IsAt, slot_of, slot_at, can_store, store, release_slot, release_run, lend_taken}
use Rattle.claims_driver.specs.Owners.{HasBlocks, SlotHas}
use Rattle.law_driver.proofs.lemmas.run_owners.Apart.{runs_apart}
use Rattle.law_driver.proofs.lemmas.ring_members.Freed.{lent_words}
use Rattle.drv_chains.specs.declared.members.Predecessor.{Predecessor}
use Rattle.drv_chains.specs.declared.members.Predecessor.TheVariants.{Element, After}
use Rattle.drv_chains.specs.Chains.{id_of}
use Rattle.drv_periodic.specs.Periodic.{Periodic, address_of, block_of}
use Rattle.drv_periodic_table.specs.declared.content.DescriptorNote.{DescriptorNote}
use Rattle.drv_periodic_table.specs.Periodic.{descriptor_member, note_at as descriptor_at}
use Rattle.drv_periodic_table.specs.Linking.{new_link}
use Rattle.drv_table.specs.declared.content.QtdNote.{QtdNote}
use Rattle.drv_table.specs.declared.content.Transfer.{Transfer}
use Rattle.drv_table.specs.Harvests.{note_at}
use Rattle.drv_table.specs.Releases.{free_runs, free_qtd, free_qtds, is_held_of, free_transfers}
use Rattle.drv_table.specs.Removals.{free_descriptor, free_descriptors}
use Rattle.drv_table.specs.FrameChoice.{linked_descriptors}
use Rattle.drv_table.specs.DriverContent.{waits_for}
use Rattle.law_frame_list.proofs.lemmas.list_spread.Spreading.{slot_has}
use Rattle.law_microframes.proofs.lemmas.visits.OneDescriptorWords.{Calms, same, cleared, AreCalm}

-- ---- one after the other

calm_both : (w v x : ℕ) → Calms w v → Calms v x → Calms w x
calm_both w v x one (cleared is) = cleared is
calm_both w v x (same is) (same more) = same (more ∙ is)
calm_both w v x (cleared is) (same more) = cleared (more ∙ is)

pub both_calm : (split : Bool) (m mid new : Mem) (b : ℕ) → AreCalm split m mid b → AreCalm split mid new b → AreCalm split m new b
both_calm split m mid new b one two = record {
  slots = λ is u few. calm_both (word_at m (32 * b + 4 + 4 * u)) (word_at mid (32 * b + 4 + 4 * u)) (word_at new (32 * b + 4 + 4 * u)) (one.slots is u few) (two.slots is u few);
  state = λ is. calm_both (word_at m (32 * b + 12)) (word_at mid (32 * b + 12)) (word_at new (32 * b + 12)) (one.state is) (two.state is);
}

-- all words are as before, or cleared
abbrev pub AllCalm : Mem → Mem → Type 0
AllCalm m new = (i : ℕ) → Calms (get_or m.words i 0) (get_or new.words i 0)

pub all_calm : (split : Bool) (m new : Mem) (b : ℕ) → AllCalm m new → AreCalm split m new b
all_calm split m new b all = record { slots = λ is u few. all ((32 * b + 4 + 4 * u) / 4); state = λ is. all ((32 * b + 12) / 4) }

pub words_calm : (m new : Mem) → new.words ≡ m.words → AllCalm m new
words_calm m new is i = same (ap (λ (ws : List ℕ). get_or ws i 0) is)

pub more_calm : (m mid new : Mem) → AllCalm m mid → AllCalm mid new → AllCalm m new
more_calm m mid new one two i = calm_both (get_or m.words i 0) (get_or mid.words i 0) (get_or new.words i 0) (one i) (two i)

pub lend_calm : (h : Holding) → AllCalm h.memory (lend_taken h).memory
lend_calm h = words_calm h.memory (lend_taken h).memory (lent_words h)

-- ---- what is given back

zeros : (n i : ℕ) → ◌≡◌ {A = ℕ} (get_or (replicate n 0 ++ []) i 0) 0
zeros zero i = refl
zeros (suc n) zero = refl
zeros (suc n) (suc i) = zeros n i

cleared_first : (xs : List ℕ) (n i : ℕ) → Calms (get_or xs i 0) (get_or (replicate n 0 ++ drop n xs) i 0)
cleared_first xs zero i = same refl
cleared_first [] (suc n) i = cleared (zeros (suc n) i)
cleared_first (x ∷ xs) (suc n) zero = cleared refl
cleared_first (x ∷ xs) (suc n) (suc i) = cleared_first xs n i

-- up to place e
cleared_run : (xs : List ℕ) (first n e i : ℕ) → e ≡ first + n → Calms (get_or xs i 0) (get_or (take first xs ++ (replicate n 0 ++ drop e xs)) i 0)
cleared_run xs zero n e i is =
    let same_end : n ≡ e = omega (arith, is) in
    subst (λ (j : ℕ). Calms (get_or xs i 0) (get_or (replicate n 0 ++ drop j xs) i 0)) same_end (cleared_first xs n i)
cleared_run xs (suc first) n zero i is = absurd (omega (arith, is))
cleared_run [] (suc first) n (suc e) i is = cleared (zeros n i)
cleared_run (x ∷ xs) (suc first) n (suc e) zero is = same refl
cleared_run (x ∷ xs) (suc first) n (suc e) (suc i) is = cleared_run xs first n e i (omega (arith, is))

filled_calm : (xs : List ℕ) (first n i : ℕ) → Calms (get_or xs i 0) (get_or (filled xs first n 0) i 0)
unfolding filled
filled_calm xs first n i = cleared_run xs first n (first + n) i refl

released_calm : (h : Holding) (b : ℕ) (s : Slot) → AllCalm h.memory (release_slot h b s).memory
released_calm h b (Lends r) i = filled_calm h.memory.words (8 * r.first) (8 * r.blocks) i
released_calm h b _ i = same refl

pub runs_calm : (h : Holding) (bs : List ℕ) → AllCalm h.memory (free_runs h bs).memory
runs_calm h [] = λ i. same refl
runs_calm h (b ∷ bs) = more_calm h.memory (release_run h b).memory (free_runs h (b ∷ bs)).memory (released_calm h b (slot_at h b)) (runs_calm (release_run h b) bs)

pub qtds_calm : (notes : List QtdNote) (h : Holding) (b n : ℕ) → AllCalm h.memory (free_qtds notes h b n).memory
unfolding free_qtds
qtds_calm notes h b zero = λ i. same refl
qtds_calm notes h b (suc n) =
    more_calm h.memory (free_qtd h b (note_at notes b)).memory (free_qtds notes (free_qtd h b (note_at notes b)) (note_at notes b).next n).memory
    (runs_calm h (b ∷ take (note_at notes b).runs (note_at notes b).buffer)) (qtds_calm notes (free_qtd h b (note_at notes b)) (note_at notes b).next n)

pub either_calm : (m : Mem) (b : Bool) (g h : Holding) → AllCalm m g.memory → AllCalm m h.memory → AllCalm m (if b then g else h).memory
either_calm m true g h one two = one
either_calm m false g h one two = two

pub transfers_calm : (notes : List QtdNote) (e : ℕ) (h : Holding) (ts : List Transfer) → AllCalm h.memory (free_transfers notes e h ts).memory
unfolding free_transfers
transfers_calm notes e h [] = λ i. same refl
transfers_calm notes e h (t ∷ ts) =
    let g : Holding = if is_held_of e t then free_qtds notes h t.first t.qtds else h in
    more_calm h.memory g.memory (free_transfers notes e g ts).memory
    (either_calm h.memory (is_held_of e t) (free_qtds notes h t.first t.qtds) h (qtds_calm notes h t.first t.qtds) (λ i. same refl)) (transfers_calm notes e g ts)

pub descriptors_calm : (notes : List DescriptorNote) (e : ℕ) (h : Holding) (ts : List Transfer) → AllCalm h.memory (free_descriptors notes e h ts).memory
unfolding free_descriptors
descriptors_calm notes e h [] = λ i. same refl
descriptors_calm notes e h (t ∷ ts) =
    let g : Holding = if waits_for e t then free_descriptor notes h t.first else h in
    more_calm h.memory g.memory (free_descriptors notes e g ts).memory
    (either_calm h.memory (waits_for e t) (free_descriptor notes h t.first) h (runs_calm h (t.first ∷ take (descriptor_at notes t.first).runs (descriptor_at notes t.first).buffer)) (λ i. same refl))
    (descriptors_calm notes e g ts)

-- ---- a store

run_within : (r : Run) (i b : ℕ) → r.first ≡ b → r.blocks ≤ 2 → has_block r i ≡ true → (b ≤ i) × (i < b + 2)
run_within r i b first few has =
    let is = has_block_is r i has in
    let low = is.from in
    let high = is.below in
    (omega (arith, first, low), omega (arith, first, few, high))

module _ (k : Book) (m : Mem) (stands : Stands (holding k m)) (b : ℕ) (split : Bool) (run : HasBlocks (if split then 1 else 2) (slot_of k.slots b)) where
  -- it goes to another run, or to the first word of this one
  abbrev pub IsHarmless : ℕ → ℕ → Type 0
  IsHarmless c at = c ≡ b → can_store (slot_of k.slots c) at ≡ true → at ≡ 32 * b

  word_calm : (q : Mem) (c at v other : ℕ) → IsHarmless c at → SlotHas (slot_of k.slots b) (other / 32) → other / 4 ≢ 8 * b → Calms (word_at q other) (word_at (store k q c at v) other)
  word_calm q c at v other harmless has off = by (can_store (slot_of k.slots c) at) refl
    where
      differ : can_store (slot_of k.slots c) at ≡ true → other / 4 ≢ at / 4
      differ on hit =
          ⊎_elim
          (λ (this : c ≡ b). let is = harmless this on in off (omega (arith, hit, is)))
          (λ (apart : c ≢ b).
          let block : at / 32 ≡ other / 32 = omega (arith, hit) in
          runs_apart (holding k m) b c (at / 32) stands apart (subst (SlotHas (slot_of k.slots b)) (sym block) has) (stores_in (slot_of k.slots c) at on)) (cases_eq c b)

      by : (t : Bool) → can_store (slot_of k.slots c) at ≡ t → Calms (word_at q other) (word_at (if t then record q { words = slice_set q.words (at / 4) v } else q) other)
      by true on = same (get_or-set_other q.words (at / 4) (other / 4) v 0 (differ on))
      by false off = same refl

  pub store_calm : (q : Mem) (c at v : ℕ) → IsHarmless c at → AreCalm split q (store k q c at v) b
  store_calm q c at v harmless = record {
    slots = λ is u few.
        word_calm q c at v (32 * b + 4 + 4 * u) harmless
        (slot_has (slot_of k.slots b) b 2 ((32 * b + 4 + 4 * u) / 32) (stands.placed b) (subst (λ (s : Bool). HasBlocks (if s then 1 else 2) (slot_of k.slots b)) is run) (omega arith) (omega (arith, few)))
        (λ hit. omega (arith, hit));
    state = λ is.
        word_calm q c at v (32 * b + 12) harmless
        (slot_has (slot_of k.slots b) b 1 ((32 * b + 12) / 32) (stands.placed b) (subst (λ (s : Bool). HasBlocks (if s then 1 else 2) (slot_of k.slots b)) is run) (omega arith) (omega arith))
        (λ hit. omega (arith, hit));
  }

  pub first_word : (q : Mem) (c v : ℕ) → AreCalm split q (store k q c (32 * c) v) b
  first_word q c v = store_calm q c (32 * c) v (λ is on. ap (λ (i : ℕ). 32 * i) is)

  pub other_run : (q : Mem) (c at v : ℕ) → c ≢ b → AreCalm split q (store k q c at v) b
  other_run q c at v off = store_calm q c at v (λ is on. absurd (off is))

  pub linked_calm : (list : Periodic) (notes : List DescriptorNote) (ys : List Transfer) (q : Mem) → AreCalm split q (linked_descriptors k list notes ys q) b
  unfolding linked_descriptors
  linked_calm list notes [] q = all_calm split q q b (λ i. same refl)
  linked_calm list notes (y ∷ ys) q =
      let mid : Mem = store k q y.first (32 * y.first) (new_link list (descriptor_member notes y.first)) in
      both_calm split q mid (linked_descriptors k list notes ys mid) b (first_word q y.first (new_link list (descriptor_member notes y.first))) (linked_calm list notes ys mid)

  -- ---- of a link

  in_run : (s : Slot) (i : ℕ) → IsAt b s → HasBlocks (if split then 1 else 2) s → SlotHas s i → (b ≤ i) × (i < b + 2)
  in_run Empty i at blocks has = absurd has
  in_run (Keeps r) i at blocks has = run_within r i b at.0 (few split blocks) has
    where
      few : (c : Bool) → r.blocks ≡ (if c then 1 else 2) → r.blocks ≤ 2
      few true is = omega (arith, is)
      few false is = omega (arith, is)
  in_run (Lends r) i at blocks has = run_within r i b at.0 (few split blocks) has
    where
      few : (c : Bool) → r.blocks ≡ (if c then 1 else 2) → r.blocks ≤ 2
      few true is = omega (arith, is)
      few false is = omega (arith, is)

  pub link_calm : (q : Mem) (list : ℕ) (word : Predecessor) (v : ℕ) → list ≢ b → AreCalm split q (store k q (block_of list word) (address_of list word) v) b
  link_calm q list (Element f) v off = other_run q list (32 * list + 4 * f) v off
  link_calm q list (After x) v off =
      store_calm q (id_of x / 32 % 65536) (id_of x / 32 * 32) v
      (λ is on.
      let has = stores_in (slot_of k.slots (id_of x / 32 % 65536)) (id_of x / 32 * 32) on in
      let its = in_run (slot_of k.slots b) (id_of x / 32 * 32 / 32) (stands.placed b) run (subst (λ (i : ℕ). SlotHas (slot_of k.slots i) (id_of x / 32 * 32 / 32)) is has) in
      let low = its.0 in
      let high = its.1 in
      omega (arith, low, high, is))
