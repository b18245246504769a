-- Links are stored in descriptors that are kept: nothing else changes.
use Rattle.std.proofs.Common.{◌≡◌, ◌≢◌, ℕ, zero, suc, ◌+◌, ◌*◌, ◌/◌, ◌<◌, ◌≤◌, Bool, true, false, cond, List, [], ◌∷◌, ◌++◌, set, take, get_or, slice_get, Option, Some, ap, refl, sym, subst, ◌∙◌, ⊎_elim, inl, inr, arith}
use Rattle.std.proofs.lemmas.Bool.{cases_eq}
use Rattle.std.proofs.lemmas.Option.{same_Some}
use Rattle.std.proofs.lemmas.List.{get_or-set_same, get_or-set_other, length-set}
use Rattle.law_descriptors.proofs.Common.{states_stored}
use Rattle.word_mem.specs.Runs.{Run}
use Rattle.word_mem.specs.Memory.{Mem, IsShaped, word_at, with_word, state_at}
use Rattle.word_mem.specs.Views.{words_at}
use Rattle.word_mem.specs.declared.blocks.BlockState.{BlockState}
use Rattle.word_mem.specs.declared.blocks.BlockState.TheVariants.{Free, Kept, Lent}
use Rattle.word_mem.proofs.Frames.{shaped_word, lent_if_reached}
use Rattle.word_mem.proofs.Words.{length-words_in, get_or-words_in, words_in_is}
use Rattle.mem_runs.specs.declared.slots.Slot.{Slot}
use Rattle.mem_runs.specs.declared.slots.Slot.TheVariants.{Keeps}
use Rattle.mem_runs.specs.Book.{Book, holding, slot_of, can_store, store, Stands}
use Rattle.mem_runs.proofs.Standing.{keeps_at, keeps_all, stands_word}
use Rattle.drv_periodic.specs.Periodic.{Periodic}
use Rattle.drv_periodic_table.specs.declared.content.DescriptorNote.{DescriptorNote}
use Rattle.drv_periodic_table.specs.Periodic.{note_at, descriptor_member}
use Rattle.drv_periodic_table.specs.Linking.{new_link}
use Rattle.drv_table.specs.declared.content.Transfer.{Transfer}
use Rattle.drv_table.specs.FrameChoice.{linked_descriptors}
use Rattle.claims_driver.specs.Owners.{HasRun, SlotHas}
use Rattle.word_mem.proofs.Holders.{has_block_from}
use Rattle.law_driver.proofs.lemmas.run_owners.Apart.{runs_apart}
use Rattle.law_driver.proofs.lemmas.ring_members.Placed.{has_first, can_begin, word_inside}
use Rattle.law_structures.specs.lent_structures.Changes.{Leaves}
use Rattle.law_driver_ring.specs.Written.{AreAllApart}
use Rattle.law_driver_ring.proofs.Lists.{IsOneOf, one_right, each_of, apart_right}
use Rattle.law_driver_ring.proofs.Buffers.{KeepsAt}
use Rattle.law_descriptors.specs.Written.{runs_of}

-- each of these transfers has its descriptor in a run that is kept
abbrev pub AllKeep : (ℕ → Slot) → List Transfer → Type 0
AllKeep slot ys = (i : ℕ) (y : Transfer) → slice_get ys i ≡ Some y → KeepsAt slot y.first

kept_run : (slot : ℕ → Slot) (b : ℕ) → KeepsAt slot b → HasRun (slot b)
kept_run slot b k = subst HasRun (sym k.is) tt

kept_not_free : Kept ≢ Free
kept_not_free e = cc

-- ---- one store

store_other : (k : Book) (m : Mem) (b at v other : ℕ) → other / 4 ≢ at / 4 → word_at (store k m b at v) other ≡ word_at m other
store_other k m b at v other differs = by (can_store (slot_of k.slots b) at)
  where
    by : (can : Bool) → word_at (cond can (with_word m at v) m) other ≡ word_at m other
    by true = get_or-set_other m.words (at / 4) (other / 4) v 0 differs
    by false = refl

store_shaped : (k : Book) (m : Mem) (b at v : ℕ) → IsShaped m → IsShaped (store k m b at v)
store_shaped k m b at v shape = by (can_store (slot_of k.slots b) at)
  where
    by : (can : Bool) → IsShaped (cond can (with_word m at v) m)
    by true = shaped_word m at v shape
    by false = shape

store_first : (k : Book) (m : Mem) (b v : ℕ) → Stands (holding k m) → IsShaped m → KeepsAt (slot_of k.slots) b → word_at (store k m b (32 * b) v) (32 * b) ≡ v
store_first k m b v stands shape kept =
    ap (λ (t : Bool). word_at (cond t (with_word m (32 * b) v) m) (32 * b)) (can_begin (holding k m) b stands (kept_run (slot_of k.slots) b kept))
    ∙ get_or-set_same m.words (32 * b / 4) v 0 (word_inside (holding k m) b stands shape (kept_run (slot_of k.slots) b kept))

store_stands : (k : Book) (m : Mem) (b v : ℕ) → Stands (holding k m) → KeepsAt (slot_of k.slots) b → Stands (holding k (store k m b (32 * b) v))
store_stands k m b v stands kept =
    let h = holding k m in
    let at = keeps_at h b kept.run stands kept.is in
    let first = at.0 in
    let some = at.1 in
    subst (λ (t : Bool). Stands (holding k (cond t (with_word m (32 * b) v) m))) (sym (can_begin h b stands (kept_run (slot_of k.slots) b kept)))
    (stands_word h kept.run Kept (32 * b) v stands kept_not_free (keeps_all h b kept.run stands kept.is) (record { from = omega (arith, first); below = omega (arith, first, some) }))

-- ---- all of them

module _ (k : Book) (l : Periodic) (notes : List DescriptorNote) where
  abbrev slot : ℕ → Slot
  slot = slot_of k.slots

  abbrev link : ℕ → ℕ
  link b = new_link l (descriptor_member notes b)

  abbrev linked : List Transfer → Mem → Mem
  linked ys m = linked_descriptors k l notes ys m

  pub linked_stands : (ys : List Transfer) (m : Mem) → AllKeep slot ys → Stands (holding k m) → Stands (holding k (linked ys m))
  unfolding linked_descriptors
  linked_stands [] m keep stands = stands
  linked_stands (y ∷ ys) m keep stands = linked_stands ys (store k m y.first (32 * y.first) (link y.first)) (λ i z there. keep (suc i) z there) (store_stands k m y.first (link y.first) stands (keep 0 y refl))

  pub linked_shaped : (ys : List Transfer) (m : Mem) → IsShaped m → IsShaped (linked ys m)
  unfolding linked_descriptors
  linked_shaped [] m shape = shape
  linked_shaped (y ∷ ys) m shape = linked_shaped ys (store k m y.first (32 * y.first) (link y.first)) (store_shaped k m y.first (32 * y.first) (link y.first) shape)

  pub linked_states : (ys : List Transfer) (m : Mem) → (linked ys m).states ≡ m.states
  unfolding linked_descriptors
  linked_states [] m = refl
  linked_states (y ∷ ys) m = linked_states ys (store k m y.first (32 * y.first) (link y.first)) ∙ states_stored k m y.first (32 * y.first) (link y.first)

  pub linked_other : (ys : List Transfer) (m : Mem) (other : ℕ) → ((i : ℕ) (y : Transfer) → slice_get ys i ≡ Some y → other / 4 ≢ 32 * y.first / 4) → word_at (linked ys m) other ≡ word_at m other
  unfolding linked_descriptors
  linked_other [] m other differ = refl
  linked_other (y ∷ ys) m other differ =
      linked_other ys (store k m y.first (32 * y.first) (link y.first)) other (λ i z there. differ (suc i) z there) ∙ store_other k m y.first (32 * y.first) (link y.first) other (differ 0 y refl)

  -- a descriptor's block is among the runs
  pub first_among : (ys : List Transfer) (i : ℕ) (y : Transfer) → slice_get ys i ≡ Some y → IsOneOf y.first (runs_of notes ys)
  first_among [] i y there = absurd (cc)
  first_among (z ∷ ys) zero y there = inl (ap (λ (t : Transfer). t.first) (sym (same_Some z y there)))
  first_among (z ∷ ys) (suc i) y there = inr (one_right y.first (take (note_at notes z.first).runs (note_at notes z.first).buffer) (runs_of notes ys) (first_among ys i y there))

  pub linked_first : (ys : List Transfer) (m : Mem) (i : ℕ) (y : Transfer) → AllKeep slot ys → AreAllApart (runs_of notes ys) → Stands (holding k m) → IsShaped m → slice_get ys i ≡ Some y → word_at (linked ys m) (32 * y.first) ≡ link y.first
  unfolding linked_descriptors
  linked_first [] m i y keep apart stands shape there = absurd (cc)
  linked_first (z ∷ ys) m (suc i) y keep apart stands shape there =
      linked_first ys (store k m z.first (32 * z.first) (link z.first)) i y (λ j w here. keep (suc j) w here) (apart_right (take (note_at notes z.first).runs (note_at notes z.first).buffer) (runs_of notes ys) apart.1)
      (store_stands k m z.first (link z.first) stands (keep 0 z refl)) (store_shaped k m z.first (32 * z.first) (link z.first) shape) there
  linked_first (z ∷ ys) m zero y keep apart stands shape there =
      let same : z ≡ y = same_Some z y there in
      subst (λ (w : Transfer). word_at (linked ys (store k m z.first (32 * z.first) (link z.first))) (32 * w.first) ≡ link w.first) same
      (linked_other ys (store k m z.first (32 * z.first) (link z.first)) (32 * z.first)
      (λ j w here words.
      each_of (λ (c : ℕ). c ≢ z.first) w.first (take (note_at notes z.first).runs (note_at notes z.first).buffer ++ runs_of notes ys) apart.0 (one_right w.first (take (note_at notes z.first).runs (note_at notes z.first).buffer) (runs_of notes ys) (first_among ys j w here))
      (let e : w.first ≡ z.first = omega (arith, words) in e))
      ∙ store_first k m z.first (link z.first) stands shape (keep 0 z refl))

  -- ---- what was Lent stays

  pub linked_leaves : (ys : List Transfer) (m : Mem) → AllKeep slot ys → Stands (holding k m) → IsShaped m → Leaves m (linked ys m)
  linked_leaves ys m keep stands shape = record {
    shape = linked_shaped ys m shape;
    lent = λ b lent. ap (λ (ss : List BlockState). slice_get ss b) (linked_states ys m) ∙ lent;
    words = λ other reached. linked_other ys m other (λ i y there words.
        let kept = keep i y there in
        let at = keeps_at (holding k m) y.first kept.run stands kept.is in
        let first = at.0 in
        let some = at.1 in
        let block : other / 32 ≡ y.first = omega (arith, words) in
        kept_no_lent (state_at m (other / 32)) (ap (state_at m) block ∙ keeps_all (holding k m) y.first kept.run stands kept.is y.first (omega (arith, first)) (omega (arith, first, some)))
        (lent_if_reached m other reached));
  }
    where
      kept_no_lent : (o : Option BlockState) → o ≡ Some Kept → o ≡ Some Lent → ⊥
      kept_no_lent o kept lent = cc

  -- ---- the words of a descriptor

  -- its first word is the link, and the others are as before
  pub linked_words : (ys : List Transfer) (m : Mem) (i n : ℕ) (y : Transfer) (r : Run) → AllKeep slot ys → AreAllApart (runs_of notes ys) → Stands (holding k m) → IsShaped m → slice_get ys i ≡ Some y → slot y.first ≡ Keeps r → n ≤ 8 * r.blocks → 1 ≤ n
      → words_at (linked ys m) (32 * y.first) n ≡ set (words_at m (32 * y.first) n) 0 (link y.first)
  linked_words ys m i n y r keep apart stands shape there is few some =
      sym (words_in_is (linked ys m).words (32 * y.first) n (set (words_at m (32 * y.first) n) 0 (link y.first)) (length-set (words_at m (32 * y.first) n) 0 (link y.first) ∙ length-words_in m.words (32 * y.first) n) each)
    where
      at_first : (r.first ≡ y.first) × (1 ≤ r.blocks)
      at_first = keeps_at (holding k m) y.first r stands is

      -- no other descriptor begins there
      other_word : (j : ℕ) → suc j < n → (q : ℕ) (z : Transfer) → slice_get ys q ≡ Some z → (32 * y.first + 4 * suc j) / 4 ≢ 32 * z.first / 4
      other_word j below q z here words =
          let block : (32 * y.first + 4 * suc j) / 32 ≡ z.first = omega (arith, words) in
          let first = at_first.0 in
          let mine : SlotHas (slot y.first) z.first = subst (λ (s : Slot). SlotHas s z.first) (sym is) (has_block_from r z.first (omega (arith, first, block)) (omega (arith, first, block, below, few))) in
          ⊎_elim (λ (same : z.first ≡ y.first). omega (arith, same, words))
          (λ (differs : z.first ≢ y.first). runs_apart (holding k m) y.first z.first z.first stands differs mine (has_first (holding k m) z.first stands (kept_run slot z.first (keep q z here))))
          (cases_eq z.first y.first)

      each : (j : ℕ) → j < n → get_or (set (words_at m (32 * y.first) n) 0 (link y.first)) j 0 ≡ get_or (linked ys m).words ((32 * y.first + 4 * j) / 4) 0
      each zero below =
          get_or-set_same (words_at m (32 * y.first) n) 0 (link y.first) 0 (let e = length-words_in m.words (32 * y.first) n in omega (arith, e, some))
          ∙ sym (linked_first ys m i y keep apart stands shape there) ∙ (let e : 32 * y.first / 4 ≡ (32 * y.first + 4 * 0) / 4 = omega arith in ap (λ (a : ℕ). get_or (linked ys m).words a 0) e)
      each (suc j) below =
          get_or-set_other (words_at m (32 * y.first) n) 0 (suc j) (link y.first) 0 (λ e. omega (arith, e)) ∙ get_or-words_in m.words (32 * y.first) n (suc j) below
          ∙ sym (linked_other ys m (32 * y.first + 4 * suc j) (other_word j below))
