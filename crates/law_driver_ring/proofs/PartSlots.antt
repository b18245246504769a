-- The slot of a Lent block, and what stays of memory where the words of all runs stay.
use Rattle.std.proofs.Common.{◌≡◌, ℕ, suc, ◌/◌, ◌≤◌, Bool, true, false, List, [], ◌∷◌, length, slice_get, Some, ap, refl, sym, subst, ◌∙◌, arith}
use Rattle.word_mem.specs.Runs.{Run}
use Rattle.word_mem.specs.Memory.{Mem, IsShaped, word_at, state_at}
use Rattle.word_mem.specs.Owners.{has_block, holders}
use Rattle.word_mem.specs.declared.blocks.BlockState.{BlockState}
use Rattle.word_mem.specs.declared.blocks.BlockState.TheVariants.{Lent}
use Rattle.word_mem.proofs.Frames.{lent_if_reached, shaped_same}
use Rattle.word_mem.proofs.Holders.{has_block_is, lent_blocks, holders_hasnt}
use Rattle.mem_runs.specs.declared.slots.Slot.{Slot}
use Rattle.mem_runs.specs.declared.slots.Slot.TheVariants.{Empty, Keeps, Lends}
use Rattle.mem_runs.specs.Book.{Holding, kept_in, lent_in, slot_of, Stands}
use Rattle.mem_runs.proofs.Standing.{lends_all}
use Rattle.claims_driver.specs.Owners.{HasRun, SlotHas}
use Rattle.law_driver.proofs.lemmas.run_owners.Taking.{AreTaken}
use Rattle.law_driver.proofs.lemmas.ring_members.Accepted.{shaped_taken}
use Rattle.law_structures.specs.lent_structures.Changes.{Leaves}

-- ---- the slot of a Lent block

pub record HasLent (slots : List Slot) (b : ℕ) : Type 0 where
  pub at : ℕ
  pub run : Run
  pub is : slot_of slots at ≡ Lends run
  pub has : has_block run b ≡ true

pub later : (s : Slot) (ss : List Slot) (b : ℕ) → HasLent ss b → HasLent (s ∷ ss) b
later s ss b l = record { at = suc l.at; run = l.run; is = l.is; has = l.has }

lent_here : (r : Run) (ss : List Slot) (b : ℕ) (has : Bool) → has_block r b ≡ has → (1 ≤ holders (lent_in ss) b → HasLent ss b) → 1 ≤ holders (r ∷ lent_in ss) b → HasLent (Lends r ∷ ss) b
lent_here r ss b true is rest some = record { at = 0; run = r; is = refl; has = is }
lent_here r ss b false is rest some = later (Lends r) ss b (rest (let e = holders_hasnt r (lent_in ss) b is in omega (arith, e, some)))

lent_slot : (slots : List Slot) (b : ℕ) → 1 ≤ holders (lent_in slots) b → HasLent slots b
lent_slot [] b some = absurd (omega (arith, some))
lent_slot (Empty ∷ ss) b some = later Empty ss b (lent_slot ss b some)
lent_slot (Keeps r ∷ ss) b some = later (Keeps r) ss b (lent_slot ss b some)
lent_slot (Lends r ∷ ss) b some = lent_here r ss b (has_block r b) refl (λ more. lent_slot ss b more) some

pub found_lent : (h : Holding) (b : ℕ) → Stands h → state_at h.memory b ≡ Some Lent → HasLent h.book.slots b
found_lent h b stands lent =
    let one = lent_blocks h.memory (kept_in h.book.slots) (lent_in h.book.slots) b stands.held lent in
    lent_slot h.book.slots b (omega (arith, one))

-- and it is a slot with a run, which has the block
pub lent_run : (slots : List Slot) (b : ℕ) (l : HasLent slots b) → HasRun (slot_of slots l.at)
lent_run slots b l = subst HasRun (sym l.is) tt

pub lent_has : (slots : List Slot) (b : ℕ) (l : HasLent slots b) → SlotHas (slot_of slots l.at) b
lent_has slots b l = subst (λ (s : Slot). SlotHas s b) (sym l.is) l.has

-- a slot that lends has its blocks Lent
pub slot_lent : (h : Holding) (b : ℕ) → Stands h → HasLent h.book.slots b → state_at h.memory b ≡ Some Lent
slot_lent h b stands l =
    let inside = has_block_is l.run b l.has in
    lends_all h l.at l.run stands l.is b inside.from inside.below

-- ---- runs are taken

pub still_lent : {h g : Holding} {ns bs : List ℕ} (b : ℕ) → Stands h → AreTaken h g ns bs → HasLent h.book.slots b → HasLent g.book.slots b
still_lent {h = h} {g = g} b stands taken l = record { at = l.at; run = l.run; is = taken.old l.at (lent_run h.book.slots b l) ∙ l.is; has = l.has }

still_has : {h g : Holding} {ns bs : List ℕ} (b : ℕ) → AreTaken h g ns bs → (l : HasLent h.book.slots b) → SlotHas (slot_of g.book.slots l.at) b
still_has {h = h} b taken l = subst (λ (s : Slot). SlotHas s b) (sym (taken.old l.at (lent_run h.book.slots b l) ∙ l.is)) l.has

-- Memory after runs were taken and words were written in them leaves what was Lent.
pub taken_leaves : {h g : Holding} {ns bs : List ℕ} (after : Mem) → Stands h → IsShaped h.memory → AreTaken h g ns bs → length after.words ≡ length g.memory.words → after.states ≡ g.memory.states
    → ((c other : ℕ) → HasRun (slot_of h.book.slots c) → SlotHas (slot_of g.book.slots c) (other / 32) → word_at after other ≡ word_at h.memory other) → Leaves h.memory after
taken_leaves {h = h} {g = g} after stands shape taken size states words = record {
  shape = shaped_same g.memory after size states (shaped_taken taken stands shape);
  lent = λ b lent. ap (λ (ss : List BlockState). slice_get ss b) states ∙ slot_lent g b taken.stands (still_lent b stands taken (found_lent h b stands lent));
  words = λ other reached.
      let l = found_lent h (other / 32) stands (lent_if_reached h.memory other reached) in
      words l.at other (lent_run h.book.slots (other / 32) l) (still_has (other / 32) taken l);
}
