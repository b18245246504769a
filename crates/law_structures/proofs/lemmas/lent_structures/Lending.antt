-- Runs that are lent, got back, taken and released, and words written where the driver alone may touch them (EHCI 1.0, 4.8 and 4.10).
use Rattle.std.proofs.Common.{◌≡◌, ◌≢◌, ℕ, ◌+◌, ◌/◌, ◌<◌, ◌≤◌, ◌⊎◌, true, false, length, Some, ap, refl, sym, ◌∙◌, ⊎_elim, inl, inr, arith}
use Rattle.std.proofs.lemmas.Bool.{cases_lt, true≢false}
use Rattle.std.proofs.lemmas.List.{get_or-set_other}
use Rattle.std.proofs.lemmas.Option.{same_Some}
use Rattle.law_structures.proofs.Common.{kept_no_lent}
use Rattle.word_mem.specs.Runs.{Run, HasBlock}
use Rattle.word_mem.specs.Memory.{Mem, IsShaped, word_at, state_at, is_lent, reaches, AreAll, with_word, with_states, released}
use Rattle.word_mem.specs.declared.blocks.BlockState.{BlockState}
use Rattle.word_mem.specs.declared.blocks.BlockState.TheVariants.{Free, Kept, Lent}
use Rattle.word_mem.proofs.Frames.{shaped_word, shaped_states, shaped_released, state_at-with_states_inside, state_at-with_states_before, state_at-with_states_after, word_at-released_before, word_at-released_after}
use Rattle.law_structures.specs.lent_structures.Structures.{Structure, StructureSets, put, Holds, Has, Tells}
use Rattle.law_structures.specs.lent_structures.Changes.{Leaves, IsNew}
use Rattle.law_structures.proofs.lemmas.lent_structures.Telling.{told_stays, rest_is_told, told_lent, new_is_told}

-- a block is one of the run's, or comes before or after it
pub in_run : (r : Run) (b : ℕ) → HasBlock r b ⊎ ((b < r.first) ⊎ (r.first + r.blocks ≤ b))
in_run r b =
    ⊎_elim (λ (low : b < r.first). inr (inl low))
    (λ (from : r.first ≤ b).
    ⊎_elim (λ (below : b < r.first + r.blocks). inl (record { from = from; below = below }))
    (λ (past : r.first + r.blocks ≤ b). inr (inr past)) (cases_lt b (r.first + r.blocks))) (cases_lt b r.first)

-- the state of a block outside the run
state_beside : (m : Mem) (r : Run) (s : BlockState) (b : ℕ) → r.first + r.blocks ≤ length m.states → (b < r.first) ⊎ (r.first + r.blocks ≤ b) → state_at (with_states m r s) b ≡ state_at m b
state_beside m r s b within (inl low) = state_at-with_states_before m r s b within low
state_beside m r s b within (inr past) = state_at-with_states_after m r s b within past

-- ---- a run is lent

lent_stays : (m : Mem) (r : Run) (b : ℕ) → r.first + r.blocks ≤ length m.states → state_at m b ≡ Some Lent → state_at (with_states m r Lent) b ≡ Some Lent
lent_stays m r b within lent =
    ⊎_elim (λ (inside : HasBlock r b). state_at-with_states_inside m r Lent b within inside)
    (λ (beside : (b < r.first) ⊎ (r.first + r.blocks ≤ b)). state_beside m r Lent b within beside ∙ lent) (in_run r b)

pub lend_leaves : (m : Mem) (r : Run) → r.first + r.blocks ≤ length m.states → IsShaped m → Leaves m (with_states m r Lent)
lend_leaves m r within shape = record {
  shape = shaped_states m r Lent within shape;
  lent = λ b lent. lent_stays m r b within lent;
  words = λ other reached. refl;
}

-- a structure in a run that was Kept is new
pub lent_new : (m : Mem) (r : Run) (a : ℕ) (s : Structure) → AreAll m Kept r → ((b : ℕ) → Has a s b → HasBlock r b) → Holds (with_states m r Lent) a s → IsNew m (with_states m r Lent) a s
lent_new m r a s kept inside holds = record {
  holds = holds;
  fresh = λ b has lent. let here : HasBlock r b = inside b has in kept_no_lent (state_at m b) (kept b here.from here.below) lent;
}

pub lent_is_told : (m : Mem) (parts : StructureSets) (n a : ℕ) (s : Structure) (r : Run) → Tells m parts → r.first + r.blocks ≤ length m.states → AreAll m Kept r → ((b : ℕ) → Has a s b → HasBlock r b) → Holds (with_states m r Lent) a s → Tells (with_states m r Lent) (put parts n a s)
lent_is_told m parts n a s r t within kept inside holds =
    new_is_told m (with_states m r Lent) parts n a s t (lend_leaves m r within t.shape) (lent_new m r a s kept inside holds)

-- ---- a run is got back, of which no structure that is told has a block

pub got_back_is_told : (m : Mem) (parts : StructureSets) (r : Run) (s : BlockState) → Tells m parts → r.first + r.blocks ≤ length m.states → ((n a : ℕ) (u : Structure) (b : ℕ) → parts n a ≡ Some u → Has a u b → HasBlock r b → ⊥) → Tells (with_states m r s) parts
got_back_is_told m parts r s t within apart =
    told_stays m (with_states m r s) parts (shaped_states m r s within t.shape)
    (λ n a u here. record {
      lent = λ b has lent.
          ⊎_elim (λ (inside : HasBlock r b). absurd (apart n a u b here has inside))
          (λ (beside : (b < r.first) ⊎ (r.first + r.blocks ≤ b)). state_beside m r s b within beside ∙ lent) (in_run r b);
      words = λ other has. refl;
    }) t

-- no structure has a block of a run that isn't Lent
pub none_has : (m : Mem) (parts : StructureSets) (r : Run) (s : BlockState) → Tells m parts → s ≢ Lent → AreAll m s r → (n a : ℕ) (u : Structure) (b : ℕ) → parts n a ≡ Some u → Has a u b → HasBlock r b → ⊥
none_has m parts r s t differs all n a u b here has inside =
    differs (same_Some s Lent (sym (all b inside.from inside.below) ∙ told_lent m parts n a u b t here has))

-- ---- a run that isn't Lent is taken, kept or released

word_beside : (m : Mem) (r : Run) (other : ℕ) → r.first + r.blocks ≤ length m.states → IsShaped m → (other / 32 < r.first) ⊎ (r.first + r.blocks ≤ other / 32) → word_at (released m r) other ≡ word_at m other
word_beside m r other within shape (inl low) = word_at-released_before m r other (omega (arith, within, shape.eight_each)) (omega (arith, low))
word_beside m r other within shape (inr past) = word_at-released_after m r other (omega (arith, within, shape.eight_each)) (omega (arith, past))

pub released_is_told : (m : Mem) (parts : StructureSets) (r : Run) (s : BlockState) → Tells m parts → r.first + r.blocks ≤ length m.states → s ≢ Lent → AreAll m s r → Tells (released m r) parts
released_is_told m parts r s t within differs all =
    told_stays m (released m r) parts (shaped_released m r within t.shape)
    (λ n a u here. record {
      lent = λ b has lent.
          ⊎_elim (λ (inside : HasBlock r b). absurd (none_has m parts r s t differs all n a u b here has inside))
          (λ (beside : (b < r.first) ⊎ (r.first + r.blocks ≤ b)). state_beside m r Free b within beside ∙ lent) (in_run r b);
      words = λ other has.
          ⊎_elim (λ (inside : HasBlock r (other / 32)). absurd (none_has m parts r s t differs all n a u (other / 32) here has inside))
          (λ (beside : (other / 32 < r.first) ⊎ (r.first + r.blocks ≤ other / 32)). word_beside m r other within t.shape beside) (in_run r (other / 32));
    }) t

-- ---- a word is written in a block that isn't Lent

other_block : (m : Mem) (at other : ℕ) → reaches m at ≡ false → reaches m other ≡ true → at / 4 ≡ other / 4 → ⊥
other_block m at other kept reached same =
    let block : at / 32 ≡ other / 32 = omega (arith, same) in
    let both : reaches m at ≡ reaches m other = ap (λ (b : ℕ). is_lent (state_at m b)) block in
    true≢false (sym reached ∙ sym both ∙ kept)

pub told_kept_word : (m : Mem) (parts : StructureSets) (at v : ℕ) → Tells m parts → reaches m at ≡ false → Tells (with_word m at v) parts
told_kept_word m parts at v t kept =
    rest_is_told m (with_word m at v) parts
    (record {
      shape = shaped_word m at v t.shape;
      lent = λ b lent. lent;
      words = λ other reached. get_or-set_other m.words (at / 4) (other / 4) v 0 (λ same. other_block m at other kept reached (sym same));
    }) t
