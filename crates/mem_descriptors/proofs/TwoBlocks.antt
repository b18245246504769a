-- The words of two blocks: what reading them one block after another is, and which addresses lie in no memory.
use Rattle.std.proofs.Common.{◌≡◌, ℕ, ◌+◌, ◌/◌, ◌%◌, ◌<◌, ◌≤◌, [], ◌∷◌, Bool, true, false, get_or, slice_get, arith, ap, sym, add_assoc, refl}
use Rattle.word_mem.specs.Memory.{Mem, reaches, is_lent}
use Rattle.word_mem.specs.Views.{words_in, words_at}

-- a word of the block that begins at `at`
pub reaches-same_block : (m : Mem) (at other : ℕ) → at / 32 ≡ other / 32 → reaches m other ≡ reaches m at
reaches-same_block m at other same = ap (λ b. is_lent (slice_get m.states b)) (sym same)

-- the fourth word of a block
pub fourth_reached : (m : Mem) (at : ℕ) → at % 32 ≡ 0 → reaches m (at + 12) ≡ reaches m at
fourth_reached m at aligned =
    let same : at / 32 ≡ (at + 12) / 32 = omega arith in
    reaches-same_block m at (at + 12) same

pub past_memory : (m : Mem) (at : ℕ) → ((a : ℕ) → 4294967264 ≤ a → reaches m a ≡ false) → 4294967264 ≤ at → reaches m at ≡ false
past_memory m at ends past = ends at past

pub sixteen_words : (m : Mem) (at : ℕ) → words_at m at 16 ≡ get_or (words_at m at 8) 0 0 ∷ get_or (words_at m at 8) 1 0 ∷ get_or (words_at m at 8) 2 0 ∷ get_or (words_at m at 8) 3 0 ∷ get_or (words_at m at 8) 4 0 ∷ get_or (words_at m at 8) 5 0 ∷ get_or (words_at m at 8) 6 0 ∷ get_or (words_at m at 8) 7 0 ∷ get_or (words_at m (at + 32) 8) 0 0 ∷ get_or (words_at m (at + 32) 8) 1 0 ∷ get_or (words_at m (at + 32) 8) 2 0 ∷ get_or (words_at m (at + 32) 8) 3 0 ∷ get_or (words_at m (at + 32) 8) 4 0 ∷ get_or (words_at m (at + 32) 8) 5 0 ∷ get_or (words_at m (at + 32) 8) 6 0 ∷ get_or (words_at m (at + 32) 8) 7 0 ∷ []
unfolding words_in
sixteen_words m at = simp add_assoc
