-- Which words of those that are lent the controller reaches, and what it writes.
use Rattle.std.proofs.Common.{◌≡◌, ℕ, zero, suc, ◌/◌, ◌<◌, ◌≤◌, true, false, List, length, replicate, slice_get, refl, arith, ap}
use Rattle.word_mem.specs.Memory.{Mem, is_lent, reaches}
use Rattle.word_mem.specs.Views.{with_words_in, with_words}
use Rattle.word_mem.specs.declared.blocks.BlockState.TheVariants.{Lent}
use Rattle.word_mem.proofs.Words.{length-with_words_in}
use Rattle.lent_words.specs.Lent.{lent_mem}

-- a block is there
lent_within : (n b : ℕ) → b < n → is_lent (slice_get (replicate n Lent) b) ≡ true
lent_within zero b below = absurd (omega arith)
lent_within (suc n) zero below = refl
lent_within (suc n) (suc b) below = lent_within n b (omega arith)

lent_past : (n b : ℕ) → n ≤ b → is_lent (slice_get (replicate n Lent) b) ≡ false
lent_past zero b past = refl
lent_past (suc n) zero past = absurd (omega arith)
lent_past (suc n) (suc b) past = lent_past n b (omega arith)

pub reaches_within : (ws : List ℕ) (n at : ℕ) → at / 32 < length ws / 8 → reaches (lent_mem ws n) at ≡ true
reaches_within ws n at below = lent_within (length ws / 8) (at / 32) below

pub reaches_past : (ws : List ℕ) (n at : ℕ) → length ws / 8 ≤ at / 32 → reaches (lent_mem ws n) at ≡ false
reaches_past ws n at past = lent_past (length ws / 8) (at / 32) past

-- the last block that an address can name isn't there
pub reaches_not_last : (ws : List ℕ) (n at : ℕ) → length ws ≤ 1073741816 → 4294967264 ≤ at → reaches (lent_mem ws n) at ≡ false
reaches_not_last ws n at few past = reaches_past ws n at (omega arith)

-- words written are words written in this memory
pub lent_written : (ws : List ℕ) (n at : ℕ) (vs : List ℕ) → lent_mem (with_words_in ws at vs) n ≡ with_words (lent_mem ws n) at vs
lent_written ws n at vs =
    ap (λ (k : ℕ). let m : Mem = record { words = with_words_in ws at vs; states = replicate (k / 8) Lent; foreign = n } in m)
    (length-with_words_in ws at vs)
