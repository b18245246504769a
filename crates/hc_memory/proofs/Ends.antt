-- The addresses of words that the controller reaches have room for those of the block after them.
use Rattle.std.proofs.Common.{◌≡◌, ℕ, ◌<◌, ◌≤◌, true, false, sym, ◌∙◌, ⊎_elim}
use Rattle.std.proofs.lemmas.Bool.{cases_lt, false≢true}
use Rattle.word_mem.specs.Memory.{Mem, reaches}

pub below_end : (m : Mem) (at : ℕ) → ((a : ℕ) → 4294967264 ≤ a → reaches m a ≡ false) → reaches m at ≡ true → at < 4294967264
below_end m at ends reached =
    ⊎_elim (λ (low : at < 4294967264). low) (λ (past : 4294967264 ≤ at). absurd (false≢true (sym (ends at past) ∙ reached)))
    (cases_lt at 4294967264)
