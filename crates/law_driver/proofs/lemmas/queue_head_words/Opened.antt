-- The head's fixed words when the driver was built.
use Rattle.std.proofs.Common.{◌≡◌, ℕ, ◌+◌, ◌<◌, ◌≤◌, List, length, get_or, replicate, refl, arith}
use Rattle.law_driver.proofs.Common.{words_many}
use Rattle.word_mem.specs.Views.{with_words_in}
use Rattle.word_mem.proofs.Words.{get_or-with_words_in_inside}
use Rattle.qh_qtd.specs.QueueHead.{qh_words}
use Rattle.drv_table.specs.declared.content.Reserve.{Reserve}
use Rattle.drv_table.specs.Words.{opening_head}
use Rattle.drv_table.specs.Opening.{opening}
use Rattle.claims_driver.specs.InPlace.{AreFixed}

head_many : length (qh_words opening_head) ≡ 12
unfolding qh_words
head_many = refl

head_written : (ws : List ℕ) (i : ℕ) → i < 12 → 1036 ≤ length ws → get_or (with_words_in ws 4096 (qh_words opening_head)) (1024 + i) 0 ≡ get_or (qh_words opening_head) i 0
head_written ws i below long =
    get_or-with_words_in_inside ws 4096 (qh_words opening_head) i (omega (arith, head_many, long)) (omega (arith, head_many, below))

pub opening_has_fixed_words : (n : ℕ) (room : Reserve) → 2048 ≤ n → AreFixed (opening n room).memory (opening n room).driver
opening_has_fixed_words n room many = record {
  each = λ e x there met. absurd (cc);
  head = record {
    characteristics = head_written (with_words_in (replicate n 0) 0 (replicate 1024 1)) 1 (omega arith) (omega (arith, words_many n, many));
    capabilities = head_written (with_words_in (replicate n 0) 0 (replicate 1024 1)) 2 (omega arith) (omega (arith, words_many n, many));
  };
}
