-- The ring of the driver that was just built: the head leads to itself.
use Rattle.std.proofs.Common.{◌≡◌, ℕ, ◌≤◌, List, length, get_or, replicate, ◌∙◌, refl, arith}
use Rattle.law_driver.proofs.Common.{words_many}
use Rattle.word_mem.specs.Views.{with_words_in}
use Rattle.word_mem.proofs.Words.{get_or-with_words_in_inside}
use Rattle.qh_qtd.specs.QueueHead.{qh_words}
use Rattle.drv_table.specs.declared.content.Reserve.{Reserve}
use Rattle.drv_table.specs.Words.{head_block, queue_head_link, opening_head}
use Rattle.drv_table.specs.Opening.{opening}
use Rattle.claims_driver.specs.Ring.{link_in}
use Rattle.law_driver.specs.ring_members.Words.{IsRing}

head_many : length (qh_words opening_head) ≡ 12
unfolding qh_words
head_many = refl

head_first : get_or (qh_words opening_head) 0 0 ≡ queue_head_link head_block
unfolding qh_words
head_first = refl

head_written : (ws : List ℕ) → 1036 ≤ length ws → get_or (with_words_in ws 4096 (qh_words opening_head)) 1024 0 ≡ queue_head_link head_block
head_written ws long =
    get_or-with_words_in_inside ws 4096 (qh_words opening_head) 0 (omega (arith, head_many, long)) (omega (arith, head_many)) ∙ head_first

pub opening_is_a_ring : (n : ℕ) (room : Reserve) → 2048 ≤ n → IsRing (link_in (opening n room).memory) (opening n room).driver
opening_is_a_ring n room many = record {
  ring = head_written (with_words_in (replicate n 0) 0 (replicate 1024 1)) (omega (arith, words_many n, many));
  leaving = tt;
  mends = tt;
  kept = λ e x there fresh. absurd (cc);
}
