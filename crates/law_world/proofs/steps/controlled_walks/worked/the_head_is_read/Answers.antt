use Rattle.std.proofs.Common.{◌≡◌, false, Some, ap, refl}
use Rattle.word_mem.specs.Memory.{filled}
use Rattle.word_mem.specs.Views.{words_in, with_words_in}
use Rattle.qh_qtd.specs.Token.{token_word, token_at}
use Rattle.qh_qtd.specs.QueueHead.{qh_words, qh_bad, qh_at, qh_read}
use Rattle.link_words.specs.Layout.{first_bad_bit}
use Rattle.mem_queues.specs.Structures.{queue_head_at_address}
use Rattle.async_walk.specs.Rows.{fetch_row}
use Rattle.drv_table.specs.Opening.{opening_memory}
use Rattle.drv_table.specs.Words.{opening_head}
use Rattle.law_world.proofs.steps.controlled_walks.worked.the_head_is_read.Goals as goal

head_there : queue_head_at_address (opening_memory 2048) 4096 ≡ Some opening_head
unfolding filled words_in with_words_in qh_words qh_bad qh_at qh_read token_word token_at first_bad_bit
head_there = refl

pub returns-clause-row : goal.returns-clause-row
returns-clause-row c = ap (fetch_row false 4096) head_there
