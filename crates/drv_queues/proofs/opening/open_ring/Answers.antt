use Rattle.std.proofs.Common.{◌/◌, arith, length, replicate}
use Rattle.word_mem.specs.Memory.{fresh, with_states}
use Rattle.word_mem.specs.declared.blocks.BlockState.TheVariants.{Lent}
use Rattle.drv_table.specs.Opening.{list_run, head_run, opening_book}
use Rattle.drv_table.specs.Words.{opening_head}
use Rattle.drv_queues.proofs.Opened.{head_written, head_slot}
use Rattle.drv_queues.proofs.opening.open_ring.Goals as goal

pub returns-clause-memory : goal.returns-clause-memory
returns-clause-memory c =
    let n = length c.args.mem.now.words in
    head_written c.lend_ring.new.book (opening_book (n / 8)) c.end_frames.new.mem c.lend_ring.new.mem (with_states (with_states (fresh n) list_run Lent) head_run Lent) c.store_words.new.mem (replicate 1024 1) c.write-words.result c.head_of_ring.result opening_head
    c.store_words.ensures.memory c.write-words.ensures c.head_of_ring.ensures.head c.end_frames.ensures.memory c.lend_ring.ensures.lent (head_slot (n / 8) (omega (arith, c.requires.words)))
