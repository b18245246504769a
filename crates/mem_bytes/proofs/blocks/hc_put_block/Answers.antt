use Rattle.std.proofs.Common.{ℕ, List, ◌∙◌, arith, ap, sym}
use Rattle.word_mem.specs.Views.{with_words}
use Rattle.mem_bytes.proofs.Reach.{chosen}
use Rattle.mem_bytes.proofs.WholeBlocks.{block_reached, block_stored}
use Rattle.mem_bytes.proofs.blocks.hc_put_block.Goals as goal

pub returns-then-hc_write_words-clause-moved : goal.returns-then-hc_write_words-clause-moved
returns-then-hc_write_words-clause-moved g c = (
  omega arith,
  c.requires.long,
  block_reached (g.M.HcMemory.mem c.args.mem.now) c.args.pages.now c.args.k c.args.at c.requires.here
      c.requires.whole (sym c.if-hc_write_words.ensures.written),
)

pub returns-then-hc_write_words-clause-memory : goal.returns-then-hc_write_words-clause-memory
returns-then-hc_write_words-clause-memory g c =
    c.hc_write_words.ensures.memory ∙ chosen _ _ _ c.if-hc_write_words.ensures.written
    ∙ ap (λ (ws : List ℕ). with_words (g.M.HcMemory.mem c.args.mem.now) c.args.at ws) c.eight_words-words.ensures
    ∙ block_stored (g.M.HcMemory.mem c.args.mem.now) c.args.pages.now c.args.k c.args.at c.args.bytes.now c.requires.here c.requires.whole
    c.requires.long (λ i. omega (arith, c.type_inv.bytes i))
