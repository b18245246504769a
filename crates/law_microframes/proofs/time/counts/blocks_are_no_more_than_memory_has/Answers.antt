use Rattle.law_microframes.proofs.lemmas.time.CountBlocks.{are_fewer_than_blocks, are_fewer_than_words}
use Rattle.law_microframes.proofs.time.counts.blocks_are_no_more_than_memory_has.Goals as goal

pub returns : goal.returns
returns c = record { blocks = are_fewer_than_blocks; words = are_fewer_than_words }
