use Rattle.std.proofs.Common.{refl}
use Rattle.word_mem.specs.Memory.{filled}
use Rattle.law_driver.proofs.released_blocks.worked.a_run_of_two_blocks.Goals as goal

pub returns-clause-states : goal.returns-clause-states
unfolding filled
returns-clause-states c = refl

pub returns-clause-words : goal.returns-clause-words
unfolding filled
returns-clause-words c = refl
