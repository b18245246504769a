use Rattle.std.proofs.Common.{refl}
use Rattle.word_mem.specs.Views.{with_words_in}
use Rattle.law_world.proofs.memory.worlds_keep_to_lent.worked.a_word_of_a_kept_block.Goals as goal

pub returns-clause-written : goal.returns-clause-written
unfolding with_words_in
returns-clause-written c = refl

pub returns-clause-kept : goal.returns-clause-kept
unfolding with_words_in
returns-clause-kept c = refl
