use Rattle.std.proofs.Common.{refl}
use Rattle.word_mem.specs.Views.{with_words_in}
use Rattle.law_ring.proofs.walk_writes.worked.a_kept_block_stays.Goals as goal

pub returns-clause-first : goal.returns-clause-first
unfolding with_words_in
returns-clause-first c = refl
