use Rattle.law_world.proofs.lemmas.memory.lemmas.worlds_keep_to_lent.Moments.{each_moment_keeps_to_lent_blocks}
use Rattle.law_world.proofs.memory.worlds_keep_to_lent.laws.each_moment_keeps_to_lent_blocks.Goals as goal

pub returns : goal.returns
returns c = each_moment_keeps_to_lent_blocks
