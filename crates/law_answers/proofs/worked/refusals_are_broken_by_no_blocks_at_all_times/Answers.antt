use Rattle.law_answers.proofs.Samples.{no_blocks_is_wrong}
use Rattle.law_answers.proofs.worked.refusals_are_broken_by_no_blocks_at_all_times.Goals as goal

pub returns : goal.returns
returns c = no_blocks_is_wrong
