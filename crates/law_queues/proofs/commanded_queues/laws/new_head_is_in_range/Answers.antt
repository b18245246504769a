use Rattle.law_queues.proofs.lemmas.commanded_queues.Ranges.{new_head_range}
use Rattle.law_queues.proofs.commanded_queues.laws.new_head_is_in_range.Goals as goal

pub returns : goal.returns
returns c = new_head_range
