use Rattle.law_queues.proofs.lemmas.whole_sends.Keeping.{beginning_is_whole}
use Rattle.law_queues.proofs.whole_sends.laws.beginning_is_whole.Goals as goal

pub returns : goal.returns
returns c = beginning_is_whole
