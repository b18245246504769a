use Rattle.law_queues.proofs.lemmas.open_laws.Linking.{open_is_linked}
use Rattle.law_queues.proofs.open_laws.store_laws.open_is_linked.Goals as goal

pub returns : goal.returns
returns c = open_is_linked
