use Rattle.law_microframes.proofs.lemmas.visits.SpliceWords.{next_store_splices}
use Rattle.law_microframes.proofs.visits.splices.next_store_splices.Goals as goal

pub returns : goal.returns
returns c = next_store_splices
