use Rattle.law_structures.proofs.lemmas.lent_structures.Altering.{a_token_alters_its_qtd}
use Rattle.law_structures.proofs.lent_structures.queue_laws.a_token_alters_its_qtd.Goals as goal

pub returns : goal.returns
returns c = a_token_alters_its_qtd
