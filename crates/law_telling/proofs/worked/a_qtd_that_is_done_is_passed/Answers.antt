use Rattle.law_telling.proofs.PassingSamples.{a_get_is_passed}
use Rattle.law_telling.proofs.worked.a_qtd_that_is_done_is_passed.Goals as goal

pub returns : goal.returns
returns c = a_get_is_passed
