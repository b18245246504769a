use Rattle.law_driver_ring.proofs.lemmas.told_harvests.Noting.{found_is_done, found_is_noted}
use Rattle.law_driver_ring.proofs.told_harvests.laws.a_found_qtd_is_done.Goals as goal

pub returns-clause-done : goal.returns-clause-done
returns-clause-done c = found_is_done

pub returns-clause-noted : goal.returns-clause-noted
returns-clause-noted c = found_is_noted
