use Rattle.law_queues.proofs.lemmas.harvest_laws.Begun.{opening_holds, opening_tells}
use Rattle.law_queues.proofs.harvest_laws.row_laws.a_new_driver_holds_nothing.Goals as goal

pub returns-clause-held : goal.returns-clause-held
returns-clause-held c = opening_holds

pub returns-clause-told : goal.returns-clause-told
returns-clause-told c = opening_tells
