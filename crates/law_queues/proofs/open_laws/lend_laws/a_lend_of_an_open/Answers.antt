use Rattle.law_queues.proofs.lemmas.open_laws.Lending.{lend_drives, lend_stands}
use Rattle.law_queues.proofs.lemmas.open_laws.LendWaiting.{head_is_there}
use Rattle.law_queues.proofs.open_laws.lend_laws.a_lend_of_an_open.Goals as goal

pub returns : goal.returns
returns c = record { drives = lend_drives; stands = lend_stands; head = head_is_there }
