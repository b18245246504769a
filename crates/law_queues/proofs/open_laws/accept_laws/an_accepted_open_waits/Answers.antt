use Rattle.law_queues.proofs.lemmas.open_laws.AcceptWaiting.{open_becomes_ready, ready_stays}
use Rattle.law_queues.proofs.open_laws.accept_laws.an_accepted_open_waits.Goals as goal

pub returns : goal.returns
returns c = record { ready = open_becomes_ready; stays = ready_stays }
