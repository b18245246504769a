use Rattle.law_queues.proofs.lemmas.fed_lends.Accepting.{asked_is_to_be_lent, requested_is_to_be_lent, to_be_lent_stays}
use Rattle.law_queues.proofs.fed_lends.lend_laws.a_transfer_is_to_be_lent.Goals as goal

pub returns : goal.returns
returns c = record { accepted = asked_is_to_be_lent; requested = requested_is_to_be_lent; stays = to_be_lent_stays }
