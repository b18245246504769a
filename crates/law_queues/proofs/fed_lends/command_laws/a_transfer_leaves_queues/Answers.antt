use Rattle.law_queues.proofs.lemmas.fed_lends.Publishing.{asked_stands, requested_stands}
use Rattle.law_queues.proofs.fed_lends.command_laws.a_transfer_leaves_queues.Goals as goal

pub returns : goal.returns
returns c = record { asked = asked_stands; requested = requested_stands }
