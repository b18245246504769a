use Rattle.law_world.proofs.lemmas.worked_streams.lemmas.small_receiver.Moments.{is_sent_again}
use Rattle.law_world.proofs.worked_streams.small_receiver.worked.a_lost_acknowledgement.Goals as goal

pub returns-clause-carried : goal.returns-clause-carried
returns-clause-carried c = is_sent_again.0

pub returns-clause-told : goal.returns-clause-told
returns-clause-told c = is_sent_again.1

pub returns-clause-its_bytes : goal.returns-clause-its_bytes
returns-clause-its_bytes c = is_sent_again.2

pub returns-clause-sent : goal.returns-clause-sent
returns-clause-sent c = is_sent_again.3

pub returns-clause-told_in_all : goal.returns-clause-told_in_all
returns-clause-told_in_all c = is_sent_again.4

pub returns-clause-taken : goal.returns-clause-taken
returns-clause-taken c = is_sent_again.5

pub returns-clause-put : goal.returns-clause-put
returns-clause-put c = is_sent_again.6
