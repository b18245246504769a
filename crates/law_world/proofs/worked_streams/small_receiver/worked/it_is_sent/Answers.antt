use Rattle.law_world.proofs.lemmas.worked_streams.lemmas.small_receiver.Moments.{is_sent}
use Rattle.law_world.proofs.worked_streams.small_receiver.worked.it_is_sent.Goals as goal

pub returns-clause-to_harvest : goal.returns-clause-to_harvest
returns-clause-to_harvest c = is_sent.0

pub returns-clause-told : goal.returns-clause-told
returns-clause-told c = is_sent.1

pub returns-clause-its_bytes : goal.returns-clause-its_bytes
returns-clause-its_bytes c = is_sent.2

pub returns-clause-to_return : goal.returns-clause-to_return
returns-clause-to_return c = is_sent.3

pub returns-clause-rests : goal.returns-clause-rests
returns-clause-rests c = is_sent.4

pub returns-clause-carried : goal.returns-clause-carried
returns-clause-carried c = is_sent.5

pub returns-clause-sent : goal.returns-clause-sent
returns-clause-sent c = is_sent.6

pub returns-clause-blocks : goal.returns-clause-blocks
returns-clause-blocks c = is_sent.7
