use Rattle.law_world.proofs.lemmas.worked_streams.lemmas.small_receiver.Moments.{two}
use Rattle.law_world.proofs.worked_streams.small_receiver.worked.two_gets.Goals as goal

pub returns-clause-carried : goal.returns-clause-carried
returns-clause-carried c = two.0

pub returns-clause-told : goal.returns-clause-told
returns-clause-told c = two.1

pub returns-clause-bytes : goal.returns-clause-bytes
returns-clause-bytes c = two.2

pub returns-clause-blocks : goal.returns-clause-blocks
returns-clause-blocks c = two.3

pub returns-clause-rests : goal.returns-clause-rests
returns-clause-rests c = two.4
