use Rattle.law_world.proofs.lemmas.worked_streams.lemmas.small_receiver.Moments.{its_end}
use Rattle.law_world.proofs.worked_streams.small_receiver.worked.its_end.Goals as goal

pub returns-clause-to_harvest : goal.returns-clause-to_harvest
returns-clause-to_harvest c = its_end.0

pub returns-clause-told : goal.returns-clause-told
returns-clause-told c = its_end.1

pub returns-clause-its_byte : goal.returns-clause-its_byte
returns-clause-its_byte c = its_end.2

pub returns-clause-to_return : goal.returns-clause-to_return
returns-clause-to_return c = its_end.3

pub returns-clause-rests : goal.returns-clause-rests
returns-clause-rests c = its_end.4
