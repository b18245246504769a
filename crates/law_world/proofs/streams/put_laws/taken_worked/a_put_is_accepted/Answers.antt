use Rattle.law_world.proofs.lemmas.streams.lemmas.put_laws.TakenSampling.{accepted}
use Rattle.law_world.proofs.streams.put_laws.taken_worked.a_put_is_accepted.Goals as goal

pub returns-clause-transfers : goal.returns-clause-transfers
returns-clause-transfers c = accepted.0

pub returns-clause-puts : goal.returns-clause-puts
returns-clause-puts c = accepted.1

pub returns-clause-taken : goal.returns-clause-taken
returns-clause-taken c = accepted.2

pub returns-clause-stream : goal.returns-clause-stream
returns-clause-stream c = accepted.3
