use Rattle.law_world.proofs.lemmas.streams.lemmas.put_laws.TakenSampling.{refused}
use Rattle.law_world.proofs.streams.put_laws.taken_worked.a_put_is_refused.Goals as goal

pub returns-clause-transfers : goal.returns-clause-transfers
returns-clause-transfers c = refused.0

pub returns-clause-told : goal.returns-clause-told
returns-clause-told c = refused.1

pub returns-clause-puts : goal.returns-clause-puts
returns-clause-puts c = refused.2

pub returns-clause-stream : goal.returns-clause-stream
returns-clause-stream c = refused.3
