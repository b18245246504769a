use Rattle.law_world.proofs.lemmas.streams.lemmas.left_puts.Sampled.{cancel_before, cancel_near, cancel_rest}
use Rattle.law_world.proofs.streams.left_puts.worked.a_cancelled_endpoint.Goals as goal

pub returns : goal.returns
returns g = record { before = cancel_before; near = cancel_near; rest = cancel_rest }
