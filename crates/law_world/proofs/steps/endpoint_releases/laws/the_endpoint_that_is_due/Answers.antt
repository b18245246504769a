use Rattle.law_world.proofs.lemmas.steps.lemmas.endpoint_releases.Releasing.{due_is_to_leave, queues_differ}
use Rattle.law_world.proofs.steps.endpoint_releases.laws.the_endpoint_that_is_due.Goals as goal

pub returns : goal.returns
returns c = record { due = due_is_to_leave; differ = queues_differ }
